-- Sessions that ended, and the device that the flash and the value stand for.
use Rattle.std.proofs.Common.{ℕ, List, Option, inl, inr, map, Result, Ok, Err}
use Rattle.smp_serve.specs.Consoles.{ConsoleEnds, ConsoleEndsOf, ConsoleStops, StopsOf}
use Rattle.smp_serve.specs.Hearing.{LinkState}
use Rattle.smp_serve.specs.Links.{LinkEnds, LinkEndsOf, exchange_of}
use Rattle.smp_serve.specs.Sessions.{Point}
use Rattle.smp_serve.specs.declared.fault.ServeFault.{ServeFault}
use Rattle.smp_serve.specs.declared.fault.ServeFault.TheVariants as faults
use Rattle.smp_serve.specs.declared.link_serving.Served.{Served}
use Rattle.smp_serve.proofs.DeviceSessions.{is_served, is_stopped}

pub link_ends_of : (turns : ℕ) (result : Result Served ServeFault) (a b : Point) (x y : LinkState) → LinkEnds turns result a b x y → LinkEndsOf turns result a b x y
link_ends_of turns (Ok served) a b x y s = (s, is_served a b (map exchange_of s.letters) s.session.serves)
link_ends_of turns (Err fault) a b x y (inl u) = inl (u.0, (u.1, is_served a b (map exchange_of u.1.letters) u.1.session.serves))
link_ends_of turns (Err fault) a b x y (inr s) = inr (s, is_stopped s.stop a s.stops.before b (map exchange_of s.stops.letters) s.stops.session.serves s.stops.stops)

stops_of : (fault : ServeFault) (a b : Point) (left rest old new : Option (List ℕ)) → ConsoleStops fault a b left rest old new → StopsOf fault a b left rest old new
stops_of fault a b left rest old new s = (s, is_stopped s.stop a s.stops.before b s.stops.exchanges s.stops.serves s.stops.stops)

pub console_ends_of : (result : Result (Unit {0}) ServeFault) (a b : Point) (left rest old new : Option (List ℕ)) → ConsoleEnds result a b left rest old new → ConsoleEndsOf result a b left rest old new
console_ends_of (Ok x) a b left rest old new s = (s, is_served a b s.served.exchanges s.served.session.serves)
console_ends_of (Err faults.Read) a b left rest old new s = (s, is_served a b s.served.exchanges s.served.session.serves)
console_ends_of (Err faults.Spent) a b left rest old new s = (s, is_served a b s.served.exchanges s.served.session.serves)
console_ends_of (Err faults.Link) a b left rest old new s = absurd s
console_ends_of (Err faults.Write) a b left rest old new s = stops_of faults.Write a b left rest old new s
console_ends_of (Err faults.FlashFault) a b left rest old new s = stops_of faults.FlashFault a b left rest old new s
console_ends_of (Err faults.FlashOff) a b left rest old new s = stops_of faults.FlashOff a b left rest old new s
console_ends_of (Err faults.Unformatted) a b left rest old new s = stops_of faults.Unformatted a b left rest old new s
console_ends_of (Err faults.Worn) a b left rest old new s = stops_of faults.Worn a b left rest old new s
