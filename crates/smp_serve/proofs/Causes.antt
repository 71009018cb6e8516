-- Why sessions end, as far as the flash goes.
use Rattle.std.proofs.Common.{◌≤◌, ℕ, inl, inr, List, Option, Result, Ok, Err, sym, subst, ap, arith}
use Rattle.smp_flash.specs.Calls.{Rises, Rose}
use Rattle.smp_flash.specs.State.{Faults, FlashState}
use Rattle.smp_flash.specs.declared.flash.Operation.{Operation}
use Rattle.smp_flash.specs.declared.flash.Operation.TheVariants.{Read, Write, Erase}
use Rattle.smp_upload.specs.declared.states.UploadFault.{UploadFault}
use Rattle.smp_upload.specs.declared.states.UploadFault.TheVariants as starts
use Rattle.smp_device.specs.declared.answering.Down.{Down}
use Rattle.smp_device.specs.declared.answering.Down.TheVariants as downs
use Rattle.smp_device.specs.declared.answering.Handled.{Handled}
use Rattle.smp_device.specs.declared.answering.Handled.TheVariants as handleds
use Rattle.smp_serve.specs.Consoles.{ConsoleEnds, ConsoleStops}
use Rattle.smp_serve.specs.Hearing.{LinkState}
use Rattle.smp_serve.specs.Links.{LinkEnds}
use Rattle.smp_serve.specs.Sessions.{Exchange, FlashCaused, HandlesAt, NoFewer, Passes, Point, RoseAt, Serves, StartsAfter, Stop, Stops, StopsUnstarted, fell, no_packet, one_packet, stop_fault, unsent, unstarted}
use Rattle.smp_serve.specs.declared.fault.ServeFault.{ServeFault}
use Rattle.smp_serve.specs.declared.fault.ServeFault.TheVariants as faults
use Rattle.smp_serve.specs.declared.link_serving.Served.{Served}
use Rattle.smp_serve.proofs.Handlings.{after_handling, same_faults, start_faults}

then_fewer : (a b c : Faults) → NoFewer a b → NoFewer b c → NoFewer a c
then_fewer a b c h k =
    let x = h.reads in let y = h.writes in let z = h.erases in let u = k.reads in let v = k.writes in let w = k.erases in
    record { reads = omega arith; writes = omega arith; erases = omega arith }

handled_faults : (bytes out : List ℕ) (r : Result Handled Down) (a b : Point) → HandlesAt bytes out r a b → NoFewer a.flash.faults b.flash.faults
handled_faults bytes out r a b h = (after_handling bytes a.device b.device out r a.flash b.flash h.handles).faults

after_faults : (h : Handled) (a b : Point) → StartsAfter h a b → NoFewer a.flash.faults b.flash.faults
after_faults handleds.ReplyThenReset a b s = start_faults (Ok tt) a.device b.device a.flash b.flash s.restarts
after_faults handleds.Reply a b s = same_faults a.flash.faults b.flash.faults (ap (λ (p : Point). p.flash.faults) s)
after_faults handleds.Dropped a b s = same_faults a.flash.faults b.flash.faults (ap (λ (p : Point). p.flash.faults) s)

passed_faults : (x : Exchange) (a b : Point) → Passes x a b → NoFewer a.flash.faults b.flash.faults
passed_faults x a b p =
    then_fewer a.flash.faults p.middle.flash.faults b.flash.faults (handled_faults x.packet p.out (Ok p.handled) a p.middle p.handles) (after_faults p.handled p.middle b p.starts)

served_faults : (a b : Point) (xs : List Exchange) → Serves a xs b → NoFewer a.flash.faults b.flash.faults
served_faults a b xs (no_packet a' b' xs' none same) = same_faults a'.flash.faults b'.flash.faults (ap (λ (p : Point). p.flash.faults) same)
served_faults a b xs (one_packet a' m b' earlier xs' x before passes is) =
    then_fewer a'.flash.faults m.flash.faults b'.flash.faults (served_faults a' m earlier before) (passed_faults x m b' passes)

rose_later : (n m k : ℕ) → n ≤ m → Rose m k → Rose n k
rose_later n m k h r = let x = r.kept in let y = r.more in record { kept = omega arith; more = omega arith }

rises_later : (operation : Operation) (a b c : Faults) → NoFewer a b → Rises operation b c → RoseAt operation a c
rises_later Read a b c h r = rose_later a.reads b.reads c.reads h.reads r.0
rises_later Write a b c h r = rose_later a.writes b.writes c.writes h.writes r.1
rises_later Erase a b c h r = rose_later a.erases b.erases c.erases h.erases r.2

unstarted_caused : (bytes reply : List ℕ) (fault : UploadFault) (sending : ServeFault) (a m b : Point) → NoFewer a.flash.faults m.flash.faults → StopsUnstarted bytes reply fault m b
    → FlashCaused {T = Unit {0}} (Err (stop_fault sending (unstarted bytes reply fault))) a.flash b.flash
unstarted_caused bytes reply starts.Unformatted sending a m b h s = tt
unstarted_caused bytes reply starts.Worn sending a m b h s = tt
unstarted_caused bytes reply starts.Off sending a m b h s = s.starts.restarts.starts.calls.passes.off
unstarted_caused bytes reply (starts.Fault operation) sending a m b h s = (
  operation,
  rises_later operation a.flash.faults s.middle.flash.faults b.flash.faults
      (then_fewer a.flash.faults m.flash.faults s.middle.flash.faults h (handled_faults bytes reply (Ok handleds.ReplyThenReset) m s.middle s.handles))
      s.starts.restarts.starts.calls.passes.rises,
)

stop_caused : (sending : ServeFault) (stop : Stop) (a m b : Point) → FlashCaused {T = Unit {0}} (Err sending) a.flash b.flash → NoFewer a.flash.faults m.flash.faults → Stops stop m b
    → FlashCaused {T = Unit {0}} (Err (stop_fault sending stop)) a.flash b.flash
stop_caused sending (unsent bytes reply) a m b none h s = none
stop_caused sending (fell bytes downs.Off) a m b none h s = (after_handling bytes m.device b.device s.out (Err downs.Off) m.flash b.flash s.handles.handles).down
stop_caused sending (fell bytes downs.Unformatted) a m b none h s = tt
stop_caused sending (unstarted bytes reply fault) a m b none h s = unstarted_caused bytes reply fault sending a m b h s

any_result : (T : Type 0) (fault : ServeFault) (a b : FlashState) → FlashCaused {T = Unit {0}} (Err fault) a b → FlashCaused {T = T} (Err fault) a b
any_result T faults.FlashOff a b h = h
any_result T faults.FlashFault a b h = h
any_result T faults.Unformatted a b h = tt
any_result T faults.Worn a b h = tt
any_result T faults.Read a b h = tt
any_result T faults.Write a b h = tt
any_result T faults.Link a b h = tt
any_result T faults.Spent a b h = tt

pub link_caused : (turns : ℕ) (result : Result Served ServeFault) (a b : Point) (x y : LinkState) → LinkEnds turns result a b x y → FlashCaused result a.flash b.flash
link_caused turns (Ok served) a b x y s = tt
link_caused turns (Err fault) a b x y (inl u) = subst (λ (f : ServeFault). FlashCaused {T = Served} (Err f) a.flash b.flash) (sym u.0) tt
link_caused turns (Err fault) a b x y (inr s) =
    any_result Served fault a.flash b.flash (subst (λ (f : ServeFault). FlashCaused {T = Unit {0}} (Err f) a.flash b.flash) (sym s.told)
    (stop_caused faults.Link s.stop a s.stops.before b tt (served_faults a s.stops.before _ s.stops.session.serves) s.stops.stops))

stops_caused : (fault : ServeFault) (a b : Point) (left rest old new : Option (List ℕ)) → ConsoleStops fault a b left rest old new → FlashCaused {T = Unit {0}} (Err fault) a.flash b.flash
stops_caused fault a b left rest old new s =
    subst (λ (f : ServeFault). FlashCaused {T = Unit {0}} (Err f) a.flash b.flash) (sym s.told)
    (stop_caused faults.Write s.stop a s.stops.before b tt (served_faults a s.stops.before s.stops.exchanges s.stops.serves) s.stops.stops)

pub console_caused : (result : Result (Unit {0}) ServeFault) (a b : Point) (left rest old new : Option (List ℕ)) → ConsoleEnds result a b left rest old new → FlashCaused result a.flash b.flash
console_caused (Ok x) a b left rest old new s = tt
console_caused (Err faults.Read) a b left rest old new s = tt
console_caused (Err faults.Spent) a b left rest old new s = tt
console_caused (Err faults.Link) a b left rest old new s = absurd s
console_caused (Err faults.Write) a b left rest old new s = tt
console_caused (Err faults.FlashFault) a b left rest old new s = stops_caused faults.FlashFault a b left rest old new s
console_caused (Err faults.FlashOff) a b left rest old new s = stops_caused faults.FlashOff a b left rest old new s
console_caused (Err faults.Unformatted) a b left rest old new s = tt
console_caused (Err faults.Worn) a b left rest old new s = tt
