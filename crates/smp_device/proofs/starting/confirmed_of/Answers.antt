use Rattle.std.proofs.Common.{refl}
use Rattle.smp_flash.specs.State.End.{Went}
use Rattle.smp_flash.proofs.Passing.{Calls-after}
use Rattle.smp_device.specs.Places.{spots_of}
use Rattle.smp_device.proofs.Listings.{calls_at}
use Rattle.smp_device.proofs.starting.confirmed_of.Goals as goal

pub returns-in_ok-one-in-Some-clause-calls : goal.returns-in_ok-one-in-Some-clause-calls
returns-in_ok-one-in-Some-clause-calls g c =
    Calls-after (spots_of (record { first = c.args.first.now; second = c.args.second.now })) Went (g.F.Flash.state c.args.flash.now) (g.F.Flash.state c.is_confirmed.new.flash) (g.F.Flash.state c.is_confirmed-in-Some.new.flash)
    (calls_at (record { first = c.args.first.now; second = c.args.second.now }) 0 c.args.first.now Went (g.F.Flash.state c.args.flash.now) (g.F.Flash.state c.is_confirmed.new.flash) refl c.in_ok-zero.ensures.calls)
    (calls_at (record { first = c.args.first.now; second = c.args.second.now }) 1 c.in-Some.layout Went (g.F.Flash.state c.is_confirmed.new.flash) (g.F.Flash.state c.is_confirmed-in-Some.new.flash) c.in-Some.is c.in_ok-one-in-Some.ensures.calls)
