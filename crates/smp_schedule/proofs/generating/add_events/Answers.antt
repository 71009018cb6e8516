-- One event more, and no more.
use Rattle.std.proofs.Common.{arith}
use Rattle.smp_schedule.proofs.Drawing.{one_event, no_events}
use Rattle.smp_schedule.proofs.generating.add_events.Goals as goal

pub events-preserved : goal.events-preserved
events-preserved c =
    rw (c.in_ok-push.ensures.items, c.event.ensures.event, c.event.ensures.after)
    (one_event c.events.events.items _ c.args.count c.events._i c.events.generator c.events-test.true c.events.invariant)

pub returns : goal.returns
returns c = no_events c.events.events.items _ c.args.count c.events._i c.events.generator (omega arith) c.events.invariant
