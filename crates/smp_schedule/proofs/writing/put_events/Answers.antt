use Rattle.smp_schedule.proofs.Pieces.{more_put, put_fails, all_put, events_left, no_events_left}
use Rattle.smp_schedule.proofs.writing.put_events.Goals as goal

pub returns-in_err-put_event : goal.returns-in_err-put_event
returns-in_err-put_event g c =
    put_fails _ _ _ _ _ _ _ _ _ _ _ _ _ c.loop-event.invariant c.in_err-put_event.was c.put_event.ensures
    (events_left c.args.events.now c.loop-event.event-index _ c.loop-event-test.true c.event-item.is) c.from_residual.ensures.0

pub loop-event-preserved : goal.loop-event-preserved
loop-event-preserved g c =
    more_put _ _ _ _ _ _ _ _ _ _ _ c.loop-event.invariant c.in_ok-put_event.was c.put_event.ensures
    (events_left c.args.events.now c.loop-event.event-index _ c.loop-event-test.true c.event-item.is)

pub returns : goal.returns
returns g c =
    all_put _ _ _ _ _ _ c.loop-event.invariant (no_events_left c.args.events.now c.loop-event.event-index c.loop-event-test.false)
