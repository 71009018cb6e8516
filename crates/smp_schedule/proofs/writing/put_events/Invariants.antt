use Rattle.std.proofs.Common.{drop}
use Rattle.smp_schedule.specs.Puts.{PutSome}
use Rattle.smp_schedule.specs.Written.{event_lines}
use Rattle.smp_schedule.proofs.writing.put_events.Given as goal

abbrev pub invariant-loop-event : goal.invariant-loop-event
invariant-loop-event g l = PutSome (g.O.Sink.written l.initial.out) (g.O.Sink.written l.out) (g.O.Sink.faults l.initial.out) (g.O.Sink.faults l.out)
    (event_lines l.fn.events) (event_lines (drop l.event-index l.fn.events))
