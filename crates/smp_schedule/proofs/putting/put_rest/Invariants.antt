use Rattle.std.proofs.Common.{map, drop}
use Rattle.smp_schedule.specs.Puts.{PutSome}
use Rattle.smp_schedule.specs.Written.{ended}
use Rattle.smp_schedule.proofs.putting.put_rest.Given as goal

abbrev pub invariant-loop-field : goal.invariant-loop-field
invariant-loop-field g l = PutSome (g.O.Sink.written l.initial.out) (g.O.Sink.written l.out) (g.O.Sink.faults l.initial.out) (g.O.Sink.faults l.out)
    (ended (map (λ f. f.now) l.fn.fields)) (ended (map (λ f. f.now) (drop l.field-index l.fn.fields)))
