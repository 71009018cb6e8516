use Rattle.std.proofs.Common.{drop}
use Rattle.smp_schedule.specs.Puts.{PutSome}
use Rattle.smp_schedule.specs.Written.{ended, pair_words}
use Rattle.smp_schedule.proofs.job_writing.put_pairs.Given as goal

abbrev pub invariant-loop-pair : goal.invariant-loop-pair
invariant-loop-pair g l = PutSome (g.O.Sink.written l.initial.out) (g.O.Sink.written l.out) (g.O.Sink.faults l.initial.out) (g.O.Sink.faults l.out)
    (ended (pair_words l.fn.pairs)) (ended (pair_words (drop l.pair-index l.fn.pairs)))
