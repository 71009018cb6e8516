use Rattle.std.proofs.Common.{codes}
use Rattle.smp_schedule.specs.Written.{pair_words}
use Rattle.smp_schedule.proofs.Pieces.{first_fails, then_put, started_line}
use Rattle.smp_schedule.proofs.job_writing.put_set.Goals as goal

pub returns-in_err-put_start : goal.returns-in_err-put_start
returns-in_err-put_start g c =
    first_fails _ _ _ _ _ _ _ _ _ _ c.in_err-put_start.was c.put_start.ensures
    (started_line c.args.number (codes "set") (pair_words c.args.pairs.now)) c.from_residual.ensures.0

pub returns : goal.returns
returns g c =
    rw (started_line c.args.number (codes "set") (pair_words c.args.pairs.now))
    (then_put _ _ _ _ _ _ _ _ _ _ c.in_ok-put_start.was c.put_start.ensures c.put_pairs.ensures)
