use Rattle.smp_schedule.proofs.Pieces.{more_put, put_fails, last_put, pairs_left, no_pairs_left}
use Rattle.smp_schedule.proofs.job_writing.put_pairs.Goals as goal

pub returns-in_err-put_pair : goal.returns-in_err-put_pair
returns-in_err-put_pair g c =
    put_fails _ _ _ _ _ _ _ _ _ _ _ _ _ c.loop-pair.invariant c.in_err-put_pair.was c.put_pair.ensures
    (pairs_left c.args.pairs.now c.loop-pair.pair-index _ c.loop-pair-test.true c.pair-item.is) c.from_residual.ensures.0

pub loop-pair-preserved : goal.loop-pair-preserved
loop-pair-preserved g c =
    more_put _ _ _ _ _ _ _ _ _ _ _ c.loop-pair.invariant c.in_ok-put_pair.was c.put_pair.ensures
    (pairs_left c.args.pairs.now c.loop-pair.pair-index _ c.loop-pair-test.true c.pair-item.is)

pub returns : goal.returns
returns g c =
    last_put _ _ _ _ _ _ _ _ _ c.loop-pair.invariant
    (rw (no_pairs_left c.args.pairs.now c.loop-pair.pair-index c.loop-pair-test.false) c.put_bytes.ensures)
