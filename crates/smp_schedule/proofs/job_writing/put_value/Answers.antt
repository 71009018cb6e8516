use Rattle.std.proofs.Common.{arith}
use Rattle.smp_schedule.proofs.Pieces.{value_is_hex, then_put}
use Rattle.smp_schedule.proofs.job_writing.put_value.Goals as goal

pub returns : goal.returns
returns g c =
    rw (value_is_hex c.args.val.now (λ e. grind (arith, e, c.is_empty.ensures, c.if-is_empty.false)))
    (then_put _ _ _ _ _ _ _ _ _ _ c.in_ok-put_bytes.was c.put_bytes-2.ensures c.put_hex.ensures)
