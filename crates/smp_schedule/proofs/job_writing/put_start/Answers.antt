use Rattle.std.proofs.Common.{refl}
use Rattle.smp_schedule.proofs.Pieces.{first_put, first_fails, more_put, put_fails, last_put}
use Rattle.smp_schedule.proofs.job_writing.put_start.Goals as goal

pub returns-in_err-put_bytes : goal.returns-in_err-put_bytes
returns-in_err-put_bytes g c = first_fails _ _ _ _ _ _ _ _ _ _ c.in_err-put_bytes.was c.put_bytes.ensures refl c.from_residual.ensures.0

pub returns-in_err-put_number : goal.returns-in_err-put_number
returns-in_err-put_number g c =
    put_fails _ _ _ _ _ _ _ _ _ _ _ _ _ (first_put _ _ _ _ _ _ _ _ c.in_ok-put_bytes.was c.put_bytes.ensures refl)
    c.in_err-put_number.was c.put_number.ensures refl c.from_residual-in_err-put_number.ensures.0

pub returns : goal.returns
returns g c =
    last_put _ _ _ _ _ _ _ _ _
    (more_put _ _ _ _ _ _ _ _ _ _ _ (first_put _ _ _ _ _ _ _ _ c.in_ok-put_bytes.was c.put_bytes.ensures refl) c.in_ok-put_number.was c.put_number.ensures refl)
    c.put_field.ensures
