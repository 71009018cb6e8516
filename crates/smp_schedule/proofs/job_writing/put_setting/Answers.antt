use Rattle.std.proofs.Common.{refl}
use Rattle.smp_schedule.proofs.Pieces.{first_fails, then_put}
use Rattle.smp_schedule.proofs.job_writing.put_setting.Goals as goal

pub returns-in_err-put_field : goal.returns-in_err-put_field
returns-in_err-put_field g c = first_fails _ _ _ _ _ _ _ _ _ _ c.in_err-put_field.was c.put_field.ensures refl c.from_residual.ensures.0

pub returns : goal.returns
returns g c = then_put _ _ _ _ _ _ _ _ _ _ c.in_ok-put_field.was c.put_field.ensures c.put_value.ensures
