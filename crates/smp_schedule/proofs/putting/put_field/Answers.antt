use Rattle.smp_schedule.proofs.Pieces.{then_put}
use Rattle.smp_schedule.proofs.putting.put_field.Goals as goal

pub returns : goal.returns
returns g c = then_put _ _ _ _ _ _ _ _ _ _ c.in_ok-put_bytes.was c.put_bytes.ensures c.put_bytes-2.ensures
