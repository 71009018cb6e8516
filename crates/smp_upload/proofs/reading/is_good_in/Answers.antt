use Rattle.std.proofs.lemmas.Result.{IfOk-weaker}
use Rattle.smp_upload.proofs.Looks.{told_bad}
use Rattle.smp_upload.proofs.reading.is_good_in.Goals as goal

pub returns-in-Err-clause-good : goal.returns-in-Err-clause-good
returns-in-Err-clause-good g c = IfOk-weaker c.not_good.result _ _ (λ good q. told_bad _ c.in-Err.fault good q.1 q.0 c.in-Err.ensures.image) c.not_good.ensures.bad
