use Rattle.smp_flash.proofs.Areas.{Faded-refl}
use Rattle.smp_flash.proofs.steady.SteadyFlashFlash.create.Goals as goal

pub returns-then-ne-clause-err : goal.returns-then-ne-clause-err
returns-then-ne-clause-err c = Faded-refl _
