use Rattle.smp_flash.proofs.Areas.{Faded-refl}
use Rattle.smp_flash.proofs.memory.MemFlashFlash.create.Goals as goal

pub returns-then-not-self-clause-err : goal.returns-then-not-self-clause-err
returns-then-not-self-clause-err c = Faded-refl _

pub returns-then-ne-clause-err : goal.returns-then-ne-clause-err
returns-then-ne-clause-err c = Faded-refl _
