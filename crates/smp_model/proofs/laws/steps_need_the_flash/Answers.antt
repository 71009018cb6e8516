use Rattle.smp_model.proofs.FlashUses.{steps_on_images, steps_on_saved}
use Rattle.smp_model.proofs.laws.steps_need_the_flash.Goals as goal

pub returns-clause-images : goal.returns-clause-images
returns-clause-images c = steps_on_images

pub returns-clause-saved : goal.returns-clause-saved
returns-clause-saved c = steps_on_saved
