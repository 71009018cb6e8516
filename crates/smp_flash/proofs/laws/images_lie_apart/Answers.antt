use Rattle.smp_flash.proofs.Layouts.{arranged_together}
use Rattle.smp_flash.proofs.laws.images_lie_apart.Goals as goal

pub returns : goal.returns
returns c = arranged_together
