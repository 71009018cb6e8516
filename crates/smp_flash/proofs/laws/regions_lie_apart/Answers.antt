use Rattle.smp_flash.proofs.Layouts.{arranged}
use Rattle.smp_flash.proofs.laws.regions_lie_apart.Goals as goal

pub returns : goal.returns
returns c = arranged
