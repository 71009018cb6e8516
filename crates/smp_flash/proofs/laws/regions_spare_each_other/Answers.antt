use Rattle.smp_flash.proofs.Layouts.{spares_others}
use Rattle.smp_flash.proofs.laws.regions_spare_each_other.Goals as goal

pub returns : goal.returns
returns c = spares_others
