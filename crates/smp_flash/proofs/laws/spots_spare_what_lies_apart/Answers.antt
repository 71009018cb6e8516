use Rattle.smp_flash.proofs.Layouts.{spares_clear}
use Rattle.smp_flash.proofs.laws.spots_spare_what_lies_apart.Goals as goal

pub returns : goal.returns
returns c = spares_clear
