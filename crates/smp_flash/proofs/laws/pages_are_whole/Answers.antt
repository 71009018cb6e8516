use Rattle.smp_flash.proofs.Sizes.{regular}
use Rattle.smp_flash.proofs.laws.pages_are_whole.Goals as goal

pub returns : goal.returns
returns c = regular
