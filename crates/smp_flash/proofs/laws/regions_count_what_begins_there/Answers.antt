use Rattle.smp_flash.proofs.Layouts.{counted_in}
use Rattle.smp_flash.proofs.laws.regions_count_what_begins_there.Goals as goal

pub returns : goal.returns
returns c = counted_in
