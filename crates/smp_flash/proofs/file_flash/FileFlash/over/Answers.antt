use Rattle.smp_flash.proofs.Behind.{file_sized, for_some}
use Rattle.smp_flash.proofs.file_flash.FileFlash.over.Goals as goal

pub invariant_of-result : goal.invariant_of-result
invariant_of-result g c = record {
  lawful = c.in_ok-geometry.ensures.lawful;
  sized = for_some _ _ (file_sized c.in_ok-geometry.geometry _ _ c.sizes_in_medium.ensures.kept c.in_ok-geometry.ensures.file);
}
