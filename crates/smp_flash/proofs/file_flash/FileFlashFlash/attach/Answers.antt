use Rattle.smp_flash.specs.Geometry.{size_of}
use Rattle.smp_flash.specs.Medium.{if_some}
use Rattle.smp_flash.proofs.Behind.{head_within, some_size, file_sized, for_some}
use Rattle.smp_flash.proofs.file_flash.FileFlashFlash.attach.Goals as goal

pub open_flash-requires : goal.open_flash-requires
open_flash-requires g c = head_within (size_of c.args.self.now.geometry) _ (some_size c.args.self.now.geometry c.args.self.now.lawful) (if_some _ _ c.args.self.now.sized)

pub invariant_of-self : goal.invariant_of-self
invariant_of-self g c = record {
  lawful = c.in-Some.ensures.lawful;
  sized = for_some _ _ (file_sized c.in-Some.geometry _ _ c.open_flash.ensures.kept c.in-Some.ensures.file);
}
