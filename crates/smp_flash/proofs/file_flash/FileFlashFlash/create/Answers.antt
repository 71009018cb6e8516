use Rattle.smp_flash.specs.Geometry.{size_of}
use Rattle.smp_flash.specs.Medium.{if_some}
use Rattle.smp_flash.proofs.Behind.{made_size, sized_closed, for_some}
use Rattle.smp_flash.proofs.file_flash.FileFlashFlash.create.Goals as goal

pub invariant_of-self : goal.invariant_of-self
invariant_of-self g c = record {
  lawful = c.requires;
  sized = for_some _ _ (made_size (size_of c.args.geometry) _ _ c.in-Ok.ensures.fits c.in-Ok.ensures.ok);
}

pub invariant_of-self-in-Err : goal.invariant_of-self-in-Err
invariant_of-self-in-Err g c = record {
  lawful = c.args.self.now.lawful;
  sized = for_some _ _ (sized_closed (size_of c.args.self.now.geometry) _ _ _ (if_some _ _ c.args.self.now.sized) c.in-Err.ensures.err c.close.ensures.kept);
}
