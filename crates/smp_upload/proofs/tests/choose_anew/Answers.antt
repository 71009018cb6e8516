use Rattle.smp_upload.proofs.Sizes.{lost_sizes}
use Rattle.smp_upload.proofs.tests.choose_anew.Goals as goal

pub stopped_by-requires : goal.stopped_by-requires
stopped_by-requires c = lost_sizes _ _ _ _ _ _ c.in-Err.ensures.lost c.in-Err.ensures.moved.calls c.requires.sizes
