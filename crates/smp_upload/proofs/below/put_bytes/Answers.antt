use Rattle.std.proofs.Common.{◌+◌, ◌<◌, ◌∙◌, [], sym, arith}
use Rattle.smp_flash.specs.Layout.{geometry_of, slot_of}
use Rattle.smp_flash.specs.Geometry.{slot_size}
use Rattle.smp_flash.specs.Region.{counts}
use Rattle.smp_upload.proofs.below.put_bytes.Goals as goal

pub returns-in-Ok-clause-pays : goal.returns-in-Ok-clause-pays
returns-in-Ok-clause-pays g c = λ some aims.
    let layout = c.args.layout in
    let inside = c.requires.inside in
    let at = (slot_of layout 1).at in
    let low : c.args.offset < slot_size (geometry_of layout) = omega arith in
    let counted = ((c.regions_count_what_begins_there.ensures layout).slot 1 (at + c.args.offset) [] (omega arith) (omega arith) (omega arith)).0 in
    c.in-Ok.ensures.pays some ((λ i. counts (sym c.requires.layout i) (aims i) ((c.slot.ensures i).at + c.args.offset)) ∙ counted)
