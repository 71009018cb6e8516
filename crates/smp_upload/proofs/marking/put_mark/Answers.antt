use Rattle.std.proofs.Common.{◌+◌, ◌-◌, ◌≤◌, ◌∙◌, [], sym, arith}
use Rattle.smp_flash.specs.Geometry.{slot_size}
use Rattle.smp_flash.specs.Layout.{geometry_of, slot_of}
use Rattle.smp_flash.specs.Region.{counts}
use Rattle.smp_upload.proofs.Frames.{slot_large}
use Rattle.smp_upload.proofs.marking.put_mark.Goals as goal

pub returns-in-Ok-clause-pays : goal.returns-in-Ok-clause-pays
returns-in-Ok-clause-pays g c = λ aims.
    let layout = c.args.layout in
    let at = (slot_of layout 1).at in
    let large : 24 ≤ slot_size (geometry_of layout) = slot_large layout in
    let counted = ((c.regions_count_what_begins_there.ensures layout).slot 1 (at + slot_size (geometry_of layout) - 16) [] (omega arith) (omega arith) (omega arith)).0 in
    c.in-Ok.ensures.pays ((λ i. counts (sym c.requires.layout i) (aims i) ((c.slot.ensures i).at + (c.slot.ensures i).length - 16)) ∙ counted)
