use Rattle.std.proofs.Common.{◌+◌, ◌-◌, ◌≤◌, ◌∙◌, [], sym, arith}
use Rattle.std.proofs.lemmas.Result.{on_ok_weaker}
use Rattle.smp_flash.specs.Geometry.{slot_size}
use Rattle.smp_flash.specs.Layout.{geometry_of, slot_of}
use Rattle.smp_flash.specs.Region.{counts}
use Rattle.smp_upload.proofs.Frames.{slot_large}
use Rattle.smp_upload.proofs.primary.put_flag.Goals as goal

pub returns-clause-pays : goal.returns-clause-pays
returns-clause-pays g c =
    let layout = c.args.layout.now in
    let at = (slot_of layout 0).at in
    let large : 24 ≤ slot_size (geometry_of layout) = slot_large layout in
    let counted = ((c.regions_count_what_begins_there.ensures layout).slot 0 (at + slot_size (geometry_of layout) - 24) [] (omega arith) (omega arith) (omega arith)).0 in
    on_ok_weaker c.confirm.result (λ pays aims. pays ((λ i. counts (sym c.requires.layout i) (aims i) ((c.slot.ensures i).at + (c.slot.ensures i).length - 24)) ∙ counted)) c.confirm.ensures.pays
