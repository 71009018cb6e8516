use Rattle.std.proofs.Common.{◌≡◌, ◌-◌, arith}
use Rattle.smp_flash.specs.Geometry.{slot_size}
use Rattle.smp_flash.specs.Layout.{geometry_of}
use Rattle.smp_upload.proofs.Running.{primary_Calls, image_told}
use Rattle.smp_upload.proofs.primary.active_image.Goals as goal

pub returns-clause-calls : goal.returns-clause-calls
returns-clause-calls g c =
    let layout = c.args.layout.now in
    let s = slot_size (geometry_of layout) in
    let long : c.slot-slot.result.length - c.geometry.result.page ≡ s - (geometry_of layout).page = λ i. (c.slot-slot.ensures i).length - (c.geometry.ensures.same i).page in
    primary_Calls layout c.slot-slot.result.at (c.slot-slot.result.length - c.geometry.result.page) _ _ _ _ (λ i. (c.slot-slot.ensures i).at) (omega (arith, long)) c.answer.ensures.ends c.image_at.ensures.calls

pub returns-clause-image : goal.returns-clause-image
returns-clause-image g c =
    image_told c.good_images_are_right.ensures c.args.layout.now c.slot-slot.result.at (c.slot-slot.result.length - c.geometry.result.page) c.image_at.result c.answer.result _ (λ i. (c.slot-slot.ensures i).at)
    (λ i. (c.slot-slot.ensures i).length - (c.geometry.ensures.same i).page) c.answer.ensures.ends c.answer.ensures.image c.image_at.ensures.image c.requires.readable
