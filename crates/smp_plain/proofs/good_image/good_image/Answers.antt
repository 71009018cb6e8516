use Rattle.std.proofs.Common.{◌≡◌, ◌∙◌, ℕ, List, None, Err, ap}
use Rattle.smp_model.specs.declared.image.ImageFault.{ImageFault}
use Rattle.smp_model.specs.declared.image.ImageInfo.{ImageInfo}
use Rattle.smp_model.specs.Image.{if_hashed, image_of, good_image}
use Rattle.smp_tlv.specs.State.{image_end}
use Rattle.smp_tlv.specs.Lent.{lent_state}
use Rattle.smp_plain.proofs.good_image.good_image.Goals as goal

no_image : (b : List ℕ) (why : ImageFault) → Err why ≡ image_of b → None ≡ good_image b
unfolding good_image
no_image b why e = ap (if_hashed b) e

pub returns-in-Err : goal.returns-in-Err
returns-in-Err c =
    let went = c.lent_bytes_are_read.ensures.end 131102 (image_end {T = ImageInfo} (Err c.in-Err.field-0)) c.new-lent.result (lent_state c.read_image.new.b) c.in-Err.ensures.looks in
    no_image c.args.bytes.now c.in-Err.field-0 (c.in-Err.ensures.image went ∙ ap image_of c.new-lent.ensures)
