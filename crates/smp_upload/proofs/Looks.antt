-- What a look at the flash finds.
use Rattle.std.proofs.Common.{◌≡◌, ℕ, ◌+◌, ◌-◌, ◌≤◌, Bool, false, Option, Some, None, List, [], ◌∷◌, refl, sym, ◌∙◌, ap, arith}
use Rattle.std.specs.Prelude.{IfSome, is_some, Err}
use Rattle.smp_flash.specs.Area.{spot}
use Rattle.smp_flash.specs.Calls.{Calls}
use Rattle.smp_flash.specs.Geometry.{slot_size}
use Rattle.smp_flash.specs.Layout.{geometry_of, slot_of, area_spot, upload_spots, progress_of}
use Rattle.smp_flash.specs.Region.{Spares}
use Rattle.smp_flash.specs.State.{FlashState, End}
use Rattle.smp_flash.specs.State.End.{Went}
use Rattle.smp_flash.specs.declared.layout.Layout.{Layout}
use Rattle.smp_flash.proofs.Passing.{Calls-wider, Covers, Covers-within}
use Rattle.smp_flash.proofs.Telling.{IfSome-map}
use Rattle.smp_gate.specs.Newest.{sides}
use Rattle.smp_model.specs.declared.image.ImageFault.{ImageFault}
use Rattle.smp_model.specs.declared.image.ImageFault.TheVariants as images
use Rattle.smp_model.specs.declared.image.ImageInfo.{ImageInfo}
use Rattle.smp_model.specs.Image.{good_image, image_of, if_hashed}
use Rattle.smp_progress.specs.Cells.{HasRecord}
use Rattle.smp_progress.specs.declared.record.Record.{Record}
use Rattle.smp_tlv.specs.State.{image_end}
use Rattle.smp_upload.specs.Bytes.{SideReadable, record_of}
use Rattle.smp_upload.specs.Mounting.{of_image}
use Rattle.smp_upload.specs.Moves.{mount_spots}
use Rattle.smp_upload.proofs.Frames.{slot_large}
use Rattle.smp_upload.proofs.Putting.{sides_Calls}
use Rattle.smp_upload.proofs.Resolved.{slot_1_Calls}

-- Spots of a mount.
pub first_covers : (at n : ℕ) (spots : List (ℕ × ℕ)) → Covers ((at, n) ∷ spots) (spot at n)
first_covers at n spots = record {
  clear = λ p m c. (c.0, tt);
  spares = λ g aim. elim aim as (λ o. Spares g o ((at, n) ∷ spots) → Spares g o (spot at n)) [
    | None ↦ λ s. tt
    | Some region ↦ λ s. (s.0, tt)
  ];
}

pub rest_covers : (at n : ℕ) (spots : List (ℕ × ℕ)) → Covers ((at, n) ∷ spots) spots
rest_covers at n spots = record {
  clear = λ p m c. c.1;
  spares = λ g aim. elim aim as (λ o. Spares g o ((at, n) ∷ spots) → Spares g o spots) [
    | None ↦ λ s. none g spots
    | Some region ↦ λ s. s.1
  ];
}
  where
    none : (g : _) (spots : List (ℕ × ℕ)) → Spares g None spots
    none g [] = tt
    none g (x ∷ xs) = tt

pub upload_covers : (layout : Layout) → Covers (mount_spots layout) (upload_spots layout)
upload_covers layout = rest_covers (slot_of layout 0).at (slot_of layout 0).length (upload_spots layout)

pub upload_Calls : (layout : Layout) (end : End) (a b : FlashState) → Calls (upload_spots layout) end a b → Calls (mount_spots layout) end a b
upload_Calls layout end a b calls = Calls-wider (mount_spots layout) (upload_spots layout) end a b (upload_covers layout) calls

pub primary_Calls : (layout : Layout) (end : End) (a b : FlashState) → Calls (area_spot (slot_of layout 0) ∷ []) end a b → Calls (mount_spots layout) end a b
primary_Calls layout end a b calls = Calls-wider (mount_spots layout) (area_spot (slot_of layout 0) ∷ []) end a b (first_covers (slot_of layout 0).at (slot_of layout 0).length (upload_spots layout)) calls

pub bank_Calls : (layout : Layout) (end : End) (a b : FlashState) → Calls (sides (progress_of layout)) end a b → Calls (mount_spots layout) end a b
bank_Calls layout end a b calls = upload_Calls layout end a b (sides_Calls layout end a b calls)

pub secondary_Calls : (layout : Layout) (end : End) (a b : FlashState) → Calls (area_spot (slot_of layout 1) ∷ []) end a b → Calls (mount_spots layout) end a b
secondary_Calls layout end a b calls = upload_Calls layout end a b (slot_1_Calls layout end a b calls)

pub end_Calls : (layout : Layout) (end : End) (a b : FlashState) → Calls (spot ((slot_of layout 1).at + (slot_of layout 1).length - 24) 24) end a b → Calls (area_spot (slot_of layout 1) ∷ []) end a b
end_Calls layout end a b calls =
    let s = slot_size (geometry_of layout) in
    let at = (slot_of layout 1).at in
    let large = slot_large layout in
    Calls-wider (area_spot (slot_of layout 1) ∷ []) (spot (at + s - 24) 24) end a b (Covers-within (at + s - 24) 24 at s (omega arith) (omega arith)) calls

pub front_0_Calls : (layout : Layout) (at size : ℕ) (end : End) (a b : FlashState) → at ≡ (slot_of layout 0).at → size ≤ slot_size (geometry_of layout) → Calls (spot at size) end a b → Calls (area_spot (slot_of layout 0) ∷ []) end a b
front_0_Calls layout at size end a b is le calls =
    Calls-wider (area_spot (slot_of layout 0) ∷ []) (spot at size) end a b (Covers-within at size (slot_of layout 0).at (slot_size (geometry_of layout)) (omega (arith, is)) (omega (arith, is, le))) calls

-- A fault that the bytes have to answer for: they are no good image.
image_went : (f : ImageFault) → of_image f ≡ None → image_end {T = ImageInfo} (Err f) ≡ Went
image_went images.Short e = refl
image_went images.Magic e = refl
image_went images.HeaderSize e = refl
image_went images.Encrypted e = refl
image_went images.Bounds e = refl
image_went images.Protected e = refl
image_went images.Tlvs e = refl
image_went images.NoHash e = refl
image_went images.WrongHash e = refl
image_went images.TooLarge e = refl
image_went images.Fault e = absurd (cc e)
image_went images.Off e = absurd (cc e)

bad_image : (held : List ℕ) (f : ImageFault) → Err f ≡ image_of held → good_image held ≡ None
unfolding good_image
bad_image held f is = ap (if_hashed held) (sym is)

pub told_bad : (x : Option (List ℕ)) (f : ImageFault) (good : Bool) → of_image f ≡ None → good ≡ false → (image_end {T = ImageInfo} (Err f) ≡ Went → IfSome x (λ held. Err f ≡ image_of held)) → IfSome x (λ held. good ≡ is_some (good_image held))
told_bad x f good none e g = IfSome-map (λ held. Err f ≡ image_of held) (λ held. good ≡ is_some (good_image held)) x (λ u is. e ∙ sym (ap is_some (bad_image u f is))) (g (image_went f none))

-- Without a record the bytes stand for no side, and without a good image in the primary slot neither.
pub told_no_record : (layout : Layout) (x : Option (List ℕ)) → IfSome x (λ held. (entry : Record) → HasRecord layout entry held → ⊥) → IfSome x (λ held. SideReadable layout held → ⊥)
told_no_record layout x none = IfSome-map (λ held. (entry : Record) → HasRecord layout entry held → ⊥) (λ held. SideReadable layout held → ⊥) x
    (λ u f r. f (record_of r.stands.rescue r.side.upload) r.stands.stands.entry) none
