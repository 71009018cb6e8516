-- The image that runs is read.
use Rattle.std.proofs.Common.{◌≡◌, ℕ, ◌-◌, ◌≤◌, Option, Some, None, List, [], ◌∷◌, refl, sym, ◌∙◌, ap, subst, arith}
use Rattle.std.specs.Prelude.{Result, Ok, Err, IfOk, IfSome, IsSome}
use Rattle.smp_flash.specs.Area.{area, spot}
use Rattle.smp_flash.specs.Calls.{Calls}
use Rattle.smp_flash.specs.Geometry.{slot_size}
use Rattle.smp_flash.specs.Layout.{geometry_of, slot_of, area_spot}
use Rattle.smp_flash.specs.State.{FlashState, End, ended}
use Rattle.smp_flash.specs.State.End.{Went}
use Rattle.smp_flash.specs.declared.flash.CallFault.{CallFault}
use Rattle.smp_flash.specs.declared.layout.Layout.{Layout}
use Rattle.smp_flash.proofs.Passing.{Calls-wider, Covers-within}
use Rattle.smp_model.specs.Image.{good_image, image_of}
use Rattle.smp_model.specs.ImageFaults.{GoodImagesAreRight}
use Rattle.smp_model.specs.declared.image.ImageFault.{ImageFault}
use Rattle.smp_model.specs.declared.image.ImageInfo.{ImageInfo}
use Rattle.smp_tlv.specs.State.{image_end}
use Rattle.smp_upload.specs.Bytes.{SideReadable, active_in}

-- a call on a front of the primary slot, which is answered by another one that ended as it did
pub primary_Calls : (layout : Layout) (at size : ℕ) (ends end : End) (a b : FlashState) → at ≡ (slot_of layout 0).at → size ≤ slot_size (geometry_of layout) → ends ≡ end → Calls (spot at size) end a b → Calls (area_spot (slot_of layout 0) ∷ []) ends a b
primary_Calls layout at size ends end a b is le same calls =
    subst (λ (e : End). Calls (area_spot (slot_of layout 0) ∷ []) e a b) (sym same)
    (Calls-wider (area_spot (slot_of layout 0) ∷ []) (spot at size) end a b (Covers-within at size (slot_of layout 0).at (slot_size (geometry_of layout)) (omega (arith, is)) (omega (arith, is, le))) calls)

there_is : (o : Option ImageInfo) → IsSome o → (i : ImageInfo) × (o ≡ Some i)
there_is None is = absurd (cc is)
there_is (Some i) is = (i, refl)

-- the image of a slot that has a good one
runs_good : (layout : Layout) (held : List ℕ) → SideReadable layout held → IsSome (good_image (active_in layout held))
runs_good layout held r = subst (λ (b : List ℕ). IsSome (good_image b)) r.stands.stands.active r.stands.stands.runs

abbrev found_ok : ImageInfo → Result ImageInfo ImageFault
found_ok i = Ok i

abbrev answered : ImageInfo → Result ImageInfo CallFault
answered i = Ok i

found_is : (i j : ImageInfo) → found_ok i ≡ found_ok j → i ≡ j
found_is i j e = cc e

answer_is : (i j : ImageInfo) → answered i ≡ answered j → i ≡ j
answer_is i j e = cc e

good_is : GoodImagesAreRight → (b : List ℕ) (found : Result ImageInfo ImageFault) (i : ImageInfo) → IsSome (good_image b) → found ≡ image_of b → IfOk found (λ j. answered i ≡ answered j) → good_image b ≡ Some i
good_is rights b (Ok j) i good e same =
    let k = there_is (good_image b) good in
    let read : image_of b ≡ found_ok k.0 = ((rights b k.0).0 k.1).0 in
    k.1 ∙ sym (ap (λ (x : ImageInfo). Some x) (answer_is i j same ∙ found_is j k.0 (e ∙ read)))
good_is rights b (Err _) i good e same =
    let k = there_is (good_image b) good in
    let read : image_of b ≡ found_ok k.0 = ((rights b k.0).0 k.1).0 in
    absurd (cc (e ∙ read))

-- what is answered of the image that was found there
pub image_told : GoodImagesAreRight → (layout : Layout) (at size : ℕ) (found : Result ImageInfo ImageFault) (result : Result ImageInfo CallFault) (x : Option (List ℕ)) → at ≡ (slot_of layout 0).at → size ≡ slot_size (geometry_of layout) - (geometry_of layout).page
    → ended result ≡ image_end found → IfOk found (λ j. result ≡ answered j) → (image_end found ≡ Went → IfSome x (λ held. found ≡ image_of (area at size held))) → IfSome x (SideReadable layout)
    → IfOk result (λ i. IfSome x (λ held. good_image (active_in layout held) ≡ Some i))
image_told rights layout at size found (Err _) x is long ends same read readable = tt
image_told rights layout at size found (Ok i) None is long ends same read readable = tt
image_told rights layout at size found (Ok i) (Some held) is long ends same read readable =
    good_is rights (active_in layout held) found i (runs_good layout held readable) (read (sym ends) ∙ (λ k. image_of (area (is k) (long k) held))) same
