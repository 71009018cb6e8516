-- A device of one image.
use Rattle.std.proofs.Common.{◌≡◌, ◌<◌, ◌==◌, ◌||◌, ◌⊎◌, inl, inr, ℕ, zero, suc, List, ◌++◌, Bool, true, false, Option, Some, None, refl, sym, ap, ◌∙◌, arith, append-nil, if◌then◌else◌}
use Rattle.std.specs.Prelude.{option_map, is_some}
use Rattle.smp_model.specs.declared.device.AbstractDevice.{AbstractDevice}
use Rattle.smp_model.specs.declared.device.Side.{Side}
use Rattle.smp_model.specs.declared.device.Sizes.{Sizes}
use Rattle.smp_model.specs.Does.{does}
use Rattle.smp_model.specs.Due.{IsStepDue}
use Rattle.smp_model.specs.ImageGroup.{pair_of, side_of, uploads_to, refuses_image, confirms_on, marks_on, runs, holds, sets_hash, erases_on}
use Rattle.smp_model.specs.Laws.{EachStep, IsOn}
use Rattle.smp_model.specs.Meant as meant
use Rattle.smp_model.specs.Meant.{Meant}
use Rattle.smp_model.specs.Said.{images, if_some}
use Rattle.smp_model.specs.Sides.{side_settle, side_settle_steps}
use Rattle.smp_model.specs.Steps.{Step, OnSide, Save, Run, side_at, apply, on_side, settle, settle_steps, settle_steps_of}
use Rattle.smp_model.proofs.OnSides.{along_with, side_changed}
use Rattle.smp_model.proofs.DueSteps.{does_due}
use Rattle.smp_model.proofs.Requests.{settled_side}
use Rattle.smp_model.specs.declared.error.TheConstants.{INVALID_SLOT, HASH_NOT_FOUND}

abbrev IsOne : AbstractDevice → Type 0
IsOne d = d.second ≡ None

first_alone : (i : ℕ) (d : AbstractDevice) (s : Side) → IsOne d → side_at i d ≡ Some s → i ≡ 0
first_alone zero d s one e = refl
first_alone (suc zero) d s one e = absurd (nothing (sym one ∙ e))
  where
    nothing : None ≡ Some s → ⊥
    nothing n = cc
first_alone (suc (suc n)) d s one e = cc

still_one : (d : AbstractDevice) (t : Step) → IsOne d → IsOne (apply t d)
still_one d (OnSide zero t) one = one
still_one d (OnSide (suc zero) t) one = ap (option_map _) one
still_one d (OnSide (suc (suc n)) t) one = one
still_one d Save one = one
still_one d (Run c) one = side_changed 1 c d ∙ one

one_step : (sizes : Sizes) (target : ℕ) (m : Meant) (d : AbstractDevice) (t : Step) → IsStepDue sizes target m d t → IsOne d → IsOn 0 t × IsOne (apply t d)
one_step sizes target m d (OnSide i t) h one = (first_alone i d h.1.side one h.1.found, still_one d (OnSide i t) one)
one_step sizes target m d Save h one = (tt, one)
one_step sizes target m d (Run c) h one = (tt, still_one d (Run c) one)

pub one_steps : (sizes : Sizes) (d : AbstractDevice) (m : Meant) → IsOne d → EachStep (IsOn 0) (does sizes d m).steps
one_steps sizes d m one = (along_with (IsStepDue sizes d.target m) IsOne (IsOn 0) (does sizes d m).steps d (one_step sizes d.target m) (does_due sizes d m) one).0

pub one_settles : (d : AbstractDevice) → IsOne d → settle_steps d ≡ settle_steps_of 0 d
one_settles d one =
    ap (λ o. settle_steps_of 0 d ++ if_some o (λ s. on_side 1 (side_settle_steps s))) one ∙ append-nil (settle_steps_of 0 d)

first_is : (s t : Side) → Some s ≡ Some t → s ≡ t
first_is s t e = cc

pub one_list : (sizes : Sizes) (d : AbstractDevice) → IsOne d → (does sizes d meant.image_list).reply ≡ images (pair_of (side_settle d.first)) None
one_list sizes d one =
    let second : side_at 1 (settle d) ≡ None = settled_side 1 d ∙ ap (option_map side_settle) one in
    ap (λ s. images (pair_of s) (option_map pair_of (settle d).second)) (first_is (settle d).first (side_settle d.first) (settled_side 0 d))
    ∙ ap (λ o. images (pair_of (side_settle d.first)) (option_map pair_of o)) second

always_zero : (b : Bool) → (if b then 0 else zero) ≡ zero
always_zero true = refl
always_zero false = refl

pub one_upload : (sizes : Sizes) (d : AbstractDevice) (image len : Option ℕ) (off : ℕ) (sha : Option (List ℕ)) (part : List ℕ) → d.target ≡ 0 → (image ≡ None) ⊎ (image ≡ Some 0)
    → does sizes d (meant.upload image len off sha part) ≡ uploads_to sizes 0 (Some d.first) len off sha part
one_upload sizes d image len off sha part target (inl e) =
    let zero' : side_of d.target image off sha ≡ 0 = ap (λ o. side_of d.target o off sha) e ∙ (ap (λ t. side_of t None off sha) target ∙ always_zero ((off == 0) || is_some sha)) in
    ap (λ i. uploads_to sizes i (side_at i d) len off sha part) zero'
one_upload sizes d image len off sha part target (inr e) = ap (λ o. uploads_to sizes (side_of d.target o off sha) (side_at (side_of d.target o off sha) d) len off sha part) e

pub one_other : (sizes : Sizes) (d : AbstractDevice) (image : ℕ) (len : Option ℕ) (off : ℕ) (sha : Option (List ℕ)) (part : List ℕ) → IsOne d → 0 < image
    → does sizes d (meant.upload (Some image) len off sha part) ≡ refuses_image INVALID_SLOT
one_other sizes d zero len off sha part one h = absurd (none h)
  where
    none : 0 < zero → ⊥
    none k = omega (arith, k)
one_other sizes d (suc zero) len off sha part one h = ap (λ o. uploads_to sizes 1 o len off sha part) one
one_other sizes d (suc (suc n)) len off sha part one h = refl

pub one_set : (d : AbstractDevice) (hash : List ℕ) (confirm : Bool) → IsOne d
    → sets_hash hash confirm d ≡ (if runs hash (Some d.first) then confirms_on 0 confirm (Some d.first) d else if holds hash (Some d.first) then marks_on 0 confirm (Some d.first) d else refuses_image HASH_NOT_FOUND)
one_set d hash confirm one =
    ap (λ o. if runs hash (Some d.first) then confirms_on 0 confirm (Some d.first) d else if runs hash o then confirms_on 1 confirm o d
    else if holds hash (Some d.first) then marks_on 0 confirm (Some d.first) d else if holds hash o then marks_on 1 confirm o d else refuses_image HASH_NOT_FOUND) one

pub one_erase : (sizes : Sizes) (d : AbstractDevice) → IsOne d → does sizes d (meant.erase 3) ≡ refuses_image INVALID_SLOT
one_erase sizes d one = ap (erases_on 1) one
