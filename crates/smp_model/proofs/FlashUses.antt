-- Requests that do not come to the flash have no steps on what it holds.
use Rattle.std.proofs.Common.{◌≡◌, ◌-◌, ◌==◌, ◌&&◌, ◌||◌, not, ℕ, List, [], ◌∷◌, length, Bool, true, false, Option, Some, None, sym, ap, subst, ◌∙◌, if◌then◌else◌, nat_lt}
use Rattle.std.specs.Prelude.{is_some}
use Rattle.smp_model.specs.declared.device.AbstractDevice.{AbstractDevice}
use Rattle.smp_model.specs.declared.device.Side.{Side}
use Rattle.smp_model.specs.declared.device.Sizes.{Sizes}
use Rattle.smp_model.specs.declared.error.TheConstants.{INVALID_DIGEST, IMAGE_TOO_LARGE, INVALID_HEADER, WRONG_MAGIC, INVALID_SLOT}
use Rattle.smp_model.specs.Does.{does}
use Rattle.smp_model.specs.Due.{IsChangeDue, IsStepDue}
use Rattle.smp_model.specs.FlashUse.{is_start_taken, is_part_taken, is_hash_taken, is_erase_taken, uses_images, uses_saved}
use Rattle.smp_model.specs.ImageGroup.{has_wrong_size, begins_with_magic, start_of, part_of, uploads_to, uploads, sets_hash, sets_image, erases_on, erases, side_of, refuses_image}
use Rattle.smp_model.specs.Laws.{EachStep, IsOffSides, IsNoSave}
use Rattle.smp_model.specs.Meant as meant
use Rattle.smp_model.specs.Meant.{Meant}
use Rattle.smp_model.specs.Response.{Response, settling}
use Rattle.smp_model.specs.Steps.{Change, Step, OnSide, Save, Run, side_at}
use Rattle.smp_model.proofs.DueSteps.{does_due}
use Rattle.smp_model.proofs.OnSides.{each_along}
use Rattle.smp_model.proofs.RequestKinds.{IsRunOf, by_kind}

abbrev Off : Response → Type 0
Off r = EachStep IsOffSides r.steps

runs_off : (P : Change → Type 0) (steps : List Step) → EachStep (IsRunOf P) steps → EachStep IsOffSides steps
runs_off P [] h = tt
runs_off P (OnSide i t ∷ steps) h = absurd h.0
runs_off P (Save ∷ steps) h = absurd h.0
runs_off P (Run c ∷ steps) h = (tt, runs_off P steps h.1)

hash_off : (d : AbstractDevice) (hash : Option (List ℕ)) (confirm : Bool) → is_hash_taken hash confirm ≡ false → Off (sets_image d hash confirm)
hash_off d None true e = cc
hash_off d None false e = tt
hash_off d (Some []) true e = cc
hash_off d (Some []) false e = tt
hash_off d (Some (x ∷ xs)) confirm e =
    subst (λ b. Off (if b then settling d (sets_hash (x ∷ xs) confirm) else refuses_image INVALID_DIGEST)) (sym e) tt

-- each test of a start, from the outer one
start_off : (sizes : Sizes) (image : ℕ) (s : Side) (len : Option ℕ) (sha : Option (List ℕ)) (part : List ℕ) → is_start_taken sizes len sha part ≡ false → Off (start_of sizes image s len sha part)
start_off sizes image s None sha part e = tt
start_off sizes image s (Some n) sha part e = go (has_wrong_size sha) (nat_lt (sizes.slot - sizes.page) n) (nat_lt (length part) 32) (begins_with_magic part) e _
  where
    go : (w l h m : Bool) → (not w && (not l && (not h && m))) ≡ false → (started : Response)
        → Off (if w then refuses_image INVALID_DIGEST else if l then refuses_image IMAGE_TOO_LARGE else if h then refuses_image INVALID_HEADER else if not m then refuses_image WRONG_MAGIC else started)
    go true l h m e started = tt
    go false true h m e started = tt
    go false false true m e started = tt
    go false false false true e started = cc
    go false false false false e started = tt

part_off : (sizes : Sizes) (image : ℕ) (s : Side) (off : ℕ) (sha : Option (List ℕ)) (part : List ℕ) → not (has_wrong_size sha) ≡ false → Off (part_of sizes image s off sha part)
part_off sizes image s off sha part e = go (has_wrong_size sha) e _
  where
    go : (w : Bool) → not w ≡ false → (went_on : Response) → Off (if w then refuses_image INVALID_DIGEST else went_on)
    go true e went_on = tt
    go false e went_on = cc

upload_off : (sizes : Sizes) (d : AbstractDevice) (image len : Option ℕ) (off : ℕ) (sha : Option (List ℕ)) (part : List ℕ)
    → uses_images sizes d (meant.upload image len off sha part) ≡ false → Off (uploads sizes d image len off sha part)
upload_off sizes d image len off sha part = go (side_at i d)
  where
    i : ℕ
    i = side_of d.target image off sha

    either : (s : Side) (b : Bool) → is_part_taken sizes b len sha part ≡ false → Off (if b then start_of sizes i s len sha part else part_of sizes i s off sha part)
    either s true e = start_off sizes i s len sha part e
    either s false e = part_off sizes i s off sha part e

    go : (o : Option Side) → (is_some o && is_part_taken sizes (off == 0) len sha part) ≡ false → Off (uploads_to sizes i o len off sha part)
    go None e = tt
    go (Some s) e = either s (off == 0) e

erase_off : (d : AbstractDevice) (slot : ℕ) → is_erase_taken d slot ≡ false → Off (erases d slot)
erase_off d slot = go (slot == 1) (slot == 3) (side_at 1 d)
  where
    go : (one three : Bool) (o : Option Side) → (one || (three && is_some o)) ≡ false
        → Off (if one then erases_on 0 (side_at 0 d) else if three then erases_on 1 o else refuses_image INVALID_SLOT)
    go true three o e = cc
    go false true None e = tt
    go false true (Some s) e = cc
    go false false o e = tt

pub steps_on_images : (sizes : Sizes) (d : AbstractDevice) (m : Meant) → uses_images sizes d m ≡ false → EachStep IsOffSides (does sizes d m).steps
steps_on_images sizes d = by_kind sizes d (λ m. uses_images sizes d m ≡ false → EachStep IsOffSides (does sizes d m).steps) (record {
  still = λ m none e. subst (EachStep IsOffSides) (sym none) tt;
  runs = λ m r e. runs_off (λ c. (f : AbstractDevice) → IsChangeDue d.target m f c) (does sizes d m).steps r.changes;
  save = λ e. (tt, tt);
  image_list = λ e. listed e;
  image_set = λ hash confirm e. hash_off d hash confirm e;
  upload = λ image len off sha part e. upload_off sizes d image len off sha part e;
  erase = λ slot e. erase_off d slot e;
})
  where
    listed : true ≡ false → {A : Type 0} → A
    listed e = cc

pub steps_on_saved : (sizes : Sizes) (d : AbstractDevice) (m : Meant) → uses_saved m ≡ false → EachStep IsNoSave (does sizes d m).steps
steps_on_saved sizes d m e = each_along (IsStepDue sizes d.target m) IsNoSave (does sizes d m).steps d one (does_due sizes d m)
  where
    one : (f : AbstractDevice) (t : Step) → IsStepDue sizes d.target m f t → IsNoSave t
    one f (OnSide i t) h = tt
    one f Save h = saves (ap uses_saved (sym h) ∙ e)
      where
        saves : true ≡ false → ⊥
        saves k = cc
    one f (Run c) h = tt
