-- What requests leave as it is: those about images all but the images, the others the images, and each the counters.
use Rattle.std.proofs.Common.{◌≡◌, ℕ, zero, suc, List, [], ◌∷◌, ◌++◌, refl, sym, ap, subst, ◌∙◌}
use Rattle.smp_model.specs.declared.device.AbstractDevice.{AbstractDevice}
use Rattle.smp_model.specs.declared.device.Side.{Side}
use Rattle.smp_model.specs.declared.device.Sizes.{Sizes}
use Rattle.smp_model.specs.Does.{does}
use Rattle.smp_model.specs.Due.{IsStart, IsChangeDue, IsFileWrite, IsStepDue}
use Rattle.smp_model.specs.Laws.{EachStep, IsAboutImages, SameBesideImages, SameImages}
use Rattle.smp_model.specs.Meant as meant
use Rattle.smp_model.specs.Meant.{Meant}
use Rattle.smp_model.specs.Sides.{side_apply}
use Rattle.smp_model.specs.Steps.{Change, write_setting, delete_setting, load_settings, begin_file, append_file, aim_at, Step, OnSide, Save, Run, Part, with_side, apply, applied, changed}
use Rattle.smp_model.proofs.DueSteps.{AllDue, does_due}
use Rattle.smp_model.proofs.OnSides.{along_front, kept_along}
use Rattle.smp_model.proofs.RequestKinds.{IsRunOf, by_kind, by_upload}

-- requests about images
with_beside : (i : ℕ) (f : Side → Side) (d : AbstractDevice) → SameBesideImages d (with_side i f d)
with_beside zero f d = record { saved = refl; running = refl; files = refl; counters = refl }
with_beside (suc zero) f d = record { saved = refl; running = refl; files = refl; counters = refl }
with_beside (suc (suc n)) f d = record { saved = refl; running = refl; files = refl; counters = refl }

beside_after : (d e f : AbstractDevice) → SameBesideImages e f → SameBesideImages d e → SameBesideImages d f
beside_after d e f k h = record { saved = k.saved ∙ h.saved; running = k.running ∙ h.running; files = k.files ∙ h.files; counters = k.counters ∙ h.counters }

beside_step : (sizes : Sizes) (target : ℕ) (m : Meant) → IsAboutImages m → (IsFileWrite m → ⊥) → (d e : AbstractDevice) (t : Step) → IsStepDue sizes target m e t → SameBesideImages d e → SameBesideImages d (apply t e)
beside_step sizes target m about files d e (OnSide i t) h k = beside_after d e (apply (OnSide i t) e) (with_beside i (side_apply t) e) k
beside_step sizes target m about files d e Save h k = absurd (subst IsAboutImages h about)
beside_step sizes target m about files d e (Run (aim_at i)) h k = record { saved = k.saved; running = k.running; files = k.files; counters = k.counters }
beside_step sizes target m about files d e (Run (write_setting name val)) h k = absurd (subst IsAboutImages h about)
beside_step sizes target m about files d e (Run (delete_setting name)) h k = absurd (subst IsAboutImages h about)
beside_step sizes target m about files d e (Run load_settings) h k = absurd (subst IsAboutImages h about)
beside_step sizes target m about files d e (Run (begin_file name announced part)) h k = absurd (files h)
beside_step sizes target m about files d e (Run (append_file name part)) h k = absurd (files h)

no_file_write : (m : Meant) → IsAboutImages m → IsFileWrite m → ⊥
no_file_write (meant.file_write off part len name) about h = about
no_file_write m about h = h

pub beside_images : (sizes : Sizes) (d e : AbstractDevice) (m : Meant) → IsAboutImages m → Part d (does sizes d m).steps e → SameBesideImages d e
beside_images sizes d e m about p =
    subst (SameBesideImages d) (sym p.reached)
    (kept_along (IsStepDue sizes d.target m) (SameBesideImages d) p.front d (beside_step sizes d.target m about (no_file_write m about) d)
    (along_front (IsStepDue sizes d.target m) p.front p.rest d (subst (AllDue sizes d.target m d) p.split (does_due sizes d m)))
    (record { saved = refl; running = refl; files = refl; counters = refl }))

-- other requests
abbrev IsBeside : Step → Type 0
IsBeside (OnSide image step) = ⊥
IsBeside Save = Unit {0}
IsBeside (Run (aim_at image)) = ⊥
IsBeside (Run (write_setting name val)) = Unit {0}
IsBeside (Run (delete_setting name)) = Unit {0}
IsBeside (Run load_settings) = Unit {0}
IsBeside (Run (begin_file name announced part)) = Unit {0}
IsBeside (Run (append_file name part)) = Unit {0}

images_front : (front rest : List Step) (d : AbstractDevice) → EachStep IsBeside (front ++ rest) → SameImages d (applied front d)
images_front [] rest d h = record { first = refl; second = refl; target = refl }
images_front (OnSide i t ∷ front) rest d h = absurd h.0
images_front (Save ∷ front) rest d h = let k = images_front front rest (apply Save d) h.1 in record { first = k.first; second = k.second; target = k.target }
images_front (Run (aim_at i) ∷ front) rest d h = absurd h.0
images_front (Run (write_setting name val) ∷ front) rest d h =
    let k = images_front front rest (apply (Run (write_setting name val)) d) h.1 in record { first = k.first; second = k.second; target = k.target }
images_front (Run (delete_setting name) ∷ front) rest d h =
    let k = images_front front rest (apply (Run (delete_setting name)) d) h.1 in record { first = k.first; second = k.second; target = k.target }
images_front (Run load_settings ∷ front) rest d h =
    let k = images_front front rest (apply (Run load_settings) d) h.1 in record { first = k.first; second = k.second; target = k.target }
images_front (Run (begin_file name announced part) ∷ front) rest d h =
    let k = images_front front rest (apply (Run (begin_file name announced part)) d) h.1 in record { first = k.first; second = k.second; target = k.target }
images_front (Run (append_file name part) ∷ front) rest d h =
    let k = images_front front rest (apply (Run (append_file name part)) d) h.1 in record { first = k.first; second = k.second; target = k.target }

start_is_about : (m : Meant) → IsStart m → IsAboutImages m
start_is_about = by_upload (λ m. IsStart m → IsAboutImages m) (λ image len off sha part h. tt) (λ m other h. absurd (other.no_start h))

runs_beside : (target : ℕ) (m : Meant) → (IsStart m → ⊥) → AbstractDevice → (steps : List Step) → EachStep (IsRunOf (λ c. (e : AbstractDevice) → IsChangeDue target m e c)) steps → EachStep IsBeside steps
runs_beside target m no_start d [] h = tt
runs_beside target m no_start d (OnSide i t ∷ steps) h = absurd h.0
runs_beside target m no_start d (Save ∷ steps) h = absurd h.0
runs_beside target m no_start d (Run (aim_at i) ∷ steps) h = absurd (no_start (h.0 d).0)
runs_beside target m no_start d (Run (write_setting name val) ∷ steps) h = (tt, runs_beside target m no_start d steps h.1)
runs_beside target m no_start d (Run (delete_setting name) ∷ steps) h = (tt, runs_beside target m no_start d steps h.1)
runs_beside target m no_start d (Run load_settings ∷ steps) h = (tt, runs_beside target m no_start d steps h.1)
runs_beside target m no_start d (Run (begin_file name announced part) ∷ steps) h = (tt, runs_beside target m no_start d steps h.1)
runs_beside target m no_start d (Run (append_file name part) ∷ steps) h = (tt, runs_beside target m no_start d steps h.1)

others_beside : (sizes : Sizes) (d : AbstractDevice) (m : Meant) → (IsAboutImages m → ⊥) → EachStep IsBeside (does sizes d m).steps
others_beside sizes d = by_kind sizes d (λ m. (IsAboutImages m → ⊥) → EachStep IsBeside (does sizes d m).steps) (record {
  still = λ m none h. subst (EachStep IsBeside) (sym none) tt;
  runs = λ m r h. runs_beside d.target m (λ s. h (start_is_about m s)) d (does sizes d m).steps r.changes;
  save = λ h. (tt, tt);
  image_list = λ h. absurd (h tt);
  image_set = λ hash confirm h. absurd (h tt);
  upload = λ image len off sha part h. absurd (h tt);
  erase = λ slot h. absurd (h tt);
})

pub same_images : (sizes : Sizes) (d e : AbstractDevice) (m : Meant) → (IsAboutImages m → ⊥) → Part d (does sizes d m).steps e → SameImages d e
same_images sizes d e m other p = subst (SameImages d) (sym p.reached) (images_front p.front p.rest d (subst (EachStep IsBeside) p.split (others_beside sizes d m other)))

-- no step counts
changed_counters : (c : Change) (d : AbstractDevice) → (changed c d).counters ≡ d.counters
changed_counters (write_setting name val) d = refl
changed_counters (delete_setting name) d = refl
changed_counters load_settings d = refl
changed_counters (begin_file name announced part) d = refl
changed_counters (append_file name part) d = refl
changed_counters (aim_at image) d = refl

step_counters : (t : Step) (d : AbstractDevice) → (apply t d).counters ≡ d.counters
step_counters (OnSide i t) d = (with_beside i (side_apply t) d).counters
step_counters Save d = refl
step_counters (Run c) d = changed_counters c d

front_counters : (steps : List Step) (d : AbstractDevice) → (applied steps d).counters ≡ d.counters
front_counters [] d = refl
front_counters (t ∷ steps) d = front_counters steps (apply t d) ∙ step_counters t d

pub part_counters : (d e : AbstractDevice) (steps : List Step) → Part d steps e → e.counters ≡ d.counters
part_counters d e steps p = ap (λ (x : AbstractDevice). x.counters) p.reached ∙ front_counters p.front d
