-- A start that is answered with an offset moves the target of parts before it changes an upload.
use Rattle.std.proofs.Common.{◌≡◌, ℕ, zero, suc, List, [], ◌∷◌, ◌++◌, true, false, Option, refl, sym, ap, subst, ◌∙◌, if◌then◌else◌}
use Rattle.smp_model.specs.declared.device.AbstractDevice.{AbstractDevice}
use Rattle.smp_model.specs.declared.device.Side.{Side}
use Rattle.smp_model.specs.declared.device.Sizes.{Sizes}
use Rattle.smp_model.specs.ImageGroup.{is_offset, side_of, uploads}
use Rattle.smp_model.specs.Laws.{Along, GoesToUpload}
use Rattle.smp_model.specs.Response.{Response}
use Rattle.smp_model.specs.Sides.{SideStep, Drop, side_apply, side_settle_steps}
use Rattle.smp_model.specs.Steps.{Step, OnSide, Run, aim_at, with_side, apply, applied, on_side}
use Rattle.smp_model.specs.Uploads.{is_spoiled}
use Rattle.smp_model.proofs.Cases.{either_way}
use Rattle.smp_model.proofs.OnSides.{along_at, along_more}
use Rattle.smp_model.proofs.Requests.{upload_cases, starting}

-- a step that chooses or appends finds the target at this image
abbrev Aimed : (image : ℕ) → AbstractDevice → Step → Type 0
Aimed image e t = GoesToUpload t → e.target ≡ image

target_with : (i : ℕ) (f : Side → Side) (d : AbstractDevice) → (with_side i f d).target ≡ d.target
target_with zero f d = refl
target_with (suc zero) f d = refl
target_with (suc (suc n)) f d = refl

settling_aimed : (image i : ℕ) (s : Side) (d : AbstractDevice) → Along (Aimed image) d (on_side i (side_settle_steps s))
settling_aimed image i s d = either_way (λ (steps : List SideStep). Along (Aimed image) d (on_side i steps)) (is_spoiled s.upload) (Drop ∷ []) [] ((λ h. absurd h), tt) tt

own_aimed : (image i : ℕ) (steps : List SideStep) (e : AbstractDevice) → e.target ≡ image → Along (Aimed image) e (on_side i steps)
own_aimed image i [] e at = tt
own_aimed image i (t ∷ steps) e at = ((λ h. at), own_aimed image i steps (apply (OnSide i t) e) (target_with i (side_apply t) e ∙ at))

start_aimed : (sizes : Sizes) (d : AbstractDevice) (image len : Option ℕ) (sha : Option (List ℕ)) (part : List ℕ) → is_offset (uploads sizes d image len 0 sha part).reply ≡ true
    → Along (Aimed (side_of d.target image 0 sha)) d (uploads sizes d image len 0 sha part).steps
start_aimed sizes d image len sha part =
    upload_cases (λ (r : Response). is_offset r.reply ≡ true → Along (Aimed i) d r.steps) sizes d image len 0 sha part
    (λ n e. nothing e)
    (λ s n found l z long e.
    subst (λ steps. Along (Aimed i) d (on_side i (side_settle_steps s) ++ (steps ++ on_side i (starting sizes s n sha part).steps)))
    (sym (ap (λ b. if b then Run (aim_at i) ∷ [] else []) e))
    (along_more (Aimed i) (on_side i (side_settle_steps s)) (Run (aim_at i) ∷ on_side i (starting sizes s n sha part).steps) d (settling_aimed i i s d)
    ((λ h. absurd h), own_aimed i i (starting sizes s n sha part).steps (apply (Run (aim_at i)) (applied (on_side i (side_settle_steps s)) d)) refl)))
    (λ s found z. absurd (z refl))
  where
    i : ℕ
    i = side_of d.target image 0 sha

    nothing : false ≡ true → {A : Type 0} → A
    nothing h = cc

pub target_is_early : (sizes : Sizes) (d : AbstractDevice) (image len : Option ℕ) (sha : Option (List ℕ)) (part : List ℕ) (front : List Step) (step : Step) (rest : List Step)
    → is_offset (uploads sizes d image len 0 sha part).reply ≡ true → (uploads sizes d image len 0 sha part).steps ≡ front ++ step ∷ rest → GoesToUpload step
    → (applied front d).target ≡ side_of d.target image 0 sha
target_is_early sizes d image len sha part front step rest e split =
    along_at (Aimed (side_of d.target image 0 sha)) front step rest d (subst (Along (Aimed (side_of d.target image 0 sha)) d) split (start_aimed sizes d image len sha part e))
