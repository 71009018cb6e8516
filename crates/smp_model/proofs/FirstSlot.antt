-- A hash means the first slot that has it.
use Rattle.std.proofs.Common.{◌≡◌, ◌<◌, ◌==◌, ℕ, zero, List, [], ◌∷◌, ◌++◌, length, Bool, true, false, Option, Some, None, subst, arith}
use Rattle.std.specs.Prelude.{Result, Ok, Err}
use Rattle.smp_model.specs.declared.device.AbstractDevice.{AbstractDevice}
use Rattle.smp_model.specs.declared.device.Side.{Side}
use Rattle.smp_model.specs.declared.upload.Mark.{Mark}
use Rattle.smp_model.specs.declared.device.Sizes.{Sizes}
use Rattle.smp_model.specs.Does.{does}
use Rattle.smp_model.specs.ImageGroup.{refuses_image, lists_with, mark_of, same_mark, marks, confirms, runs, holds, confirms_on, marks_on, sets_hash}
use Rattle.smp_model.specs.Laws.{EachStep, IsOfFirst}
use Rattle.smp_model.specs.Meant as meant
use Rattle.smp_model.specs.Meant.{Meant}
use Rattle.smp_model.specs.Response.{Response, settling}
use Rattle.smp_model.specs.Said.{if_some}
use Rattle.smp_model.specs.Sides.{SideStep, MarkPending, Confirm, Drop, side_settle_steps}
use Rattle.smp_model.specs.Steps.{Step, OnSide, side_at, on_side, settle, settle_steps, settle_steps_of}
use Rattle.smp_model.specs.Uploads.{is_spoiled}
use Rattle.smp_model.proofs.Cases.{by_if, either_way}
use Rattle.smp_model.proofs.OnSides.{each_more}
use Rattle.smp_model.specs.declared.error.TheConstants.{HASH_NOT_FOUND, INVALID_DIGEST, ALREADY_PENDING}

each_at : (P : Step → Type 0) (front : List Step) (t : Step) (rest : List Step) → EachStep P (front ++ t ∷ rest) → P t
each_at P [] t rest h = h.0
each_at P (u ∷ front) t rest h = each_at P front t rest h.1

confirms_first : (P : Step → Type 0) (i : ℕ) (confirm : Bool) (o : Option Side) (e : AbstractDevice) → P (OnSide i Confirm) → EachStep P (confirms_on i confirm o e).steps
confirms_first P i confirm None e p = tt
confirms_first P i confirm (Some s) e p = go confirm s.confirmed
  where
    go : (c confirmed : Bool) → EachStep P (lists_with i (confirms c confirmed) e).steps
    go true true = tt
    go true false = (p, tt)
    go false confirmed = tt

marks_first : (P : Step → Type 0) (i : ℕ) (confirm : Bool) (o : Option Side) (e : AbstractDevice) → P (OnSide i (MarkPending (mark_of confirm))) → EachStep P (marks_on i confirm o e).steps
marks_first P i confirm None e p = tt
marks_first P i confirm (Some s) e p = go s.pending
  where
    go : (m : Option Mark) → EachStep P (lists_with i (marks (mark_of confirm) m) e).steps
    go None = (p, tt)
    go (Some k) = either_way (λ (r : Result (List SideStep) ℕ). EachStep P (lists_with i r e).steps) (same_mark k (mark_of confirm)) (Ok []) (Err ALREADY_PENDING) tt tt

not_less : {A : Type 0} → 0 < zero → A
not_less h = absurd (none h)
  where
    none : 0 < zero → ⊥
    none k = omega (arith, k)

hash_first : (hash : List ℕ) (confirm : Bool) (e : AbstractDevice) → EachStep (IsOfFirst e hash) (sets_hash hash confirm e).steps
hash_first hash confirm e =
    by_if First (runs hash (side_at 0 e)) _ _ (λ a. confirms_first (IsOfFirst e hash) 0 confirm (side_at 0 e) e (a, (λ h. not_less h)))
    (λ a. by_if First (runs hash (side_at 1 e)) _ _ (λ b. confirms_first (IsOfFirst e hash) 1 confirm (side_at 1 e) e (b, (λ h. a)))
    (λ b. by_if First (holds hash (side_at 0 e)) _ _ (λ c. marks_first (IsOfFirst e hash) 0 confirm (side_at 0 e) e ((a, b), (c, (λ h. not_less h))))
    (λ c. by_if First (holds hash (side_at 1 e)) _ (refuses_image HASH_NOT_FOUND) (λ f. marks_first (IsOfFirst e hash) 1 confirm (side_at 1 e) e ((a, b), (f, (λ h. c)))) (λ _. tt))))
  where
    First : Response → Type 0
    First r = EachStep (IsOfFirst e hash) r.steps

settles_first : (e : AbstractDevice) (hash : List ℕ) (i : ℕ) (o : Option Side) → EachStep (IsOfFirst e hash) (if_some o (λ s. on_side i (side_settle_steps s)))
settles_first e hash i None = tt
settles_first e hash i (Some s) = either_way (λ (steps : List SideStep). EachStep (IsOfFirst e hash) (on_side i steps)) (is_spoiled s.upload) (Drop ∷ []) [] (tt, tt) tt

pub first_meant : (sizes : Sizes) (d : AbstractDevice) (hash : List ℕ) (confirm : Bool) (front : List Step) (t : Step) (rest : List Step) → 0 < length hash
    → (does sizes d (meant.image_set (Some hash) confirm)).steps ≡ front ++ t ∷ rest → IsOfFirst (settle d) hash t
first_meant sizes d [] confirm front t rest some split = not_less some
first_meant sizes d (x ∷ xs) confirm front t rest some split =
    each_at (IsOfFirst (settle d) (x ∷ xs)) front t rest (subst (EachStep (IsOfFirst (settle d) (x ∷ xs))) split
    (either_way (λ (r : Response). EachStep (IsOfFirst (settle d) (x ∷ xs)) r.steps) (length (x ∷ xs) == 32) (settling d (sets_hash (x ∷ xs) confirm)) (refuses_image INVALID_DIGEST)
    (each_more (IsOfFirst (settle d) (x ∷ xs)) (settle_steps d) (sets_hash (x ∷ xs) confirm (settle d)).steps
    (each_more (IsOfFirst (settle d) (x ∷ xs)) (settle_steps_of 0 d) (settle_steps_of 1 d) (settles_first (settle d) (x ∷ xs) 0 (side_at 0 d)) (settles_first (settle d) (x ∷ xs) 1 (side_at 1 d)))
    (hash_first (x ∷ xs) confirm (settle d))) tt))
