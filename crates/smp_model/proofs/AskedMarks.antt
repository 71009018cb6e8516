-- A request for a mark or a confirmation that is answered with the list has done what it asks for.
use Rattle.std.proofs.Common.{◌≡◌, ◌<◌, ◌==◌, inl, inr, ℕ, List, [], ◌∷◌, length, Bool, true, false, Option, Some, None, refl, sym, ap, subst, ◌∙◌, arith, if◌then◌else◌}
use Rattle.std.specs.Prelude.{Ok, Err}
use Rattle.smp_model.specs.declared.device.AbstractDevice.{AbstractDevice}
use Rattle.smp_model.specs.declared.device.Side.{Side}
use Rattle.smp_model.specs.declared.device.Sizes.{Sizes}
use Rattle.smp_model.specs.declared.error.TheConstants.{ALREADY_PENDING, HASH_NOT_FOUND, INVALID_DIGEST}
use Rattle.smp_model.specs.declared.upload.Mark.{Mark}
use Rattle.smp_model.specs.declared.upload.Mark.TheVariants.{Test, Permanent}
use Rattle.smp_model.specs.Does.{does}
use Rattle.smp_model.specs.ImageGroup.{confirms, confirms_on, holds, lists_with, mark_of, marks, marks_on, refuses_image, runs, same_mark, sets_hash, sets_image}
use Rattle.smp_model.specs.Laws.{IsSetOn}
use Rattle.smp_model.specs.Meant as meant
use Rattle.smp_model.specs.Response.{Response, settling}
use Rattle.smp_model.specs.Said.{is_error}
use Rattle.smp_model.specs.Sides.{Confirm, MarkPending}
use Rattle.smp_model.specs.Steps.{side_at, applied, settle, settle_steps}
use Rattle.smp_model.proofs.Cases.{by_if}
use Rattle.smp_model.proofs.OnSides.{applied_more, found_after}

-- what is so of the device that a response leaves, where it is no error
abbrev Sets : List ℕ → Bool → AbstractDevice → Response → Type 0
Sets hash confirm e r = is_error r.reply ≡ false → IsSetOn hash confirm (applied r.steps e)

no_error : true ≡ false → {A : Type 0} → A
no_error h = cc

same_is : (a b : Mark) → same_mark a b ≡ true → a ≡ b
same_is Test Test e = refl
same_is Test Permanent e = cc
same_is Permanent Test e = cc
same_is Permanent Permanent e = refl

refused_sets : (hash : List ℕ) (confirm : Bool) (e : AbstractDevice) (number : ℕ) → Sets hash confirm e (refuses_image number)
refused_sets hash confirm e number h = no_error h

confirms_on_sets : (hash : List ℕ) (confirm : Bool) (i : ℕ) (e : AbstractDevice) (o : Option Side) → side_at i e ≡ o → runs hash o ≡ true → Sets hash confirm e (confirms_on i confirm o e)
confirms_on_sets hash confirm i e None found r = refused_sets hash confirm e HASH_NOT_FOUND
confirms_on_sets hash confirm i e (Some s) found r = go confirm s.confirmed refl
  where
    go : (c b : Bool) → s.confirmed ≡ b → Sets hash c e (lists_with i (confirms c b) e)
    go true true f h = record { image = i; side = s; found = found; fact = inl (r, (refl, f)) }
    go true false f h = record { image = i; side = record s { confirmed = true }; found = found_after i (Confirm ∷ []) e s found; fact = inl (r, (refl, refl)) }
    go false b f h = no_error h

marks_on_sets : (hash : List ℕ) (confirm : Bool) (i : ℕ) (e : AbstractDevice) (o : Option Side) → side_at i e ≡ o → holds hash o ≡ true → Sets hash confirm e (marks_on i confirm o e)
marks_on_sets hash confirm i e None found r = refused_sets hash confirm e HASH_NOT_FOUND
marks_on_sets hash confirm i e (Some s) found r = go s.pending refl
  where
    either : (m : Mark) → s.pending ≡ Some m → (b : Bool) → same_mark m (mark_of confirm) ≡ b → Sets hash confirm e (lists_with i (if b then Ok [] else Err ALREADY_PENDING) e)
    either m p true f h = record { image = i; side = s; found = found; fact = inr (r, p ∙ ap Some (same_is m (mark_of confirm) f)) }
    either m p false f h = no_error h

    go : (p : Option Mark) → s.pending ≡ p → Sets hash confirm e (lists_with i (marks (mark_of confirm) p) e)
    go None f = λ h. record { image = i; side = record s { pending = Some (mark_of confirm) }; found = found_after i (MarkPending (mark_of confirm) ∷ []) e s found; fact = inr (r, refl) }
    go (Some m) f = either m f (same_mark m (mark_of confirm)) refl

hash_sets : (hash : List ℕ) (confirm : Bool) (e : AbstractDevice) → Sets hash confirm e (sets_hash hash confirm e)
hash_sets hash confirm e =
    by_if Sets' (runs hash (side_at 0 e)) _ _ (λ r. confirms_on_sets hash confirm 0 e (side_at 0 e) refl r)
    (λ _. by_if Sets' (runs hash (side_at 1 e)) _ _ (λ r. confirms_on_sets hash confirm 1 e (side_at 1 e) refl r)
    (λ _. by_if Sets' (holds hash (side_at 0 e)) _ _ (λ r. marks_on_sets hash confirm 0 e (side_at 0 e) refl r)
    (λ _. by_if Sets' (holds hash (side_at 1 e)) _ (refuses_image HASH_NOT_FOUND) (λ r. marks_on_sets hash confirm 1 e (side_at 1 e) refl r)
    (λ _. refused_sets hash confirm e HASH_NOT_FOUND))))
  where
    Sets' : Response → Type 0
    Sets' r = Sets hash confirm e r

settled_sets : (hash : List ℕ) (confirm : Bool) (d : AbstractDevice) (response : AbstractDevice → Response) → Sets hash confirm (settle d) (response (settle d)) → Sets hash confirm d (settling d response)
settled_sets hash confirm d response h e = subst (IsSetOn hash confirm) (sym (applied_more (settle_steps d) (response (settle d)).steps d)) (h e)

pub asked_is_set : (sizes : Sizes) (d : AbstractDevice) (hash : List ℕ) (confirm : Bool) → 0 < length hash → Sets hash confirm d (sets_image d (Some hash) confirm)
asked_is_set sizes d [] confirm some = absurd (omega arith)
asked_is_set sizes d (x ∷ xs) confirm some =
    by_if (Sets (x ∷ xs) confirm d) (length (x ∷ xs) == 32) (settling d (sets_hash (x ∷ xs) confirm)) (refuses_image INVALID_DIGEST)
    (λ _. settled_sets (x ∷ xs) confirm d (sets_hash (x ∷ xs) confirm) (hash_sets (x ∷ xs) confirm (settle d))) (λ _. refused_sets (x ∷ xs) confirm d INVALID_DIGEST)

-- without a hash image 0 is confirmed
first_confirmed : (e : AbstractDevice) (b : Bool) → e.first.confirmed ≡ b → (applied (lists_with 0 (confirms true b) e).steps e).first.confirmed ≡ true
first_confirmed e true f = f
first_confirmed e false f = refl

pub none_confirms : (sizes : Sizes) (d : AbstractDevice) → (applied (does sizes d (meant.image_set None true)).steps d).first.confirmed ≡ true
none_confirms sizes d =
    ap (λ (e : AbstractDevice). e.first.confirmed) (applied_more (settle_steps d) (confirms_on 0 true (side_at 0 (settle d)) (settle d)).steps d)
    ∙ first_confirmed (settle d) (settle d).first.confirmed refl
