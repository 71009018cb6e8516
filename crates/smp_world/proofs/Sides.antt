-- The sides of a device, and what lists of steps make of them.
use Rattle.std.proofs.Common.{◌≡◌, ◌⊎◌, inl, inr, ◌==◌, Bool, true, false, ℕ, zero, suc, List, [], ◌∷◌, ◌++◌, Option, Some, None, refl, sym, ap, subst, ◌∙◌, arith}
use Rattle.std.proofs.lemmas.Bool.Decides.{nat_tests}
use Rattle.std.specs.Prelude.{option_map}
use Rattle.smp_model.specs.declared.device.AbstractDevice.{AbstractDevice}
use Rattle.smp_model.specs.declared.device.Side.{Side}
use Rattle.smp_model.specs.Laws.{EachStep, Along}
use Rattle.smp_model.specs.Sides.{SideStep, side_apply, side_applied}
use Rattle.smp_model.specs.Steps.{Change, write_setting, delete_setting, load_settings, begin_file, append_file, aim_at, Step, OnSide, Save, side_at, with_side, apply, applied, changed, on_side}

-- a side after one of them changed
side_with : (i : ℕ) (f : Side → Side) (d : AbstractDevice) → side_at i (with_side i f d) ≡ option_map f (side_at i d)
side_with zero f d = refl
side_with (suc zero) f d = refl
side_with (suc (suc n)) f d = refl

pub side_other : (i j : ℕ) (f : Side → Side) (d : AbstractDevice) → (i ≡ j → ⊥) → side_at j (with_side i f d) ≡ side_at j d
side_other zero zero f d h = absurd (h refl)
side_other zero (suc zero) f d h = refl
side_other zero (suc (suc n)) f d h = refl
side_other (suc zero) zero f d h = refl
side_other (suc zero) (suc zero) f d h = absurd (h refl)
side_other (suc zero) (suc (suc n)) f d h = refl
side_other (suc (suc m)) j f d h = refl

pub found_with : (i : ℕ) (f : Side → Side) (d : AbstractDevice) (s : Side) → side_at i d ≡ Some s → side_at i (with_side i f d) ≡ Some (f s)
found_with i f d s h = side_with i f d ∙ ap (option_map f) h

-- changes of what a start forgets, and saves, leave the sides
same_sides : (i : ℕ) (d e : AbstractDevice) → e.first ≡ d.first → e.second ≡ d.second → side_at i e ≡ side_at i d
same_sides zero d e p q = ap Some p
same_sides (suc zero) d e p q = q
same_sides (suc (suc n)) d e p q = refl

pub side_changed : (i : ℕ) (c : Change) (d : AbstractDevice) → side_at i (changed c d) ≡ side_at i d
side_changed i (write_setting name val) d = same_sides i d (changed (write_setting name val) d) refl refl
side_changed i (delete_setting name) d = same_sides i d (changed (delete_setting name) d) refl refl
side_changed i load_settings d = same_sides i d (changed load_settings d) refl refl
side_changed i (begin_file name announced part) d = same_sides i d (changed (begin_file name announced part) d) refl refl
side_changed i (append_file name part) d = same_sides i d (changed (append_file name part) d) refl refl
side_changed i (aim_at image) d = same_sides i d (changed (aim_at image) d) refl refl

pub side_saved : (i : ℕ) (d : AbstractDevice) → side_at i (apply Save d) ≡ side_at i d
side_saved i d = same_sides i d (apply Save d) refl refl

-- the steps of one side
pub found_after : (i : ℕ) (steps : List SideStep) (d : AbstractDevice) (s : Side) → side_at i d ≡ Some s → side_at i (applied (on_side i steps) d) ≡ Some (side_applied steps s)
found_after i [] d s h = h
found_after i (t ∷ steps) d s h = found_after i steps (with_side i (side_apply t) d) (side_apply t s) (found_with i (side_apply t) d s h)

pub found_other : (i j : ℕ) (steps : List SideStep) (d : AbstractDevice) → (i ≡ j → ⊥) → side_at j (applied (on_side i steps) d) ≡ side_at j d
found_other i j [] d h = refl
found_other i j (t ∷ steps) d h = found_other i j steps (with_side i (side_apply t) d) h ∙ side_other i j (side_apply t) d h

-- lists of steps
pub applied_more : (a b : List Step) (d : AbstractDevice) → applied (a ++ b) d ≡ applied b (applied a d)
applied_more [] b d = refl
applied_more (t ∷ a) b d = applied_more a b (apply t d)

pub along_more : (P : AbstractDevice → Step → Type 0) (a b : List Step) (d : AbstractDevice) → Along P d a → Along P (applied a d) b → Along P d (a ++ b)
along_more P [] b d h k = k
along_more P (t ∷ a) b d h k = (h.0, along_more P a b (apply t d) h.1 k)

pub along_front : (P : AbstractDevice → Step → Type 0) (a b : List Step) (d : AbstractDevice) → Along P d (a ++ b) → Along P d a
along_front P [] b d h = tt
along_front P (t ∷ a) b d h = (h.0, along_front P a b (apply t d) h.1)

pub each_along : (P : AbstractDevice → Step → Type 0) (Q : Step → Type 0) (steps : List Step) (d : AbstractDevice) → ((e : AbstractDevice) (t : Step) → P e t → Q t) → Along P d steps → EachStep Q steps
each_along P Q [] d f h = tt
each_along P Q (t ∷ steps) d f h = (f d t h.0, each_along P Q steps (apply t d) f h.1)

-- a fact of each step, from what it is behind each front
pub along_fronts : (P : AbstractDevice → Step → Type 0) (steps : List Step) (d : AbstractDevice)
    → ((front : List Step) (t : Step) (rest : List Step) → steps ≡ front ++ t ∷ rest → P (applied front d) t) → Along P d steps
along_fronts P [] d f = tt
along_fronts P (t ∷ steps) d f = (f [] t steps refl, along_fronts P steps (apply t d) (λ front u rest e. f (t ∷ front) u rest (ap (λ (x : List Step). t ∷ x) e)))

-- a fact of the device that each step keeps
pub kept_along : (P : AbstractDevice → Step → Type 0) (Q : AbstractDevice → Type 0) (steps : List Step) (d : AbstractDevice)
    → ((e : AbstractDevice) (t : Step) → P e t → Q e → Q (apply t e)) → Along P d steps → Q d → Q (applied steps d)
kept_along P Q [] d f h q = q
kept_along P Q (t ∷ steps) d f h q = kept_along P Q steps (apply t d) f h.1 (f d t h.0 q)

-- a fact of each step of a side and the side that it finds
abbrev pub SideAlong : (SideStep → Side → Type 0) → Side → List SideStep → Type 0
SideAlong P s [] = Unit {0}
SideAlong P s (t ∷ steps) = P t s × SideAlong P (side_apply t s) steps

pub lifted : (P : AbstractDevice → Step → Type 0) (Q : SideStep → Side → Type 0) (i : ℕ)
    → ((d : AbstractDevice) (s : Side) (t : SideStep) → side_at i d ≡ Some s → Q t s → P d (OnSide i t))
    → (steps : List SideStep) (d : AbstractDevice) (s : Side) → side_at i d ≡ Some s → SideAlong Q s steps → Along P d (on_side i steps)
lifted P Q i f [] d s h a = tt
lifted P Q i f (t ∷ steps) d s h a = (f d s t h a.0, lifted P Q i f steps (with_side i (side_apply t) d) (side_apply t s) (found_with i (side_apply t) d s h) a.1)

-- the same image, or another
pub same_or_other : (i j : ℕ) → (i ≡ j) ⊎ (i ≡ j → ⊥)
same_or_other i j = by_test (i == j) refl
  where
    by_test : (b : Bool) → (i == j) ≡ b → (i ≡ j) ⊎ (i ≡ j → ⊥)
    by_test true e = inl (grind (arith, nat_tests, e))
    by_test false e = inr (λ f. grind (arith, nat_tests, e, f))

-- one side that is found twice
pub the_same : (s t : Side) (o : Option Side) → o ≡ Some s → o ≡ Some t → t ≡ s
the_same s t o e f = cc

-- a fact of each side that a change of one keeps, with the image in view
pub side_step : (Q : ℕ → Side → Type 0) (i : ℕ) (f : Side → Side) (d : AbstractDevice) → ((s : Side) → side_at i d ≡ Some s → Q i (f s))
    → ((j : ℕ) (s : Side) → side_at j d ≡ Some s → Q j s) → (j : ℕ) (s : Side) → side_at j (with_side i f d) ≡ Some s → Q j s
side_step Q i f d new old j s e = elim (same_or_other i j) [
  | inl k ↦ subst (λ n. Q n s) k (changed_side (side_at i d) refl (subst (λ n. side_at n (with_side i f d) ≡ Some s) (sym k) e))
  | inr k ↦ old j s (sym (side_other i j f d k) ∙ e)
]
  where
    changed_side : (o : Option Side) → side_at i d ≡ o → side_at i (with_side i f d) ≡ Some s → Q i s
    changed_side None g h = absurd (nothing (sym (ap (option_map f) g) ∙ (sym (side_with i f d) ∙ h)))
      where
        nothing : None ≡ Some s → ⊥
        nothing n = cc
    changed_side (Some t) g h = subst (Q i) (sym (the_same (f t) s (side_at i (with_side i f d)) (found_with i f d t g) h)) (new t g)
