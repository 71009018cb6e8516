-- Lists side by side.
use Rattle.std.proofs.Common.{◌≡◌, ◌⊎◌, inl, inr, ◌≤◌, ◌<◌, ℕ, zero, suc, List, [], ◌∷◌, ◌++◌, length, Some, None, refl, ap, subst, arith}
use Rattle.std.specs.Prelude.{slice_get, slice_index_or, slice_set}
use Rattle.smp_world.specs.Clients.{Pairs}
use Rattle.smp_world.specs.Runs.{nth, with_nth}
use Rattle.smp_world.proofs.Numbered.{some_same}

none_below : (n : ℕ) → n < 0 → ⊥
none_below n l = omega (arith, l)

pub pairs_length : {A B : Type 0} (P : A → B → Type 0) (xs : List A) (ys : List B) → Pairs P xs ys → length ys ≡ length xs
pairs_length P [] [] h = refl
pairs_length P [] (y ∷ ys) h = absurd h
pairs_length P (x ∷ xs) [] h = absurd h
pairs_length P (x ∷ xs) (y ∷ ys) h = ap suc (pairs_length P xs ys h.1)

-- the one at the same place
pub pair_at : {A B : Type 0} (P : A → B → Type 0) (xs : List A) (ys : List B) → Pairs P xs ys → (i : ℕ) → i < length xs → (d : A) → (y : B) × ((slice_get ys i ≡ Some y) × P (slice_index_or xs i d) y)
pair_at P [] [] h i few d = absurd (none_below i few)
pair_at P [] (y ∷ ys) h i few d = absurd h
pair_at P (x ∷ xs) [] h i few d = absurd h
pair_at P (x ∷ xs) (y ∷ ys) h zero few d = (y, (refl, h.0))
pair_at P (x ∷ xs) (y ∷ ys) h (suc i) few d = pair_at P xs ys h.1 i (omega (arith, few)) d

pub none_past : {A B : Type 0} (P : A → B → Type 0) (xs : List A) (ys : List B) → Pairs P xs ys → (i : ℕ) → length xs ≤ i → slice_get ys i ≡ None
none_past P [] [] h i past = refl
none_past P [] (y ∷ ys) h i past = absurd h
none_past P (x ∷ xs) [] h i past = absurd h
none_past P (x ∷ xs) (y ∷ ys) h zero past = absurd (none_below (length xs) past)
none_past P (x ∷ xs) (y ∷ ys) h (suc i) past = none_past P xs ys h.1 i (omega (arith, past))

pub pairs_set : {A B : Type 0} (P : A → B → Type 0) (xs : List A) (ys : List B) → Pairs P xs ys → (i : ℕ) (x : A) (y : B) → P x y → Pairs P (slice_set xs i x) (slice_set ys i y)
pairs_set P [] [] h i x y p = h
pairs_set P [] (z ∷ ys) h i x y p = absurd h
pairs_set P (z ∷ xs) [] h i x y p = absurd h
pairs_set P (w ∷ xs) (z ∷ ys) h zero x y p = (p, h.1)
pairs_set P (w ∷ xs) (z ∷ ys) h (suc i) x y p = (h.0, pairs_set P xs ys h.1 i x y p)

pub pairs_push : {A B : Type 0} (P : A → B → Type 0) (xs : List A) (ys : List B) → Pairs P xs ys → (x : A) (y : B) → P x y → Pairs P (xs ++ x ∷ []) (ys ++ y ∷ [])
pairs_push P [] [] h x y p = (p, tt)
pairs_push P [] (z ∷ ys) h x y p = absurd h
pairs_push P (z ∷ xs) [] h x y p = absurd h
pairs_push P (w ∷ xs) (z ∷ ys) h x y p = (h.0, pairs_push P xs ys h.1 x y p)

-- there is none of this number
pub none_at : {A B : Type 0} (P : A → B → Type 0) (n : ℕ) (xs : List A) (ys : List B) → Pairs P xs ys → (n ≡ 0) ⊎ (length xs < n) → nth ys n ≡ None
none_at P zero xs ys h none = refl
none_at P (suc n) xs ys h (inl e) = cc e
none_at P (suc n) xs ys h (inr past) = none_past P xs ys h n (omega (arith, past))

-- the one beside it
pub pair_of : {A B : Type 0} (P : A → B → Type 0) (xs : List A) (ys : List B) → Pairs P xs ys → (i : ℕ) (y : B) → slice_get ys i ≡ Some y → (x : A) × (((d : A) → slice_index_or xs i d ≡ x) × P x y)
pair_of P [] [] h i y e = cc e
pair_of P [] (z ∷ ys) h i y e = absurd h
pair_of P (x ∷ xs) [] h i y e = absurd h
pair_of P (x ∷ xs) (z ∷ ys) h zero y e = (x, ((λ d. refl), subst (P x) (some_same z y e) h.0))
pair_of P (x ∷ xs) (z ∷ ys) h (suc i) y e = pair_of P xs ys h.1 i y e

-- the one that was put
pub set_there : {X : Type 0} (xs : List X) (n : ℕ) (x y : X) → nth xs n ≡ Some y → nth (with_nth xs n x) n ≡ Some x
set_there xs zero x y e = cc e
set_there xs (suc n) x y e = by_place xs n x y e
  where
    by_place : {X : Type 0} (xs : List X) (n : ℕ) (x y : X) → slice_get xs n ≡ Some y → slice_get (slice_set xs n x) n ≡ Some x
    by_place [] n x y e = cc e
    by_place (z ∷ xs) zero x y e = refl
    by_place (z ∷ xs) (suc n) x y e = by_place xs n x y e
