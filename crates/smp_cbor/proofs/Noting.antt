-- What is found of several keys in one walk over pairs.
use Rattle.std.proofs.Common.{◌≡◌, ℕ, zero, suc, ◌+◌, ◌-◌, ◌<◌, ◌≤◌, List, [], ◌∷◌, ◌++◌, Bool, true, false, ◌&&◌, cond, length, map, get_or, take, drop, set, Option, Some, None, Ok, Err, refl, sym, ◌∙◌, append_assoc, add-one, drop-cons, arith}
use Rattle.std.specs.Prelude.{is_some, IfSome, IfNone}
use Rattle.std.specs.Str.{bytes_eq}
use Rattle.std.proofs.lemmas.List.{take_more_set, drop-set-lt, length-map}
use Rattle.smp_cbor.specs.declared.fault.Stop.{Stop}
use Rattle.smp_cbor.specs.Skipping.{Skip, begins_break}
use Rattle.smp_cbor.specs.Values.{Value, key_at, pairs_from}
use Rattle.smp_cbor.specs.Views.{look_up, look_up_each, or_else, or_else_each, noted}

or_else_twice : (f : Option Value) (b : Bool) (v : Value) (o : Option Value) → or_else (or_else f (cond b (Some v) None)) o ≡ or_else f (cond b (Some v) o)
or_else_twice (Some x) b v o = refl
or_else_twice None true v o = refl
or_else_twice None false v o = refl

-- one more pair is noted, or is the first of those that are still looked at
pub note_pair : (key : List ℕ) (v : Value) (keys : List (List ℕ)) (found : List (Option Value)) (ps : List (List ℕ × Value))
    → or_else_each (noted key v keys found) (look_up_each keys ps) ≡ or_else_each found (look_up_each keys ((key, v) ∷ ps))
note_pair key v [] [] ps = refl
note_pair key v [] (f ∷ fs) ps = refl
note_pair key v (k ∷ ks) [] ps = refl
note_pair key v (k ∷ ks) (f ∷ fs) ps = rw (or_else_twice f (bytes_eq key k) v (look_up k ps), note_pair key v ks fs ps) refl

or_nothing : (f : Option Value) → or_else f None ≡ f
or_nothing (Some x) = refl
or_nothing None = refl

-- no pair is left
pub note_end : (keys : List (List ℕ)) (found : List (Option Value)) → length found ≡ length keys → or_else_each found (look_up_each keys []) ≡ found
note_end [] [] e = refl
note_end [] (f ∷ fs) e = absurd (omega arith)
note_end (k ∷ ks) [] e = absurd (omega arith)
note_end (k ∷ ks) (f ∷ fs) e = rw (or_nothing f, note_end ks fs (omega arith)) refl

-- the pair is noted in one more place
pub note_place : (key : List ℕ) (v : Value) (keys : List (List ℕ)) (found : List (Option Value)) (i : ℕ) (x : Option Value) → i < length keys → length found ≡ length keys
    → x ≡ or_else (get_or found i None) (cond (bytes_eq key (get_or keys i [])) (Some v) None)
    → take (i + 1) (set found i x) ++ noted key v (drop (i + 1) keys) (drop (i + 1) (set found i x)) ≡ take i found ++ noted key v (drop i keys) (drop i found)
note_place key v keys found i x lt len is =
    let within : i < length found = omega arith in
    let k : drop i keys ≡ get_or keys i [] ∷ drop (suc i) keys = drop-cons keys i [] lt in
    let f : drop i found ≡ get_or found i None ∷ drop (suc i) found = drop-cons found i None within in
    let kept : drop (i + 1) (set found i x) ≡ drop (i + 1) found = drop-set-lt (i + 1) found i x (omega arith) in
    rw (take_more_set found i x within, kept, k, f, is, add-one) (append_assoc (take i found) (or_else (get_or found i None) (cond (bytes_eq key (get_or keys i [])) (Some v) None) ∷ []) (noted key v (drop (suc i) keys) (drop (suc i) found)))

-- all was found, where no pair is left
pub note_done : (keys : List (List ℕ)) (found : List (Option Value)) (left : List (List ℕ × Value)) (all : List (Option Value)) → left ≡ [] → length found ≡ length keys
    → or_else_each found (look_up_each keys left) ≡ all → found ≡ all
note_done keys found left all none len same = sym (note_end keys found len) ∙ (rw none at same)

-- ---- where pairs end

module _ (ends : Bool) (skip : Skip) (one : List ℕ → Value) (n : ℕ) (b : List ℕ) where
  pub ended_by_break : (ends && begins_break b) ≡ true → pairs_from ends skip one n b ≡ []
  unfolding pairs_from
  ended_by_break here = elim n as (λ k. pairs_from ends skip one k b ≡ []) [ zero ↦ refl | suc k ↦ rw here refl ]

  pub ended_by_key : (s : Stop) → (ends && begins_break b) ≡ false → key_at b ≡ Err s → pairs_from ends skip one n b ≡ []
  unfolding pairs_from
  ended_by_key s goes stops = elim n as (λ k. pairs_from ends skip one k b ≡ []) [ zero ↦ refl | suc k ↦ rw (goes, stops) refl ]

pub ended_by_value : (ends : Bool) (skip : Skip) (one : List ℕ → Value) (n k : ℕ) (b key a : List ℕ) (s : Stop) → k < n → (ends && begins_break b) ≡ false → key_at b ≡ Ok (key, a) → skip a ≡ Err s
    → pairs_from ends skip one (n - k) b ≡ (key, one a) ∷ []
unfolding pairs_from
ended_by_value ends skip one n k b key a s lt goes found stops =
    let e : n - k ≡ suc (n - (k + 1)) = omega arith in
    rw (e, goes, found, stops) refl

pub ended_by_count : (ends : Bool) (skip : Skip) (one : List ℕ → Value) (n k : ℕ) (b : List ℕ) → n ≤ k → pairs_from ends skip one (n - k) b ≡ []
unfolding pairs_from
ended_by_count ends skip one n k b le = let e : n - k ≡ 0 = omega arith in rw e refl

-- a break was met, or not
pub met : {A : Type 0} (o : Option A) (test : Bool) (P : A → Type 0) → is_some o ≡ true → IfSome o (λ r. (test ≡ true) × P r) → test ≡ true
met (Some x) test P is h = h.0
met None test P is h = absurd cc

pub not_met : {A : Type 0} (o : Option A) (test : Bool) → is_some o ≡ false → IfNone o (test ≡ false) → test ≡ false
not_met (Some x) test is h = absurd cc
not_met None test is h = h

pub same_lengths : {A B C D : Type 0} (f : A → C) (g : B → D) (xs : List A) (ys : List B) → length xs ≡ length ys → length (map f xs) ≡ length (map g ys)
same_lengths f g xs ys e = simp length-map e
