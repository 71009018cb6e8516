-- The newest mail of a client, and how many there are.
use Rattle.std.proofs.Common.{◌≡◌, ◌+◌, ◌++◌, ◌==◌, if◌then◌else◌, ℕ, List, [], ◌∷◌, Bool, true, false, Option, Some, None, refl, ap, ◌∙◌, arith, eq-eqb}
use Rattle.std.proofs.lemmas.Bool.Decides.{nat_tests}
use Rattle.smp_world.specs.Runs.{Mail}
use Rattle.smp_world.specs.Deliveries.{later, newest, count_of}
use Rattle.smp_world.proofs.Cases.{if_true, if_false}

abbrev mine : ℕ → Mail → Option Mail
mine k x = if x.client == k then Some x else None

later_none : (o : Option Mail) → later o None ≡ o
later_none None = refl
later_none (Some p) = refl

newest_more : (k : ℕ) (ps : List Mail) (x : Mail) → newest k (ps ++ x ∷ []) ≡ later (mine k x) (newest k ps)
newest_more k [] x = by_own (mine k x)
  where
    by_own : (o : Option Mail) → later None o ≡ later o None
    by_own None = refl
    by_own (Some p) = refl
newest_more k (p ∷ ps) x = ap (λ (o : Option Mail). later o (mine k p)) (newest_more k ps x) ∙ by_own (mine k x) (newest k ps)
  where
    by_own : (o n : Option Mail) → later (later o n) (mine k p) ≡ later o (later n (mine k p))
    by_own None n = refl
    by_own (Some y) n = refl

pub newest_own : (k : ℕ) (ps : List Mail) (x : Mail) → x.client ≡ k → newest k (ps ++ x ∷ []) ≡ Some x
newest_own k ps x e = newest_more k ps x ∙ ap (λ (o : Option Mail). later o (newest k ps)) (if_true (λ (o : Option Mail). o ≡ Some x) (x.client == k) (Some x) None (eq-eqb x.client k e) refl)

not_equal : (a b : ℕ) → (a ≡ b → ⊥) → (a == b) ≡ false
not_equal a b n = by_test (a == b) refl
  where
    by_test : (t : Bool) → (a == b) ≡ t → t ≡ false
    by_test true e = absurd (n (grind (arith, nat_tests)))
    by_test false e = refl

pub newest_other : (k : ℕ) (ps : List Mail) (x : Mail) → (x.client ≡ k → ⊥) → newest k (ps ++ x ∷ []) ≡ newest k ps
newest_other k ps x n = newest_more k ps x ∙ ap (λ (o : Option Mail). later o (newest k ps)) (if_false (λ (o : Option Mail). o ≡ None) (x.client == k) (Some x) None (not_equal x.client k n) refl)

count_more : (k : ℕ) (ps : List Mail) (x : Mail) → count_of k (ps ++ x ∷ []) ≡ count_of k ps + (if x.client == k then 1 else 0)
count_more k [] x = omega arith
count_more k (p ∷ ps) x = let rest = count_more k ps x in omega (arith, rest)

pub count_own : (k : ℕ) (ps : List Mail) (x : Mail) → x.client ≡ k → count_of k (ps ++ x ∷ []) ≡ count_of k ps + 1
count_own k ps x e = count_more k ps x ∙ ap (λ (b : Bool). count_of k ps + (if b then 1 else 0)) (eq-eqb x.client k e)

pub count_other : (k : ℕ) (ps : List Mail) (x : Mail) → (x.client ≡ k → ⊥) → count_of k (ps ++ x ∷ []) ≡ count_of k ps
count_other k ps x n =
    let more = count_more k ps x ∙ ap (λ (b : Bool). count_of k ps + (if b then 1 else 0)) (not_equal x.client k n) in
    omega (arith, more)
