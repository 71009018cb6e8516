-- Things in ascending order of their names: what is placed among them or taken away, and where it stands.
use Rattle.std.proofs.Common.{◌≡◌, ◌≤◌, ◌+◌, ◌&&◌, not, ℕ, suc, List, [], ◌∷◌, ◌++◌, length, Bool, true, false, Some, None, refl, sym, ap, subst, ◌∙◌, arith, length-append, if◌then◌else◌}
use Rattle.std.specs.Prelude.{find, filter, flat_map}
use Rattle.std.specs.List.{list_all}
use Rattle.std.specs.Cmp.Lexicographic.{slice_cmp}
use Rattle.std.proofs.Common.{Ordering, Less, Equal, Greater}
use Rattle.std.specs.Ordering.{is_lt, is_eq, nat_cmp, ordering_reverse}
use Rattle.std.specs.Str.{bytes_eq}
use Rattle.std.proofs.lemmas.Cmp.{nat_list_cmp_total}
use Rattle.std.proofs.lemmas.Map.Text.{is_eq-slice_cmp}
use Rattle.std.proofs.lemmas.List.Folds.{list_all-append}
use Rattle.std.proofs.lemmas.List.Elements.{filter-append}
use Rattle.std.proofs.lemmas.List.{append-nil}
use Rattle.std.proofs.lemmas.Slice.Eq.{bytes_eq-Decides}
use Rattle.smp_model.specs.Named.{comes_before, named, placed, without, is_ascending}

-- a fact about a choice, from what it is in each case
pub by_if : {A : Type 0} (P : A → Type 0) (b : Bool) (x y : A) → (b ≡ true → P x) → (b ≡ false → P y) → P (if b then x else y)
by_if P true x y yes' no' = yes' refl
by_if P false x y yes' no' = no' refl

-- two tests
pub left_of : (a b : Bool) → (a && b) ≡ true → a ≡ true
left_of true b h = refl
left_of false b h = cc

pub right_of : (a b : Bool) → (a && b) ≡ true → b ≡ true
right_of true b h = h
right_of false b h = cc

pub both_of : (a b : Bool) → a ≡ true → b ≡ true → (a && b) ≡ true
both_of true b h k = k
both_of false b h k = cc

-- the order of names
lt_less : (o : Ordering) → is_lt o ≡ true → o ≡ Less
lt_less Less h = refl
lt_less Equal h = cc
lt_less Greater h = cc

eq_equal : (o : Ordering) → is_eq o ≡ true → o ≡ Equal
eq_equal Less h = cc
eq_equal Equal h = refl
eq_equal Greater h = cc

pub before_trans : (a b c : List ℕ) → comes_before a b ≡ true → comes_before b c ≡ true → comes_before a c ≡ true
before_trans a b c h k =
    ap is_lt (nat_list_cmp_total.trans a b c (lt_less (slice_cmp nat_cmp a b) h) (lt_less (slice_cmp nat_cmp b c) k))

pub before_not_after : (a b : List ℕ) → comes_before a b ≡ true → comes_before b a ≡ false
before_not_after a b h =
    ap is_lt (nat_list_cmp_total.antisymm b a ∙ ap ordering_reverse (lt_less (slice_cmp nat_cmp a b) h))

pub same_not_before : (a b : List ℕ) → bytes_eq a b ≡ true → comes_before a b ≡ false
same_not_before a b h = ap is_lt (eq_equal (slice_cmp nat_cmp a b) (is_eq-slice_cmp a b ∙ h))

pub same_not_after : (a b : List ℕ) → bytes_eq a b ≡ true → comes_before b a ≡ false
same_not_after a b h =
    ap is_lt (nat_list_cmp_total.antisymm b a ∙ ap ordering_reverse (eq_equal (slice_cmp nat_cmp a b) (is_eq-slice_cmp a b ∙ h)))

-- what holds of all holds of those that are left
all_filter : {A : Type 0} (p q : A → Bool) (xs : List A) → list_all p xs ≡ true → list_all p (filter q xs) ≡ true
all_filter p q [] h = refl
all_filter p q (x ∷ xs) h =
    by_if (λ ys. list_all p ys ≡ true) (q x) (x ∷ filter q xs) (filter q xs)
    (λ _. both_of (p x) (list_all p (filter q xs)) (left_of (p x) (list_all p xs) h) (all_filter p q xs (right_of (p x) (list_all p xs) h)))
    (λ _. all_filter p q xs (right_of (p x) (list_all p xs) h))

pub all_pass : {A : Type 0} (q : A → Bool) (xs : List A) → list_all q (filter q xs) ≡ true
all_pass q [] = refl
all_pass q (x ∷ xs) =
    by_if (λ ys. list_all q ys ≡ true) (q x) (x ∷ filter q xs) (filter q xs)
    (λ e. both_of (q x) (list_all q (filter q xs)) e (all_pass q xs)) (λ _. all_pass q xs)

pub all_weaker : {A : Type 0} (p q : A → Bool) → ((x : A) → p x ≡ true → q x ≡ true) → (xs : List A) → list_all p xs ≡ true → list_all q xs ≡ true
all_weaker p q w [] h = refl
all_weaker p q w (x ∷ xs) h =
    both_of (q x) (list_all q xs) (w x (left_of (p x) (list_all p xs) h)) (all_weaker p q w xs (right_of (p x) (list_all p xs) h))

pub all_more : {A : Type 0} (p : A → Bool) (xs ys : List A) → list_all p xs ≡ true → list_all p ys ≡ true → list_all p (xs ++ ys) ≡ true
all_more p xs ys h k = list_all-append p xs ys ∙ both_of (list_all p xs) (list_all p ys) h k

-- the order
ascending_filter : {A : Type 0} (name_of : A → List ℕ) (q : A → Bool) (xs : List A) → is_ascending name_of xs ≡ true → is_ascending name_of (filter q xs) ≡ true
ascending_filter name_of q [] h = refl
ascending_filter name_of q (x ∷ xs) h =
    by_if (λ ys. is_ascending name_of ys ≡ true) (q x) (x ∷ filter q xs) (filter q xs)
    (λ _. both_of (list_all (λ y. comes_before (name_of x) (name_of y)) (filter q xs)) (is_ascending name_of (filter q xs))
    (all_filter (λ y. comes_before (name_of x) (name_of y)) q xs (left_of _ (is_ascending name_of xs) h))
    (ascending_filter name_of q xs (right_of _ (is_ascending name_of xs) h)))
    (λ _. ascending_filter name_of q xs (right_of _ (is_ascending name_of xs) h))

pub ascending_seam : {A : Type 0} (name_of : A → List ℕ) (s : A) (xs ys : List A)
    → list_all (λ x. comes_before (name_of x) (name_of s)) xs ≡ true → is_ascending name_of xs ≡ true
    → list_all (λ y. comes_before (name_of s) (name_of y)) ys ≡ true → is_ascending name_of ys ≡ true
    → is_ascending name_of (xs ++ s ∷ ys) ≡ true
ascending_seam name_of s [] ys h a k b = both_of (list_all (λ y. comes_before (name_of s) (name_of y)) ys) (is_ascending name_of ys) k b
ascending_seam name_of s (x ∷ xs) ys h a k b =
    let first = left_of (comes_before (name_of x) (name_of s)) (list_all (λ z. comes_before (name_of z) (name_of s)) xs) h in
    let others = right_of (comes_before (name_of x) (name_of s)) (list_all (λ z. comes_before (name_of z) (name_of s)) xs) h in
    let ahead = left_of (list_all (λ y. comes_before (name_of x) (name_of y)) xs) (is_ascending name_of xs) a in
    let rest = right_of (list_all (λ y. comes_before (name_of x) (name_of y)) xs) (is_ascending name_of xs) a in
    both_of (list_all (λ y. comes_before (name_of x) (name_of y)) (xs ++ s ∷ ys)) (is_ascending name_of (xs ++ s ∷ ys))
    (all_more (λ y. comes_before (name_of x) (name_of y)) xs (s ∷ ys) ahead
    (both_of (comes_before (name_of x) (name_of s)) (list_all (λ y. comes_before (name_of x) (name_of y)) ys) first
    (all_weaker (λ y. comes_before (name_of s) (name_of y)) (λ y. comes_before (name_of x) (name_of y))
    (λ y e. before_trans (name_of x) (name_of s) (name_of y) first e) ys k)))
    (ascending_seam name_of s xs ys others rest k b)

pub placed_ascending : {A : Type 0} (name_of : A → List ℕ) (s : A) (xs : List A) → is_ascending name_of xs ≡ true → is_ascending name_of (placed name_of s xs) ≡ true
placed_ascending name_of s xs h =
    ascending_seam name_of s (filter (λ x. comes_before (name_of x) (name_of s)) xs) (filter (λ y. comes_before (name_of s) (name_of y)) xs)
    (all_pass (λ x. comes_before (name_of x) (name_of s)) xs) (ascending_filter name_of (λ x. comes_before (name_of x) (name_of s)) xs h)
    (all_pass (λ y. comes_before (name_of s) (name_of y)) xs) (ascending_filter name_of (λ y. comes_before (name_of s) (name_of y)) xs h)

pub placed_all : {A : Type 0} (name_of : A → List ℕ) (p : A → Bool) (s : A) (xs : List A) → p s ≡ true → list_all p xs ≡ true → list_all p (placed name_of s xs) ≡ true
placed_all name_of p s xs h k =
    all_more p (filter (λ x. comes_before (name_of x) (name_of s)) xs) _ (all_filter p (λ x. comes_before (name_of x) (name_of s)) xs k)
    (both_of (p s) (list_all p (filter (λ y. comes_before (name_of s) (name_of y)) xs)) h (all_filter p (λ y. comes_before (name_of s) (name_of y)) xs k))

-- the count
counts : {A : Type 0} (p q : A → Bool) → ((x : A) → p x ≡ true → q x ≡ false) → (xs : List A) → length (filter p xs) + length (filter q xs) ≤ length xs
counts p q apart [] = omega arith
counts p q apart (x ∷ xs) = go (p x) (q x) refl refl (counts p q apart xs)
  where
    go : (b c : Bool) → p x ≡ b → q x ≡ c → length (filter p xs) + length (filter q xs) ≤ length xs
        → length (if b then x ∷ filter p xs else filter p xs) + length (if c then x ∷ filter q xs else filter q xs) ≤ suc (length xs)
    go true true e f h = absurd (not_both (q x) f (apart x e))
      where
        not_both : (b : Bool) → b ≡ true → b ≡ false → ⊥
        not_both b e f = cc
    go true false e f h = omega (arith, h)
    go false true e f h = omega (arith, h)
    go false false e f h = omega (arith, h)

-- one fewer where one of them passes neither test
counts_found : {A : Type 0} (p q f : A → Bool) → ((x : A) → p x ≡ true → q x ≡ false) → ((x : A) → f x ≡ true → (p x ≡ false) × (q x ≡ false)) → (xs : List A) (y : A)
    → find f xs ≡ Some y → length (filter p xs) + length (filter q xs) + 1 ≤ length xs
counts_found p q f apart neither [] y e = cc
counts_found p q f apart neither (x ∷ xs) y e = go (f x) refl e (counts p q apart xs) (counts_found p q f apart neither xs y)
  where
    found : (b c : Bool) → b ≡ false → c ≡ false → length (filter p xs) + length (filter q xs) ≤ length xs
        → length (if b then x ∷ filter p xs else filter p xs) + length (if c then x ∷ filter q xs else filter q xs) + 1 ≤ suc (length xs)
    found true c e f h = cc
    found false true e f h = cc
    found false false e f h = omega (arith, h)

    further : (b c : Bool) → (b ≡ true → c ≡ false) → length (filter p xs) + length (filter q xs) + 1 ≤ length xs
        → length (if b then x ∷ filter p xs else filter p xs) + length (if c then x ∷ filter q xs else filter q xs) + 1 ≤ suc (length xs)
    further true true e h = absurd (clash (e refl))
      where
        clash : true ≡ false → ⊥
        clash e = cc
    further true false e h = omega (arith, h)
    further false true e h = omega (arith, h)
    further false false e h = omega (arith, h)

    go : (b : Bool) → f x ≡ b → (if b then Some x else find f xs) ≡ Some y → length (filter p xs) + length (filter q xs) ≤ length xs
        → (find f xs ≡ Some y → length (filter p xs) + length (filter q xs) + 1 ≤ length xs)
        → length (filter p (x ∷ xs)) + length (filter q (x ∷ xs)) + 1 ≤ suc (length xs)
    go true g k h less = found (p x) (q x) (neither x g).0 (neither x g).1 h
    go false g k h less = further (p x) (q x) (apart x) (less k)

-- what is placed is one more, or takes the place of the one with its name
pub placed_count : {A : Type 0} (name_of : A → List ℕ) (s : A) (xs : List A) → length (placed name_of s xs) ≤ length xs + 1
placed_count name_of s xs =
    let two = counts (λ x. comes_before (name_of x) (name_of s)) (λ x. comes_before (name_of s) (name_of x))
    (λ x e. before_not_after (name_of x) (name_of s) e) xs in
    omega (arith, two, length-append (filter (λ x. comes_before (name_of x) (name_of s)) xs) (s ∷ filter (λ x. comes_before (name_of s) (name_of x)) xs))

pub placed_again : {A : Type 0} (name_of : A → List ℕ) (s : A) (xs : List A) (y : A) → named name_of (name_of s) xs ≡ Some y → length (placed name_of s xs) ≤ length xs
placed_again name_of s xs y e =
    let two = counts_found (λ x. comes_before (name_of x) (name_of s)) (λ x. comes_before (name_of s) (name_of x)) (λ x. bytes_eq (name_of x) (name_of s))
    (λ x f. before_not_after (name_of x) (name_of s) f)
    (λ x f. (same_not_before (name_of x) (name_of s) f, same_not_after (name_of x) (name_of s) f)) xs y e in
    omega (arith, two, length-append (filter (λ x. comes_before (name_of x) (name_of s)) xs) (s ∷ filter (λ x. comes_before (name_of s) (name_of x)) xs))

-- without one
pub without_ascending : {A : Type 0} (name_of : A → List ℕ) (name : List ℕ) (xs : List A) → is_ascending name_of xs ≡ true → is_ascending name_of (without name_of name xs) ≡ true
without_ascending name_of name xs h = ascending_filter name_of (λ x. not (bytes_eq (name_of x) name)) xs h

pub without_all : {A : Type 0} (name_of : A → List ℕ) (p : A → Bool) (name : List ℕ) (xs : List A) → list_all p xs ≡ true → list_all p (without name_of name xs) ≡ true
without_all name_of p name xs h = all_filter p (λ x. not (bytes_eq (name_of x) name)) xs h

fewer : {A : Type 0} (q : A → Bool) (xs : List A) → length (filter q xs) ≤ length xs
fewer q [] = omega arith
fewer q (x ∷ xs) = go (q x) (fewer q xs)
  where
    go : (b : Bool) → length (filter q xs) ≤ length xs → length (if b then x ∷ filter q xs else filter q xs) ≤ suc (length xs)
    go true h = omega (arith, h)
    go false h = omega (arith, h)

pub without_count : {A : Type 0} (name_of : A → List ℕ) (name : List ℕ) (xs : List A) → length (without name_of name xs) ≤ length xs
without_count name_of name xs = fewer (λ x. not (bytes_eq (name_of x) name)) xs

shorter : {A : Type 0} (f : A → List ℕ) (q : A → Bool) (xs : List A) → length (flat_map f (filter q xs)) ≤ length (flat_map f xs)
shorter f q [] = omega arith
shorter f q (x ∷ xs) = go (q x) (shorter f q xs)
  where
    go : (b : Bool) → length (flat_map f (filter q xs)) ≤ length (flat_map f xs) → length (flat_map f (if b then x ∷ filter q xs else filter q xs)) ≤ length (f x ++ flat_map f xs)
    go true h = omega (arith, h, length-append (f x) (flat_map f xs), length-append (f x) (flat_map f (filter q xs)))
    go false h = omega (arith, h, length-append (f x) (flat_map f xs))

pub without_shorter : {A : Type 0} (name_of : A → List ℕ) (f : A → List ℕ) (name : List ℕ) (xs : List A) → length (flat_map f (without name_of name xs)) ≤ length (flat_map f xs)
without_shorter name_of f name xs = shorter f (λ x. not (bytes_eq (name_of x) name)) xs

-- the order is total
neither_same : (o : Ordering) → is_lt o ≡ false → is_eq o ≡ false → o ≡ Greater
neither_same Less h k = cc
neither_same Equal h k = cc
neither_same Greater h k = refl

pub not_before_after : (a b : List ℕ) → comes_before a b ≡ false → bytes_eq a b ≡ false → comes_before b a ≡ true
not_before_after a b h k =
    ap is_lt (nat_list_cmp_total.antisymm b a ∙ ap ordering_reverse (neither_same (slice_cmp nat_cmp a b) h (is_eq-slice_cmp a b ∙ k)))

not_true : (b : Bool) → not b ≡ true → b ≡ false
not_true true h = cc
not_true false h = refl

not_false : (b : Bool) → b ≡ false → not b ≡ true
not_false true h = cc
not_false false h = refl

-- what passes whole, and what not at all
pub filter_all : {A : Type 0} (p : A → Bool) (xs : List A) → list_all p xs ≡ true → filter p xs ≡ xs
filter_all p [] h = refl
filter_all p (x ∷ xs) h =
    by_if (λ ys. ys ≡ x ∷ xs) (p x) (x ∷ filter p xs) (filter p xs)
    (λ _. ap (λ ys. x ∷ ys) (filter_all p xs (right_of (p x) (list_all p xs) h)))
    (λ e. let yes : p x ≡ true = left_of (p x) (list_all p xs) h in cc)

pub filter_none : {A : Type 0} (p : A → Bool) (xs : List A) → list_all (λ x. not (p x)) xs ≡ true → filter p xs ≡ []
filter_none p [] h = refl
filter_none p (x ∷ xs) h =
    by_if (λ ys. ys ≡ []) (p x) (x ∷ filter p xs) (filter p xs)
    (λ e. let none : p x ≡ false = not_true (p x) (left_of (not (p x)) (list_all (λ y. not (p y)) xs) h) in cc)
    (λ _. filter_none p xs (right_of (not (p x)) (list_all (λ y. not (p y)) xs) h))

-- what passes the narrower test passes the wider one before
pub filter_within : {A : Type 0} (p q : A → Bool) → ((x : A) → p x ≡ true → q x ≡ true) → (xs : List A) → filter p (filter q xs) ≡ filter p xs
filter_within p q w [] = refl
filter_within p q w (x ∷ xs) =
    by_if (λ ys. filter p ys ≡ filter p (x ∷ xs)) (q x) (x ∷ filter q xs) (filter q xs)
    (λ _. ap (λ ys. if p x then x ∷ ys else ys) (filter_within p q w xs))
    (λ e. by_if (λ ys. filter p (filter q xs) ≡ ys) (p x) (x ∷ filter p xs) (filter p xs)
    (λ f. let yes : q x ≡ true = w x f in cc) (λ _. filter_within p q w xs))

-- finding
pub none_found : {A : Type 0} (f : A → Bool) (xs : List A) → find f xs ≡ None → list_all (λ x. not (f x)) xs ≡ true
none_found f [] h = refl
none_found f (x ∷ xs) h = go (f x) refl h (λ k. none_found f xs k)
  where
    go : (b : Bool) → f x ≡ b → (if b then Some x else find f xs) ≡ None → (find f xs ≡ None → list_all (λ y. not (f y)) xs ≡ true) → list_all (λ y. not (f y)) (x ∷ xs) ≡ true
    go true e k less = cc
    go false e k less = both_of (not (f x)) (list_all (λ y. not (f y)) xs) (not_false (f x) e) (less k)

pub found_none : {A : Type 0} (f : A → Bool) (xs : List A) → list_all (λ x. not (f x)) xs ≡ true → find f xs ≡ None
found_none f [] h = refl
found_none f (x ∷ xs) h =
    by_if (λ o. o ≡ None) (f x) (Some x) (find f xs)
    (λ e. let none : f x ≡ false = not_true (f x) (left_of (not (f x)) (list_all (λ y. not (f y)) xs) h) in cc)
    (λ _. found_none f xs (right_of (not (f x)) (list_all (λ y. not (f y)) xs) h))

pub found_first : {A : Type 0} (f : A → Bool) (front : List A) (x : A) (rest : List A) → list_all (λ y. not (f y)) front ≡ true → f x ≡ true → find f (front ++ x ∷ rest) ≡ Some x
found_first f [] x rest h e = ap (λ b. if b then Some x else find f rest) e
found_first f (y ∷ front) x rest h e =
    by_if (λ o. o ≡ Some x) (f y) (Some y) (find f (front ++ x ∷ rest))
    (λ k. let none : f y ≡ false = not_true (f y) (left_of (not (f y)) (list_all (λ z. not (f z)) front) h) in cc)
    (λ _. found_first f front x rest (right_of (not (f y)) (list_all (λ z. not (f z)) front) h) e)

-- Those before one come before it, and those behind it after it.
pub all_first : {A : Type 0} (p : A → Bool) (xs ys : List A) → list_all p (xs ++ ys) ≡ true → list_all p xs ≡ true
all_first p xs ys h = left_of (list_all p xs) (list_all p ys) (sym (list_all-append p xs ys) ∙ h)

pub all_second : {A : Type 0} (p : A → Bool) (xs ys : List A) → list_all p (xs ++ ys) ≡ true → list_all p ys ≡ true
all_second p xs ys h = right_of (list_all p xs) (list_all p ys) (sym (list_all-append p xs ys) ∙ h)

pub ascending_before : {A : Type 0} (name_of : A → List ℕ) (front : List A) (x : A) (rest : List A) → is_ascending name_of (front ++ x ∷ rest) ≡ true
    → list_all (λ y. comes_before (name_of y) (name_of x)) front ≡ true
ascending_before name_of [] x rest h = refl
ascending_before name_of (y ∷ front) x rest h =
    let ahead = left_of (list_all (λ z. comes_before (name_of y) (name_of z)) (front ++ x ∷ rest)) (is_ascending name_of (front ++ x ∷ rest)) h in
    let others = right_of (list_all (λ z. comes_before (name_of y) (name_of z)) (front ++ x ∷ rest)) (is_ascending name_of (front ++ x ∷ rest)) h in
    both_of (comes_before (name_of y) (name_of x)) (list_all (λ z. comes_before (name_of z) (name_of x)) front)
    (left_of (comes_before (name_of y) (name_of x)) (list_all (λ z. comes_before (name_of y) (name_of z)) rest) (all_second (λ z. comes_before (name_of y) (name_of z)) front (x ∷ rest) ahead))
    (ascending_before name_of front x rest others)

pub ascending_behind : {A : Type 0} (name_of : A → List ℕ) (front : List A) (x : A) (rest : List A) → is_ascending name_of (front ++ x ∷ rest) ≡ true
    → list_all (λ y. comes_before (name_of x) (name_of y)) rest ≡ true
ascending_behind name_of [] x rest h = left_of (list_all (λ y. comes_before (name_of x) (name_of y)) rest) (is_ascending name_of rest) h
ascending_behind name_of (y ∷ front) x rest h =
    ascending_behind name_of front x rest (right_of (list_all (λ z. comes_before (name_of y) (name_of z)) (front ++ x ∷ rest)) (is_ascending name_of (front ++ x ∷ rest)) h)

-- the one of a name is taken away
pub before_other : (a b : List ℕ) → comes_before a b ≡ true → not (bytes_eq a b) ≡ true
before_other a b h = go (bytes_eq a b) refl
  where
    go : (t : Bool) → bytes_eq a b ≡ t → not t ≡ true
    go true e = let none : comes_before a b ≡ false = same_not_before a b e in cc
    go false e = refl

after_other : (a b : List ℕ) → comes_before b a ≡ true → not (bytes_eq a b) ≡ true
after_other a b h = go (bytes_eq a b) refl
  where
    go : (t : Bool) → bytes_eq a b ≡ t → not t ≡ true
    go true e = let none : comes_before b a ≡ false = same_not_after a b e in cc
    go false e = refl

pub without_one : {A : Type 0} (name_of : A → List ℕ) (front : List A) (x : A) (rest : List A) → is_ascending name_of (front ++ x ∷ rest) ≡ true
    → without name_of (name_of x) (front ++ x ∷ rest) ≡ front ++ rest
without_one {A} name_of front x rest h =
    let q = λ (y : A). not (bytes_eq (name_of y) (name_of x)) in
    let f = filter_all q front (all_weaker (λ y. comes_before (name_of y) (name_of x)) q (λ y e. before_other (name_of y) (name_of x) e) front (ascending_before name_of front x rest h)) in
    let r = filter_all q rest (all_weaker (λ y. comes_before (name_of x) (name_of y)) q (λ y e. after_other (name_of y) (name_of x) e) rest (ascending_behind name_of front x rest h)) in
    let same : q x ≡ false = ap not ((bytes_eq-Decides (name_of x) (name_of x)).1 refl) in
    filter-append q front (x ∷ rest)
    ∙ (ap (λ ys. ys ++ (if q x then x ∷ filter q rest else filter q rest)) f
    ∙ (ap (λ b. front ++ (if b then x ∷ filter q rest else filter q rest)) same ∙ ap (λ ys. front ++ ys) r))

pub without_none : {A : Type 0} (name_of : A → List ℕ) (name : List ℕ) (xs : List A) → named name_of name xs ≡ None → without name_of name xs ≡ xs
without_none name_of name xs h = filter_all (λ x. not (bytes_eq (name_of x) name)) xs (none_found (λ x. bytes_eq (name_of x) name) xs h)

pub named_without : {A : Type 0} (name_of : A → List ℕ) (name : List ℕ) (xs : List A) → named name_of name (without name_of name xs) ≡ None
named_without name_of name xs = found_none (λ x. bytes_eq (name_of x) name) (without name_of name xs) (all_pass (λ x. not (bytes_eq (name_of x) name)) xs)

pub placed_without : {A : Type 0} (name_of : A → List ℕ) (s : A) (xs : List A) → placed name_of s (without name_of (name_of s) xs) ≡ placed name_of s xs
placed_without {A} name_of s xs =
    let q = λ (y : A). not (bytes_eq (name_of y) (name_of s)) in
    ap (λ front. front ++ s ∷ filter (λ x. comes_before (name_of s) (name_of x)) (without name_of (name_of s) xs))
    (filter_within (λ x. comes_before (name_of x) (name_of s)) q (λ y e. before_other (name_of y) (name_of s) e) xs)
    ∙ ap (λ rest. filter (λ x. comes_before (name_of x) (name_of s)) xs ++ s ∷ rest)
    (filter_within (λ x. comes_before (name_of s) (name_of x)) q (λ y e. after_other (name_of y) (name_of s) e) xs)

-- where a new name goes: behind those that come before it
not_after : (a b : List ℕ) → comes_before a b ≡ true → not (comes_before b a) ≡ true
not_after a b h = not_false (comes_before b a) (before_not_after a b h)

pub parted_end : {A : Type 0} (name_of : A → List ℕ) (name : List ℕ) (xs : List A) → list_all (λ x. comes_before (name_of x) name) xs ≡ true
    → (filter (λ x. comes_before (name_of x) name) xs ≡ xs) × (filter (λ x. comes_before name (name_of x)) xs ≡ [])
parted_end name_of name xs h = (
  filter_all (λ x. comes_before (name_of x) name) xs h,
  filter_none (λ x. comes_before name (name_of x)) xs
      (all_weaker (λ x. comes_before (name_of x) name) (λ x. not (comes_before name (name_of x))) (λ y e. not_after (name_of y) name e) xs h),
)

pub parted_at : {A : Type 0} (name_of : A → List ℕ) (name : List ℕ) (front : List A) (x : A) (rest : List A) → is_ascending name_of (front ++ x ∷ rest) ≡ true
    → named name_of name (front ++ x ∷ rest) ≡ None → list_all (λ y. comes_before (name_of y) name) front ≡ true → comes_before (name_of x) name ≡ false
    → (filter (λ y. comes_before (name_of y) name) (front ++ x ∷ rest) ≡ front) × (filter (λ y. comes_before name (name_of y)) (front ++ x ∷ rest) ≡ x ∷ rest)
parted_at {A} name_of name front x rest sorted new h n =
    let p = λ (y : A). comes_before (name_of y) name in
    let r = λ (y : A). comes_before name (name_of y) in
    let others = none_found (λ y. bytes_eq (name_of y) name) (front ++ x ∷ rest) new in
    let differs : bytes_eq (name_of x) name ≡ false =
    not_true (bytes_eq (name_of x) name) (left_of (not (bytes_eq (name_of x) name)) (list_all (λ y. not (bytes_eq (name_of y) name)) rest)
    (all_second (λ y. not (bytes_eq (name_of y) name)) front (x ∷ rest) others)) in
    let after : comes_before name (name_of x) ≡ true = not_before_after (name_of x) name n differs in
    let behind : list_all r rest ≡ true = all_weaker (λ y. comes_before (name_of x) (name_of y)) r (λ y e. before_trans name (name_of x) (name_of y) after e) rest
    (ascending_behind name_of front x rest sorted) in
    let first = parted_end name_of name front h in
    let second : list_all r (x ∷ rest) ≡ true = both_of (r x) (list_all r rest) after behind in
    let none : filter p (x ∷ rest) ≡ [] = filter_none p (x ∷ rest) (all_weaker r (λ y. not (p y)) (λ y e. not_after name (name_of y) e) (x ∷ rest) second) in (
      filter-append p front (x ∷ rest) ∙ (ap (λ ys. ys ++ filter p (x ∷ rest)) first.0 ∙ (ap (λ ys. front ++ ys) none ∙ append-nil front)),
      filter-append r front (x ∷ rest) ∙ (ap (λ ys. ys ++ filter r (x ∷ rest)) first.1 ∙ filter_all r (x ∷ rest) second),
    )

-- what comes before a new name and what comes after it are all there is
pub parted : {A : Type 0} (name_of : A → List ℕ) (name : List ℕ) (xs : List A) → is_ascending name_of xs ≡ true → named name_of name xs ≡ None
    → xs ≡ filter (λ x. comes_before (name_of x) name) xs ++ filter (λ x. comes_before name (name_of x)) xs
parted name_of name [] sorted new = refl
parted name_of name (x ∷ xs) sorted new =
    go (comes_before (name_of x) name) refl
    (parted name_of name xs (right_of (list_all (λ y. comes_before (name_of x) (name_of y)) xs) (is_ascending name_of xs) sorted) (found_none (λ y. bytes_eq (name_of y) name) xs
    (right_of (not (bytes_eq (name_of x) name)) (list_all (λ y. not (bytes_eq (name_of y) name)) xs) (none_found (λ y. bytes_eq (name_of y) name) (x ∷ xs) new))))
  where
    go : (b : Bool) → comes_before (name_of x) name ≡ b
        → xs ≡ filter (λ y. comes_before (name_of y) name) xs ++ filter (λ y. comes_before name (name_of y)) xs
        → x ∷ xs ≡ filter (λ y. comes_before (name_of y) name) (x ∷ xs) ++ filter (λ y. comes_before name (name_of y)) (x ∷ xs)
    go true e less =
        let n : comes_before name (name_of x) ≡ false = before_not_after (name_of x) name e in
        ap (λ ys. x ∷ ys) less
        ∙ (ap (λ b. (if b then x ∷ filter (λ y. comes_before (name_of y) name) xs else filter (λ y. comes_before (name_of y) name) xs) ++ filter (λ y. comes_before name (name_of y)) xs) (sym e)
        ∙ ap (λ b. filter (λ y. comes_before (name_of y) name) (x ∷ xs) ++ (if b then x ∷ filter (λ y. comes_before name (name_of y)) xs else filter (λ y. comes_before name (name_of y)) xs)) (sym n))
    go false e less =
        let both = parted_at name_of name [] x xs sorted new refl e in
        sym both.1 ∙ ap (λ ys. ys ++ filter (λ y. comes_before name (name_of y)) (x ∷ xs)) (sym both.0)

-- a new one is one more
pub placed_new : {A : Type 0} (name_of : A → List ℕ) (s : A) (xs : List A) → is_ascending name_of xs ≡ true → named name_of (name_of s) xs ≡ None
    → length (placed name_of s xs) ≡ length xs + 1
placed_new name_of s xs sorted new =
    let whole = ap length (parted name_of (name_of s) xs sorted new) in
    omega (
      arith,
      whole,
      length-append (filter (λ x. comes_before (name_of x) (name_of s)) xs) (s ∷ filter (λ x. comes_before (name_of s) (name_of x)) xs),
      length-append (filter (λ x. comes_before (name_of x) (name_of s)) xs) (filter (λ x. comes_before (name_of s) (name_of x)) xs),
    )

-- a name stands once
pub placed_over : {A : Type 0} (name_of : A → List ℕ) (s : A) (front : List A) (x : A) (rest : List A) → is_ascending name_of (front ++ x ∷ rest) ≡ true → name_of x ≡ name_of s
    → placed name_of s (front ++ x ∷ rest) ≡ front ++ s ∷ rest
placed_over {A} name_of s front x rest sorted e =
    let p = λ (y : A). comes_before (name_of y) (name_of s) in
    let r = λ (y : A). comes_before (name_of s) (name_of y) in
    let before : list_all p front ≡ true = subst (λ n. list_all (λ y. comes_before (name_of y) n) front ≡ true) e (ascending_before name_of front x rest sorted) in
    let behind : list_all r rest ≡ true = subst (λ n. list_all (λ y. comes_before n (name_of y)) rest ≡ true) e (ascending_behind name_of front x rest sorted) in
    let px : p x ≡ false = same_not_before (name_of x) (name_of s) ((bytes_eq-Decides (name_of x) (name_of s)).1 e) in
    let rx : r x ≡ false = same_not_after (name_of x) (name_of s) ((bytes_eq-Decides (name_of x) (name_of s)).1 e) in
    let none : filter p rest ≡ [] = filter_none p rest (all_weaker r (λ y. not (p y)) (λ y k. not_after (name_of s) (name_of y) k) rest behind) in
    let first : filter p (front ++ x ∷ rest) ≡ front =
    filter-append p front (x ∷ rest) ∙ (ap (λ ys. ys ++ (if p x then x ∷ filter p rest else filter p rest)) (filter_all p front before)
    ∙ (ap (λ b. front ++ (if b then x ∷ filter p rest else filter p rest)) px ∙ (ap (λ ys. front ++ ys) none ∙ append-nil front))) in
    let fr : filter r front ≡ [] = filter_none r front (all_weaker p (λ y. not (r y)) (λ y k. not_after (name_of y) (name_of s) k) front before) in
    let second : filter r (front ++ x ∷ rest) ≡ rest =
    filter-append r front (x ∷ rest) ∙ (ap (λ ys. ys ++ (if r x then x ∷ filter r rest else filter r rest)) fr
    ∙ (ap (λ b. if b then x ∷ filter r rest else filter r rest) rx ∙ filter_all r rest behind)) in
    ap (λ ys. ys ++ s ∷ filter r (front ++ x ∷ rest)) first ∙ ap (λ ys. front ++ s ∷ ys) second
