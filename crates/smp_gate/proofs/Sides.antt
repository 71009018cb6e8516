-- What an erase, a write and the gate do to a bank.
use Rattle.std.proofs.Common.{◌≡◌, ◌⊎◌, inl, inr, ℕ, ◌+◌, ◌*◌, ◌/◌, ◌%◌, ◌-◌, ◌^◌, ◌<◌, ◌≤◌, Bool, true, false, Option, Some, None, List, [], ◌∷◌, ◌++◌, length, take, drop, get_or, replicate, refl, sym, ◌∙◌, ap, subst, arith}
use Rattle.std.specs.Prelude.{◌&&◌, not, ◌==◌, if◌then◌else◌, nat_le, nat_lt}
use Rattle.std.specs.List.{list_all}
use Rattle.std.specs.Str.{bytes_eq}
use Rattle.std.proofs.lemmas.Bool.{cases_Bool}
use Rattle.std.proofs.lemmas.Bool.Decides.{nat_tests}
use Rattle.std.proofs.lemmas.List.{take-append-drop, take-take, take_at, drop_at, drop-drop, drop-take, length-append, length-replicate}
use Rattle.std.proofs.Math.Seq.{take-add}
use Rattle.std.specs.Cmp.Derive.{both_true}
use Rattle.std.proofs.lemmas.Slice.Eq.{bytes_eq-Decides}
use Rattle.smp_flash.specs.Area.{area, blank, spot, Clear, Keeps, Faded}
use Rattle.smp_flash.specs.Region.{gate}
use Rattle.smp_flash.specs.declared.layout.BankPlace.{BankPlace}
use Rattle.smp_flash.proofs.Areas.{Faded-take, Faded-drop}
use Rattle.smp_gate.specs.Side.{ValidSide, generation_in, length_in, seven_bits, is_valid, side_by, valid_side, AtMost, head_bytes, padding, side_bytes}
use Rattle.smp_gate.specs.Newest.{Apart, newest, newest_side}
use Rattle.smp_gate.specs.Bank.{Stands, bar, current, other}

and_left : (a b : Bool) → (a && b) ≡ true → a ≡ true
and_left true b e = refl
and_left false b e = e

and_right : (a b : Bool) → (a && b) ≡ true → b ≡ true
and_right true b e = e
and_right false b e = absurd (cc e)

-- bytes below 128 are not erased ones
small_faded : (xs ys : List ℕ) → Faded xs ys → list_all (λ b. nat_lt b 128) ys ≡ true → ys ≡ xs
small_faded [] [] f all = refl
small_faded [] (y ∷ ys) f all = absurd f
small_faded (x ∷ xs) [] f all = absurd f
small_faded (x ∷ xs) (y ∷ ys) f all =
    let small : nat_lt y 128 ≡ true = and_left (nat_lt y 128) (list_all (λ b. nat_lt b 128) ys) all in
    let rest : ys ≡ xs = small_faded xs ys f.1 (and_right (nat_lt y 128) (list_all (λ b. nat_lt b 128) ys) all) in
    elim f.0 [
      | inl same ↦ cc
      | inr gone ↦ let t : nat_lt y 128 ≡ false = rw gone refl in absurd (cc (t, small))
    ]

-- a head after an erase that is cut was there before
head_faded : (xs ys : List ℕ) → Faded xs ys → is_valid ys ≡ true → ys ≡ xs
head_faded xs ys f is =
    let begins : bytes_eq (take 8 ys) gate ≡ true = and_left (bytes_eq (take 8 ys) gate) _ is in
    let opened : take 8 ys ≡ gate = (bytes_eq-Decides (take 8 ys) gate).0 begins in
    let front : take 8 ys ≡ take 8 xs = small_faded (take 8 xs) (take 8 ys) (Faded-take 8 xs ys f) (ap seven_bits opened) in
    let rest : drop 8 ys ≡ drop 8 xs = small_faded (drop 8 xs) (drop 8 ys) (Faded-drop 8 xs ys f) (and_left (seven_bits (drop 8 ys)) _ (and_right (bytes_eq (take 8 ys) gate) _ is)) in
    sym (take-append-drop 8 ys) ∙ (λ i. front i ++ rest i) ∙ take-append-drop 8 xs

side_by_most : (n : ℕ) (is was : Bool) (head xs ys : List ℕ) → (is ≡ true → was ≡ true) → AtMost n (side_by was head xs) → AtMost n (side_by is head ys)
side_by_most n false was head xs ys same most = tt
side_by_most n true true head xs ys same most = most
side_by_most n true false head xs ys same most = absurd (cc (same refl))

-- an erase that is cut makes no newer side
pub AtMost-faded : (n : ℕ) (xs ys : List ℕ) → Faded xs ys → AtMost n (valid_side xs) → AtMost n (valid_side ys)
AtMost-faded n xs ys f most = elim (cases_Bool (is_valid (take 16 ys))) [
  | inl is ↦
      let same : take 16 ys ≡ take 16 xs = head_faded (take 16 xs) (take 16 ys) (Faded-take 16 xs ys f) is in
      let P : List ℕ → Type 0 = λ head. AtMost n (side_by (is_valid head) head ys) in
      subst P (sym same) (side_by_most n (is_valid (take 16 xs)) (is_valid (take 16 xs)) (take 16 xs) xs ys (λ e. e) most)
  | inr not ↦ let P : Bool → Type 0 = λ b. AtMost n (side_by b (take 16 ys) ys) in subst P (sym not) tt
]

-- a side without its gate holds nothing
pub no_gate : (side : List ℕ) → bytes_eq (take 8 (take 16 side)) gate ≡ false → valid_side side ≡ None
no_gate side none =
    let head = take 16 side in
    let rest = seven_bits (drop 8 head) && ((get_or head 15 0 == 1) && (nat_le 1 (generation_in head) && (nat_lt (generation_in head) (2 ^ 32) && nat_le (length_in head) 4080))) in
    ap (λ (b : Bool). side_by (b && rest) head side) none

pub blank_gate : (side : List ℕ) → take 8 side ≡ blank 8 → valid_side side ≡ None
blank_gate side is = no_gate side (ap (λ (xs : List ℕ). bytes_eq xs gate) (take-take 8 16 side (omega arith) ∙ is))

decoded : (g : ℕ) → (((g / 128 / 128 / 128 / 128 * 128 + g / 128 / 128 / 128 % 128) * 128 + g / 128 / 128 % 128) * 128 + g / 128 % 128) * 128 + g % 128 ≡ g
decoded g = omega arith

pub decoded_size : (n : ℕ) → n / 128 * 128 + n % 128 ≡ n
decoded_size n = omega arith

lt_true : (a b : ℕ) → a < b → nat_lt a b ≡ true
lt_true a b h = grind (arith, nat_tests)

le_true : (a b : ℕ) → a ≤ b → nat_le a b ≡ true
le_true a b h = grind (arith, nat_tests)

le_from : (a b : ℕ) → nat_le a b ≡ true → a ≤ b
le_from a b h = grind (arith, nat_tests)

head_is : (g n : ℕ) → 1 ≤ g → g < 2 ^ 32 → n ≤ 4080 → is_valid (gate ++ head_bytes g n) ≡ true
head_is g n low high fits =
    both_true (both_true (lt_true (g / 128 / 128 / 128 / 128) 128 (omega arith)) (both_true (lt_true (g / 128 / 128 / 128 % 128) 128 (omega arith))
    (both_true (lt_true (g / 128 / 128 % 128) 128 (omega arith)) (both_true (lt_true (g / 128 % 128) 128 (omega arith))
    (both_true (lt_true (g % 128) 128 (omega arith)) (both_true (lt_true (n / 128) 128 (omega arith)) (both_true (lt_true (n % 128) 128 (omega arith)) refl)))))))
    (both_true (le_true 1 (generation_in (gate ++ head_bytes g n)) (omega (arith, decoded g)))
    (both_true (lt_true (generation_in (gate ++ head_bytes g n)) (2 ^ 32) (omega (arith, decoded g)))
    (le_true (length_in (gate ++ head_bytes g n)) 4080 (omega (arith, decoded_size n)))))

-- a side with its gate, its head and its body
pub found_written : (g : ℕ) (body side : List ℕ) → 1 ≤ g → g < 2 ^ 32 → length body ≤ 4080 → take 8 side ≡ gate
    → take (length (side_bytes g body)) (drop 8 side) ≡ side_bytes g body → valid_side side ≡ Some (record { generation = g; body = body })
found_written g body side low high fits opened written =
    let n : ℕ = length body in
    let zeros : List ℕ = replicate (padding n) 0 in
    let rest : List ℕ = drop 8 side in
    let long : length (side_bytes g body) ≡ 8 + (n + padding n) = omega (arith, length-append body zeros, length-replicate {A = ℕ} (padding n) 0) in
    let all : take (8 + (n + padding n)) rest ≡ head_bytes g n ++ (body ++ zeros) = ap (λ (k : ℕ). take k rest) (sym long) ∙ written in
    let eight : take 8 rest ≡ head_bytes g n = sym (take-take 8 (8 + (n + padding n)) rest (omega arith)) ∙ ap (take 8) all ∙ take_at (head_bytes g n) (body ++ zeros) 8 refl in
    let head : take 16 side ≡ gate ++ head_bytes g n = take-add 8 8 side ∙ ap (λ (xs : List ℕ). xs ++ take 8 rest) opened ∙ ap (λ (xs : List ℕ). gate ++ xs) eight in
    let behind : take (n + padding n) (drop 8 rest) ≡ body ++ zeros = sym (drop-take 8 (n + padding n) rest) ∙ ap (drop 8) all ∙ drop_at (head_bytes g n) (body ++ zeros) 8 refl in
    let content : take n (drop 16 side) ≡ body = ap (take n) (sym (drop-drop 8 8 side)) ∙ sym (take-take n (n + padding n) (drop 8 rest) (omega arith)) ∙ ap (take n) behind ∙ take_at body zeros n refl in
    ap (λ (xs : List ℕ). side_by (is_valid xs) xs side) head
    ∙ ap (λ (b : Bool). side_by b (gate ++ head_bytes g n) side) (head_is g n low high fits)
    ∙ (λ i. Some (record { generation = decoded g i; body = take (decoded_size n i) (drop 16 side) }))
    ∙ ap (λ (xs : List ℕ). Some (record { generation = g; body = xs })) content

newest_first : (x : ValidSide) (o : Option ValidSide) → AtMost x.generation o → newest (Some x) o ≡ Some x
newest_first x None most = refl
newest_first x (Some y) most =
    let t : nat_lt x.generation y.generation ≡ false = grind (arith, nat_tests) in
    ap (λ (b : Bool). if b then Some y else Some x) t

newest_second : (x : ValidSide) (o : Option ValidSide) → 1 ≤ x.generation → AtMost (x.generation - 1) o → newest o (Some x) ≡ Some x
newest_second x None low most = refl
newest_second x (Some y) low most =
    let t : nat_lt y.generation x.generation ≡ true = lt_true y.generation x.generation (omega arith) in
    ap (λ (b : Bool). if b then Some x else Some y) t

-- what stands is what the bank holds
pub newest-Stands : (place : BankPlace) (second : Bool) (g : ℕ) (body bytes : List ℕ) → Stands place second g body bytes
    → newest_side place bytes ≡ Some (record { generation = g; body = body })
newest-Stands place false g body bytes s =
    let x : ValidSide = record { generation = g; body = body } in
    ap (λ (o : Option ValidSide). newest o (valid_side (area place.second.at 4096 bytes))) s.found
    ∙ newest_first x (valid_side (area place.second.at 4096 bytes)) s.behind
newest-Stands place true g body bytes s =
    let x : ValidSide = record { generation = g; body = body } in
    ap (λ (o : Option ValidSide). newest (valid_side (area place.first.at 4096 bytes)) o) s.found
    ∙ newest_second x (valid_side (area place.first.at 4096 bytes)) s.positive s.behind

-- the other side lies apart from the current one
pub current_apart : (place : BankPlace) (second : Bool) → Apart place → Clear (spot (other place second) 4096) (current place second) 4096
current_apart place true apart = (elim apart [ inl before ↦ inr before | inr after ↦ inl after ], tt)
current_apart place false apart = (elim apart [ inl before ↦ inl before | inr after ↦ inr after ], tt)

-- a change of the other side that makes no newer side
pub Stands-kept : (place : BankPlace) (second : Bool) (g : ℕ) (body old new : List ℕ) → Apart place → Keeps (spot (other place second) 4096) old new
    → (AtMost (bar second g) (valid_side (area (other place second) 4096 old)) → AtMost (bar second g) (valid_side (area (other place second) 4096 new)))
    → Stands place second g body old → Stands place second g body new
Stands-kept place second g body old new apart keeps most s = record {
  found = ap valid_side (keeps.apart (current place second) 4096 (current_apart place second apart)) ∙ s.found;
  behind = most s.behind;
  positive = s.positive;
}

pub flipped_current : (place : BankPlace) (second : Bool) → current place (not second) ≡ other place second
flipped_current place true = refl
flipped_current place false = refl

flipped_other : (place : BankPlace) (second : Bool) → other place (not second) ≡ current place second
flipped_other place true = refl
flipped_other place false = refl

flipped_bar : (second : Bool) (g : ℕ) → g ≤ bar (not second) (g + 1)
flipped_bar true g = omega arith
flipped_bar false g = omega arith

-- the other side has become the newest
pub Stands-new : (place : BankPlace) (second : Bool) (g : ℕ) (body next old new : List ℕ) → Apart place → Keeps (spot (other place second) 4096) old new
    → valid_side (area (other place second) 4096 new) ≡ Some (record { generation = g + 1; body = next })
    → Stands place second g body old → Stands place (not second) (g + 1) next new
Stands-new place second g body next old new apart keeps found s = record {
  found = ap (λ (at : ℕ). valid_side (area at 4096 new)) (flipped_current place second) ∙ found;
  behind =
      (let is : valid_side (area (other place (not second)) 4096 new) ≡ Some (record { generation = g; body = body }) =
      ap (λ (at : ℕ). valid_side (area at 4096 new)) (flipped_other place second) ∙ ap valid_side (keeps.apart (current place second) 4096 (current_apart place second apart)) ∙ s.found in
      subst (AtMost (bar (not second) (g + 1))) (sym is) (flipped_bar second g));
  positive = omega arith;
}

-- a head has a generation of at least 1
pub low_generation : (xs : List ℕ) → is_valid xs ≡ true → 1 ≤ generation_in xs
low_generation xs is =
    let rest = and_right (get_or xs 15 0 == 1) _ (and_right (seven_bits (drop 8 xs)) _ (and_right (bytes_eq (take 8 xs) gate) _ is)) in
    let low : nat_le 1 (generation_in xs) ≡ true = and_left (nat_le 1 (generation_in xs)) _ rest in
    le_from 1 (generation_in xs) low

no_generation_by : (is : Bool) (head side : List ℕ) → (is ≡ true → 1 ≤ generation_in head) → AtMost 0 (side_by is head side) → side_by is head side ≡ None
no_generation_by false head side low most = refl
no_generation_by true head side low most = absurd (let one : 1 ≤ generation_in head = low refl in omega arith)

-- no valid side has a generation of 0 at most
pub no_generation : (side : List ℕ) → AtMost 0 (valid_side side) → valid_side side ≡ None
no_generation side most = no_generation_by (is_valid (take 16 side)) (take 16 side) side (λ is. low_generation (take 16 side) is) most
