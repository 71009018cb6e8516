-- The generation of a bank whose value holds.
use Rattle.std.proofs.Common.{◌≡◌, ℕ, ◌<◌, ◌^◌, Bool, true, false, Some, List, take, drop, get_or, refl, sym, ◌∙◌, ap, subst, arith, ◌&&◌, ◌==◌}
use Rattle.std.specs.Prelude.{nat_le, nat_lt}
use Rattle.std.proofs.lemmas.Bool.Decides.{nat_tests}
use Rattle.std.specs.Str.{bytes_eq}
use Rattle.smp_flash.specs.Area.{area}
use Rattle.smp_flash.specs.Region.{gate}
use Rattle.smp_flash.specs.Layout.{progress_of}
use Rattle.smp_flash.specs.declared.layout.BankPlace.{BankPlace}
use Rattle.smp_flash.specs.declared.layout.Layout.{Layout}
use Rattle.smp_gate.specs.Bank.{BankState, BankSays, current}
use Rattle.smp_gate.specs.Newest.{newest_generation}
use Rattle.smp_gate.specs.Side.{ValidSide, side_by, is_valid, generation_in, length_in, seven_bits}
use Rattle.smp_progress.specs.State.{ProgressState, ProgressSays, CanTake}

-- what the crate below promises of a bank's value
abbrev pub SaysGeneration : Type 0
SaysGeneration = (bank : BankState) (bytes : List ℕ) → BankSays bank bytes → newest_generation bank.place bytes ≡ bank.generation

last_of : (a b : Bool) → (a && b) ≡ true → b ≡ true
last_of true b e = e
last_of false b e = absurd (cc e)

first_of : (a b : Bool) → (a && b) ≡ true → a ≡ true
first_of true b e = refl
first_of false b e = absurd (cc e)

less_by : (n : ℕ) → nat_lt n (2 ^ 32) ≡ true → n < 2 ^ 32
less_by n e = grind (arith, nat_tests)

side_young : (valid : Bool) (head side : List ℕ) (found : ValidSide) → (valid ≡ true → generation_in head < 2 ^ 32) → side_by valid head side ≡ Some found → found.generation < 2 ^ 32
side_young false head side found f e = absurd (cc e)
side_young true head side found f e = subst (λ (s : ValidSide). s.generation < 2 ^ 32) (some_same (record { generation = generation_in head; body = take (length_in head) (drop 16 side) }) found e) (f refl)
  where
    some_same : (x y : ValidSide) → Some x ≡ Some y → x ≡ y
    some_same x y e = cc e

valid_young : (head : List ℕ) → is_valid head ≡ true → generation_in head < 2 ^ 32
valid_young head e =
    let a = bytes_eq (take 8 head) gate in
    let b = seven_bits (drop 8 head) in
    let c = get_or head 15 0 == 1 in
    let d = nat_le 1 (generation_in head) in
    let f = nat_lt (generation_in head) (2 ^ 32) in
    let g = nat_le (length_in head) 4080 in
    less_by (generation_in head) (first_of f g (last_of d (f && g) (last_of c (d && (f && g)) (last_of b (c && (d && (f && g))) (last_of a (b && (c && (d && (f && g)))) e)))))

young : (bank : BankState) (bytes : List ℕ) → BankSays bank bytes → bank.generation < 2 ^ 32
young bank bytes says =
    let side = area (current bank.place bank.second) 4096 bytes in
    side_young (is_valid (take 16 side)) (take 16 side) side (record { generation = bank.generation; body = says.body }) (valid_young (take 16 side)) says.stands.found

-- no record can always be put, and how many is told by the bytes
pub takes_none : (p : ProgressState) (bytes : List ℕ) → ProgressSays p bytes → CanTake p.bank.generation 0
takes_none p bytes says = let low = young p.bank bytes says.bank in omega arith

pub generation_is : SaysGeneration → (layout : Layout) (p : ProgressState) (bytes : List ℕ) → p.layout ≡ layout → ProgressSays p bytes → newest_generation (progress_of layout) bytes ≡ p.bank.generation
generation_is law layout p bytes is says = ap (λ (q : BankPlace). newest_generation q bytes) (sym (says.place ∙ ap progress_of is)) ∙ law p.bank bytes says.bank
