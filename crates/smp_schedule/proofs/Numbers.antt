-- Words that are numbers.
use Rattle.std.proofs.Common.{◌≡◌, ℕ, ◌<◌, ◌≤◌, ◌^◌, Bool, true, false, List, Option, Some, None, Result, Ok, refl, sym, ap, subst, ◌∙◌, arith, inl, inr}
use Rattle.std.specs.Prelude.{IsUtf8, nat_le, ◌&&◌}
use Rattle.std.specs.Str.{bytes_eq}
use Rattle.std.specs.Str.Parse.{digits_value, ParsesUnsigned}
use Rattle.std.specs.Fmt.{decimal}
use Rattle.std.proofs.lemmas.Fmt.{IsAscii-decimal, parse-decimal, decimal_is_IsNumeral}
use Rattle.std.proofs.lemmas.Str.{IsUtf8-from_ascii}
use Rattle.std.proofs.lemmas.Slice.Eq.{bytes_eq-Decides}
use Rattle.std.proofs.lemmas.Bool.{cases_Bool}
use Rattle.smp_schedule.specs.Words.{is_number, number_in}

pub decimal_is_text : (n : ℕ) (bytes : List ℕ) → n < 2 ^ 32 → bytes ≡ decimal n → IsUtf8 bytes
decimal_is_text n bytes small is = subst IsUtf8 (sym is) (IsUtf8-from_ascii (decimal n) (IsAscii-decimal n (omega arith)))

pub decimal_is_read : {E : Type 0} (n : ℕ) (bytes : List ℕ) (r : Result ℕ E) → n < 2 ^ 32 → bytes ≡ decimal n → ParsesUnsigned 32 10 bytes r → r ≡ Ok n
decimal_is_read n bytes r small is parsed = parse-decimal 32 n bytes r small (omega arith) is parsed

value_of_decimal : (n : ℕ) (bytes : List ℕ) → n < 2 ^ 32 → decimal n ≡ bytes → digits_value 10 bytes ≡ n
value_of_decimal n bytes small is = ap (digits_value 10) (sym is) ∙ (decimal_is_IsNumeral n (omega arith)).1

first_true : (a b : Bool) → (a && b) ≡ true → a ≡ true
first_true true b h = refl
first_true false b h = absurd cc

spelled : (low high n : ℕ) (bytes : List ℕ) → is_number low high n bytes ≡ true → decimal n ≡ bytes
spelled low high n bytes h = (bytes_eq-Decides (decimal n) bytes).0 (first_true (bytes_eq (decimal n) bytes) (nat_le low n && nat_le n high) h)

pub within : (low high n : ℕ) (bytes : List ℕ) → is_number low high n bytes ≡ true → (low ≤ n) × (n ≤ high)
within low high n bytes h = (grind (arith, h), grind (arith, h))

pub found : (low high n : ℕ) (bytes : List ℕ) → n < 2 ^ 32 → is_number low high n bytes ≡ true → Some n ≡ number_in low high bytes
found low high n bytes small h =
    let same : digits_value 10 bytes ≡ n = value_of_decimal n bytes small (spelled low high n bytes h) in
    rw same (rw h refl)

pub not_found : (low high : ℕ) (bytes : List ℕ) (parsed : Option ℕ) → high < 2 ^ 32 → ((n : ℕ) → n < 2 ^ 32 → bytes ≡ decimal n → parsed ≡ Some n)
    → ((n : ℕ) → parsed ≡ Some n → is_number low high n bytes ≡ false) → None ≡ number_in low high bytes
not_found low high bytes parsed small reads not =
    elim (cases_Bool (is_number low high (digits_value 10 bytes) bytes)) [
      | inl is ↦
          let n = digits_value 10 bytes in
          let most = within low high n bytes is in
          let read : parsed ≡ Some n = reads n (omega (arith, most.1)) (sym (spelled low high n bytes is)) in
          absurd (same_bool is (not n read))
      | inr isnt ↦ rw isnt refl
    ]
  where
    same_bool : {b : Bool} → b ≡ true → b ≡ false → ⊥
    same_bool e f = absurd cc
