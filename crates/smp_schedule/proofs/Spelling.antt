-- Words that are written are read again.
use Rattle.std.proofs.Common.{◌≡◌, ℕ, suc, ◌<◌, ◌≤◌, ◌*◌, ◌^◌, true, false, List, [], ◌∷◌, length, codes, Some, refl, sym, ap, subst, arith, inl, inr}
use Rattle.std.specs.Prelude.{nat_le, ◌&&◌}
use Rattle.std.specs.List.{list_all}
use Rattle.std.specs.Str.{is_utf8, bytes_eq}
use Rattle.std.specs.Str.Parse.{AllDigits}
use Rattle.std.specs.Fmt.{decimal}
use Rattle.std.proofs.lemmas.Bool.{cases_Bool}
use Rattle.std.proofs.lemmas.Bool.Decides.{nat_tests}
use Rattle.std.proofs.lemmas.Fmt.{decimal_is_IsNumeral}
use Rattle.std.proofs.lemmas.Str.Parse.{digit_from_value}
use Rattle.std.proofs.lemmas.Slice.Eq.{bytes_eq-Decides}
use Rattle.std.proofs.lemmas.List.Sums.{list_all-from_AllPass}
use Rattle.hex.specs.Hex.{IsBytes, encode_lower, is_hex_digit, lower_digits}
use Rattle.hex.proofs.HexLemmas.{decode_of-encode_lower, decode_of-ok, length-encode_with}
use Rattle.smp_flash.specs.declared.arm.ArmKind.{ArmKind}
use Rattle.smp_flash.specs.declared.arm.ArmKind.TheVariants as kinds
use Rattle.smp_flash.specs.declared.arm.Left.{Left}
use Rattle.smp_flash.specs.declared.arm.Left.TheVariants as lefts
use Rattle.smp_flash.specs.declared.region.Region.{Region}
use Rattle.smp_flash.specs.declared.region.Region.TheVariants as regions
use Rattle.smp_model.specs.declared.upload.Ending.{Ending}
use Rattle.smp_model.specs.declared.upload.Ending.TheVariants as endings
use Rattle.smp_schedule.specs.declared.event.Which.{Which}
use Rattle.smp_schedule.specs.declared.event.Which.TheVariants as which
use Rattle.smp_schedule.specs.Words.{is_plain, is_word, name_in, word_in, number_in, sized, hex_in, region_word, region_in, kind_word, kind_in, left_in, ending_word, ending_in}
use Rattle.smp_schedule.specs.Jobs.{value_in}
use Rattle.smp_schedule.specs.Events.{which_in}
use Rattle.smp_schedule.specs.Lawful.{IsBetween, IsField, IsName, IsSized, IsWhich, is_no_space}
use Rattle.smp_schedule.specs.Written.{which_word, left_word, value_word}
use Rattle.smp_schedule.proofs.Numbers.{found}
use Rattle.smp_schedule.proofs.Splitting.{is_clear, IsClear, left_true, right_true, both_true}

pub at_most : (a b : ℕ) → a ≤ b → nat_le a b ≡ true
at_most a b h = grind (arith, nat_tests)

-- Numbers.

pub number_again : (low high n : ℕ) → high < 2 ^ 32 → IsBetween low high n → number_in low high (decimal n) ≡ Some n
number_again low high n small is =
    sym (found low high n (decimal n) (omega (arith, is.1))
    (both_true (bytes_eq (decimal n) (decimal n)) (nat_le low n && nat_le n high) ((bytes_eq-Decides (decimal n) (decimal n)).1 refl)
    (both_true (nat_le low n) (nat_le n high) (at_most low n is.0) (at_most n high is.1))))

digits_clear : (digits : List ℕ) → AllDigits 10 digits → IsClear digits
digits_clear [] h = refl
digits_clear (c ∷ digits) h =
    let at = digit_from_value c h.0 in
    both_true (is_clear c) (list_all is_clear digits) (at_most 33 c (omega (arith, at.0))) (digits_clear digits h.1)

pub decimal_clear : (n : ℕ) → n < 2 ^ 64 → IsClear (decimal n)
decimal_clear n small = digits_clear (decimal n) (decimal_is_IsNumeral n small).0.1

-- no decimal is a word that has another byte
not_decimal : (n : ℕ) (word : List ℕ) → n < 2 ^ 64 → (AllDigits 10 word → ⊥) → bytes_eq (decimal n) word ≡ false
not_decimal n word small other =
    elim (cases_Bool (bytes_eq (decimal n) word)) [
      | inl is ↦ absurd (other (subst (AllDigits 10) ((bytes_eq-Decides (decimal n) word).0 is) (decimal_is_IsNumeral n small).0.1))
      | inr isnt ↦ isnt
    ]

not_new : AllDigits 10 (codes "new") → ⊥
not_new h = omega (arith, h.0)

not_none : AllDigits 10 (codes "none") → ⊥
not_none h = omega (arith, h.0)

not_all : AllDigits 10 (codes "all") → ⊥
not_all h = omega (arith, h.0)

pub which_again : (packet : Which) → IsWhich packet → which_in (which_word packet) ≡ Some packet
which_again which.New h = refl
which_again (which.Number n) h =
    rw (not_decimal n (codes "new") (omega (arith, h.1)) not_new) (rw (number_again 1 4294967295 n (omega arith) h) refl)

pub which_clear : (packet : Which) → IsWhich packet → IsClear (which_word packet)
which_clear which.New h = refl
which_clear (which.Number n) h = decimal_clear n (omega (arith, h.1))

-- Hex.

sized_again : (low high : ℕ) (bytes : List ℕ) → IsBetween low high (length bytes) → sized low high bytes ≡ Some bytes
sized_again low high bytes is =
    rw (both_true (nat_le low (length bytes)) (nat_le (length bytes) high) (at_most low (length bytes) is.0) (at_most (length bytes) high is.1)) refl

pub hex_again : (low high : ℕ) (bytes : List ℕ) → IsSized low high bytes → hex_in low high (encode_lower bytes) ≡ Some bytes
hex_again low high bytes is = rw (decode_of-encode_lower bytes is.0) (sized_again low high bytes is.1)

hex_digit_clear : (c : ℕ) → is_hex_digit c ≡ true → is_clear c ≡ true
hex_digit_clear c h = grind (arith, nat_tests, h)

digits_are_clear : (digits : List ℕ) → list_all is_hex_digit digits ≡ true → IsClear digits
digits_are_clear [] h = refl
digits_are_clear (c ∷ digits) h =
    both_true (is_clear c) (list_all is_clear digits) (hex_digit_clear c (left_true (is_hex_digit c) (list_all is_hex_digit digits) h))
    (digits_are_clear digits (right_true (is_hex_digit c) (list_all is_hex_digit digits) h))

pub hex_clear : (bytes : List ℕ) → IsBytes bytes → IsClear (encode_lower bytes)
hex_clear bytes are =
    digits_are_clear (encode_lower bytes)
    (list_all-from_AllPass is_hex_digit (encode_lower bytes) (decode_of-ok (encode_lower bytes) bytes (decode_of-encode_lower bytes are)).1)

-- two digits or more are no `-`
no_dash : (text : List ℕ) → 2 ≤ length text → bytes_eq text (codes "-") ≡ false
no_dash text long =
    elim (cases_Bool (bytes_eq text (codes "-"))) [
      | inl is ↦ let one : length text ≡ 1 = ap length ((bytes_eq-Decides text (codes "-")).0 is) in absurd (omega (arith, one, long))
      | inr isnt ↦ isnt
    ]

pub value_again : (bytes : List ℕ) → IsSized 0 128 bytes → value_in (value_word bytes) ≡ Some bytes
value_again [] is = refl
value_again (b ∷ bytes) is =
    let long : length (encode_lower (b ∷ bytes)) ≡ 2 * suc (length bytes) = length-encode_with lower_digits (b ∷ bytes) in
    rw (no_dash (encode_lower (b ∷ bytes)) (omega (arith, long))) (hex_again 1 128 (b ∷ bytes) (is.0, (omega arith, is.1.1)))

pub value_clear : (bytes : List ℕ) → IsBytes bytes → IsClear (value_word bytes)
value_clear [] are = refl
value_clear (b ∷ bytes) are = hex_clear (b ∷ bytes) are

-- Names.

pub word_again : (bytes : List ℕ) → IsField bytes → word_in bytes ≡ Some bytes
word_again bytes is = rw is.0 refl

pub name_again : (most : ℕ) (bytes : List ℕ) → IsName most bytes → name_in most bytes ≡ Some bytes
name_again most bytes is = rw (both_true (nat_le (length bytes) most) (is_word bytes) (at_most (length bytes) most is.1) is.0.0) refl

plain_clear : (b : ℕ) → is_plain b ≡ true → is_no_space b ≡ true → is_clear b ≡ true
plain_clear b h k = grind (arith, nat_tests, h, k)

all_clear : (bytes : List ℕ) → list_all is_plain bytes ≡ true → list_all is_no_space bytes ≡ true → IsClear bytes
all_clear [] h k = refl
all_clear (b ∷ bytes) h k =
    both_true (is_clear b) (list_all is_clear bytes)
    (plain_clear b (left_true (is_plain b) (list_all is_plain bytes) h) (left_true (is_no_space b) (list_all is_no_space bytes) k))
    (all_clear bytes (right_true (is_plain b) (list_all is_plain bytes) h) (right_true (is_no_space b) (list_all is_no_space bytes) k))

pub field_clear : (bytes : List ℕ) → IsField bytes → IsClear bytes
field_clear bytes is =
    all_clear bytes
    (right_true (is_utf8 bytes) (list_all is_plain bytes)
    (right_true (nat_le 1 (length bytes)) (is_utf8 bytes && list_all is_plain bytes) is.0)) is.1

-- Words of tables.

pub region_again : (region : Region) → region_in (region_word region) ≡ Some region
region_again regions.Any = refl
region_again regions.Slot0 = refl
region_again regions.Slot1 = refl
region_again regions.Progress = refl
region_again regions.Scratch = refl
region_again regions.Settings = refl
region_again regions.ProgressGate = refl
region_again regions.SettingsGate = refl
region_again regions.Slot2 = refl
region_again regions.Slot3 = refl
region_again regions.Progress2 = refl
region_again regions.Progress2Gate = refl
region_again regions.Scratch2 = refl

pub region_clear : (region : Region) → IsClear (region_word region)
region_clear regions.Any = refl
region_clear regions.Slot0 = refl
region_clear regions.Slot1 = refl
region_clear regions.Progress = refl
region_clear regions.Scratch = refl
region_clear regions.Settings = refl
region_clear regions.ProgressGate = refl
region_clear regions.SettingsGate = refl
region_clear regions.Slot2 = refl
region_clear regions.Slot3 = refl
region_clear regions.Progress2 = refl
region_clear regions.Progress2Gate = refl
region_clear regions.Scratch2 = refl

pub kind_again : (kind : ArmKind) → kind_in (kind_word kind) ≡ Some kind
kind_again kinds.Cut = refl
kind_again kinds.Fail = refl
kind_again kinds.Read = refl

pub kind_clear : (kind : ArmKind) → IsClear (kind_word kind)
kind_clear kinds.Cut = refl
kind_clear kinds.Fail = refl
kind_clear kinds.Read = refl

pub ending_again : (ending : Ending) → ending_in (ending_word ending) ≡ Some ending
ending_again endings.Only = refl
ending_again endings.Test = refl
ending_again endings.Confirm = refl

pub ending_clear : (ending : Ending) → IsClear (ending_word ending)
ending_clear endings.Only = refl
ending_clear endings.Test = refl
ending_clear endings.Confirm = refl

abbrev pub IsSmallLeft : Left → Type 0
IsSmallLeft (lefts.Seed n) = n ≤ 4294967295
IsSmallLeft left = Unit {0}

pub left_again : (left : Left) → IsSmallLeft left → left_in (left_word left) ≡ Some left
left_again lefts.Nothing h = refl
left_again lefts.Whole h = refl
left_again (lefts.Seed n) h =
    rw (not_decimal n (codes "none") (omega (arith, h)) not_none)
    (rw (not_decimal n (codes "all") (omega (arith, h)) not_all) (rw (number_again 0 4294967295 n (omega arith) (omega arith, h)) refl))

pub left_clear : (left : Left) → IsSmallLeft left → IsClear (left_word left)
left_clear lefts.Nothing h = refl
left_clear lefts.Whole h = refl
left_clear (lefts.Seed n) h = decimal_clear n (omega (arith, h))
