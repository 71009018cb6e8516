-- The words and fields that are read are lawful.
use Rattle.std.proofs.Common.{◌≡◌, ℕ, Bool, true, false, List, [], ◌∷◌, length, codes, Option, Some, None, Result, Ok, Err, refl, subst, arith}
use Rattle.std.specs.Prelude.{◌&&◌, ◌==◌, nat_le, if◌then◌else◌}
use Rattle.std.specs.List.{list_all}
use Rattle.std.specs.Option.{option_map, option_and_then}
use Rattle.std.specs.Result.{result_ok}
use Rattle.std.specs.Str.{bytes_eq}
use Rattle.std.specs.Str.Parse.{digits_value}
use Rattle.std.proofs.lemmas.Bool.Decides.{nat_tests}
use Rattle.hex.specs.Hex.{IsBytes, decode_of}
use Rattle.hex.specs.declared.error.FromHexError.{FromHexError}
use Rattle.hex.proofs.HexLemmas.{decode_of-ok}
use Rattle.smp_schedule.specs.declared.event.Which.{Which}
use Rattle.smp_schedule.specs.declared.event.Which.TheVariants as which
use Rattle.smp_schedule.specs.Fields.{fields_of, onto_first, only}
use Rattle.smp_schedule.specs.Words.{is_word, name_in, word_in, is_number, number_in, sized, hex_in}
use Rattle.smp_schedule.specs.Jobs.{value_in}
use Rattle.smp_schedule.specs.Events.{which_in}
use Rattle.smp_schedule.specs.Lawful.{IsBetween, is_no_space, IsField, IsName, IsSized, IsWhich}
use Rattle.smp_schedule.proofs.Numbers.{within}
use Rattle.smp_schedule.proofs.Splitting.{left_true, right_true, both_true}

-- Options and tests, by what they gave.

pub tested : {T : Type 0} (b : Bool) (t : T) (x : T) → (if b then Some t else None) ≡ Some x → (b ≡ true) × (t ≡ x)
tested true t x h = (refl, cc)
tested false t x h = absurd cc

pub passed : {T : Type 0} (b : Bool) (o : Option T) (x : T) → (if b then o else None) ≡ Some x → (b ≡ true) × (o ≡ Some x)
passed true o x h = (refl, h)
passed false o x h = absurd cc

pub one_way : {T : Type 0} (P : Type 0) (b : Bool) (one other : Option T) (x : T) → (one ≡ Some x → P) → (other ≡ Some x → P) → (if b then one else other) ≡ Some x → P
one_way P true one other x first second h = first h
one_way P false one other x first second h = second h

pub mapped : {A B : Type 0} (f : A → B) (o : Option A) (b : B) → option_map f o ≡ Some b → (a : A) × (o ≡ Some a) × (f a ≡ b)
mapped f None b h = absurd cc
mapped f (Some a) b h = (a, refl, cc)

pub chained : {A B : Type 0} (f : A → Option B) (o : Option A) (b : B) → option_and_then f o ≡ Some b → (a : A) × (o ≡ Some a) × (f a ≡ Some b)
chained f None b h = absurd cc
chained f (Some a) b h = (a, refl, h)

-- Words.

abbrev pub HasNoSpace : List ℕ → Type 0
HasNoSpace bytes = list_all is_no_space bytes ≡ true

abbrev pub HaveNoSpace : List (List ℕ) → Type 0
HaveNoSpace [] = Unit {0}
HaveNoSpace (field ∷ fields) = HasNoSpace field × HaveNoSpace fields

pub number_read : (low high : ℕ) (bytes : List ℕ) (n : ℕ) → number_in low high bytes ≡ Some n → IsBetween low high n
number_read low high bytes n h =
    let v = digits_value 10 bytes in
    let test = tested (is_number low high v bytes) v n h in
    subst (IsBetween low high) test.1 (within low high v bytes test.0)

pub word_read : (bytes word : List ℕ) → HasNoSpace bytes → word_in bytes ≡ Some word → IsField word
word_read bytes word free h = let test = tested (is_word bytes) bytes word h in subst IsField test.1 (test.0, free)

pub name_read : (most : ℕ) (bytes name : List ℕ) → HasNoSpace bytes → name_in most bytes ≡ Some name → IsName most name
name_read most bytes name free h =
    let test = tested (nat_le (length bytes) most && is_word bytes) bytes name h in
    let short = left_true (nat_le (length bytes) most) (is_word bytes) test.0 in
    subst (IsName most) test.1 ((right_true (nat_le (length bytes) most) (is_word bytes) test.0, free), grind (arith, nat_tests, short))

sized_read : (low high : ℕ) (bytes read : List ℕ) → IsBytes bytes → sized low high bytes ≡ Some read → IsSized low high read
sized_read low high bytes read are h =
    let test = tested (nat_le low (length bytes) && nat_le (length bytes) high) bytes read h in
    let least = left_true (nat_le low (length bytes)) (nat_le (length bytes) high) test.0 in
    let most = right_true (nat_le low (length bytes)) (nat_le (length bytes) high) test.0 in
    subst (IsSized low high) test.1 (are, (grind (arith, nat_tests, least), grind (arith, nat_tests, most)))

decoded : (low high : ℕ) (digits read : List ℕ) (r : Result (List ℕ) FromHexError) → decode_of digits ≡ r
    → option_and_then (sized low high) (result_ok r) ≡ Some read → IsSized low high read
decoded low high digits read (Ok bytes) e h = sized_read low high bytes read (decode_of-ok digits bytes e).3 h
decoded low high digits read (Err f) e h = absurd cc

pub hex_read : (low high : ℕ) (digits read : List ℕ) → hex_in low high digits ≡ Some read → IsSized low high read
hex_read low high digits read h = decoded low high digits read (decode_of digits) refl h

no_bytes : (read : List ℕ) → Some [] ≡ Some read → IsSized 0 128 read
no_bytes [] h = ((λ i. omega arith), (omega arith, omega arith))
no_bytes (b ∷ read) h = absurd cc

pub value_read : (bytes read : List ℕ) → value_in bytes ≡ Some read → IsSized 0 128 read
value_read bytes read h =
    one_way (IsSized 0 128 read) (bytes_eq bytes (codes "-")) (Some []) (hex_in 1 128 bytes) read (no_bytes read)
    (λ k. let is = hex_read 1 128 bytes read k in (is.0, (omega arith, is.1.1))) h

pub which_read : (bytes : List ℕ) (packet : Which) → which_in bytes ≡ Some packet → IsWhich packet
which_read bytes packet h =
    one_way (IsWhich packet) (bytes_eq bytes (codes "new")) (Some which.New) (option_map which.Number (number_in 1 4294967295 bytes)) packet
    (λ k. let is : which.New ≡ packet = cc in subst IsWhich is tt)
    (λ k. let n = mapped which.Number (number_in 1 4294967295 bytes) packet k in subst IsWhich n.2 (number_read 1 4294967295 bytes n.0 n.1)) h

-- Fields.

onto_first_free : (b : ℕ) (parts : List (List ℕ)) → is_no_space b ≡ true → HaveNoSpace parts → HaveNoSpace (onto_first b parts)
onto_first_free b [] no_space free = (both_true (is_no_space b) true no_space refl, tt)
onto_first_free b (part ∷ parts) no_space free = (both_true (is_no_space b) (list_all is_no_space part) no_space free.0, free.1)

either_fields : (b : Bool) (x : ℕ) (fields : List (List ℕ)) → (x == 32) ≡ b → HaveNoSpace fields → HaveNoSpace (if b then [] ∷ fields else onto_first x fields)
either_fields true x fields e free = (refl, free)
either_fields false x fields e free = onto_first_free x fields (rw e refl) free

pub fields_free : (line : List ℕ) → HaveNoSpace (fields_of line)
fields_free [] = (refl, tt)
fields_free (b ∷ line) = either_fields (b == 32) b (fields_of line) refl (fields_free line)

pub only_one : (fields : List (List ℕ)) (field : List ℕ) → only fields ≡ Some field → HaveNoSpace fields → HasNoSpace field
only_one [] field h free = absurd cc
only_one (one ∷ []) field h free = let is : one ≡ field = cc in subst HasNoSpace is free.0
only_one (one ∷ two ∷ fields) field h free = absurd cc
