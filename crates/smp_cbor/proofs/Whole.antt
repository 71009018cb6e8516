-- A first byte that is an item by itself.
use Rattle.std.proofs.Common.{◌≡◌, ◌≢◌, ℕ, zero, suc, ◌+◌, ◌*◌, ◌-◌, ◌<◌, ◌≤◌, Bool, true, false, eqb, List, [], ◌∷◌, length, get_or, take, drop, Ok, refl, subst, arith}
use Rattle.std.proofs.lemmas.Bool.Decides.{nat_tests}
use Rattle.std.proofs.lemmas.List.{take_all}
use Rattle.std.proofs.lemmas.Str.{IsUtf8-from_ascii}
use Rattle.smp_cbor.specs.declared.heads.Head.TheVariants as heads
use Rattle.smp_cbor.specs.Heads.{head_at, argument_at}
use Rattle.smp_cbor.specs.Skipping.{text_at, skip_at}
use Rattle.smp_cbor.specs.Values.{unsigned, negative, boolean, null, other, key_at}
use Rattle.smp_cbor.specs.Spelling.{small, Numbered, IsSimple}
use Rattle.smp_cbor.proofs.HeadLaws.{head_again}
use Rattle.smp_cbor.proofs.Again.{octets_again, text_again, simple_leaf}

one_byte : (major low x : ℕ) → low < 24 → x ≡ 32 * major + low → Numbered major low (x ∷ [])
one_byte major low x lt is = rw is (record { low = low; bytes = []; number = small lt; is = refl })

pub whole_unsigned : (d x : ℕ) (rest : List ℕ) → x ≤ 23 → skip_at d (x ∷ rest) ≡ Ok rest
whole_unsigned d x rest le =
    (simple_leaf (x ∷ []) (heads.Unsigned x) (unsigned x) (one_byte 0 x x (omega arith) (omega arith)) (λ i s r. refl) (λ s r. refl) (λ e s r. refl) (λ s r. refl) d).skipped rest

pub whole_negative : (d x : ℕ) (rest : List ℕ) → 32 ≤ x → x ≤ 55 → skip_at d (x ∷ rest) ≡ Ok rest
whole_negative d x rest ge le =
    (simple_leaf (x ∷ []) (heads.Negative (x - 32)) (negative (x - 32)) (one_byte 1 (x - 32) x (omega arith) (omega arith)) (λ i s r. refl) (λ s r. refl) (λ e s r. refl) (λ s r. refl) d).skipped rest

octets_64 : (d : ℕ) (rest : List ℕ) → skip_at d (64 ∷ rest) ≡ Ok rest
unfolding skip_at head_at argument_at
octets_64 zero rest = rw (octets_again (64 ∷ rest) [] rest) refl
octets_64 (suc d) rest = rw (octets_again (64 ∷ rest) [] rest) refl

text_96 : (d : ℕ) (rest : List ℕ) → skip_at d (96 ∷ rest) ≡ Ok rest
unfolding skip_at head_at argument_at
text_96 zero rest = rw (text_again (96 ∷ rest) [] rest (IsUtf8-from_ascii [] (λ i. omega arith))) refl
text_96 (suc d) rest = rw (text_again (96 ∷ rest) [] rest (IsUtf8-from_ascii [] (λ i. omega arith))) refl

pub whole_octets : (d x : ℕ) (rest : List ℕ) → x ≡ 64 → skip_at d (x ∷ rest) ≡ Ok rest
whole_octets d x rest is = rw is (octets_64 d rest)

pub whole_text : (d x : ℕ) (rest : List ℕ) → x ≡ 96 → skip_at d (x ∷ rest) ≡ Ok rest
whole_text d x rest is = rw is (text_96 d rest)

simple : (x : ℕ) → 224 ≤ x → x ≤ 247 → x ≢ 244 → x ≢ 245 → x ≢ 246 → IsSimple (x ∷ [])
simple x ge le is_not_false is_not_true is_not_null = record {
  low = x - 224;
  bytes = [];
  n = x - 224;
  number = small (omega arith);
  not_false = λ e. is_not_false (omega arith);
  not_true = λ e. is_not_true (omega arith);
  not_null = λ e. is_not_null (omega arith);
  wide = λ e. absurd (omega arith);
  is = let e : x ≡ 224 + (x - 224) = omega arith in rw (← e) refl;
}

pub whole_simple : (d x : ℕ) (rest : List ℕ) → 224 ≤ x → x ≤ 247 → skip_at d (x ∷ rest) ≡ Ok rest
whole_simple d x rest ge le = by_tests (eqb x 244) (eqb x 245) (eqb x 246) refl refl refl
  where
    by_tests : (a b c : Bool) → eqb x 244 ≡ a → eqb x 245 ≡ b → eqb x 246 ≡ c → skip_at d (x ∷ rest) ≡ Ok rest
    by_tests true b c p q r = let e : 244 ≡ x = grind (arith, nat_tests, p) in subst (λ (y : ℕ). skip_at d (y ∷ rest) ≡ Ok rest) e ((simple_leaf (244 ∷ []) (heads.Bool false) (boolean false) refl (λ i s r. refl) (λ s r. refl) (λ e s r. refl) (λ s r. refl) d).skipped rest)
    by_tests false true c p q r = let e : 245 ≡ x = grind (arith, nat_tests, q) in subst (λ (y : ℕ). skip_at d (y ∷ rest) ≡ Ok rest) e ((simple_leaf (245 ∷ []) (heads.Bool true) (boolean true) refl (λ i s r. refl) (λ s r. refl) (λ e s r. refl) (λ s r. refl) d).skipped rest)
    by_tests false false true p q r = let e : 246 ≡ x = grind (arith, nat_tests, r) in subst (λ (y : ℕ). skip_at d (y ∷ rest) ≡ Ok rest) e ((simple_leaf (246 ∷ []) heads.Null null refl (λ i s r. refl) (λ s r. refl) (λ e s r. refl) (λ s r. refl) d).skipped rest)
    by_tests false false false p q r =
        (simple_leaf (x ∷ []) heads.Other other (simple x ge le (λ e. absurd (grind (arith, nat_tests, p))) (λ e. absurd (grind (arith, nat_tests, q))) (λ e. absurd (grind (arith, nat_tests, r)))) (λ i s r. refl) (λ s r. refl) (λ e s r. refl) (λ s r. refl) d).skipped rest

-- a text whose length stands in its first byte
pub short_text_head : (x : ℕ) (rest : List ℕ) → 96 ≤ x → x ≤ 119 → head_at (x ∷ rest) ≡ Ok (heads.Text (x - 96), rest)
short_text_head x rest ge le = head_again (x ∷ []) (heads.Text (x - 96)) (one_byte 3 (x - 96) x (omega arith) (omega arith)) rest

-- a key whose length stands in its first byte
pub short_key : (b : List ℕ) (n : ℕ) → 0 < length b → ((rest : List ℕ) → head_at (get_or b 0 0 ∷ rest) ≡ Ok (heads.Text n, rest)) → key_at b ≡ text_at b n (take (length b - 1) (drop 1 b))
unfolding key_at
short_key [] n lt is = absurd (omega arith)
short_key (x ∷ xs) n lt is =
    let tail : take (suc (length xs) - 1) xs ≡ xs = take_all _ xs (omega arith) in
    rw (is xs, tail) refl
