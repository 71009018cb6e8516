-- The shortest form is a spelling.
use Rattle.std.proofs.Common.{◌≡◌, ℕ, ◌+◌, ◌*◌, ◌^◌, ◌<◌, List, [], ◌∷◌, Bool, true, false, length, cond, ltb, refl, subst, arith}
use Rattle.std.specs.Int.{w16, w32, w64, to_be_bytes}
use Rattle.std.specs.Str.{IsUtf8}
use Rattle.std.proofs.lemmas.Bool.Decides.{nat_tests}
use Rattle.std.proofs.lemmas.Nat.{from_be_bytes-to_be_bytes_2, from_be_bytes-to_be_bytes_4, from_be_bytes-to_be_bytes_8}
use Rattle.smp_cbor.specs.Shortest.{short_head, short_text, short_octets, short_bool}
use Rattle.smp_cbor.specs.Values.{unsigned, octets, text, boolean}
use Rattle.smp_cbor.specs.Spelling.{Numbers, small, in_1, in_2, in_4, in_8, Numbered, Spells, unsigned_of, octets_of, text_of, boolean_of}

abbrev numbered : (m n low : ℕ) (bs : List ℕ) → Numbers low bs n → Numbered m n ((32 * m + low) ∷ bs)
numbered m n low bs is = record { low = low; bytes = bs; number = is; is = refl }

pub short_numbered : (m n : ℕ) → n < 2 ^ 64 → Numbered m n (short_head m n)
unfolding short_head
short_numbered m n lt = by_tests (ltb n 24) (ltb n 256) (ltb n 65536) (ltb n 4294967296) refl refl refl refl
  where
    by_tests : (a b c d : Bool) → ltb n 24 ≡ a → ltb n 256 ≡ b → ltb n 65536 ≡ c → ltb n 4294967296 ≡ d
        → Numbered m n (cond a ((32 * m + n) ∷ []) (cond b ((32 * m + 24) ∷ n ∷ []) (cond c ((32 * m + 25) ∷ to_be_bytes w16 n) (cond d ((32 * m + 26) ∷ to_be_bytes w32 n) ((32 * m + 27) ∷ to_be_bytes w64 n)))))
    by_tests true b c d p q r s = numbered m n n [] (small (grind (arith, nat_tests, p)))
    by_tests false true c d p q r s = numbered m n 24 (n ∷ []) in_1
    by_tests false false true d p q r s = numbered m n 25 (to_be_bytes w16 n) (let le : n < 2 ^ 16 = grind (arith, nat_tests, r) in subst (λ k. Numbers 25 (to_be_bytes w16 n) k) (from_be_bytes-to_be_bytes_2 n le) (in_2 refl))
    by_tests false false false true p q r s = numbered m n 26 (to_be_bytes w32 n) (let le : n < 2 ^ 32 = grind (arith, nat_tests, s) in subst (λ k. Numbers 26 (to_be_bytes w32 n) k) (from_be_bytes-to_be_bytes_4 n le) (in_4 refl))
    by_tests false false false false p q r s = numbered m n 27 (to_be_bytes w64 n) (subst (λ k. Numbers 27 (to_be_bytes w64 n) k) (from_be_bytes-to_be_bytes_8 n lt) (in_8 refl))

pub short_unsigned : (l n : ℕ) → n < 2 ^ 64 → Spells l (short_head 0 n) (unsigned n)
short_unsigned l n lt = unsigned_of (short_numbered 0 n lt)

pub short_text_spells : (l : ℕ) (t : List ℕ) → length t < 2 ^ 64 → IsUtf8 t → Spells l (short_text t) (text t)
short_text_spells l t lt utf8 = text_of (short_head 3 (length t)) (short_numbered 3 (length t) lt) utf8 refl

pub short_octets_spells : (l : ℕ) (b : List ℕ) → length b < 2 ^ 64 → Spells l (short_octets b) (octets b)
short_octets_spells l b lt = octets_of (short_head 2 (length b)) (short_numbered 2 (length b) lt) refl

pub short_bool_spells : (l : ℕ) (b : Bool) → Spells l (short_bool b) (boolean b)
short_bool_spells l true = boolean_of refl
short_bool_spells l false = boolean_of refl
