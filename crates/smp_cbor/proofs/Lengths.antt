-- How long what is written is.
use Rattle.std.proofs.Common.{◌≡◌, ℕ, ◌+◌, ◌*◌, ◌<◌, ◌≤◌, List, [], ◌∷◌, ◌++◌, Bool, true, false, length, cond, ltb, refl, arith}
use Rattle.std.specs.Int.{w16, w32, w64, to_be_bytes}
use Rattle.std.proofs.lemmas.List.{length-append}
use Rattle.smp_cbor.specs.Shortest.{short_head, number_bytes}

number_bytes_len : (top n : ℕ) → length (number_bytes top n) ≤ 9
number_bytes_len top n = by_tests (ltb n 24) (ltb n 256) (ltb n 65536) (ltb n 4294967296)
  where
    by_tests : (a b c d : Bool) → length (cond a ((top + n) ∷ []) (cond b ((top + 24) ∷ n ∷ []) (cond c ((top + 25) ∷ to_be_bytes w16 n) (cond d ((top + 26) ∷ to_be_bytes w32 n) ((top + 27) ∷ to_be_bytes w64 n))))) ≤ 9
    by_tests true b c d = omega arith
    by_tests false true c d = omega arith
    by_tests false false true d = omega arith
    by_tests false false false true = omega arith
    by_tests false false false false = omega arith

pub short_head_len : (m n : ℕ) → length (short_head m n) ≤ 9
unfolding short_head
short_head_len m n = number_bytes_len (32 * m) n

pub ruleset lengths = (short_head_len, length-append)
