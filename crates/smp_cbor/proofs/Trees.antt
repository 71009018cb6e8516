-- The shortest form of a whole tree is a spelling of it, and no head is shorter.
use Rattle.std.proofs.Common.{◌≡◌, inl, inr, get_or, subst, ℕ, suc, ◌+◌, ◌*◌, ◌^◌, ◌<◌, ◌≤◌, List, [], ◌∷◌, ◌++◌, Bool, true, false, length, cond, ltb, Some, refl, sym, ap, ◌∙◌, append_assoc, arith}
use Rattle.std.specs.Int.{w16, w32, w64, to_be_bytes, from_be_bytes}
use Rattle.std.proofs.lemmas.Bool.Decides.{nat_tests}
use Rattle.std.proofs.lemmas.Nat.{be_bytes_2, be_bytes_4, be_bytes_8}
use Rattle.smp_cbor.specs.Values.{Value, unsigned, negative, octets, text, list, map, boolean, null, other, Values, no_values, value, Pairs, no_pairs, pair}
use Rattle.smp_cbor.specs.Shortest.{short_head, short_text, values_count, pairs_count, shortest, shortest_values, shortest_pairs, HasShortest, HaveShortest, PairsHaveShortest}
use Rattle.smp_cbor.specs.Spelling.{Numbers, small, in_1, in_2, in_4, in_8, Numbered, as_pairs, map_or_other, Spells, SpellsEach, unsigned_of, negative_of, list_of, map_of, null_of, nothing, one_more}
use Rattle.smp_cbor.proofs.Results.{tested}
use Rattle.smp_cbor.proofs.HeadLaws.{IsBytes}
use Rattle.smp_cbor.proofs.Short.{short_numbered, short_text_spells, short_octets_spells, short_bool_spells}

-- keys and values by turns
abbrev pub by_turns : Pairs → Values
by_turns no_pairs = no_values
by_turns (pair k v ps) = value (text k) (value v (by_turns ps))

count-by_turns : (ps : Pairs) → values_count (by_turns ps) ≡ pairs_count ps + pairs_count ps
count-by_turns no_pairs = refl
count-by_turns (pair k v ps) = omega (arith, count-by_turns ps)

as_pairs-by_turns : (l : ℕ) (seen : List (List ℕ)) (ps : Pairs) → PairsHaveShortest l seen ps → as_pairs seen (by_turns ps) ≡ Some ps
unfolding HasShortest HaveShortest PairsHaveShortest
as_pairs-by_turns l seen no_pairs has = refl
as_pairs-by_turns l seen (pair k v ps) has = rw (has.1, as_pairs-by_turns l (seen ++ k ∷ []) ps has.3) refl

mutual
  unfolding shortest shortest_values shortest_pairs HasShortest HaveShortest PairsHaveShortest

  pub shortest_spells : (l : ℕ) (v : Value) → HasShortest l v → Spells l (shortest v) v
  shortest_spells l (unsigned n) has = unsigned_of (short_numbered 0 n has)
  shortest_spells l (negative n) has = negative_of (short_numbered 1 n has)
  shortest_spells l (octets b) has = short_octets_spells l b has
  shortest_spells l (text t) has = short_text_spells l t has.0 has.1
  shortest_spells l (list vs) has = list_of (short_head 4 (values_count vs)) (shortest_values vs) has.0 (short_numbered 4 (values_count vs) has.1) (each_spells (suc l) vs has.2) refl
  shortest_spells l (map ps) has =
      map_of (short_head 5 (pairs_count ps)) (shortest_pairs ps) (pairs_count ps) (by_turns ps) has.0 (short_numbered 5 (pairs_count ps) has.1) (pairs_spell (suc l) [] ps has.2) (count-by_turns ps)
      (sym (ap map_or_other (as_pairs-by_turns (suc l) [] ps has.2))) refl
  shortest_spells l (boolean b) has = short_bool_spells l b
  shortest_spells l null has = null_of refl
  shortest_spells l other has = absurd has

  each_spells : (l : ℕ) (vs : Values) → HaveShortest l vs → SpellsEach l (shortest_values vs) vs
  each_spells l no_values has = nothing
  each_spells l (value v vs) has = one_more (shortest v) (shortest_values vs) (shortest_spells l v has.0) (each_spells l vs has.1) refl

  pairs_spell : (l : ℕ) (seen : List (List ℕ)) (ps : Pairs) → PairsHaveShortest l seen ps → SpellsEach l (shortest_pairs ps) (by_turns ps)
  pairs_spell l seen no_pairs has = nothing
  pairs_spell l seen (pair k v ps) has =
      one_more (short_text k) (shortest v ++ shortest_pairs ps) (short_text_spells l k has.0.0 has.0.1)
      (one_more (shortest v) (shortest_pairs ps) (shortest_spells l v has.2) (pairs_spell l (seen ++ k ∷ []) ps has.3) refl) (append_assoc (short_text k) (shortest v) (shortest_pairs ps))

-- ---- widths

above : (a n : ℕ) → (n < a → ⊥) → a ≤ n
above a n not = elim (tested (ltb n a)) [ inl p ↦ absurd (not (grind (arith, nat_tests, p))) | inr p ↦ grind (arith, nat_tests, p) ]

-- how long the least width is
width_least : (m n : ℕ) → (n < 24 → length (short_head m n) ≡ 1) × (n < 256 → length (short_head m n) ≤ 2) × (n < 2 ^ 16 → length (short_head m n) ≤ 3) × (n < 2 ^ 32 → length (short_head m n) ≤ 5) × (length (short_head m n) ≤ 9)
unfolding short_head
width_least m n = by_tests (ltb n 24) (ltb n 256) (ltb n 65536) (ltb n 4294967296) refl refl refl refl
  where
    by_tests : (a b c d : Bool) → ltb n 24 ≡ a → ltb n 256 ≡ b → ltb n 65536 ≡ c → ltb n 4294967296 ≡ d
        → let h = cond a ((32 * m + n) ∷ []) (cond b ((32 * m + 24) ∷ n ∷ []) (cond c ((32 * m + 25) ∷ to_be_bytes w16 n) (cond d ((32 * m + 26) ∷ to_be_bytes w32 n) ((32 * m + 27) ∷ to_be_bytes w64 n)))) in
        (n < 24 → length h ≡ 1) × (n < 256 → length h ≤ 2) × (n < 2 ^ 16 → length h ≤ 3) × (n < 2 ^ 32 → length h ≤ 5) × (length h ≤ 9)
    by_tests true b c d p q r s = (λ lt. refl, λ lt. omega arith, λ lt. omega arith, λ lt. omega arith, omega arith)
    by_tests false true c d p q r s = (λ lt. absurd (grind (arith, nat_tests, p, lt)), λ lt. omega arith, λ lt. omega arith, λ lt. omega arith, omega arith)
    by_tests false false true d p q r s = (λ lt. absurd (grind (arith, nat_tests, p, lt)), λ lt. absurd (grind (arith, nat_tests, q, lt)), λ lt. omega arith, λ lt. omega arith, omega arith)
    by_tests false false false true p q r s = (λ lt. absurd (grind (arith, nat_tests, p, lt)), λ lt. absurd (grind (arith, nat_tests, q, lt)), λ lt. absurd (grind (arith, nat_tests, r, lt)), λ lt. omega arith, omega arith)
    by_tests false false false false p q r s =
        (λ lt. absurd (grind (arith, nat_tests, p, lt)), λ lt. absurd (grind (arith, nat_tests, q, lt)), λ lt. absurd (grind (arith, nat_tests, r, lt)), λ lt. absurd (grind (arith, nat_tests, s, lt)), omega arith)

-- the head of each width
module _ (m n : ℕ) where
  short_0 : n < 24 → short_head m n ≡ (32 * m + n) ∷ []
  unfolding short_head
  short_0 lt = let a : ltb n 24 ≡ true = grind (arith, nat_tests) in rw a refl

  short_1 : 24 ≤ n → n < 256 → short_head m n ≡ (32 * m + 24) ∷ n ∷ []
  unfolding short_head
  short_1 le lt = let a : ltb n 24 ≡ false = grind (arith, nat_tests) in let b : ltb n 256 ≡ true = grind (arith, nat_tests) in rw (a, b) refl

  short_2 : 256 ≤ n → n < 65536 → short_head m n ≡ (32 * m + 25) ∷ to_be_bytes w16 n
  unfolding short_head
  short_2 le lt =
      let a : ltb n 24 ≡ false = grind (arith, nat_tests) in
      let b : ltb n 256 ≡ false = grind (arith, nat_tests) in
      let c : ltb n 65536 ≡ true = grind (arith, nat_tests) in
      rw (a, b, c) refl

  short_4 : 65536 ≤ n → n < 4294967296 → short_head m n ≡ (32 * m + 26) ∷ to_be_bytes w32 n
  unfolding short_head
  short_4 le lt =
      let a : ltb n 24 ≡ false = grind (arith, nat_tests) in
      let b : ltb n 256 ≡ false = grind (arith, nat_tests) in
      let c : ltb n 65536 ≡ false = grind (arith, nat_tests) in
      let d : ltb n 4294967296 ≡ true = grind (arith, nat_tests) in
      rw (a, b, c, d) refl

  short_8 : 4294967296 ≤ n → short_head m n ≡ (32 * m + 27) ∷ to_be_bytes w64 n
  unfolding short_head
  short_8 le =
      let a : ltb n 24 ≡ false = grind (arith, nat_tests) in
      let b : ltb n 256 ≡ false = grind (arith, nat_tests) in
      let c : ltb n 65536 ≡ false = grind (arith, nat_tests) in
      let d : ltb n 4294967296 ≡ false = grind (arith, nat_tests) in
      rw (a, b, c, d) refl

abbrev IsLeast : ℕ → ℕ → List ℕ → Type 0
IsLeast m n h = (length (short_head m n) ≤ length h) × (length h ≡ length (short_head m n) → h ≡ short_head m n)

least : {low : ℕ} {bs : List ℕ} {n : ℕ} → Numbers low bs n → IsBytes bs → (m : ℕ) → IsLeast m n ((32 * m + low) ∷ bs)
least (small {low} lt) fits m = let w = width_least m low in let one = w.0 lt in (omega arith, λ same. sym (short_0 m low lt))
least (in_1 {n}) fits m =
    let w = width_least m n in
    let lt : n < 256 = fits 0 in
    let two = w.1 lt in
    (omega arith, λ same. let le : 24 ≤ n = from_length n same in sym (short_1 m n le lt))
  where
    from_length : (n : ℕ) → length ((32 * m + 24) ∷ n ∷ []) ≡ length (short_head m n) → 24 ≤ n
    from_length n same = elim (tested (ltb n 24)) [ inl p ↦ absurd (let lt : n < 24 = grind (arith, nat_tests, p) in let one = (width_least m n).0 lt in omega arith) | inr p ↦ grind (arith, nat_tests, p) ]
least (in_2 {bs} len) fits m =
    let n = from_be_bytes w16 bs in
    let lt : from_be_bytes w16 bs < 65536 = omega (arith, fits 0, fits 1) in
    let three = (width_least m (from_be_bytes w16 bs)).2 lt in (
      omega arith,
      λ same. let le : 256 ≤ from_be_bytes w16 bs = above 256 (from_be_bytes w16 bs) (λ less. let two = (width_least m (from_be_bytes w16 bs)).1 less in omega arith) in
          ap (λ (t : List ℕ). (32 * m + 25) ∷ t) (sym (be_bytes_2 bs (from_be_bytes w16 bs) len fits refl)) ∙ sym (short_2 m (from_be_bytes w16 bs) le lt),
    )
least (in_4 {bs} len) fits m =
    let lt : from_be_bytes w32 bs < 4294967296 = omega (arith, fits 0, fits 1, fits 2, fits 3) in
    let five = (width_least m (from_be_bytes w32 bs)).3 lt in (
      omega arith,
      λ same. let le : 65536 ≤ from_be_bytes w32 bs = above 65536 (from_be_bytes w32 bs) (λ less. let three = (width_least m (from_be_bytes w32 bs)).2 less in omega arith) in
          ap (λ (t : List ℕ). (32 * m + 26) ∷ t) (sym (be_bytes_4 bs (from_be_bytes w32 bs) len fits refl)) ∙ sym (short_4 m (from_be_bytes w32 bs) le lt),
    )
least (in_8 {bs} len) fits m =
    let nine = (width_least m (from_be_bytes w64 bs)).4 in (
      omega arith,
      λ same. let le : 4294967296 ≤ from_be_bytes w64 bs = above 4294967296 (from_be_bytes w64 bs) (λ less. let five = (width_least m (from_be_bytes w64 bs)).3 less in omega arith) in
          ap (λ (t : List ℕ). (32 * m + 27) ∷ t) (sym (be_bytes_8 bs (from_be_bytes w64 bs) len fits refl)) ∙ sym (short_8 m (from_be_bytes w64 bs) le),
    )

pub least_head : (h : List ℕ) → IsBytes h → (major n : ℕ) → Numbered major n h → IsLeast major n h
least_head h fits major n r =
    let rest : IsBytes r.bytes = λ i. subst (λ (t : List ℕ). get_or t (suc i) 0 < 256) r.is (fits (suc i)) in
    subst (λ (t : List ℕ). IsLeast major n t) (sym r.is) (least r.number rest major)
