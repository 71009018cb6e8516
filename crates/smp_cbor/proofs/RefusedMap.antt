-- A map that reading refuses stops at its first fault.
use Rattle.std.proofs.Common.{◌≡◌, ◌≢◌, ℕ, zero, suc, ◌+◌, ◌*◌, ◌/◌, ◌<◌, ◌≤◌, true, false, cond, eqb, ◌⊎◌, List, [], ◌∷◌, ◌++◌, length, drop, Option, Some, None, Result, Ok, Err, refl, sym, ap, subst, ◌∙◌, append_assoc, arith, inl, inr}
use Rattle.std.proofs.lemmas.Bool.Decides.{nat_tests}
use Rattle.std.proofs.lemmas.List.{length-append}
use Rattle.smp_cbor.specs.declared.heads.Head.{Head}
use Rattle.smp_cbor.specs.declared.heads.Head.TheVariants as heads
use Rattle.smp_cbor.specs.declared.fault.CborKind.{CborKind}
use Rattle.smp_cbor.specs.declared.fault.CborKind.TheVariants as kinds
use Rattle.smp_cbor.specs.declared.fault.Stop.{Stop}
use Rattle.smp_cbor.specs.Heads.{◌>>=◌, head_at}
use Rattle.smp_cbor.specs.Skipping.{stop_at, placed, text_at, begins_break, Skip, skip_at}
use Rattle.smp_cbor.specs.Values.{Value, text, map, pairs, key_body, key_at, is_among, distinct_pairs, map_pairs, map_entries, value_at, whole, map_body, map_of}
use Rattle.smp_cbor.specs.Spelling.{Numbered, IsHead, Spells, text_of}
use Rattle.smp_cbor.specs.Faults.{at_end, IsTextHead, Stops, no_head, too_short, no_text, too_deep, in_list, in_map, in_tag, StopsPair, in_key, no_key, repeated, in_value, StopsPairs, here, later, later_to_break, StopsMap, no_map, no_map_head, in_pairs, trailing}
use Rattle.smp_cbor.proofs.Results.{chosen, done, err_is, not_err, bind_ok, bind_err}
use Rattle.smp_cbor.proofs.HeadLaws.{IsBytes, Begins, head_takes, head_again, low_below}
use Rattle.smp_cbor.proofs.Again.{again}
use Rattle.smp_cbor.proofs.Maps.{content_reads}
use Rattle.smp_cbor.proofs.Takes.{placed_ok, IsBytes-after, text_takes, takes}
use Rattle.smp_cbor.proofs.RefusedHead.{head_fails}
use Rattle.smp_cbor.proofs.RefusedItem.{placed_err, refused, leaf_stops, item_shrinks}

-- a head is the only head there
pub head_is : (b h u : List ℕ) (hd hd' : Head) (rest : List ℕ) → head_at b ≡ Ok (hd, rest) → IsHead h hd' → b ≡ h ++ u → hd ≡ hd'
head_is b h u hd hd' rest e is parts =
    let f : head_at b ≡ Ok (hd', u) = ap head_at parts ∙ head_again h hd' is u in
    head_same hd hd' rest u (sym e ∙ f)
  where
    head_same : (hd hd' : Head) (r u : List ℕ) → ◌≡◌ {A = Result (Head × List ℕ) CborKind} (Ok (hd, r)) (Ok (hd', u)) → hd ≡ hd'
    head_same hd hd' r u e = ap (λ (x : Result (Head × List ℕ) CborKind). elim x [ Ok p ↦ p.0 | Err k ↦ hd ]) e

pub no_head_is : (b h u : List ℕ) (hd : Head) (k : CborKind) → head_at b ≡ Err k → IsHead h hd → b ≡ h ++ u → ⊥
no_head_is b h u hd k e is parts = differ (hd, u) k (sym (ap head_at parts ∙ head_again h hd is u) ∙ e)
  where
    differ : (x : Head × List ℕ) (k : CborKind) → ◌≡◌ {A = Result (Head × List ℕ) CborKind} (Ok x) (Err k) → ⊥
    differ x k e = cc

-- what a key is
record Key (b key a : List ℕ) : Type 0 where
  bytes : List ℕ
  spelled : Spells 2 bytes (text key)
  parts : b ≡ bytes ++ a

key_takes : (b key a : List ℕ) → IsBytes b → key_at b ≡ Ok (key, a) → Key b key a
unfolding key_at
key_takes b key a fits e =
    let h = bind_ok (placed b (head_at b)) (λ h. key_body b h.0 h.1) (key, a) e in
    let begins = head_takes b h.0.0 h.0.1 fits (placed_ok b (head_at b) h.0 h.1) in
    by_head h.0.0 h.0.1 begins h.2
  where
    by_head : (hd : Head) (rest : List ℕ) → Begins b hd rest → key_body b hd rest ≡ Ok (key, a) → Key b key a
    by_head (heads.Text n) rest begins e =
        let t = text_takes b n rest (key, a) e in
        record {
          bytes = begins.head ++ key;
          spelled = text_of begins.head (subst (λ n. IsHead begins.head (heads.Text n)) (sym t.0) begins.is) t.2 refl;
          parts = begins.parts ∙ ap (λ (x : List ℕ). begins.head ++ x) t.1 ∙ sym (append_assoc begins.head key a);
        }
    by_head (heads.Unsigned n) rest begins e = absurd cc
    by_head (heads.Negative n) rest begins e = absurd cc
    by_head (heads.Octets n) rest begins e = absurd cc
    by_head (heads.List c) rest begins e = absurd cc
    by_head (heads.Map c) rest begins e = absurd cc
    by_head heads.Tag rest begins e = absurd cc
    by_head (heads.Bool v) rest begins e = absurd cc
    by_head heads.Null rest begins e = absurd cc
    by_head heads.Other rest begins e = absurd cc

key_stops : (seen : List (List ℕ)) (b : List ℕ) (s : Stop) → IsBytes b → key_at b ≡ Err s → StopsPair seen b s
unfolding key_at
key_stops seen b s fits e =
    elim (bind_err (placed b (head_at b)) (λ h. key_body b h.0 h.1) s e) [
      | inl p ↦ let k = placed_err b (head_at b) s p in in_key (λ h u hd is parts. absurd (no_head_is b h u hd k.0 k.1 is parts)) (no_head k.0 (head_fails b k.0 k.1) k.2)
      | inr h ↦ let head = placed_ok b (head_at b) h.0 h.1 in by_head h.0.0 h.0.1 head (head_takes b h.0.0 h.0.1 fits head) h.2
    ]
  where
    by_head : (hd : Head) (rest : List ℕ) → head_at b ≡ Ok (hd, rest) → Begins b hd rest → key_body b hd rest ≡ Err s → StopsPair seen b s
    by_head (heads.Text n) rest head begins e =
        in_key (λ h u hd is parts. subst IsTextHead (head_is b h u (heads.Text n) hd rest head is parts) tt) (leaf_stops 2 b rest s None (heads.Text n) begins (λ is. absurd is) (skip_err (text_at b n rest) e))
      where
        skip_err : (r : Result (List ℕ × List ℕ) Stop) → r ≡ Err s → (r >>= λ x. done x.1) ≡ Err s
        skip_err r e = rw e refl
    by_head (heads.Unsigned n) rest head begins e = no_key begins.head rest (heads.Unsigned n) begins.is (λ x. x) begins.parts (err_is (stop_at b kinds.Key) s e)
    by_head (heads.Negative n) rest head begins e = no_key begins.head rest (heads.Negative n) begins.is (λ x. x) begins.parts (err_is (stop_at b kinds.Key) s e)
    by_head (heads.Octets n) rest head begins e = no_key begins.head rest (heads.Octets n) begins.is (λ x. x) begins.parts (err_is (stop_at b kinds.Key) s e)
    by_head (heads.List c) rest head begins e = no_key begins.head rest (heads.List c) begins.is (λ x. x) begins.parts (err_is (stop_at b kinds.Key) s e)
    by_head (heads.Map c) rest head begins e = no_key begins.head rest (heads.Map c) begins.is (λ x. x) begins.parts (err_is (stop_at b kinds.Key) s e)
    by_head heads.Tag rest head begins e = no_key begins.head rest heads.Tag begins.is (λ x. x) begins.parts (err_is (stop_at b kinds.Key) s e)
    by_head (heads.Bool v) rest head begins e = no_key begins.head rest (heads.Bool v) begins.is (λ x. x) begins.parts (err_is (stop_at b kinds.Key) s e)
    by_head heads.Null rest head begins e = no_key begins.head rest heads.Null begins.is (λ x. x) begins.parts (err_is (stop_at b kinds.Key) s e)
    by_head heads.Other rest head begins e = no_key begins.head rest heads.Other begins.is (λ x. x) begins.parts (err_is (stop_at b kinds.Key) s e)

-- a pair that is read, and the rest that stops; or a pair that stops
record Went (b : List ℕ) (seen : List (List ℕ)) (f : List (List ℕ) → Skip) (s : Stop) : Type 0 where
  h : List ℕ
  g : List ℕ
  u : List ℕ
  key : List ℕ
  v : Value
  spelled : Spells 2 h (text key)
  fresh : is_among key seen ≡ false
  value : Spells 2 g v
  parts : b ≡ h ++ (g ++ u)
  fits : IsBytes u
  less : length u < length b
  stops : f (seen ++ key ∷ []) u ≡ Err s

abbrev pub one_pair : List (List ℕ) → (List (List ℕ) → Skip) → Skip
one_pair seen f b = key_at b >>= λ x. cond (is_among x.0 seen) (Err (stop_at b kinds.Repeated)) (skip_at 7 x.1 >>= f (seen ++ x.0 ∷ []))

pair_stops : (seen : List (List ℕ)) (f : List (List ℕ) → Skip) (b : List ℕ) (s : Stop) → IsBytes b → one_pair seen f b ≡ Err s → StopsPair seen b s ⊎ Went b seen f s
pair_stops seen f b s fits e =
    elim (bind_err (key_at b) (λ x. cond (is_among x.0 seen) (Err (stop_at b kinds.Repeated)) (skip_at 7 x.1 >>= f (seen ++ x.0 ∷ []))) s e) [
      | inl p ↦ inl (key_stops seen b s fits p)
      | inr p ↦
          let k = key_takes b p.0.0 p.0.1 fits p.1 in
          let rest_fits = IsBytes-after b k.bytes p.0.1 k.parts fits in
          elim (chosen (is_among p.0.0 seen) (Err (stop_at b kinds.Repeated)) (skip_at 7 p.0.1 >>= f (seen ++ p.0.0 ∷ [])) (Err s) p.2) [
            | inl q ↦ inl (repeated k.bytes p.0.1 p.0.0 k.spelled q.0 k.parts (err_is (stop_at b kinds.Repeated) s q.1))
            | inr q ↦ elim (bind_err (skip_at 7 p.0.1) (f (seen ++ p.0.0 ∷ [])) s q.1) [
              | inl r ↦ inl (in_value k.bytes p.0.1 p.0.0 k.spelled q.0 (refused 7 2 refl p.0.1 s rest_fits r) k.parts)
              | inr r ↦
                  let i = takes 7 2 refl p.0.1 r.0 rest_fits r.1 in
                  let less = item_shrinks 7 2 p.0.1 r.0 refl rest_fits r.1 in
                  let long : length b ≡ length k.bytes + length p.0.1 = ap length k.parts ∙ length-append k.bytes p.0.1 in
                  inr (record {
                    h = k.bytes;
                    g = i.bytes;
                    u = r.0;
                    key = p.0.0;
                    v = i.value;
                    spelled = k.spelled;
                    fresh = q.0;
                    value = i.spelled;
                    parts = k.parts ∙ ap (λ (x : List ℕ). k.bytes ++ x) i.parts;
                    fits = IsBytes-after p.0.1 i.bytes r.0 i.parts rest_fits;
                    less = omega arith;
                    stops = r.2;
                  })
            ]
          ]
    ]

counted_pairs : (k : ℕ) (seen : List (List ℕ)) (b : List ℕ) (s : Stop) → IsBytes b → distinct_pairs false (skip_at 7) seen k b ≡ Err s → StopsPairs (Some k) seen b s
unfolding distinct_pairs
counted_pairs zero seen b s fits e = not_err b s e
counted_pairs (suc k) seen b s fits e =
    elim (pair_stops seen (λ t. distinct_pairs false (skip_at 7) t k) b s fits e) [
      | inl p ↦ here (λ h. absurd (more k h)) (λ h. absurd (some_none (suc k) h)) p
      | inr w ↦ later w.h w.g w.u w.key w.v w.spelled w.fresh w.value w.parts (counted_pairs k (seen ++ w.key ∷ []) w.u s w.fits w.stops)
    ]
  where
    more : (k : ℕ) → Some (suc k) ≡ Some 0 → ⊥
    more k e = let f : suc k ≡ 0 = cc in absurd (omega arith)

    some_none : (k : ℕ) → Some k ≡ None → ⊥
    some_none k e = cc

none_some : ◌≡◌ {A = Option ℕ} None (Some 0) → ⊥
none_some e = cc

pub head_at_nil : head_at [] ≡ Err kinds.Short
unfolding head_at
head_at_nil = refl

pairs_to_break : (k : ℕ) (seen : List (List ℕ)) (b : List ℕ) (s : Stop) → length b ≤ k → IsBytes b → distinct_pairs true (skip_at 7) seen k b ≡ Err s → StopsPairs None seen b s
unfolding distinct_pairs
pairs_to_break zero seen b s le fits e =
    let nil : b ≡ [] = empty b le in
    here (λ h. absurd (none_some h)) (λ h. rw nil refl) (in_key (λ h u hd is parts. absurd (no_head_is b h u hd kinds.Short (rw nil head_at_nil) is parts)) (no_head kinds.Short (rw nil at_end) (err_is (stop_at b kinds.Short) s e)))
  where
    empty : (b : List ℕ) → length b ≤ 0 → b ≡ []
    empty [] h = refl
    empty (x ∷ b) h = absurd (omega arith)
pairs_to_break (suc k) seen b s le fits e =
    elim (chosen (begins_break b) (done (drop 1 b)) (one_pair seen (λ t. distinct_pairs true (skip_at 7) t k) b) (Err s) e) [
      | inl p ↦ not_err _ s p.1
      | inr p ↦ elim (pair_stops seen (λ t. distinct_pairs true (skip_at 7) t k) b s fits p.1) [
        | inl q ↦ here (λ h. absurd (none_some h)) (λ h. p.0) q
        | inr w ↦ let less = w.less in later_to_break w.h w.g w.u w.key w.v w.spelled w.fresh w.value w.parts (pairs_to_break k (seen ++ w.key ∷ []) w.u s (omega arith) w.fits w.stops)
      ]
    ]

-- ---- the whole map

numbered_first : (m n x : ℕ) (b h rest : List ℕ) → Numbered m n h → x ∷ b ≡ h ++ rest → x / 32 ≡ m
numbered_first m n x b h rest r parts =
    let below = low_below r.number in
    let e : x ∷ b ≡ (32 * m + r.low) ∷ (r.bytes ++ rest) = parts ∙ ap (λ (h : List ℕ). h ++ rest) r.is in
    let first : x ≡ 32 * m + r.low = cc in
    omega arith

byte_first : (y x : ℕ) (b h rest : List ℕ) → h ≡ y ∷ [] → x ∷ b ≡ h ++ rest → x ≡ y
byte_first y x b h rest is parts =
    let e : x ∷ b ≡ y ∷ rest = parts ∙ ap (λ (h : List ℕ). h ++ rest) is in
    cc

not_five : {P : Type 0} (m x : ℕ) → x / 32 ≡ 5 → x / 32 ≡ m → m < 5 ⊎ 5 < m → P
not_five m x five is (inl h) = absurd (omega arith)
not_five m x five is (inr h) = absurd (omega arith)

-- only a map's head begins with major type 5
only_map : (x : ℕ) (b : List ℕ) (hd : Head) (rest : List ℕ) → x / 32 ≡ 5 → Begins (x ∷ b) hd rest → (count : Option ℕ) × (hd ≡ heads.Map count)
only_map x b (heads.Map count) rest five begins = (count, refl)
only_map x b (heads.Unsigned n) rest five begins = not_five 0 x five (numbered_first 0 n x b begins.head rest begins.is begins.parts) (inl (omega arith))
only_map x b (heads.Negative n) rest five begins = not_five 1 x five (numbered_first 1 n x b begins.head rest begins.is begins.parts) (inl (omega arith))
only_map x b (heads.Octets n) rest five begins = not_five 2 x five (numbered_first 2 n x b begins.head rest begins.is begins.parts) (inl (omega arith))
only_map x b (heads.Text n) rest five begins = not_five 3 x five (numbered_first 3 n x b begins.head rest begins.is begins.parts) (inl (omega arith))
only_map x b (heads.List (Some n)) rest five begins = not_five 4 x five (numbered_first 4 n x b begins.head rest begins.is begins.parts) (inl (omega arith))
only_map x b (heads.List None) rest five begins = let is = byte_first 159 x b begins.head rest begins.is begins.parts in absurd (omega arith)
only_map x b heads.Tag rest five begins = not_five 6 x five (numbered_first 6 begins.is.0 x b begins.head rest begins.is.1 begins.parts) (inr (omega arith))
only_map x b (heads.Bool true) rest five begins = let is = byte_first 245 x b begins.head rest begins.is begins.parts in absurd (omega arith)
only_map x b (heads.Bool false) rest five begins = let is = byte_first 244 x b begins.head rest begins.is begins.parts in absurd (omega arith)
only_map x b heads.Null rest five begins = let is = byte_first 246 x b begins.head rest begins.is begins.parts in absurd (omega arith)
only_map x b heads.Other rest five begins =
    let r = begins.is in
    let below = low_below r.number in
    let e : x ∷ b ≡ (32 * 7 + r.low) ∷ (r.bytes ++ rest) = begins.parts ∙ ap (λ (h : List ℕ). h ++ rest) r.is in
    let first : x ≡ 32 * 7 + r.low = cc in
    absurd (omega arith)

-- pairs that are read, and bytes after them
after_map : (b rest r : List ℕ) (count : Option ℕ) (s : Stop) → IsBytes b → head_at b ≡ Ok (heads.Map count, rest) → map_pairs 7 count rest ≡ Ok r → r ≢ [] → s ≡ stop_at r kinds.Trailing → StopsMap b s
after_map b rest r count s fits head strict more is =
    let reads = content_reads 7 b rest r count head strict in
    let item = takes 8 1 refl b r fits reads.0 in
    let v : value_at 8 (item.bytes ++ r) ≡ item.value = (again item.spelled 8 refl).valued r in
    let same : item.value ≡ map (pairs (map_entries 7 (value_at 7) count rest)) = sym v ∙ ap (value_at 8) (sym item.parts) ∙ reads.1 in
    trailing item.bytes r (pairs (map_entries 7 (value_at 7) count rest)) (subst (λ w. Spells 1 item.bytes w) same item.spelled) more item.parts is

pairs_stop : (count : Option ℕ) (rest : List ℕ) (s : Stop) → IsBytes rest → map_pairs 7 count rest ≡ Err s → StopsPairs count [] rest s
pairs_stop (Some n) rest s fits e = counted_pairs n [] rest s fits e
pairs_stop None rest s fits e = pairs_to_break (length rest) [] rest s (omega arith) fits e

whole_stops : (b rest : List ℕ) (count : Option ℕ) (s : Stop) → IsBytes b → head_at b ≡ Ok (heads.Map count, rest) → Begins b (heads.Map count) rest → whole b (map_pairs 7 count) rest ≡ Err s → StopsMap b s
whole_stops b rest count s fits head begins e =
    elim (bind_err (map_pairs 7 count rest) (λ r. cond (eqb (length r) 0) (done rest) (Err (stop_at r kinds.Trailing))) s e) [
      | inl p ↦ in_pairs begins.head rest count begins.is (pairs_stop count rest s (IsBytes-after b begins.head rest begins.parts fits) p) begins.parts
      | inr p ↦ elim (chosen (eqb (length p.0) 0) (done rest) (Err (stop_at p.0 kinds.Trailing)) (Err s) p.2) [
        | inl q ↦ not_err _ s q.1
        | inr q ↦ after_map b rest p.0 count s fits head p.1 (λ h. let z : length p.0 ≡ 0 = ap length h in grind (arith, nat_tests, q.0, z)) (err_is (stop_at p.0 kinds.Trailing) s q.1)
      ]
    ]

body_stops : (b : List ℕ) (hd : Head) (rest : List ℕ) (count : Option ℕ) (s : Stop) → IsBytes b → hd ≡ heads.Map count → head_at b ≡ Ok (hd, rest) → Begins b hd rest → map_body b hd rest ≡ Err s → StopsMap b s
body_stops b (heads.Map c) rest count s fits is head begins e =
    elim (bind_err (whole b (map_pairs 7 c) rest) (λ r. Ok (map_entries 7 (value_at 7) c r)) s e) [
      | inl p ↦ whole_stops b rest c s fits head begins p
      | inr p ↦ not_err _ s p.2
    ]
body_stops b (heads.Unsigned n) rest count s fits is head begins e = absurd cc
body_stops b (heads.Negative n) rest count s fits is head begins e = absurd cc
body_stops b (heads.Octets n) rest count s fits is head begins e = absurd cc
body_stops b (heads.Text n) rest count s fits is head begins e = absurd cc
body_stops b (heads.List c) rest count s fits is head begins e = absurd cc
body_stops b heads.Tag rest count s fits is head begins e = absurd cc
body_stops b (heads.Bool v) rest count s fits is head begins e = absurd cc
body_stops b heads.Null rest count s fits is head begins e = absurd cc
body_stops b heads.Other rest count s fits is head begins e = absurd cc

pub map_stops : (b : List ℕ) (s : Stop) → IsBytes b → map_of b ≡ Err s → StopsMap b s
unfolding map_of
map_stops [] s fits e = not_err _ s e
map_stops (x ∷ b) s fits e =
    elim (chosen (eqb (x / 32) 5) _ _ (Err s) e) [
      | inl p ↦
          let five : x / 32 ≡ 5 = grind (arith, nat_tests, p.0) in
          elim (bind_err (placed (x ∷ b) (head_at (x ∷ b))) (λ h. map_body (x ∷ b) h.0 h.1) s p.1) [
            | inl q ↦ let k = placed_err (x ∷ b) (head_at (x ∷ b)) s q in no_map_head k.0 five (head_fails (x ∷ b) k.0 k.1) k.2
            | inr q ↦
                let head = placed_ok (x ∷ b) (head_at (x ∷ b)) q.0 q.1 in
                let begins = head_takes (x ∷ b) q.0.0 q.0.1 fits head in
                let m = only_map x b q.0.0 q.0.1 five begins in
                body_stops (x ∷ b) q.0.0 q.0.1 m.0 s fits m.1 head begins q.2
          ]
      | inr p ↦ no_map (λ h. grind (arith, nat_tests, p.0, h)) (err_is (stop_at (x ∷ b) kinds.NotAMap) s p.1)
    ]

-- ---- a fault lies within the bytes

pub stops_within : {l : ℕ} {b : List ℕ} {s : Stop} → Stops l b s → s.left ≤ length b
stops_within (no_head k fails is) = rw is (omega arith)
stops_within (too_short h t hd n is states short parts at) = rw at (omega arith)
stops_within (no_text h t u is wrong parts at) = rw at (omega arith)
stops_within (too_deep h t hd deep is opens parts at) = rw at (omega arith)
stops_within (in_list h c t count vs le is each goes stops parts) = let k = stops_within stops in rw parts (omega (arith, length-append h (c ++ t), length-append c t))
stops_within (in_map h c t count vs le is each goes stops parts) = let k = stops_within stops in rw parts (omega (arith, length-append h (c ++ t), length-append c t))
stops_within (in_tag h t le is stops parts) = let k = stops_within stops in rw parts (omega (arith, length-append h t))

pub pair_within : {seen : List (List ℕ)} {b : List ℕ} {s : Stop} → StopsPair seen b s → s.left ≤ length b
pair_within (in_key only stops) = stops_within stops
pair_within (no_key h u hd is wrong parts at) = rw at (omega arith)
pair_within (repeated h u key is was parts at) = rw at (omega arith)
pair_within (in_value h u key is fresh stops parts) = let k = stops_within stops in rw parts (omega (arith, length-append h u))

pub pairs_within : {count : Option ℕ} {seen : List (List ℕ)} {b : List ℕ} {s : Stop} → StopsPairs count seen b s → s.left ≤ length b
pairs_within (here more goes stops) = pair_within stops
pairs_within (later h g u key v is fresh value parts stops) = let k = pairs_within stops in rw parts (omega (arith, length-append h (g ++ u), length-append g u))
pairs_within (later_to_break h g u key v is fresh value parts stops) = let k = pairs_within stops in rw parts (omega (arith, length-append h (g ++ u), length-append g u))

pub map_within : {b : List ℕ} {s : Stop} → StopsMap b s → s.left ≤ length b
map_within (no_map five at) = rw at (omega arith)
map_within (no_map_head k five fails at) = rw at (omega arith)
map_within (in_pairs h c count is stops parts) = let k = pairs_within stops in rw parts (omega (arith, length-append h c))
map_within (trailing h t ps is more parts at) = rw (at, parts) (omega (arith, length-append h t))
