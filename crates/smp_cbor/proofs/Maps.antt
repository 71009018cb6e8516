-- The outer map is the map that the bytes spell.
use Rattle.std.proofs.Common.{◌≡◌, ℕ, zero, suc, ◌+◌, ◌*◌, ◌/◌, Bool, true, false, ◌&&◌, eqb, List, [], ◌∷◌, ◌++◌, length, Option, Some, None, Result, Ok, Err, refl, sym, ap, subst, ◌∙◌, arith, inl, inr}
use Rattle.std.specs.Prelude.{is_ok, is_none}
use Rattle.std.proofs.lemmas.Bool.Decides.{nat_tests}
use Rattle.std.proofs.lemmas.List.{append-nil, nil_from_length}
use Rattle.smp_cbor.specs.declared.heads.Head.{Head}
use Rattle.smp_cbor.specs.declared.heads.Head.TheVariants as heads
use Rattle.smp_cbor.specs.declared.fault.Stop.{Stop}
use Rattle.smp_cbor.specs.Heads.{head_at}
use Rattle.smp_cbor.specs.Skipping.{placed, octets_at, text_at, begins_break, turns, Skip, entry, skips, skip_body, skip_at}
use Rattle.smp_cbor.specs.Values.{Value, octets, text, map, Pairs, no_pairs, pairs, key_body, key_at, is_among, distinct_pairs, map_pairs, or_other, map_value, map_entries, inner_value, value_at, whole, map_body, map_of as map_read}
use Rattle.smp_cbor.specs.Spelling.{Numbered, IsHead, Spells, SpellsMap, unsigned_of, negative_of, octets_of, text_of, list_of, list_to_break, map_of, map_to_break, tag_of, boolean_of, null_of, other_of}
use Rattle.smp_cbor.proofs.Results.{chosen, done, ok_is, not_ok, bind_ok}
use Rattle.smp_cbor.proofs.HeadLaws.{IsBytes, low_below}
use Rattle.smp_cbor.proofs.Again.{again}
use Rattle.smp_cbor.proofs.Takes.{placed_ok, takes}

-- a key that is read is an item that is skipped
key_body_skips : (inner : Option Skip) (b : List ℕ) (hd : Head) (r : List ℕ) (x : List ℕ × List ℕ) → key_body b hd r ≡ Ok x → skip_body inner b hd r ≡ Ok x.1
key_body_skips inner b (heads.Text n) r x e = rw e refl
key_body_skips inner b (heads.Unsigned n) r x e = not_ok _ x e
key_body_skips inner b (heads.Negative n) r x e = not_ok _ x e
key_body_skips inner b (heads.Octets n) r x e = not_ok _ x e
key_body_skips inner b (heads.List c) r x e = not_ok _ x e
key_body_skips inner b (heads.Map c) r x e = not_ok _ x e
key_body_skips inner b heads.Tag r x e = not_ok _ x e
key_body_skips inner b (heads.Bool v) r x e = not_ok _ x e
key_body_skips inner b heads.Null r x e = not_ok _ x e
key_body_skips inner b heads.Other r x e = not_ok _ x e

pub key_skips : (d : ℕ) (b : List ℕ) (x : List ℕ × List ℕ) → key_at b ≡ Ok x → skip_at d b ≡ Ok x.1
unfolding key_at skip_at
key_skips zero b x e =
    let h = bind_ok (placed b (head_at b)) (λ h. key_body b h.0 h.1) x e in
    rw h.1 (key_body_skips None b h.0.0 h.0.1 x h.2)
key_skips (suc d) b x e =
    let h = bind_ok (placed b (head_at b)) (λ h. key_body b h.0 h.1) x e in
    rw h.1 (key_body_skips (Some (skip_at d)) b h.0.0 h.0.1 x h.2)

-- pairs whose keys are texts that differ are pairs
distinct_skips : (ends : Bool) (d : ℕ) (seen : List (List ℕ)) (k : ℕ) (b r : List ℕ) → distinct_pairs ends (skip_at d) seen k b ≡ Ok r → skips ends (entry true (skip_at d)) k b ≡ Ok r
unfolding distinct_pairs skips
distinct_skips ends d seen zero b r e = e
distinct_skips ends d seen (suc k) b r e =
    elim (chosen (ends && begins_break b) _ _ (Ok r) e) [
      | inl p ↦ rw p.0 p.1
      | inr p ↦
          let x = bind_ok (key_at b) _ r p.1 in
          elim (chosen (is_among x.0.0 seen) _ _ (Ok r) x.2) [
            | inl q ↦ not_ok _ r q.1
            | inr q ↦
                let y = bind_ok (skip_at d x.0.1) (distinct_pairs ends (skip_at d) (seen ++ x.0.0 ∷ []) k) r q.1 in
                rw (p.0, key_skips d b x.0 x.1, y.1) (distinct_skips ends d (seen ++ x.0.0 ∷ []) k y.0 r y.2)
          ]
    ]

ok_of : {A : Type 0} (r : Result A Stop) → is_ok r ≡ true → (x : A) × (r ≡ Ok x)
ok_of (Ok x) e = (x, refl)
ok_of (Err s) e = absurd cc

-- the bytes of a map head, and what its map is
record Content (b : List ℕ) (es : List (List ℕ × Value)) : Type 0 where
  count : Option ℕ
  rest : List ℕ
  head : head_at b ≡ Ok (heads.Map count, rest)
  strict : map_pairs 7 count rest ≡ Ok []
  is : es ≡ map_entries 7 (value_at 7) count rest

whole_takes : (b rest : List ℕ) (count : Option ℕ) (x : List ℕ) → whole b (map_pairs 7 count) rest ≡ Ok x → (map_pairs 7 count rest ≡ Ok []) × (rest ≡ x)
whole_takes b rest count x e =
    let y = bind_ok (map_pairs 7 count rest) _ x e in
    elim (chosen (eqb (length y.0) 0) _ _ (Ok x) y.2) [
      | inl p ↦ let empty : y.0 ≡ [] = nil_from_length y.0 (grind (arith, nat_tests, p.0)) in (y.1 ∙ ap (λ (z : List ℕ). done z) empty, ok_is rest x p.1)
      | inr p ↦ not_ok _ x p.1
    ]

body_takes : (b : List ℕ) (hd : Head) (rest : List ℕ) (es : List (List ℕ × Value)) → head_at b ≡ Ok (hd, rest) → map_body b hd rest ≡ Ok es → Content b es
body_takes b (heads.Map count) rest es head e =
    let y = bind_ok (whole b (map_pairs 7 count) rest) (λ r. Ok (map_entries 7 (value_at 7) count r)) es e in
    let w = whole_takes b rest count y.0 y.1 in
    let is : map_entries 7 (value_at 7) count y.0 ≡ es = ok_is _ es y.2 in
    record { count = count; rest = rest; head = head; strict = w.0; is = sym (ap (map_entries 7 (value_at 7) count) w.1 ∙ is) }
body_takes b (heads.Unsigned n) rest es head e = not_ok _ es e
body_takes b (heads.Negative n) rest es head e = not_ok _ es e
body_takes b (heads.Octets n) rest es head e = not_ok _ es e
body_takes b (heads.Text n) rest es head e = not_ok _ es e
body_takes b (heads.List c) rest es head e = not_ok _ es e
body_takes b heads.Tag rest es head e = not_ok _ es e
body_takes b (heads.Bool v) rest es head e = not_ok _ es e
body_takes b heads.Null rest es head e = not_ok _ es e
body_takes b heads.Other rest es head e = not_ok _ es e

pub content_reads : (d : ℕ) (b rest r : List ℕ) (count : Option ℕ) → head_at b ≡ Ok (heads.Map count, rest) → map_pairs d count rest ≡ Ok r → (skip_at (suc d) b ≡ Ok r) × (value_at (suc d) b ≡ map (pairs (map_entries d (value_at d) count rest)))
unfolding skip_at value_at
content_reads d b rest r count head strict =
    (rw head (distinct_skips (is_none count) d [] (turns count rest) rest r strict), rw (head, strict) refl)

pub map_found : (b : List ℕ) (es : List (List ℕ × Value)) → IsBytes b → map_read b ≡ Ok es → SpellsMap b (pairs es)
unfolding map_read
map_found [] es fits e = let is : [] ≡ es = ok_is [] es e in subst (λ (xs : List (List ℕ × Value)). pairs xs ≡ no_pairs) is refl
map_found (x ∷ b) es fits e =
    elim (chosen (eqb (x / 32) 5) _ _ (Ok es) e) [
      | inl p ↦
          let h = bind_ok (placed (x ∷ b) (head_at (x ∷ b))) (λ h. map_body (x ∷ b) h.0 h.1) es p.1 in
          let c = body_takes (x ∷ b) h.0.0 h.0.1 es (placed_ok (x ∷ b) (head_at (x ∷ b)) h.0 h.1) h.2 in
          let reads = content_reads 7 (x ∷ b) c.rest [] c.count c.head c.strict in
          let item = takes 8 1 refl (x ∷ b) [] fits reads.0 in
          let all : x ∷ b ≡ item.bytes = item.parts ∙ append-nil item.bytes in
          let v : value_at 8 (item.bytes ++ []) ≡ item.value = (again item.spelled 8 refl).valued [] in
          let same : item.value ≡ map (pairs es) = sym v ∙ ap (value_at 8) (sym item.parts) ∙ reads.1 ∙ ap (λ (xs : List (List ℕ × Value)). map (pairs xs)) (sym c.is) in
          rw (all, ← same) item.spelled
      | inr p ↦ not_ok _ es p.1
    ]

-- ---- the other way

numbered_first : (x : ℕ) (b h c : List ℕ) (m n : ℕ) → Numbered m n h → x ∷ b ≡ h ++ c → x / 32 ≡ m
numbered_first x b h c m n r parts =
    let below = low_below r.number in
    let e : x ∷ b ≡ (32 * m + r.low) ∷ (r.bytes ++ c) = parts ∙ ap (λ (h : List ℕ). h ++ c) r.is in
    let first : x ≡ 32 * m + r.low = cc in
    omega arith

pub five : (x : ℕ) (b h c : List ℕ) (count : Option ℕ) → IsHead h (heads.Map count) → x ∷ b ≡ h ++ c → x / 32 ≡ 5
five x b h c (Some n) is parts = numbered_first x b h c 5 n is parts
five x b h c None is parts =
    let e : x ∷ b ≡ 191 ∷ c = parts ∙ ap (λ (h : List ℕ). h ++ c) is in
    let first : x ≡ 191 = cc in
    omega arith

-- the first byte of what is spelled as a map
map_first : {l : ℕ} {b : List ℕ} {v : Value} → Spells l b v → (x : ℕ) (t : List ℕ) (ps : Pairs) → b ≡ x ∷ t → v ≡ map ps → x / 32 ≡ 5
map_first (map_of {l} {b} {v} h c n vs le is each even what parts) x t ps first e = five x t h c (Some n) is (sym first ∙ parts)
map_first (map_to_break {l} {b} {v} h c n vs le is each even what parts) x t ps first e = five x t h (c ++ 255 ∷ []) None is (sym first ∙ parts)
map_first (unsigned_of is) x t ps first e = absurd cc
map_first (negative_of is) x t ps first e = absurd cc
map_first (octets_of h is parts) x t ps first e = absurd cc
map_first (text_of h is utf8 parts) x t ps first e = absurd cc
map_first (list_of h c le is each parts) x t ps first e = absurd cc
map_first (list_to_break h c le is each parts) x t ps first e = absurd cc
map_first (tag_of h c v le is inner parts) x t ps first e = absurd cc
map_first (boolean_of is) x t ps first e = absurd cc
map_first (null_of is) x t ps first e = absurd cc
map_first (other_of is) x t ps first e = absurd cc

-- what the bytes of a map, with r after it, begin with
pub record MapHead (d : ℕ) (b r : List ℕ) (ps : Pairs) : Type 0 where
  pub count : Option ℕ
  pub rest : List ℕ
  pub head : head_at b ≡ Ok (heads.Map count, rest)
  pub strict : map_pairs d count rest ≡ Ok r
  pub is : pairs (map_entries d (value_at d) count rest) ≡ ps

or_other_map : {A : Type 0} (r : Result A Stop) (f : A → Value) (ps : Pairs) → or_other r f ≡ map ps → (x : A) × (r ≡ Ok x) × (f x ≡ map ps)
or_other_map (Ok x) f ps e = (x, refl, e)
or_other_map (Err s) f ps e = absurd cc

found_map : (ok : Bool) (es : List (List ℕ × Value)) (ps : Pairs) → map_value ok es ≡ map ps → (ok ≡ true) × (pairs es ≡ ps)
found_map true es ps e = (refl, cc)
found_map false es ps e = absurd cc

not_octets : {P : Type 0} (t : List ℕ) (ps : Pairs) → octets t ≡ map ps → P
not_octets t ps e = absurd cc

not_text : {P : Type 0} (t : List ℕ) (ps : Pairs) → text t ≡ map ps → P
not_text t ps e = absurd cc

inner_map : (d : ℕ) (b r : List ℕ) (hd : Head) (rest : List ℕ) (ps : Pairs) → head_at b ≡ Ok (hd, rest) → inner_value d (value_at d) b hd rest ≡ map ps → skip_body (Some (skip_at d)) b hd rest ≡ Ok r → MapHead d b r ps
inner_map d b r (heads.Map count) rest ps head e skipped =
    let f = found_map (is_ok (map_pairs d count rest)) (map_entries d (value_at d) count rest) ps e in
    let o = ok_of (map_pairs d count rest) f.0 in
    let same : done o.0 ≡ done r = sym (distinct_skips (is_none count) d [] (turns count rest) rest o.0 o.1) ∙ skipped in
    record { count = count; rest = rest; head = head; strict = o.1 ∙ same; is = f.1 }
inner_map d b r (heads.Octets n) rest ps head e skipped = let o = or_other_map (octets_at b n rest) (λ x. octets x.0) ps e in not_octets o.0.0 ps o.2
inner_map d b r (heads.Text n) rest ps head e skipped = let o = or_other_map (text_at b n rest) (λ x. text x.0) ps e in not_text o.0.0 ps o.2
inner_map d b r (heads.Unsigned n) rest ps head e skipped = absurd cc
inner_map d b r (heads.Negative n) rest ps head e skipped = absurd cc
inner_map d b r (heads.List c) rest ps head e skipped = absurd cc
inner_map d b r heads.Tag rest ps head e skipped = absurd cc
inner_map d b r (heads.Bool v) rest ps head e skipped = absurd cc
inner_map d b r heads.Null rest ps head e skipped = absurd cc
inner_map d b r heads.Other rest ps head e skipped = absurd cc

pub map_head : (d : ℕ) (b r : List ℕ) (ps : Pairs) → skip_at (suc d) b ≡ Ok r → value_at (suc d) b ≡ map ps → MapHead d b r ps
unfolding skip_at value_at
map_head d b r ps skipped e =
    let o = or_other_map (placed b (head_at b)) (λ h. inner_value d (value_at d) b h.0 h.1) ps e in
    let h = bind_ok (placed b (head_at b)) (λ h. skip_body (Some (skip_at d)) b h.0 h.1) r skipped in
    let same : o.0 ≡ h.0 = ok_is o.0 h.0 (sym o.1 ∙ h.1) in
    inner_map d b r o.0.0 o.0.1 ps (placed_ok b (head_at b) o.0 o.1) o.2 (subst (λ (p : Head × List ℕ). skip_body (Some (skip_at d)) b p.0 p.1 ≡ Ok r) (sym same) h.2)

pub map_again : (b : List ℕ) (ps : Pairs) → SpellsMap b ps → (es : List (List ℕ × Value)) × (map_read b ≡ Ok es) × (pairs es ≡ ps)
unfolding map_read
map_again [] ps e = ([], refl, sym e)
map_again (x ∷ b) ps spelled =
    let reads = again spelled 8 refl in
    let nil : (x ∷ b) ++ [] ≡ x ∷ b = append-nil (x ∷ b) in
    let skipped : skip_at 8 (x ∷ b) ≡ Ok [] = ap (skip_at 8) (sym nil) ∙ reads.skipped [] in
    let valued : value_at 8 (x ∷ b) ≡ map ps = ap (value_at 8) (sym nil) ∙ reads.valued [] in
    let m = map_head 7 (x ∷ b) [] ps skipped valued in
    let first : eqb (x / 32) 5 ≡ true = let f = map_first spelled x b ps refl refl in grind (arith, nat_tests, f) in
    (map_entries 7 (value_at 7) m.count m.rest, rw (first, m.head, m.strict) refl, m.is)
