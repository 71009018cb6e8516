-- A spelling ends where it ends, at whatever level it is read, and stands for one value.
use Rattle.std.proofs.Common.{◌≡◌, ℕ, zero, suc, List, [], ◌∷◌, ◌++◌, Ok, refl, sym, ap, ◌∙◌, arith}
use Rattle.std.proofs.lemmas.List.{append-nil}
use Rattle.smp_cbor.specs.Skipping.{skip_at}
use Rattle.smp_cbor.specs.Values.{Value, map, Pairs, pairs, value_at, map_of as map_read}
use Rattle.smp_cbor.specs.Shortest.{shortest, HasShortest}
use Rattle.smp_cbor.specs.Spelling.{Spells, SpellsEach, SpellsMap, unsigned_of, negative_of, octets_of, text_of, list_of, list_to_break, map_of, map_to_break, tag_of, boolean_of, null_of, other_of, nothing, one_more}
use Rattle.smp_cbor.proofs.Results.{ok_is}
use Rattle.smp_cbor.proofs.Again.{again, reads_some}
use Rattle.smp_cbor.proofs.Maps.{map_again}
use Rattle.smp_cbor.proofs.Trees.{shortest_spells}

-- what is spelled is spelled so one level higher up
mutual
  raised : {l m : ℕ} {b : List ℕ} {v : Value} → Spells m b v → m ≡ suc l → Spells l b v
  raised (unsigned_of is) e = unsigned_of is
  raised (negative_of is) e = negative_of is
  raised (octets_of h is parts) e = octets_of h is parts
  raised (text_of h is utf8 parts) e = text_of h is utf8 parts
  raised (list_of h c le is each parts) e = list_of h c (omega arith) is (each_raised each (ap suc e)) parts
  raised (list_to_break h c le is each parts) e = list_to_break h c (omega arith) is (each_raised each (ap suc e)) parts
  raised (map_of h c n vs le is each even what parts) e = map_of h c n vs (omega arith) is (each_raised each (ap suc e)) even what parts
  raised (map_to_break h c n vs le is each even what parts) e = map_to_break h c n vs (omega arith) is (each_raised each (ap suc e)) even what parts
  raised (tag_of h c v le is inner parts) e = tag_of h c v (omega arith) is (raised inner (ap suc e)) parts
  raised (boolean_of is) e = boolean_of is
  raised (null_of is) e = null_of is
  raised (other_of is) e = other_of is

  each_raised : {l m : ℕ} {c : List ℕ} {vs : _} → SpellsEach m c vs → m ≡ suc l → SpellsEach l c vs
  each_raised nothing e = nothing
  each_raised (one_more h c one each parts) e = one_more h c (raised one e) (each_raised each e) parts

at_zero : (l : ℕ) (b : List ℕ) (v : Value) → Spells l b v → Spells 0 b v
at_zero zero b v is = is
at_zero (suc l) b v is = at_zero l b v (raised is refl)

pub spellings_end : (l m : ℕ) (front rest : List ℕ) (v w : Value) → Spells l front v → Spells m (front ++ rest) w → (rest ≡ []) × (v ≡ w)
spellings_end l m front rest v w is longer =
    let one = again (at_zero l front v is) 9 refl in
    let two = again (at_zero m (front ++ rest) w longer) 9 refl in
    let nil : (front ++ rest) ++ [] ≡ front ++ rest = append-nil (front ++ rest) in
    let skipped : skip_at 9 (front ++ rest) ≡ Ok [] = ap (skip_at 9) (sym nil) ∙ two.skipped [] in
    let valued : value_at 9 (front ++ rest) ≡ w = ap (value_at 9) (sym nil) ∙ two.valued [] in
    (ok_is rest [] (sym (one.skipped rest) ∙ skipped), sym (one.valued rest) ∙ valued)

pairs_same : (xs ys : List (List ℕ × Value)) → pairs xs ≡ pairs ys → xs ≡ ys
pairs_same [] [] e = refl
pairs_same [] (y ∷ ys) e = absurd cc
pairs_same (x ∷ xs) [] e = absurd cc
pairs_same ((k, v) ∷ xs) ((l, w) ∷ ys) e =
    let keys : k ≡ l = cc in
    let values : v ≡ w = cc in
    let rest : xs ≡ ys = pairs_same xs ys cc in
    cc

pub spells_map : (b : List ℕ) (ps : Pairs) → Spells 1 b (map ps) → SpellsMap b ps
spells_map [] ps is = absurd (let some = reads_some 8 [] (map ps) (again is 8 refl) in omega arith)
spells_map (x ∷ b) ps is = is

pub shortest_is_read : (ps : List (List ℕ × Value)) → HasShortest 1 (map (pairs ps)) → map_read (shortest (map (pairs ps))) ≡ Ok ps
shortest_is_read ps has =
    let m = map_again (shortest (map (pairs ps))) (pairs ps) (spells_map (shortest (map (pairs ps))) (pairs ps) (shortest_spells 1 (map (pairs ps)) has)) in
    m.1 ∙ ap (λ (es : List (List ℕ × Value)). Ok es) (pairs_same m.0 ps m.2)
