-- What is spelled is read, whatever follows.
use Rattle.std.proofs.Common.{◌≡◌, ℕ, zero, suc, ◌+◌, ◌-◌, ◌<◌, ◌≤◌, Bool, true, false, ◌&&◌, cond, eqb, ltb, List, [], ◌∷◌, ◌++◌, length, Option, Some, None, Result, Ok, Err, refl, sym, ap, subst, ◌∙◌, append_assoc, arith}
use Rattle.std.specs.Prelude.{is_ok, is_some, option_map}
use Rattle.std.specs.Str.{IsUtf8}
use Rattle.std.proofs.lemmas.Bool.{le-ltb}
use Rattle.std.proofs.lemmas.Bool.Decides.{nat_tests}
use Rattle.std.proofs.lemmas.List.{take_at, drop_at, length-append, append-nil}
use Rattle.std.proofs.lemmas.Str.{is_utf8-from_IsUtf8}
use Rattle.smp_cbor.specs.declared.heads.Head.{Head}
use Rattle.smp_cbor.specs.declared.heads.Head.TheVariants as heads
use Rattle.smp_cbor.specs.declared.fault.CborKind.TheVariants as kinds
use Rattle.smp_cbor.specs.declared.fault.Stop.{Stop}
use Rattle.smp_cbor.specs.Heads.{◌>>=◌, head_at, simple_at, argument_at}
use Rattle.smp_cbor.specs.Skipping.{stop_at, octets_at, text_at, begins_break, Skip, entry, skips, skip_body, skip_at}
use Rattle.smp_cbor.specs.Values.{Value, unsigned, negative, octets, text, list, map, boolean, null, other, Values, no_values, value, Pairs, pair, values, pairs, key_body, key_at, is_among, distinct_pairs, values_from, pairs_from, map_value, inner_value, leaf_value, value_at}
use Rattle.smp_cbor.specs.Shortest.{values_count}
use Rattle.smp_cbor.specs.Spelling.{IsHead, as_pairs, map_or_other, Spells, SpellsEach, unsigned_of, negative_of, octets_of, text_of, list_of, list_to_break, map_of, map_to_break, tag_of, boolean_of, null_of, other_of, nothing, one_more}
use Rattle.smp_cbor.proofs.HeadLaws.{head_again}

-- the key that a value is, where it is a text
abbrev pub key_result : List ℕ → List ℕ → Value → Result (List ℕ × List ℕ) Stop
key_result b r (text t) = Ok (t, r)
key_result b r v = Err (stop_at b kinds.Key)

-- h is read as v, whatever follows
pub record Reads (d : ℕ) (h : List ℕ) (v : Value) : Type 0 where
  pub skipped : (r : List ℕ) → skip_at d (h ++ r) ≡ Ok r
  pub valued : (r : List ℕ) → value_at d (h ++ r) ≡ v
  pub keyed : (r : List ℕ) → key_at (h ++ r) ≡ key_result (h ++ r) r v

abbrev pub ReadsEach : ℕ → Values → List ℕ → Type 0
ReadsEach d no_values c = c ≡ []
ReadsEach d (value v vs) c = (h : List ℕ) × (t : List ℕ) × (c ≡ h ++ t) × Reads d h v × ReadsEach d vs t

-- ---- an item begins with no break

skip_nothing : (d : ℕ) (r : List ℕ) → skip_at d [] ≡ Ok r → ⊥
unfolding skip_at head_at
skip_nothing zero r e = cc
skip_nothing (suc d) r e = cc

skip_break : (d : ℕ) (b r : List ℕ) → skip_at d (255 ∷ b) ≡ Ok r → ⊥
unfolding skip_at head_at simple_at argument_at
skip_break zero b r e = cc
skip_break (suc d) b r e = cc

pub no_break : (d : ℕ) (b r : List ℕ) → skip_at d b ≡ Ok r → begins_break b ≡ false
no_break d [] r e = refl
no_break d (x ∷ b) r e = elim (eqb x 255) as (λ t. eqb x 255 ≡ t → eqb x 255 ≡ false) [
  | true ↦ λ is. absurd (let same : x ≡ 255 = grind (arith, nat_tests, is) in skip_break d b r (subst (λ y. skip_at d (y ∷ b) ≡ Ok r) same e))
  | false ↦ λ is. is
] refl

pub goes_on : (ends : Bool) (d : ℕ) (b r : List ℕ) → skip_at d b ≡ Ok r → (ends && begins_break b) ≡ false
goes_on true d b r e = no_break d b r e
goes_on false d b r e = refl

some_map : {A B : Type 0} (f : A → B) (o : Option A) → is_some o ≡ is_some (option_map f o)
some_map f (Some x) = refl
some_map f None = refl

some_pairs : (b : Bool) (x : List ℕ) (v : Value) (o : Option Pairs) (ps : Pairs) → cond b None (option_map (pair x v) o) ≡ Some ps → (qs : Pairs) × (o ≡ Some qs) × (ps ≡ pair x v qs)
some_pairs true x v o ps e = absurd cc
some_pairs false x v None ps e = absurd cc
some_pairs false x v (Some qs) ps e = (qs, refl, cc)

-- ---- entries, and then a tail

module _ (ends : Bool) (d k : ℕ) (tail : List ℕ) where
  pub items_again : (vs : Values) (c : List ℕ) → ReadsEach d vs c → skips ends (entry false (skip_at d)) (values_count vs + k) (c ++ tail) ≡ skips ends (entry false (skip_at d)) k tail
  unfolding skips
  items_again no_values c is = let e : 0 + k ≡ k = omega arith in rw (is, e) refl
  items_again (value v vs) c (h, t, is, one, each) =
      let e : suc (values_count vs) + k ≡ suc (values_count vs + k) = omega arith in
      let s = one.skipped (t ++ tail) in
      let g = goes_on ends d (h ++ (t ++ tail)) (t ++ tail) s in
      rw (is, append_assoc h t tail, e, g, s) (items_again vs t each)

  values_again : values_from ends (skip_at d) (value_at d) k tail ≡ [] → (vs : Values) (c : List ℕ) → ReadsEach d vs c → values (values_from ends (skip_at d) (value_at d) (values_count vs + k) (c ++ tail)) ≡ vs
  unfolding values_from
  values_again end no_values c is = let e : 0 + k ≡ k = omega arith in rw (is, e, end) refl
  values_again end (value v vs) c (h, t, is, one, each) =
      let e : suc (values_count vs) + k ≡ suc (values_count vs + k) = omega arith in
      let s = one.skipped (t ++ tail) in
      let g = goes_on ends d (h ++ (t ++ tail)) (t ++ tail) s in
      rw (is, append_assoc h t tail, e, g, s, one.valued (t ++ tail)) (ap (value v) (values_again end vs t each))

  -- two items a turn
  pub both_again : (n : ℕ) (vs : Values) (c : List ℕ) → values_count vs ≡ n + n → ReadsEach d vs c → skips ends (entry true (skip_at d)) (n + k) (c ++ tail) ≡ skips ends (entry true (skip_at d)) k tail
  unfolding skips
  both_again zero no_values c even is = let e : 0 + k ≡ k = omega arith in rw (is, e) refl
  both_again (suc n) no_values c even is = absurd (omega arith)
  both_again zero (value a vs) c even each = absurd (omega arith)
  both_again (suc n) (value a no_values) c even each = absurd (omega arith)
  both_again (suc n) (value a (value v vs)) c even (h, t, is, one, (h', t', is', two, each)) =
      let e : suc n + k ≡ suc (n + k) = omega arith in
      let s = one.skipped (h' ++ (t' ++ tail)) in
      let s' = two.skipped (t' ++ tail) in
      let g = goes_on ends d (h ++ (h' ++ (t' ++ tail))) (h' ++ (t' ++ tail)) s in
      let parts : c ++ tail ≡ h ++ (h' ++ (t' ++ tail)) = rw (is, is') (simp append_assoc) in
      rw (parts, e, g, s, s') (both_again n vs t' (omega arith) each)

  -- whether the keys are texts that differ
  distinct_again : ((seen : List (List ℕ)) → is_ok (distinct_pairs ends (skip_at d) seen k tail) ≡ true) → (n : ℕ) (vs : Values) (c : List ℕ) (seen : List (List ℕ)) → values_count vs ≡ n + n → ReadsEach d vs c
      → is_ok (distinct_pairs ends (skip_at d) seen (n + k) (c ++ tail)) ≡ is_some (as_pairs seen vs)
  unfolding distinct_pairs
  distinct_again end zero no_values c seen even is = let e : 0 + k ≡ k = omega arith in rw (is, e) (end seen)
  distinct_again end (suc n) no_values c seen even is = absurd (omega arith)
  distinct_again end zero (value a vs) c seen even each = absurd (omega arith)
  distinct_again end (suc n) (value a no_values) c seen even each = absurd (omega arith)
  distinct_again end (suc n) (value (text x) (value v vs)) c seen even (h, t, is, one, (h', t', is', two, each)) =
      let e : suc n + k ≡ suc (n + k) = omega arith in
      let s = one.skipped (h' ++ (t' ++ tail)) in
      let s' = two.skipped (t' ++ tail) in
      let g = goes_on ends d (h ++ (h' ++ (t' ++ tail))) (h' ++ (t' ++ tail)) s in
      let parts : c ++ tail ≡ h ++ (h' ++ (t' ++ tail)) = rw (is, is') (simp append_assoc) in
      let rest = distinct_again end n vs t' (seen ++ x ∷ []) (omega arith) each in
      rw (parts, e, g, one.keyed (h' ++ (t' ++ tail)))
      (elim (is_among x seen) as (λ b. is_ok (cond b (Err (stop_at (h ++ (h' ++ (t' ++ tail))) kinds.Repeated)) (skip_at d (h' ++ (t' ++ tail)) >>= distinct_pairs ends (skip_at d) (seen ++ x ∷ []) (n + k)))
      ≡ is_some (cond b None (option_map (pair x v) (as_pairs (seen ++ x ∷ []) vs)))) [
        | true ↦ refl
        | false ↦ rw s' (rest ∙ some_map (pair x v) (as_pairs (seen ++ x ∷ []) vs))
      ])
  distinct_again end (suc n) (value a (value v vs)) c seen even (h, t, is, one, (h', t', is', two, each)) =
      let e : suc n + k ≡ suc (n + k) = omega arith in
      let s = one.skipped (h' ++ (t' ++ tail)) in
      let g = goes_on ends d (h ++ (h' ++ (t' ++ tail))) (h' ++ (t' ++ tail)) s in
      let parts : c ++ tail ≡ h ++ (h' ++ (t' ++ tail)) = rw (is, is') (simp append_assoc) in
      rw (parts, e, g, one.keyed (h' ++ (t' ++ tail))) refl

  -- the pairs themselves, where they are texts that differ
  pairs_again : pairs_from ends (skip_at d) (value_at d) k tail ≡ [] → (n : ℕ) (vs : Values) (c : List ℕ) (seen : List (List ℕ)) (ps : Pairs) → values_count vs ≡ n + n → ReadsEach d vs c → as_pairs seen vs ≡ Some ps
      → pairs (pairs_from ends (skip_at d) (value_at d) (n + k) (c ++ tail)) ≡ ps
  unfolding pairs_from
  pairs_again end zero no_values c seen ps even is some = let e : 0 + k ≡ k = omega arith in rw (is, e, end) cc
  pairs_again end (suc n) no_values c seen ps even is some = absurd (omega arith)
  pairs_again end zero (value a vs) c seen ps even each some = absurd (omega arith)
  pairs_again end (suc n) (value a no_values) c seen ps even each some = absurd (omega arith)
  pairs_again end (suc n) (value (text x) (value v vs)) c seen ps even (h, t, is, one, (h', t', is', two, each)) some =
      let e : suc n + k ≡ suc (n + k) = omega arith in
      let s = one.skipped (h' ++ (t' ++ tail)) in
      let s' = two.skipped (t' ++ tail) in
      let g = goes_on ends d (h ++ (h' ++ (t' ++ tail))) (h' ++ (t' ++ tail)) s in
      let parts : c ++ tail ≡ h ++ (h' ++ (t' ++ tail)) = rw (is, is') (simp append_assoc) in
      let q = some_pairs (is_among x seen) x v (as_pairs (seen ++ x ∷ []) vs) ps some in
      rw (parts, e, g, one.keyed (h' ++ (t' ++ tail)), s', two.valued (t' ++ tail)) (ap (pair x v) (pairs_again end n vs t' (seen ++ x ∷ []) q.0 (omega arith) each q.1) ∙ sym q.2)
  pairs_again end (suc n) (value a (value v vs)) c seen ps even each some = absurd cc

-- ---- the ends of entries

pub reads_some : (d : ℕ) (h : List ℕ) (v : Value) → Reads d h v → 0 < length h
reads_some d [] v one = absurd (skip_nothing d [] (one.skipped []))
reads_some d (x ∷ h) v one = omega arith

pub each_length : (d : ℕ) (vs : Values) (c : List ℕ) → ReadsEach d vs c → values_count vs ≤ length c
each_length d no_values c is = omega arith
each_length d (value v vs) c (h, t, is, one, each) = rw is (omega (arith, length-append h t, reads_some d h v one, each_length d vs t each))

-- a list or a map that ends by its count, or by a break; n turns
module _ (d : ℕ) (vs : Values) (c r : List ℕ) (each : ReadsEach d vs c) where
  list_end : (skips false (entry false (skip_at d)) (values_count vs) (c ++ r) ≡ Ok r) × (values (values_from false (skip_at d) (value_at d) (values_count vs) (c ++ r)) ≡ vs)
  unfolding skips values_from
  list_end =
      let e : values_count vs ≡ values_count vs + 0 = omega arith in
      (rw e (items_again false d 0 r vs c each), rw e (values_again false d 0 r refl vs c each))

  broken : (c ++ 255 ∷ []) ++ r ≡ c ++ 255 ∷ r
  broken = simp append_assoc

  turns_left : (n : ℕ) → n ≤ values_count vs → (j : ℕ) × (length ((c ++ 255 ∷ []) ++ r) ≡ n + suc j)
  turns_left n le =
      let long = each_length d vs c each in
      let len : length ((c ++ 255 ∷ []) ++ r) ≡ length c + suc (length r) = rw broken (length-append c (255 ∷ r)) in
      (length c + length r - n, omega arith)

  list_break : (skips true (entry false (skip_at d)) (length ((c ++ 255 ∷ []) ++ r)) ((c ++ 255 ∷ []) ++ r) ≡ Ok r)
      × (values (values_from true (skip_at d) (value_at d) (length ((c ++ 255 ∷ []) ++ r)) ((c ++ 255 ∷ []) ++ r)) ≡ vs)
  unfolding skips values_from
  list_break =
      let j = turns_left (values_count vs) (omega arith) in
      (rw (j.1, broken) (items_again true d (suc j.0) (255 ∷ r) vs c each), rw (j.1, broken) (values_again true d (suc j.0) (255 ∷ r) refl vs c each))

  module _ (n : ℕ) (even : values_count vs ≡ n + n) where
    map_found : (ends : Bool) (k : ℕ) (tail : List ℕ) → ((seen : List (List ℕ)) → is_ok (distinct_pairs ends (skip_at d) seen k tail) ≡ true) → pairs_from ends (skip_at d) (value_at d) k tail ≡ []
        → map_value (is_ok (distinct_pairs ends (skip_at d) [] (n + k) (c ++ tail))) (pairs_from ends (skip_at d) (value_at d) (n + k) (c ++ tail)) ≡ map_or_other (as_pairs [] vs)
    map_found ends k tail end none =
        rw (distinct_again ends d k tail end n vs c [] even each) (by_case (as_pairs [] vs) refl)
      where
        by_case : (o : Option Pairs) → as_pairs [] vs ≡ o → map_value (is_some o) (pairs_from ends (skip_at d) (value_at d) (n + k) (c ++ tail)) ≡ map_or_other o
        by_case (Some ps) is = ap map (pairs_again ends d k tail none n vs c [] ps even each is)
        by_case None is = refl

    map_end : (skips false (entry true (skip_at d)) n (c ++ r) ≡ Ok r) × (map_value (is_ok (distinct_pairs false (skip_at d) [] n (c ++ r))) (pairs_from false (skip_at d) (value_at d) n (c ++ r)) ≡ map_or_other (as_pairs [] vs))
    unfolding skips distinct_pairs pairs_from
    map_end =
        let e : n ≡ n + 0 = omega arith in
        (rw e (both_again false d 0 r n vs c even each), subst (λ m. map_value (is_ok (distinct_pairs false (skip_at d) [] m (c ++ r))) (pairs_from false (skip_at d) (value_at d) m (c ++ r)) ≡ map_or_other (as_pairs [] vs)) (sym e) (map_found false 0 r (λ seen. refl) refl))

    map_break : (skips true (entry true (skip_at d)) (length ((c ++ 255 ∷ []) ++ r)) ((c ++ 255 ∷ []) ++ r) ≡ Ok r)
        × (map_value (is_ok (distinct_pairs true (skip_at d) [] (length ((c ++ 255 ∷ []) ++ r)) ((c ++ 255 ∷ []) ++ r))) (pairs_from true (skip_at d) (value_at d) (length ((c ++ 255 ∷ []) ++ r)) ((c ++ 255 ∷ []) ++ r)) ≡ map_or_other (as_pairs [] vs))
    unfolding skips distinct_pairs pairs_from
    map_break =
        let j = turns_left n (omega arith) in
        (rw (j.1, broken) (both_again true d (suc j.0) (255 ∷ r) n vs c even each), rw (j.1, broken) (map_found true (suc j.0) (255 ∷ r) (λ seen. refl) refl))

-- ---- what stands behind a head

module _ (b h t : List ℕ) (hd : Head) (v : Value) (parts : b ≡ h ++ t) (is : IsHead h hd) (key : (s r : List ℕ) → key_body s hd (t ++ r) ≡ key_result s r v) where
  key_read : (r : List ℕ) → key_at (b ++ r) ≡ key_result (b ++ r) r v
  unfolding key_at
  key_read r = let p : b ++ r ≡ h ++ (t ++ r) = rw (parts, append_assoc h t r) refl in rw (p, head_again h hd is (t ++ r)) (key (h ++ (t ++ r)) r)

  reads_leaf : ((inner : Option Skip) (s r : List ℕ) → skip_body inner s hd (t ++ r) ≡ Ok r) → ((s r : List ℕ) → leaf_value s hd (t ++ r) ≡ v) → ((e : ℕ) (s r : List ℕ) → inner_value e (value_at e) s hd (t ++ r) ≡ v) → (d : ℕ) → Reads d b v
  unfolding skip_at value_at
  reads_leaf skip leaf inner zero = record {
    skipped = λ r. let p : b ++ r ≡ h ++ (t ++ r) = rw (parts, append_assoc h t r) refl in rw (p, head_again h hd is (t ++ r)) (skip None (h ++ (t ++ r)) r);
    valued = λ r. let p : b ++ r ≡ h ++ (t ++ r) = rw (parts, append_assoc h t r) refl in rw (p, head_again h hd is (t ++ r)) (leaf (h ++ (t ++ r)) r);
    keyed = key_read;
  }
  reads_leaf skip leaf inner (suc e) = record {
    skipped = λ r. let p : b ++ r ≡ h ++ (t ++ r) = rw (parts, append_assoc h t r) refl in rw (p, head_again h hd is (t ++ r)) (skip (Some (skip_at e)) (h ++ (t ++ r)) r);
    valued = λ r. let p : b ++ r ≡ h ++ (t ++ r) = rw (parts, append_assoc h t r) refl in rw (p, head_again h hd is (t ++ r)) (inner e (h ++ (t ++ r)) r);
    keyed = key_read;
  }

  reads_inner : (e : ℕ) → ((s r : List ℕ) → skip_body (Some (skip_at e)) s hd (t ++ r) ≡ Ok r) → ((s r : List ℕ) → inner_value e (value_at e) s hd (t ++ r) ≡ v) → Reads (suc e) b v
  unfolding skip_at value_at
  reads_inner e skip inner = record {
    skipped = λ r. let p : b ++ r ≡ h ++ (t ++ r) = rw (parts, append_assoc h t r) refl in rw (p, head_again h hd is (t ++ r)) (skip (h ++ (t ++ r)) r);
    valued = λ r. let p : b ++ r ≡ h ++ (t ++ r) = rw (parts, append_assoc h t r) refl in rw (p, head_again h hd is (t ++ r)) (inner (h ++ (t ++ r)) r);
    keyed = key_read;
  }

pub octets_again : (s t r : List ℕ) → octets_at s (length t) (t ++ r) ≡ Ok (t, r)
unfolding octets_at
octets_again s t r =
    let long : ltb (length (t ++ r)) (length t) ≡ false = le-ltb _ _ (omega (arith, length-append t r)) in
    rw (long, take_at t r (length t) refl, drop_at t r (length t) refl) refl

pub text_again : (s t r : List ℕ) → IsUtf8 t → text_at s (length t) (t ++ r) ≡ Ok (t, r)
unfolding text_at
text_again s t r utf8 = rw (octets_again s t r, is_utf8-from_IsUtf8 t utf8) refl

not_text : (s r : List ℕ) (o : Option Pairs) → Err (stop_at s kinds.Key) ≡ key_result s r (map_or_other o)
not_text s r (Some ps) = refl
not_text s r None = refl

pub simple_leaf : (b : List ℕ) (hd : Head) (v : Value) → IsHead b hd → ((inner : Option Skip) (s r : List ℕ) → skip_body inner s hd r ≡ Ok r) → ((s r : List ℕ) → leaf_value s hd r ≡ v) → ((e : ℕ) (s r : List ℕ) → inner_value e (value_at e) s hd r ≡ v)
    → ((s r : List ℕ) → key_body s hd r ≡ key_result s r v) → (d : ℕ) → Reads d b v
simple_leaf b hd v is skip leaf inner key d = reads_leaf b b [] hd v (sym (append-nil b)) is key skip leaf inner d

mutual
  pub again : {l : ℕ} {b : List ℕ} {v : Value} → Spells l b v → (d : ℕ) → d + l ≡ 9 → Reads d b v
  again (unsigned_of {l} {n} {b} is) d e = simple_leaf b (heads.Unsigned n) (unsigned n) is (λ i s r. refl) (λ s r. refl) (λ e s r. refl) (λ s r. refl) d
  again (negative_of {l} {n} {b} is) d e = simple_leaf b (heads.Negative n) (negative n) is (λ i s r. refl) (λ s r. refl) (λ e s r. refl) (λ s r. refl) d
  again (boolean_of {l} {b} {v} is) d e = simple_leaf b (heads.Bool v) (boolean v) is (λ i s r. refl) (λ s r. refl) (λ e s r. refl) (λ s r. refl) d
  again (null_of {l} {b} is) d e = simple_leaf b heads.Null null is (λ i s r. refl) (λ s r. refl) (λ e s r. refl) (λ s r. refl) d
  again (other_of {l} {b} is) d e = simple_leaf b heads.Other other is (λ i s r. refl) (λ s r. refl) (λ e s r. refl) (λ s r. refl) d
  again (octets_of {l} {b} {t} h is parts) d e =
      reads_leaf b h t (heads.Octets (length t)) (octets t) parts is (λ s r. refl) (λ i s r. rw (octets_again s t r) refl) (λ s r. rw (octets_again s t r) refl) (λ e s r. rw (octets_again s t r) refl) d
  again (text_of {l} {b} {t} h is utf8 parts) d e =
      reads_leaf b h t (heads.Text (length t)) (text t) parts is (λ s r. text_again s t r utf8) (λ i s r. rw (text_again s t r utf8) refl) (λ s r. rw (text_again s t r utf8) refl) (λ e s r. rw (text_again s t r utf8) refl) d
  again (list_of h c le is each parts) zero e = absurd (omega arith)
  again (list_of {l} {b} {vs} h c le is each parts) (suc d) e =
      let all = again_each each d (omega arith) in
      reads_inner b h c (heads.List (Some (values_count vs))) (list vs) parts is (λ s r. refl) d (λ s r. (list_end d vs c r all).0) (λ s r. ap list (list_end d vs c r all).1)
  again (list_to_break h c le is each parts) zero e = absurd (omega arith)
  again (list_to_break {l} {b} {vs} h c le is each parts) (suc d) e =
      let all = again_each each d (omega arith) in
      reads_inner b h (c ++ 255 ∷ []) (heads.List None) (list vs) parts is (λ s r. refl) d (λ s r. (list_break d vs c r all).0) (λ s r. ap list (list_break d vs c r all).1)
  again (map_of h c n vs le is each even what parts) zero e = absurd (omega arith)
  again (map_of {l} {b} {v} h c n vs le is each even what parts) (suc d) e =
      let all = again_each each d (omega arith) in
      rw what (reads_inner b h c (heads.Map (Some n)) (map_or_other (as_pairs [] vs)) parts is (λ s r. not_text s r (as_pairs [] vs)) d (λ s r. (map_end d vs c r all n even).0) (λ s r. (map_end d vs c r all n even).1))
  again (map_to_break h c n vs le is each even what parts) zero e = absurd (omega arith)
  again (map_to_break {l} {b} {v} h c n vs le is each even what parts) (suc d) e =
      let all = again_each each d (omega arith) in
      rw what (reads_inner b h (c ++ 255 ∷ []) (heads.Map None) (map_or_other (as_pairs [] vs)) parts is (λ s r. not_text s r (as_pairs [] vs)) d (λ s r. (map_break d vs c r all n even).0) (λ s r. (map_break d vs c r all n even).1))
  again (tag_of h c v le is inner parts) zero e = absurd (omega arith)
  again (tag_of {l} {b} h c v le is inner parts) (suc d) e =
      let one = again inner d (omega arith) in
      reads_inner b h c heads.Tag other parts is (λ s r. refl) d (λ s r. one.skipped r) (λ s r. refl)

  pub again_each : {l : ℕ} {c : List ℕ} {vs : Values} → SpellsEach l c vs → (d : ℕ) → d + l ≡ 9 → ReadsEach d vs c
  again_each nothing d e = refl
  again_each (one_more h c one each parts) d e = (h, c, parts, again one d e, again_each each d e)
