-- A map that has a key with a text has at least the bytes of the shortest map of that key and that text.
use Rattle.std.proofs.Common.{◌≡◌, ℕ, zero, suc, ◌+◌, ◌≤◌, Bool, true, false, List, [], ◌∷◌, ◌++◌, length, cond, Option, inl, inr, ◌⊎◌, Some, None, refl, sym, ap, subst, ◌∙◌, arith, length-append}
use Rattle.std.specs.Prelude.{option_map}
use Rattle.std.specs.Str.{bytes_eq}
use Rattle.std.proofs.lemmas.Slice.Eq.{bytes_eq-Decides}
use Rattle.smp_cbor.specs.Values.{Value, unsigned, negative, octets, text, list, map, boolean, null, other, Values, Pairs, no_pairs, pair, pairs, is_among}
use Rattle.smp_cbor.specs.Shortest.{short_text}
use Rattle.smp_cbor.specs.Spelling.{Numbered, as_pairs, map_or_other, Spells, SpellsEach, SpellsMap, unsigned_of, negative_of, octets_of, text_of, list_of, list_to_break, map_of, map_to_break, tag_of, boolean_of, null_of, other_of, nothing, one_more}
use Rattle.smp_cbor.specs.Views.{look_up}
use Rattle.smp_cbor.proofs.HeadLaws.{IsBytes}
use Rattle.smp_cbor.proofs.Takes.{IsBytes-after}
use Rattle.smp_cbor.proofs.Trees.{least_head}

front_bytes : (h r : List ℕ) → IsBytes (h ++ r) → IsBytes h
front_bytes [] r fits i = omega arith
front_bytes (x ∷ h) r fits zero = fits 0
front_bytes (x ∷ h) r fits (suc i) = front_bytes h r (λ j. fits (suc j)) i

not_text : (o : Option Pairs) (t : List ℕ) → map_or_other o ≡ text t → ⊥
not_text (Some ps) t e = cc
not_text None t e = cc

-- no spelling of a text is shorter than its shortest form
text_size : {l : ℕ} {b : List ℕ} {v : Value} → Spells l b v → (t : List ℕ) → v ≡ text t → IsBytes b → length (short_text t) ≤ length b
text_size (unsigned_of is) t e fits = absurd cc
text_size (negative_of is) t e fits = absurd cc
text_size (octets_of h is parts) t e fits = absurd cc
text_size (text_of {t = u} h is utf8 parts) t e fits =
    let same : u ≡ t = cc in
    let least = least_head h (front_bytes h u (subst (λ (x : List ℕ). IsBytes x) parts fits)) 3 (length u) is in
    let whole : length (short_text u) ≤ length (h ++ u) = simp length-append (let l = least.0 in omega arith) in
    rw (← same, parts) whole
text_size (list_of h c le is each parts) t e fits = absurd cc
text_size (list_to_break h c le is each parts) t e fits = absurd cc
text_size (map_of h c n vs le is each even what parts) t e fits = absurd (not_text (as_pairs [] vs) t (sym what ∙ e))
text_size (map_to_break h c n vs le is each even what parts) t e fits = absurd (not_text (as_pairs [] vs) t (sym what ∙ e))
text_size (tag_of h c v le is inner parts) t e fits = absurd cc
text_size (boolean_of is) t e fits = absurd cc
text_size (null_of is) t e fits = absurd cc
text_size (other_of is) t e fits = absurd cc

-- the value of the first pair that has the key
abbrev find_in : List ℕ → Pairs → Option Value
find_in k no_pairs = None
find_in k (pair name v ps) = cond (bytes_eq name k) (Some v) (find_in k ps)

found_in : (k : List ℕ) (es : List (List ℕ × Value)) → find_in k (pairs es) ≡ look_up k es
found_in k [] = refl
found_in k (p ∷ es) = ap (λ o. cond (bytes_eq p.0 k) (Some p.1) o) (found_in k es)

record Split (t : List ℕ) (v : Value) (o : Option Pairs) (ps : Pairs) : Type 0 where
  rest : Pairs
  is : o ≡ Some rest
  all : ps ≡ pair t v rest

split : (b : Bool) (t : List ℕ) (v : Value) (o : Option Pairs) (ps : Pairs) → cond b None (option_map (pair t v) o) ≡ Some ps → Split t v o ps
split true t v o ps e = absurd cc
split false t v None ps e = absurd cc
split false t v (Some qs) ps e = record { rest = qs; is = refl; all = cc }

one_of : (b : Bool) (v w : Value) (o : Option Value) → cond b (Some v) o ≡ Some w → ((b ≡ true) × (v ≡ w)) ⊎ ((b ≡ false) × (o ≡ Some w))
one_of true v w o e = inl (refl, cc)
one_of false v w o e = inr (refl, e)

pairs_size : {l : ℕ} {a : List ℕ} {vs : Values} → SpellsEach l a vs → IsBytes a → (seen : List (List ℕ)) (ps : Pairs) → as_pairs seen vs ≡ Some ps
    → (k t : List ℕ) → find_in k ps ≡ Some (text t) → length (short_text k) + length (short_text t) ≤ length a
pairs_size nothing fits seen ps e k t found = let none : ps ≡ no_pairs = cc in absurd (absent k t (rw none at found))
  where
    absent : (k t : List ℕ) → None ≡ Some (text t) → ⊥
    absent k t e = cc
pairs_size (one_more {v = text name} h c is nothing parts) fits seen ps e k t found = absurd cc
pairs_size (one_more {b = a} {v = text name} h c is (one_more {v = w} {vs = vs} h' c' is' rest parts') parts) fits seen ps e k t found =
    let s = split (is_among name seen) name w (as_pairs (seen ++ name ∷ []) vs) ps e in
    let all : IsBytes (h ++ c) = subst (λ (x : List ℕ). IsBytes x) parts fits in
    let rest_fits : IsBytes c = IsBytes-after (h ++ c) h c refl all in
    let inner : IsBytes (h' ++ c') = subst (λ (x : List ℕ). IsBytes x) parts' rest_fits in
    let last_fits : IsBytes c' = IsBytes-after (h' ++ c') h' c' refl inner in
    let found' : find_in k (pair name w s.rest) ≡ Some (text t) = subst (λ (x : Pairs). find_in k x ≡ Some (text t)) s.all found in
    let long : length a ≡ length h + (length h' + length c') = rw (parts, parts') (simp length-append (omega arith)) in
    elim (one_of (bytes_eq name k) w (text t) (find_in k s.rest) found') [
      | inl here ↦ (
          let same : name ≡ k = (bytes_eq-Decides name k).0 here.0 in
          let key = text_size is k (ap text same) (front_bytes h c all) in
          let its = text_size is' t here.1 (front_bytes h' c' inner) in
          omega arith)
      | inr there ↦ (
          let later = pairs_size rest last_fits (seen ++ name ∷ []) s.rest s.is k t there.1 in
          omega arith)
    ]
pairs_size (one_more {v = unsigned n} h c is rest parts) fits seen ps e k t found = absurd cc
pairs_size (one_more {v = negative n} h c is rest parts) fits seen ps e k t found = absurd cc
pairs_size (one_more {v = octets b} h c is rest parts) fits seen ps e k t found = absurd cc
pairs_size (one_more {v = list vs} h c is rest parts) fits seen ps e k t found = absurd cc
pairs_size (one_more {v = map ps} h c is rest parts) fits seen ps' e k t found = absurd cc
pairs_size (one_more {v = boolean b} h c is rest parts) fits seen ps e k t found = absurd cc
pairs_size (one_more {v = null} h c is rest parts) fits seen ps e k t found = absurd cc
pairs_size (one_more {v = other} h c is rest parts) fits seen ps e k t found = absurd cc

some_pairs : (o : Option Pairs) (ps : Pairs) → map_or_other o ≡ map ps → o ≡ Some ps
some_pairs (Some qs) ps e = cc
some_pairs None ps e = absurd cc

head_size : (major n : ℕ) (h : List ℕ) → Numbered major n h → 1 ≤ length h
head_size major n h is = rw is.is (omega arith)

map_size : {l : ℕ} {b : List ℕ} {v : Value} → Spells l b v → (ps : Pairs) → v ≡ map ps → IsBytes b → (k t : List ℕ) → find_in k ps ≡ Some (text t) → 1 + (length (short_text k) + length (short_text t)) ≤ length b
map_size (unsigned_of is) ps e fits k t found = absurd cc
map_size (negative_of is) ps e fits k t found = absurd cc
map_size (octets_of h is parts) ps e fits k t found = absurd cc
map_size (text_of h is utf8 parts) ps e fits k t found = absurd cc
map_size (list_of h c le is each parts) ps e fits k t found = absurd cc
map_size (list_to_break h c le is each parts) ps e fits k t found = absurd cc
map_size (map_of h c n vs le is each even what parts) ps e fits k t found =
    let content = pairs_size each (IsBytes-after (h ++ c) h c refl (subst (λ (x : List ℕ). IsBytes x) parts fits)) [] ps (some_pairs (as_pairs [] vs) ps (sym what ∙ e)) k t found in
    let head = head_size 5 n h is in
    rw (parts, length-append h c) (omega arith)
map_size (map_to_break h c n vs le is each even what parts) ps e fits k t found =
    let rest : IsBytes (c ++ 255 ∷ []) = IsBytes-after (h ++ (c ++ 255 ∷ [])) h (c ++ 255 ∷ []) refl (subst (λ (x : List ℕ). IsBytes x) parts fits) in
    let content = pairs_size each (front_bytes c (255 ∷ []) rest) [] ps (some_pairs (as_pairs [] vs) ps (sym what ∙ e)) k t found in
    rw (parts, length-append h (c ++ 255 ∷ []), length-append c (255 ∷ [])) (omega arith)
map_size (tag_of h c v le is inner parts) ps e fits k t found = absurd cc
map_size (boolean_of is) ps e fits k t found = absurd cc
map_size (null_of is) ps e fits k t found = absurd cc
map_size (other_of is) ps e fits k t found = absurd cc

pub spelled_size : (b : List ℕ) (es : List (List ℕ × Value)) (k t : List ℕ) → IsBytes b → SpellsMap b (pairs es) → look_up k es ≡ Some (text t) → 1 + (length (short_text k) + length (short_text t)) ≤ length b
spelled_size [] es k t fits none found = absurd (absent (pairs es) none (found_in k es ∙ found))
  where
    absent : (ps : Pairs) → ps ≡ no_pairs → find_in k ps ≡ Some (text t) → ⊥
    absent no_pairs e found = cc
    absent (pair name v ps) e found = cc
spelled_size (x ∷ b) es k t fits spelled found = map_size spelled (pairs es) refl fits k t (found_in k es ∙ found)
