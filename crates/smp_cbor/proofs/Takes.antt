-- What is read is spelled so.
use Rattle.std.proofs.Common.{◌≡◌, ℕ, zero, suc, ◌+◌, ◌*◌, ◌≤◌, true, false, cond, ltb, List, [], ◌∷◌, ◌++◌, length, take, drop, Option, Some, None, Result, Ok, Err, refl, sym, ap, subst, ◌∙◌, append_assoc, arith, inl, inr}
use Rattle.std.specs.Str.{IsUtf8, is_utf8}
use Rattle.std.proofs.lemmas.Bool.{ltb-false}
use Rattle.std.proofs.lemmas.Bool.Decides.{nat_tests}
use Rattle.std.proofs.lemmas.List.{drop_at, length-take, take-append-drop, append-nil, get_or-drop}
use Rattle.std.proofs.lemmas.Str.{IsUtf8-from_is_utf8}
use Rattle.smp_cbor.specs.declared.heads.Head.{Head}
use Rattle.smp_cbor.specs.declared.heads.Head.TheVariants as heads
use Rattle.smp_cbor.specs.declared.fault.CborKind.{CborKind}
use Rattle.smp_cbor.specs.declared.fault.CborKind.TheVariants as kinds
use Rattle.smp_cbor.specs.declared.fault.Stop.{Stop}
use Rattle.smp_cbor.specs.Heads.{◌>>=◌, head_at}
use Rattle.smp_cbor.specs.Skipping.{stop_at, placed, octets_at, text_at, begins_break, Skip, entry, skips, skip_body, skip_at}
use Rattle.smp_cbor.specs.Values.{Value, unsigned, negative, octets, text, list, boolean, null, other, Values, no_values, value}
use Rattle.smp_cbor.specs.Shortest.{values_count}
use Rattle.smp_cbor.specs.Spelling.{IsHead, as_pairs, map_or_other, Spells, SpellsEach, unsigned_of, negative_of, octets_of, text_of, list_of, list_to_break, map_of, map_to_break, tag_of, boolean_of, null_of, other_of, nothing, one_more}
use Rattle.smp_cbor.proofs.Results.{chosen, done, ok_is, not_ok, bind_ok}
use Rattle.smp_cbor.proofs.HeadLaws.{IsBytes, Begins, head_takes}

pub placed_ok : {A : Type 0} (b : List ℕ) (r : Result A CborKind) (x : A) → placed b r ≡ Ok x → r ≡ Ok x
placed_ok {A} b (Ok y) x e = ap (λ (z : A). Ok z) (ok_is y x e)
placed_ok b (Err k) x e = absurd cc

pub IsBytes-after : (b h r : List ℕ) → b ≡ h ++ r → IsBytes b → IsBytes r
IsBytes-after b h r is fits i =
    let e : drop (length h) b ≡ r = rw is (drop_at h r (length h) refl) in
    rw (← e) (rw get_or-drop (fits (length h + i)))

-- one item, and what stands after it
pub record Item (l : ℕ) (b r : List ℕ) : Type 0 where
  pub bytes : List ℕ
  pub value : Value
  pub spelled : Spells l bytes value
  pub parts : b ≡ bytes ++ r

-- w items, and what stands after them
pub record Several (l w : ℕ) (b r : List ℕ) : Type 0 where
  pub bytes : List ℕ
  pub values : Values
  pub each : SpellsEach l bytes values
  pub count : values_count values ≡ w
  pub parts : b ≡ bytes ++ r

-- items whose number is even where they go in pairs, and a break
pub record Broken (l w : ℕ) (b r : List ℕ) : Type 0 where
  pub bytes : List ℕ
  pub values : Values
  pub each : SpellsEach l bytes values
  pub turns : ℕ
  pub count : values_count values ≡ turns * w
  pub parts : b ≡ bytes ++ 255 ∷ r

abbrev pub joined : Values → Values → Values
joined no_values ws = ws
joined (value v vs) ws = value v (joined vs ws)

pub count-joined : (vs ws : Values) → values_count (joined vs ws) ≡ values_count vs + values_count ws
count-joined no_values ws = omega arith
count-joined (value v vs) ws = omega (arith, count-joined vs ws)

pub each_joined : {l : ℕ} {c : List ℕ} {vs : Values} → SpellsEach l c vs → (d : List ℕ) (ws : Values) → SpellsEach l d ws → SpellsEach l (c ++ d) (joined vs ws)
each_joined nothing d ws more = more
each_joined (one_more h c one each parts) d ws more = one_more h (c ++ d) one (each_joined each d ws more) (rw parts (append_assoc h c d))

module _ (l : ℕ) (skip : Skip) (item : (b r : List ℕ) → IsBytes b → skip b ≡ Ok r → Item l b r) where
  pub one_item : (b r : List ℕ) → IsBytes b → skip b ≡ Ok r → Several l 1 b r
  one_item b r fits e =
      let i = item b r fits e in
      record { bytes = i.bytes; values = value i.value no_values; each = one_more i.bytes [] i.spelled nothing (sym (append-nil i.bytes)); count = refl; parts = i.parts }

  pub single : (b r : List ℕ) → IsBytes b → entry false skip b ≡ Ok r → Several l 1 b r
  single b r fits e =
      let x = bind_ok (skip b) (λ r. Ok r) r e in
      one_item b r fits (x.1 ∙ x.2)

  pub both : (b r : List ℕ) → IsBytes b → entry true skip b ≡ Ok r → Several l 2 b r
  both b r fits e =
      let x = bind_ok (skip b) (λ r. skip r) r e in
      let i = item b x.0 fits x.1 in
      let j = one_item x.0 r (IsBytes-after b i.bytes x.0 i.parts fits) x.2 in
      record {
        bytes = i.bytes ++ j.bytes;
        values = value i.value j.values;
        each = one_more i.bytes j.bytes i.spelled j.each refl;
        count = ap suc j.count;
        parts = i.parts ∙ ap (λ (t : List ℕ). i.bytes ++ t) j.parts ∙ sym (append_assoc i.bytes j.bytes r);
      }

module _ (l w : ℕ) (one : Skip) (several : (b r : List ℕ) → IsBytes b → one b ≡ Ok r → Several l w b r) where
  counted : (k : ℕ) (b r : List ℕ) → IsBytes b → skips false one k b ≡ Ok r → Several l (k * w) b r
  unfolding skips
  counted zero b r fits e = record { bytes = []; values = no_values; each = nothing; count = omega arith; parts = ok_is b r e }
  counted (suc k) b r fits e =
      let x = bind_ok (one b) (skips false one k) r e in
      let i = several b x.0 fits x.1 in
      let j = counted k x.0 r (IsBytes-after b i.bytes x.0 i.parts fits) x.2 in
      record {
        bytes = i.bytes ++ j.bytes;
        values = joined i.values j.values;
        each = each_joined i.each j.bytes j.values j.each;
        count = omega (arith, count-joined i.values j.values, i.count, j.count);
        parts = i.parts ∙ ap (λ (t : List ℕ). i.bytes ++ t) j.parts ∙ sym (append_assoc i.bytes j.bytes r);
      }

  broken_at : (b r : List ℕ) → begins_break b ≡ true → drop 1 b ≡ r → b ≡ 255 ∷ r
  broken_at [] r t e = absurd cc
  broken_at (x ∷ b) r t e = let is : x ≡ 255 = grind (arith, nat_tests, t) in let tail : b ≡ r = e in cc

  to_break : (k : ℕ) (b r : List ℕ) → IsBytes b → skips true one k b ≡ Ok r → Broken l w b r
  unfolding skips
  to_break zero b r fits e = not_ok _ r e
  to_break (suc k) b r fits e =
      elim (chosen (begins_break b) (done (drop 1 b)) (one b >>= skips true one k) (Ok r) e) [
        | inl p ↦ record { bytes = []; values = no_values; each = nothing; turns = 0; count = omega arith; parts = broken_at b r p.0 (ok_is (drop 1 b) r p.1) }
        | inr p ↦
            let x = bind_ok (one b) (skips true one k) r p.1 in
            let i = several b x.0 fits x.1 in
            let j = to_break k x.0 r (IsBytes-after b i.bytes x.0 i.parts fits) x.2 in
            record {
              bytes = i.bytes ++ j.bytes;
              values = joined i.values j.values;
              each = each_joined i.each j.bytes j.values j.each;
              turns = suc j.turns;
              count = omega (arith, count-joined i.values j.values, i.count, j.count);
              parts = i.parts ∙ ap (λ (t : List ℕ). i.bytes ++ t) j.parts ∙ sym (append_assoc i.bytes j.bytes (255 ∷ r));
            }
      ]

pub octets_takes : (s : List ℕ) (n : ℕ) (rest : List ℕ) (x : List ℕ × List ℕ) → octets_at s n rest ≡ Ok x → (length x.0 ≡ n) × (rest ≡ x.0 ++ x.1)
unfolding octets_at
octets_takes s n rest x e =
    elim (chosen (ltb (length rest) n) (Err (stop_at s kinds.Short)) (done (take n rest, drop n rest)) (Ok x) e) [
      | inl p ↦ not_ok _ x p.1
      | inr p ↦
          let long : n ≤ length rest = ltb-false _ _ p.0 in
          subst (λ (y : List ℕ × List ℕ). (length y.0 ≡ n) × (rest ≡ y.0 ++ y.1)) (ok_is (take n rest, drop n rest) x p.1) (omega (arith, length-take n rest), sym (take-append-drop n rest))
    ]

pub text_takes : (s : List ℕ) (n : ℕ) (rest : List ℕ) (x : List ℕ × List ℕ) → text_at s n rest ≡ Ok x → (length x.0 ≡ n) × (rest ≡ x.0 ++ x.1) × IsUtf8 x.0
unfolding text_at
text_takes s n rest x e =
    let y = bind_ok (octets_at s n rest) (λ x. cond (is_utf8 x.0) (Ok x) (Err (stop_at s kinds.NotUtf8))) x e in
    let o = octets_takes s n rest y.0 y.1 in
    elim (chosen (is_utf8 y.0.0) (done y.0) (Err (stop_at s kinds.NotUtf8)) (Ok x) y.2) [
      | inl p ↦ subst (λ (y : List ℕ × List ℕ). (length y.0 ≡ n) × (rest ≡ y.0 ++ y.1) × IsUtf8 y.0) (ok_is y.0 x p.1) (o.0, o.1, IsUtf8-from_is_utf8 y.0.0 p.0)
      | inr p ↦ not_ok _ x p.1
    ]

abbrev IsNested : Head → Type 0
IsNested (heads.List count) = Unit {0}
IsNested (heads.Map count) = Unit {0}
IsNested heads.Tag = Unit {0}
IsNested hd = ⊥

module _ (l : ℕ) (b rest r : List ℕ) where
  -- a head that is all of its item
  alone : (hd : Head) (v : Value) → Begins b hd rest → ((h : List ℕ) → IsHead h hd → Spells l h v) → done {E = Stop} rest ≡ done {E = Stop} r → Item l b r
  alone hd v begins spells e = record { bytes = begins.head; value = v; spelled = spells begins.head begins.is; parts = begins.parts ∙ ap (λ (t : List ℕ). begins.head ++ t) (ok_is rest r e) }

  leaf : (inner : Option Skip) (hd : Head) → Begins b hd rest → (IsNested hd → Item l b r) → skip_body inner b hd rest ≡ Ok r → Item l b r
  leaf inner (heads.Unsigned n) begins nested e = alone (heads.Unsigned n) (unsigned n) begins (λ h is. unsigned_of is) e
  leaf inner (heads.Negative n) begins nested e = alone (heads.Negative n) (negative n) begins (λ h is. negative_of is) e
  leaf inner (heads.Bool v) begins nested e = alone (heads.Bool v) (boolean v) begins (λ h is. boolean_of is) e
  leaf inner heads.Null begins nested e = alone heads.Null null begins (λ h is. null_of is) e
  leaf inner heads.Other begins nested e = alone heads.Other other begins (λ h is. other_of is) e
  leaf inner (heads.List count) begins nested e = nested tt
  leaf inner (heads.Map count) begins nested e = nested tt
  leaf inner heads.Tag begins nested e = nested tt
  leaf inner (heads.Octets n) begins nested e =
      let x = bind_ok (octets_at b n rest) (λ x. Ok x.1) r e in
      let o = octets_takes b n rest x.0 x.1 in
      let tail : x.0.1 ≡ r = ok_is x.0.1 r x.2 in
      let is : IsHead begins.head (heads.Octets (length x.0.0)) = subst (λ n. IsHead begins.head (heads.Octets n)) (sym o.0) begins.is in
      record { bytes = begins.head ++ x.0.0; value = octets x.0.0; spelled = octets_of begins.head is refl; parts = begins.parts ∙ ap (λ (t : List ℕ). begins.head ++ t) (o.1 ∙ ap (λ (t : List ℕ). x.0.0 ++ t) tail) ∙ sym (append_assoc begins.head x.0.0 r) }
  leaf inner (heads.Text n) begins nested e =
      let x = bind_ok (text_at b n rest) (λ x. Ok x.1) r e in
      let o = text_takes b n rest x.0 x.1 in
      let tail : x.0.1 ≡ r = ok_is x.0.1 r x.2 in
      let is : IsHead begins.head (heads.Text (length x.0.0)) = subst (λ n. IsHead begins.head (heads.Text n)) (sym o.0) begins.is in
      record { bytes = begins.head ++ x.0.0; value = text x.0.0; spelled = text_of begins.head is o.2 refl; parts = begins.parts ∙ ap (λ (t : List ℕ). begins.head ++ t) (o.1 ∙ ap (λ (t : List ℕ). x.0.0 ++ t) tail) ∙ sym (append_assoc begins.head x.0.0 r) }

  deep : (hd : Head) → skip_body None b hd rest ≡ Ok r → IsNested hd → Item l b r
  deep (heads.List count) e is = not_ok _ r e
  deep (heads.Map count) e is = not_ok _ r e
  deep heads.Tag e is = not_ok _ r e
  deep (heads.Unsigned n) e is = absurd is
  deep (heads.Negative n) e is = absurd is
  deep (heads.Octets n) e is = absurd is
  deep (heads.Text n) e is = absurd is
  deep (heads.Bool v) e is = absurd is
  deep heads.Null e is = absurd is
  deep heads.Other e is = absurd is

  -- lists, maps and tags whose items are read by skip
  module _ (le : l ≤ 8) (fits : IsBytes rest) (skip : Skip) (item : (b r : List ℕ) → IsBytes b → skip b ≡ Ok r → Item (suc l) b r) where
    after_head : (h : List ℕ) (c : List ℕ) → b ≡ h ++ rest → rest ≡ c ++ r → b ≡ (h ++ c) ++ r
    after_head h c p q = p ∙ ap (λ (t : List ℕ). h ++ t) q ∙ sym (append_assoc h c r)

    inside : (hd : Head) → Begins b hd rest → skip_body (Some skip) b hd rest ≡ Ok r → IsNested hd → Item l b r
    inside (heads.List (Some n)) begins e is =
        let s = counted (suc l) 1 (entry false skip) (single (suc l) skip item) n rest r fits e in
        let count : n ≡ values_count s.values = omega (arith, s.count) in
        let head : IsHead begins.head (heads.List (Some (values_count s.values))) = subst (λ n. IsHead begins.head (heads.List (Some n))) count begins.is in
        record { bytes = begins.head ++ s.bytes; value = list s.values; spelled = list_of begins.head s.bytes le head s.each refl; parts = after_head begins.head s.bytes begins.parts s.parts }
    inside (heads.List None) begins e is =
        let s = to_break (suc l) 1 (entry false skip) (single (suc l) skip item) (length rest) rest r fits e in
        let q : rest ≡ (s.bytes ++ 255 ∷ []) ++ r = s.parts ∙ sym (append_assoc s.bytes (255 ∷ []) r) in
        record { bytes = begins.head ++ (s.bytes ++ 255 ∷ []); value = list s.values; spelled = list_to_break begins.head s.bytes le begins.is s.each refl; parts = after_head begins.head (s.bytes ++ 255 ∷ []) begins.parts q }
    inside (heads.Map (Some n)) begins e is =
        let s = counted (suc l) 2 (entry true skip) (both (suc l) skip item) n rest r fits e in
        record { bytes = begins.head ++ s.bytes; value = map_or_other (as_pairs [] s.values); spelled = map_of begins.head s.bytes n s.values le begins.is s.each (omega (arith, s.count)) refl refl; parts = after_head begins.head s.bytes begins.parts s.parts }
    inside (heads.Map None) begins e is =
        let s = to_break (suc l) 2 (entry true skip) (both (suc l) skip item) (length rest) rest r fits e in
        let q : rest ≡ (s.bytes ++ 255 ∷ []) ++ r = s.parts ∙ sym (append_assoc s.bytes (255 ∷ []) r) in
        record { bytes = begins.head ++ (s.bytes ++ 255 ∷ []); value = map_or_other (as_pairs [] s.values); spelled = map_to_break begins.head s.bytes s.turns s.values le begins.is s.each (omega (arith, s.count)) refl refl; parts = after_head begins.head (s.bytes ++ 255 ∷ []) begins.parts q }
    inside heads.Tag begins e is =
        let s = item rest r fits e in
        record { bytes = begins.head ++ s.bytes; value = other; spelled = tag_of begins.head s.bytes s.value le begins.is s.spelled refl; parts = after_head begins.head s.bytes begins.parts s.parts }
    inside (heads.Unsigned n) begins e is = absurd is
    inside (heads.Negative n) begins e is = absurd is
    inside (heads.Octets n) begins e is = absurd is
    inside (heads.Text n) begins e is = absurd is
    inside (heads.Bool v) begins e is = absurd is
    inside heads.Null begins e is = absurd is
    inside heads.Other begins e is = absurd is

pub takes : (d l : ℕ) → d + l ≡ 9 → (b r : List ℕ) → IsBytes b → skip_at d b ≡ Ok r → Item l b r
unfolding skip_at
takes zero l sum b r fits e =
    let h = bind_ok (placed b (head_at b)) (λ h. skip_body None b h.0 h.1) r e in
    let begins = head_takes b h.0.0 h.0.1 fits (placed_ok b (head_at b) h.0 h.1) in
    leaf l b h.0.1 r None h.0.0 begins (deep l b h.0.1 r h.0.0 h.2) h.2
takes (suc d) l sum b r fits e =
    let h = bind_ok (placed b (head_at b)) (λ h. skip_body (Some (skip_at d)) b h.0 h.1) r e in
    let begins = head_takes b h.0.0 h.0.1 fits (placed_ok b (head_at b) h.0 h.1) in
    let rest_fits = IsBytes-after b begins.head h.0.1 begins.parts fits in
    leaf l b h.0.1 r (Some (skip_at d)) h.0.0 begins (inside l b h.0.1 r (omega arith) rest_fits (skip_at d) (takes d (suc l) (omega arith)) h.0.0 begins h.2) h.2
