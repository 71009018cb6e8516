-- An item that reading refuses stops at its first refused head.
use Rattle.std.proofs.Common.{◌≡◌, ℕ, zero, suc, ◌+◌, ◌*◌, ◌<◌, ◌≤◌, Bool, true, false, cond, ltb, ◌⊎◌, List, [], ◌∷◌, ◌++◌, length, drop, Option, Some, None, Result, Ok, Err, refl, sym, ap, subst, ◌∙◌, append_assoc, arith, inl, inr}
use Rattle.std.specs.Str.{IsUtf8, is_utf8}
use Rattle.std.proofs.lemmas.Bool.Decides.{nat_tests}
use Rattle.std.proofs.lemmas.List.{length-append}
use Rattle.std.proofs.lemmas.Str.{is_utf8-from_IsUtf8}
use Rattle.smp_cbor.specs.declared.heads.Head.{Head}
use Rattle.smp_cbor.specs.declared.heads.Head.TheVariants as heads
use Rattle.smp_cbor.specs.declared.fault.CborKind.{CborKind}
use Rattle.smp_cbor.specs.declared.fault.CborKind.TheVariants as kinds
use Rattle.smp_cbor.specs.declared.fault.Stop.{Stop}
use Rattle.smp_cbor.specs.Heads.{◌>>=◌, head_at}
use Rattle.smp_cbor.specs.Skipping.{stop_at, placed, octets_at, text_at, begins_break, Skip, entry, skips, skip_body, skip_at}
use Rattle.smp_cbor.specs.Values.{Values, no_values}
use Rattle.smp_cbor.specs.Shortest.{values_count}
use Rattle.smp_cbor.specs.Spelling.{IsHead, SpellsEach, nothing}
use Rattle.smp_cbor.specs.Faults.{at_end, IsOpening, Stops, no_head, too_short, no_text, too_deep, in_list, in_map, in_tag}
use Rattle.smp_cbor.proofs.Results.{chosen, done, err_is, not_err, bind_ok, bind_err}
use Rattle.smp_cbor.proofs.HeadLaws.{IsBytes, Begins, head_takes}
use Rattle.smp_cbor.proofs.Again.{again, reads_some}
use Rattle.smp_cbor.proofs.Takes.{placed_ok, Item, Several, single, both, one_item, joined, count-joined, each_joined, IsBytes-after, octets_takes, takes}
use Rattle.smp_cbor.proofs.RefusedHead.{head_fails}

pub placed_err : {A : Type 0} (b : List ℕ) (r : Result A CborKind) (s : Stop) → placed b r ≡ Err s → (k : CborKind) × (r ≡ Err k) × (s ≡ stop_at b k)
placed_err b (Ok x) s e = not_err x s e
placed_err b (Err k) s e = (k, refl, err_is (stop_at b k) s e)

-- items before the one that stops: fewer than w
pub record Partial (l w : ℕ) (b : List ℕ) (s : Stop) : Type 0 where
  bytes : List ℕ
  rest : List ℕ
  values : Values
  each : SpellsEach l bytes values
  few : values_count values < w
  first : values_count values ≡ 0 → rest ≡ b
  parts : b ≡ bytes ++ rest
  stops : Stops l rest s

-- items before the one that stops, where each turn has w of them and a break stands at none of its places
record Unbroken (l w : ℕ) (b : List ℕ) (s : Stop) : Type 0 where
  bytes : List ℕ
  rest : List ℕ
  values : Values
  each : SpellsEach l bytes values
  no_break : (m : ℕ) → values_count values ≡ m * w → begins_break rest ≡ false
  parts : b ≡ bytes ++ rest
  stops : Stops l rest s

module _ (l : ℕ) (skip : Skip) (item : (b r : List ℕ) → IsBytes b → skip b ≡ Ok r → Item l b r) (stops : (b : List ℕ) (s : Stop) → IsBytes b → skip b ≡ Err s → Stops l b s) where
  at_once : (w : ℕ) (b : List ℕ) (s : Stop) → 0 < w → IsBytes b → skip b ≡ Err s → Partial l w b s
  at_once w b s pos fits e = record { bytes = []; rest = b; values = no_values; each = nothing; few = pos; first = λ _. refl; parts = refl; stops = stops b s fits e }

  single_stops : (b : List ℕ) (s : Stop) → IsBytes b → entry false skip b ≡ Err s → Partial l 1 b s
  single_stops b s fits e = elim (bind_err (skip b) (λ r. Ok r) s e) [
    | inl p ↦ at_once 1 b s (omega arith) fits p
    | inr p ↦ not_err _ s p.2
  ]

  both_stop : (b : List ℕ) (s : Stop) → IsBytes b → entry true skip b ≡ Err s → Partial l 2 b s
  both_stop b s fits e = elim (bind_err (skip b) (λ r. skip r) s e) [
    | inl p ↦ at_once 2 b s (omega arith) fits p
    | inr p ↦
        let i = one_item l skip item b p.0 fits p.1 in
        let count = i.count in
        record { bytes = i.bytes; rest = p.0; values = i.values; each = i.each; few = omega arith; first = λ h. absurd (omega arith); parts = i.parts; stops = stops p.0 s (IsBytes-after b i.bytes p.0 i.parts fits) p.2 }
  ]

module _ (l w : ℕ) (one : Skip) (pos : 0 < w) (several : (b r : List ℕ) → IsBytes b → one b ≡ Ok r → Several l w b r) (stop : (b : List ℕ) (s : Stop) → IsBytes b → one b ≡ Err s → Partial l w b s) where
  counted_stops : (k : ℕ) (b : List ℕ) (s : Stop) → IsBytes b → skips false one k b ≡ Err s → Partial l (k * w) b s
  unfolding skips
  counted_stops zero b s fits e = not_err b s e
  counted_stops (suc k) b s fits e = elim (bind_err (one b) (skips false one k) s e) [
    | inl p ↦
        let t = stop b s fits p in
        let few = t.few in
        record { bytes = t.bytes; rest = t.rest; values = t.values; each = t.each; few = grind arith; first = t.first; parts = t.parts; stops = t.stops }
    | inr p ↦
        let i = several b p.0 fits p.1 in
        let j = counted_stops k p.0 s (IsBytes-after b i.bytes p.0 i.parts fits) p.2 in
        let few = j.few in
        let count = i.count in
        let sum = count-joined i.values j.values in
        record {
          bytes = i.bytes ++ j.bytes;
          rest = j.rest;
          values = joined i.values j.values;
          each = each_joined i.each j.bytes j.values j.each;
          few = omega arith;
          first = λ h. absurd (omega arith);
          parts = i.parts ∙ ap (λ (t : List ℕ). i.bytes ++ t) j.parts ∙ sym (append_assoc i.bytes j.bytes j.rest);
          stops = j.stops;
        }
  ]

  module _ (shrinks : (b r : List ℕ) → IsBytes b → one b ≡ Ok r → length r < length b) where
    no_turn : (i n m : ℕ) → i ≡ w → i + n ≡ m * w → (m' : ℕ) × (n ≡ m' * w)
    no_turn i n zero is e = absurd (omega arith)
    no_turn i n (suc m) is e = (m, omega arith)

    empty : (b : List ℕ) → length b ≤ 0 → b ≡ []
    empty [] h = refl
    empty (x ∷ b) h = absurd (omega arith)

    unbroken : (k : ℕ) (b : List ℕ) (s : Stop) → length b ≤ k → IsBytes b → skips true one k b ≡ Err s → Unbroken l w b s
    unfolding skips
    unbroken zero b s le fits e =
        let nil = empty b le in
        record {
          bytes = [];
          rest = b;
          values = no_values;
          each = nothing;
          no_break = λ m h. rw nil refl;
          parts = refl;
          stops = no_head kinds.Short (rw nil at_end) (err_is (stop_at b kinds.Short) s e);
        }
    unbroken (suc k) b s le fits e = elim (chosen (begins_break b) (done (drop 1 b)) (one b >>= skips true one k) (Err s) e) [
      | inl p ↦ not_err _ s p.1
      | inr p ↦ elim (bind_err (one b) (skips true one k) s p.1) [
        | inl q ↦
            let t = stop b s fits q in
            record { bytes = t.bytes; rest = t.rest; values = t.values; each = t.each; no_break = λ m h. at_start b t.rest (values_count t.values) m t.few t.first p.0 h; parts = t.parts; stops = t.stops }
        | inr q ↦
            let i = several b q.0 fits q.1 in
            let less = shrinks b q.0 fits q.1 in
            let j = unbroken k q.0 s (omega arith) (IsBytes-after b i.bytes q.0 i.parts fits) q.2 in
            record {
              bytes = i.bytes ++ j.bytes;
              rest = j.rest;
              values = joined i.values j.values;
              each = each_joined i.each j.bytes j.values j.each;
              no_break = λ m h. let t = no_turn (values_count i.values) (values_count j.values) m i.count (sym (count-joined i.values j.values) ∙ h) in j.no_break t.0 t.1;
              parts = i.parts ∙ ap (λ (t : List ℕ). i.bytes ++ t) j.parts ∙ sym (append_assoc i.bytes j.bytes j.rest);
              stops = j.stops;
            }
      ]
    ]
      where
        at_start : (b rest : List ℕ) (n m : ℕ) → n < w → (n ≡ 0 → rest ≡ b) → begins_break b ≡ false → n ≡ m * w → begins_break rest ≡ false
        at_start b rest n zero few first none h = rw (first (omega arith)) none
        at_start b rest n (suc m) few first none h = absurd (grind arith)

octets_fails : (b : List ℕ) (n : ℕ) (rest : List ℕ) (s : Stop) → octets_at b n rest ≡ Err s → (length rest < n) × (s ≡ stop_at b kinds.Short)
unfolding octets_at
octets_fails b n rest s e =
    elim (chosen (ltb (length rest) n) _ _ (Err s) e) [
      | inl p ↦ (grind (arith, nat_tests, p.0), err_is (stop_at b kinds.Short) s p.1)
      | inr p ↦ not_err _ s p.1
    ]

-- a text that is too short, or no text
pub record NoText (b : List ℕ) (n : ℕ) (rest : List ℕ) (s : Stop) : Type 0 where
  text : List ℕ
  after : List ℕ
  length_is : length text ≡ n
  parts : rest ≡ text ++ after
  wrong : IsUtf8 text → ⊥
  is : s ≡ stop_at b kinds.NotUtf8

pub text_fails : (b : List ℕ) (n : ℕ) (rest : List ℕ) (s : Stop) → text_at b n rest ≡ Err s → ((length rest < n) × (s ≡ stop_at b kinds.Short)) ⊎ NoText b n rest s
unfolding text_at
text_fails b n rest s e =
    elim (bind_err (octets_at b n rest) (λ x. cond (is_utf8 x.0) (Ok x) (Err (stop_at b kinds.NotUtf8))) s e) [
      | inl p ↦ inl (octets_fails b n rest s p)
      | inr p ↦ elim (chosen (is_utf8 p.0.0) (done p.0) (Err (stop_at b kinds.NotUtf8)) (Err s) p.2) [
        | inl q ↦ not_err _ s q.1
        | inr q ↦
            let o = octets_takes b n rest p.0 p.1 in
            inr (record { text = p.0.0; after = p.0.1; length_is = o.0; parts = o.1; wrong = λ h. absurd (let yes = is_utf8-from_IsUtf8 p.0.0 h in let no = q.0 in cc); is = err_is (stop_at b kinds.NotUtf8) s q.1 })
      ]
    ]

pub item_shrinks : (d l : ℕ) (b r : List ℕ) → d + l ≡ 9 → IsBytes b → skip_at d b ≡ Ok r → length r < length b
item_shrinks d l b r sum fits e =
    let i = takes d l sum b r fits e in
    let long : 0 < length i.bytes = reads_some d i.bytes i.value (again i.spelled d sum) in
    rw (i.parts) (omega (arith, length-append i.bytes r))

entry_shrinks : (d l : ℕ) (pairs : Bool) (b r : List ℕ) → d + l ≡ 9 → IsBytes b → entry pairs (skip_at d) b ≡ Ok r → length r < length b
entry_shrinks d l false b r sum fits e =
    let x = bind_ok (skip_at d b) (λ r. Ok r) r e in
    item_shrinks d l b r sum fits (x.1 ∙ x.2)
entry_shrinks d l true b r sum fits e =
    let x = bind_ok (skip_at d b) (λ r. skip_at d r) r e in
    let i = takes d l sum b x.0 fits x.1 in
    let one = item_shrinks d l b x.0 sum fits x.1 in
    let two = item_shrinks d l x.0 r sum (IsBytes-after b i.bytes x.0 i.parts fits) x.2 in
    omega arith

module _ (l : ℕ) (b rest : List ℕ) (s : Stop) where
  pub stop_inside : (h c t : List ℕ) → b ≡ h ++ rest → rest ≡ c ++ t → b ≡ h ++ (c ++ t)
  stop_inside h c t p q = p ∙ ap (λ (t : List ℕ). h ++ t) q

  pub leaf_stops : (inner : Option Skip) (hd : Head) → Begins b hd rest → (IsOpening hd → Stops l b s) → skip_body inner b hd rest ≡ Err s → Stops l b s
  leaf_stops inner (heads.Unsigned n) begins nested e = not_err _ s e
  leaf_stops inner (heads.Negative n) begins nested e = not_err _ s e
  leaf_stops inner (heads.Bool v) begins nested e = not_err _ s e
  leaf_stops inner heads.Null begins nested e = not_err _ s e
  leaf_stops inner heads.Other begins nested e = not_err _ s e
  leaf_stops inner (heads.List count) begins nested e = nested tt
  leaf_stops inner (heads.Map count) begins nested e = nested tt
  leaf_stops inner heads.Tag begins nested e = nested tt
  leaf_stops inner (heads.Octets n) begins nested e =
      elim (bind_err (octets_at b n rest) (λ x. Ok x.1) s e) [
        | inl p ↦ let f = octets_fails b n rest s p in too_short begins.head rest (heads.Octets n) n begins.is refl f.0 begins.parts f.1
        | inr p ↦ not_err _ s p.2
      ]
  leaf_stops inner (heads.Text n) begins nested e =
      elim (bind_err (text_at b n rest) (λ x. Ok x.1) s e) [
        | inl p ↦ elim (text_fails b n rest s p) [
          | inl f ↦ too_short begins.head rest (heads.Text n) n begins.is refl f.0 begins.parts f.1
          | inr f ↦ no_text begins.head f.text f.after (subst (λ n. IsHead begins.head (heads.Text n)) (sym f.length_is) begins.is) f.wrong (stop_inside begins.head f.text f.after begins.parts f.parts) f.is
        ]
        | inr p ↦ not_err _ s p.2
      ]

  deep_stops : 8 < l → (hd : Head) → Begins b hd rest → skip_body None b hd rest ≡ Err s → IsOpening hd → Stops l b s
  deep_stops deep (heads.List count) begins e is = too_deep begins.head rest (heads.List count) deep begins.is tt begins.parts (err_is (stop_at b kinds.Deep) s e)
  deep_stops deep (heads.Map count) begins e is = too_deep begins.head rest (heads.Map count) deep begins.is tt begins.parts (err_is (stop_at b kinds.Deep) s e)
  deep_stops deep heads.Tag begins e is = too_deep begins.head rest heads.Tag deep begins.is tt begins.parts (err_is (stop_at b kinds.Deep) s e)
  deep_stops deep (heads.Unsigned n) begins e is = absurd is
  deep_stops deep (heads.Negative n) begins e is = absurd is
  deep_stops deep (heads.Octets n) begins e is = absurd is
  deep_stops deep (heads.Text n) begins e is = absurd is
  deep_stops deep (heads.Bool v) begins e is = absurd is
  deep_stops deep heads.Null begins e is = absurd is
  deep_stops deep heads.Other begins e is = absurd is

  module _ (d : ℕ) (sum : suc d + l ≡ 9) (fits : IsBytes rest) (stop : (b : List ℕ) (s : Stop) → IsBytes b → skip_at d b ≡ Err s → Stops (suc l) b s) where
    below : d + suc l ≡ 9
    below = omega arith

    one : (b r : List ℕ) → IsBytes b → skip_at d b ≡ Ok r → Item (suc l) b r
    one = takes d (suc l) below

    inside_stops : (hd : Head) → Begins b hd rest → skip_body (Some (skip_at d)) b hd rest ≡ Err s → IsOpening hd → Stops l b s
    inside_stops (heads.List (Some n)) begins e is =
        let p = counted_stops (suc l) 1 (entry false (skip_at d)) (omega arith) (single (suc l) (skip_at d) one) (single_stops (suc l) (skip_at d) one stop) n rest s fits e in
        let few = p.few in
        in_list begins.head p.bytes p.rest (Some n) p.values (omega arith) begins.is p.each (omega arith) p.stops (stop_inside begins.head p.bytes p.rest begins.parts p.parts)
    inside_stops (heads.List None) begins e is =
        let p = unbroken (suc l) 1 (entry false (skip_at d)) (omega arith) (single (suc l) (skip_at d) one) (single_stops (suc l) (skip_at d) one stop) (λ b r fits e. entry_shrinks d (suc l) false b r below fits e) (length rest) rest s (omega arith) fits e in
        in_list begins.head p.bytes p.rest None p.values (omega arith) begins.is p.each (λ m h. p.no_break m (omega arith)) p.stops (stop_inside begins.head p.bytes p.rest begins.parts p.parts)
    inside_stops (heads.Map (Some n)) begins e is =
        let p = counted_stops (suc l) 2 (entry true (skip_at d)) (omega arith) (both (suc l) (skip_at d) one) (both_stop (suc l) (skip_at d) one stop) n rest s fits e in
        let few = p.few in
        in_map begins.head p.bytes p.rest (Some n) p.values (omega arith) begins.is p.each (omega arith) p.stops (stop_inside begins.head p.bytes p.rest begins.parts p.parts)
    inside_stops (heads.Map None) begins e is =
        let p = unbroken (suc l) 2 (entry true (skip_at d)) (omega arith) (both (suc l) (skip_at d) one) (both_stop (suc l) (skip_at d) one stop) (λ b r fits e. entry_shrinks d (suc l) true b r below fits e) (length rest) rest s (omega arith) fits e in
        in_map begins.head p.bytes p.rest None p.values (omega arith) begins.is p.each (λ m h. p.no_break m (omega arith)) p.stops (stop_inside begins.head p.bytes p.rest begins.parts p.parts)
    inside_stops heads.Tag begins e is = in_tag begins.head rest (omega arith) begins.is (stop rest s fits e) begins.parts
    inside_stops (heads.Unsigned n) begins e is = absurd is
    inside_stops (heads.Negative n) begins e is = absurd is
    inside_stops (heads.Octets n) begins e is = absurd is
    inside_stops (heads.Text n) begins e is = absurd is
    inside_stops (heads.Bool v) begins e is = absurd is
    inside_stops heads.Null begins e is = absurd is
    inside_stops heads.Other begins e is = absurd is

pub refused : (d l : ℕ) → d + l ≡ 9 → (b : List ℕ) (s : Stop) → IsBytes b → skip_at d b ≡ Err s → Stops l b s
unfolding skip_at
refused zero l sum b s fits e =
    elim (bind_err (placed b (head_at b)) (λ h. skip_body None b h.0 h.1) s e) [
      | inl p ↦ let k = placed_err b (head_at b) s p in no_head k.0 (head_fails b k.0 k.1) k.2
      | inr h ↦
          let begins = head_takes b h.0.0 h.0.1 fits (placed_ok b (head_at b) h.0 h.1) in
          leaf_stops l b h.0.1 s None h.0.0 begins (deep_stops l b h.0.1 s (omega arith) h.0.0 begins h.2) h.2
    ]
refused (suc d) l sum b s fits e =
    elim (bind_err (placed b (head_at b)) (λ h. skip_body (Some (skip_at d)) b h.0 h.1) s e) [
      | inl p ↦ let k = placed_err b (head_at b) s p in no_head k.0 (head_fails b k.0 k.1) k.2
      | inr h ↦
          let begins = head_takes b h.0.0 h.0.1 fits (placed_ok b (head_at b) h.0 h.1) in
          let rest_fits = IsBytes-after b begins.head h.0.1 begins.parts fits in
          leaf_stops l b h.0.1 s (Some (skip_at d)) h.0.0 begins (inside_stops l b h.0.1 s d sum rest_fits (refused d (suc l) (omega arith)) h.0.0 begins h.2) h.2
    ]
