-- What stops by the definition is refused there by reading.
use Rattle.std.proofs.Common.{◌≡◌, ◌≢◌, ℕ, zero, suc, ◌+◌, ◌-◌, ◌/◌, ◌%◌, ◌<◌, ◌≤◌, Bool, true, false, ◌&&◌, eqb, ltb, ◌⊎◌, List, [], ◌∷◌, ◌++◌, length, Option, Some, None, Result, Ok, Err, refl, sym, ap, subst, ◌∙◌, append_assoc, arith, inl, inr}
use Rattle.std.specs.Prelude.{is_none}
use Rattle.std.specs.Int.{Width, w16, w32, w64, byte_len}
use Rattle.std.specs.Str.{IsUtf8}
use Rattle.std.proofs.lemmas.Bool.Decides.{nat_tests}
use Rattle.std.proofs.lemmas.List.{length-append}
use Rattle.smp_cbor.specs.declared.heads.Head.{Head}
use Rattle.smp_cbor.specs.declared.heads.Head.TheVariants as heads
use Rattle.smp_cbor.specs.declared.fault.CborKind.{CborKind}
use Rattle.smp_cbor.specs.declared.fault.CborKind.TheVariants as kinds
use Rattle.smp_cbor.specs.declared.fault.Stop.{Stop}
use Rattle.smp_cbor.specs.Heads.{number_at, byte_at, argument_at, simple_at, head_at}
use Rattle.smp_cbor.specs.Skipping.{stop_at, octets_at, text_at, begins_break, turns, Skip, entry, skips, skip_body, skip_at}
use Rattle.smp_cbor.specs.Values.{Value, text, Values, no_values, value, pairs, key_body, key_at, is_among, distinct_pairs, map_pairs, value_at, map_body, map_of}
use Rattle.smp_cbor.specs.Shortest.{values_count}
use Rattle.smp_cbor.specs.Spelling.{IsHead, Spells}
use Rattle.smp_cbor.specs.Faults.{width, NoHead, at_end, cut, reserved, no_length, low_simple, IsOpening, StatesLength, GoesOn, Stops, no_head, too_short, no_text, too_deep, in_list, in_map, in_tag, IsTextHead, StopsPair, in_key, no_key, repeated, in_value, StopsPairs, here, later, later_to_break, StopsMap, no_map, no_map_head, in_pairs, trailing}
use Rattle.smp_cbor.proofs.Results.{tested, err_is, not_err, bind_err}
use Rattle.smp_cbor.proofs.Texts.{utf8_no}
use Rattle.smp_cbor.proofs.HeadLaws.{IsBytes, head_takes, head_again}
use Rattle.smp_cbor.proofs.Again.{ReadsEach, again, again_each, reads_some, each_length, goes_on, items_again, both_again, octets_again}
use Rattle.smp_cbor.proofs.Takes.{IsBytes-after}
use Rattle.smp_cbor.proofs.Maps.{map_head, five}
use Rattle.smp_cbor.proofs.RefusedMap.{one_pair, head_at_nil}

-- ---- heads

byte_cut : (t : List ℕ) → length t < width 24 → byte_at t ≡ Err kinds.Short
byte_cut [] short = refl
byte_cut (x ∷ t) short = absurd (omega arith)

number_cut : (w : Width) (t : List ℕ) → length t < byte_len w → number_at w t ≡ Err kinds.Short
number_cut w t short = let e : ltb (length t) (byte_len w) ≡ true = grind (arith, nat_tests, short) in rw e refl

argument_cut : (low : ℕ) (t : List ℕ) → length t < width low → argument_at low t ≡ Err kinds.Short
unfolding argument_at
argument_cut low t short =
    elim (tested (eqb low 24)) [
      | inl p ↦ let is : 24 ≡ low = grind (arith, nat_tests, p) in subst (λ l. length t < width l → argument_at l t ≡ Err kinds.Short) is (byte_cut t) short
      | inr p ↦ elim (tested (eqb low 25)) [
        | inl q ↦ let is : 25 ≡ low = grind (arith, nat_tests, q) in subst (λ l. length t < width l → argument_at l t ≡ Err kinds.Short) is (number_cut w16 t) short
        | inr q ↦ elim (tested (eqb low 26)) [
          | inl r ↦ let is : 26 ≡ low = grind (arith, nat_tests, r) in subst (λ l. length t < width l → argument_at l t ≡ Err kinds.Short) is (number_cut w32 t) short
          | inr r ↦ elim (tested (eqb low 27)) [
            | inl u ↦ let is : 27 ≡ low = grind (arith, nat_tests, u) in subst (λ l. length t < width l → argument_at l t ≡ Err kinds.Short) is (number_cut w64 t) short
            | inr u ↦ absurd (let none : width low ≡ 0 = rw (p, q, r, u) refl in omega arith)
          ]
        ]
      ]
    ]

argument_high : (low : ℕ) (t : List ℕ) → 28 ≤ low → argument_at low t ≡ Err kinds.Head
unfolding argument_at
argument_high low t high =
    let a : ltb low 24 ≡ false = grind (arith, nat_tests) in
    let b : eqb low 24 ≡ false = grind (arith, nat_tests) in
    let c : eqb low 25 ≡ false = grind (arith, nat_tests) in
    let d : eqb low 26 ≡ false = grind (arith, nat_tests) in
    let e : eqb low 27 ≡ false = grind (arith, nat_tests) in
    rw (a, b, c, d, e) refl

width_high : (low n : ℕ) → n < width low → 24 ≤ low
width_high low n lt =
    elim (tested (ltb low 24)) [
      | inl p ↦ absurd (
          let b : eqb low 24 ≡ false = grind (arith, nat_tests, p) in
          let c : eqb low 25 ≡ false = grind (arith, nat_tests, p) in
          let d : eqb low 26 ≡ false = grind (arith, nat_tests, p) in
          let e : eqb low 27 ≡ false = grind (arith, nat_tests, p) in
          let none : width low ≡ 0 = rw (b, c, d, e) refl in
          omega arith)
      | inr p ↦ grind (arith, nat_tests, p)
    ]

argument_refuses : (x : ℕ) (t : List ℕ) (k : CborKind) → 24 ≤ x % 32 → (eqb (x % 32) 31 && eqb (x / 32) 4) ≡ false → (eqb (x % 32) 31 && eqb (x / 32) 5) ≡ false → argument_at (x % 32) t ≡ Err k → head_at (x ∷ t) ≡ Err k
unfolding head_at simple_at
argument_refuses x t k high list_not map_not fails =
    let a : eqb (x % 32) 20 ≡ false = grind (arith, nat_tests) in
    let b : eqb (x % 32) 21 ≡ false = grind (arith, nat_tests) in
    let c : eqb (x % 32) 22 ≡ false = grind (arith, nat_tests) in
    elim (tested (eqb (x / 32) 7)) [
      | inl p ↦ rw (p, a, b, c, fails) refl
      | inr p ↦ rw (p, list_not, map_not, fails) refl
    ]

pub head_refuses : {b : List ℕ} {k : CborKind} → NoHead b k → head_at b ≡ Err k
unfolding head_at simple_at argument_at
head_refuses at_end = refl
head_refuses (cut {x} {t} short) =
    let high : 24 ≤ x % 32 = width_high (x % 32) (length t) short in
    let below : x % 32 < 31 = width_low (x % 32) (length t) short in
    argument_refuses x t kinds.Short high (grind (arith, nat_tests, below)) (grind (arith, nat_tests, below)) (argument_cut (x % 32) t short)
  where
    width_low : (low n : ℕ) → n < width low → low < 31
    width_low low n lt =
        elim (tested (ltb low 31)) [
          | inl p ↦ grind (arith, nat_tests, p)
          | inr p ↦ absurd (
              let b : eqb low 24 ≡ false = grind (arith, nat_tests, p) in
              let c : eqb low 25 ≡ false = grind (arith, nat_tests, p) in
              let d : eqb low 26 ≡ false = grind (arith, nat_tests, p) in
              let e : eqb low 27 ≡ false = grind (arith, nat_tests, p) in
              let none : width low ≡ 0 = rw (b, c, d, e) refl in
              omega arith)
        ]
head_refuses (reserved {x} {t} from below) = argument_refuses x t kinds.Head (omega arith) (grind (arith, nat_tests, below)) (grind (arith, nat_tests, below)) (argument_high (x % 32) t from)
head_refuses (no_length {x} {t} low list_not map_not) = argument_refuses x t kinds.Head (omega arith) (grind (arith, nat_tests, list_not)) (grind (arith, nat_tests, map_not)) (argument_high (x % 32) t (omega arith))
head_refuses (low_simple {n} {t} small) = let e : ltb n 32 ≡ true = grind (arith, nat_tests, small) in rw e refl

-- ---- items

-- the skip one level deeper, where a level may open
abbrev pub inner_skip : ℕ → Option Skip
inner_skip zero = None
inner_skip (suc d) = Some (skip_at d)

pub skip_headless : (d : ℕ) (b : List ℕ) (k : CborKind) → head_at b ≡ Err k → skip_at d b ≡ Err (stop_at b k)
unfolding skip_at
skip_headless zero b k e = rw e refl
skip_headless (suc d) b k e = rw e refl

skip_headed : (d : ℕ) (b : List ℕ) (hd : Head) (t : List ℕ) → head_at b ≡ Ok (hd, t) → skip_at d b ≡ skip_body (inner_skip d) b hd t
unfolding skip_at
skip_headed zero b hd t e = rw e refl
skip_headed (suc d) b hd t e = rw e refl

headed : (b h t : List ℕ) (hd : Head) → IsHead h hd → b ≡ h ++ t → head_at b ≡ Ok (hd, t)
headed b h t hd is parts = ap head_at parts ∙ head_again h hd is t

octets_short : (b : List ℕ) (n : ℕ) (t : List ℕ) → length t < n → octets_at b n t ≡ Err (stop_at b kinds.Short)
unfolding octets_at
octets_short b n t short = let e : ltb (length t) n ≡ true = grind (arith, nat_tests, short) in rw e refl

text_short : (b : List ℕ) (n : ℕ) (t : List ℕ) → length t < n → text_at b n t ≡ Err (stop_at b kinds.Short)
unfolding text_at
text_short b n t short = rw (octets_short b n t short) refl

text_wrong : (b t u : List ℕ) → (IsUtf8 t → ⊥) → text_at b (length t) (t ++ u) ≡ Err (stop_at b kinds.NotUtf8)
unfolding text_at
text_wrong b t u wrong = rw (octets_again b t u, utf8_no t wrong) refl

short_body : (inner : Option Skip) (b t : List ℕ) (hd : Head) (n : ℕ) → StatesLength hd n → length t < n → skip_body inner b hd t ≡ Err (stop_at b kinds.Short)
short_body inner b t (heads.Octets m) n is short = let lt : length t < m = omega arith in rw (octets_short b m t lt) refl
short_body inner b t (heads.Text m) n is short = let lt : length t < m = omega arith in rw (text_short b m t lt) refl
short_body inner b t (heads.Unsigned m) n is short = absurd is
short_body inner b t (heads.Negative m) n is short = absurd is
short_body inner b t (heads.List c) n is short = absurd is
short_body inner b t (heads.Map c) n is short = absurd is
short_body inner b t heads.Tag n is short = absurd is
short_body inner b t (heads.Bool v) n is short = absurd is
short_body inner b t heads.Null n is short = absurd is
short_body inner b t heads.Other n is short = absurd is

deep_body : (b t : List ℕ) (hd : Head) → IsOpening hd → skip_body None b hd t ≡ Err (stop_at b kinds.Deep)
deep_body b t (heads.List c) is = refl
deep_body b t (heads.Map c) is = refl
deep_body b t heads.Tag is = refl
deep_body b t (heads.Unsigned m) is = absurd is
deep_body b t (heads.Negative m) is = absurd is
deep_body b t (heads.Octets m) is = absurd is
deep_body b t (heads.Text m) is = absurd is
deep_body b t (heads.Bool v) is = absurd is
deep_body b t heads.Null is = absurd is
deep_body b t heads.Other is = absurd is

empty : (b : List ℕ) → length b ≤ 0 → b ≡ []
empty [] h = refl
empty (x ∷ b) h = absurd (omega arith)

pub same_stop : (r : Result (List ℕ) Stop) (s t : Stop) → r ≡ Err s → r ≡ Err t → s ≡ t
same_stop r s t e f = sym (err_is {A = List ℕ} s t (sym e ∙ f))

-- nothing stops for want of its first byte
pub stop_nothing : (d : ℕ) (t : List ℕ) (s : Stop) → length t ≤ 0 → skip_at d t ≡ Err s → s ≡ stop_at t kinds.Short
stop_nothing d t s none e = let nil = empty t none in same_stop (skip_at d t) s (stop_at t kinds.Short) e (skip_headless d t kinds.Short (ap head_at nil ∙ head_at_nil))

-- entries that are read, and then one that stops
module _ (d : ℕ) (t : List ℕ) (s : Stop) (stops : skip_at d t ≡ Err s) where
  item_next : (ends : Bool) (k : ℕ) → (ends && begins_break t) ≡ false → skips ends (entry false (skip_at d)) (suc k) t ≡ Err s
  unfolding skips
  item_next ends k goes = rw (goes, stops) refl

  pair_next : (ends : Bool) (k : ℕ) → (ends && begins_break t) ≡ false → skips ends (entry true (skip_at d)) (suc k) t ≡ Err s
  unfolding skips
  pair_next ends k goes = rw (goes, stops) refl

  -- a key is read, and its value stops
  value_next : (ends : Bool) (k n : ℕ) (vs : Values) (c : List ℕ) → values_count vs ≡ suc (n + n) → ReadsEach d vs c → skips ends (entry true (skip_at d)) (n + suc k) (c ++ t) ≡ Err s
  unfolding skips
  value_next ends k zero no_values c odd each = absurd (omega arith)
  value_next ends k (suc n) no_values c odd each = absurd (omega arith)
  value_next ends k zero (value a (value v vs)) c odd each = absurd (omega arith)
  value_next ends k (suc n) (value a no_values) c odd each = absurd (omega arith)
  value_next ends k zero (value a no_values) c odd (h, u, is, one, nil) =
      let e : 0 + suc k ≡ suc k = omega arith in
      let got = one.skipped t in
      let g = goes_on ends d (h ++ t) t got in
      let parts : c ++ t ≡ h ++ t = rw (is, nil) (simp append_assoc) in
      rw (e, parts, g, got, stops) refl
  value_next ends k (suc n) (value a (value v vs)) c odd (h, u, is, one, (h', u', is', two, each)) =
      let e : suc n + suc k ≡ suc (n + suc k) = omega arith in
      let got = one.skipped (h' ++ (u' ++ t)) in
      let got' = two.skipped (u' ++ t) in
      let g = goes_on ends d (h ++ (h' ++ (u' ++ t))) (h' ++ (u' ++ t)) got in
      let parts : c ++ t ≡ h ++ (h' ++ (u' ++ t)) = rw (is, is') (simp append_assoc) in
      rw (parts, e, g, got, got') (value_next ends k n vs u' (omega arith) each)

  no_turns : length t ≤ 0 → (pairs : Bool) → skips true (entry pairs (skip_at d)) 0 t ≡ Err s
  unfolding skips
  no_turns none pairs = ap (λ (x : Stop). Err x) (sym (stop_nothing d t s none stops))

  module _ (vs : Values) (c : List ℕ) (each : ReadsEach d vs c) where
    items_stop : (count : Option ℕ) → GoesOn count 1 (values_count vs) t → skips (is_none count) (entry false (skip_at d)) (turns count (c ++ t)) (c ++ t) ≡ Err s
    items_stop (Some n) goes =
        let k : (k : ℕ) × (n ≡ values_count vs + suc k) = (n - values_count vs - 1, omega arith) in
        rw k.1 (items_again false d (suc k.0) t vs c each ∙ item_next false k.0 refl)
    items_stop None goes =
        let long = each_length d vs c each in
        let all = length-append c t in
        let j : (j : ℕ) × (length (c ++ t) ≡ values_count vs + j) = (length (c ++ t) - values_count vs, omega arith) in
        rw j.1 (items_again true d j.0 t vs c each ∙ by_turns j.0 (λ h. omega arith))
      where
        by_turns : (j : ℕ) → (j ≡ 0 → length t ≤ 0) → skips true (entry false (skip_at d)) j t ≡ Err s
        by_turns zero none = no_turns (none refl) false
        by_turns (suc k) none = item_next true k (goes (values_count vs) refl)

    halves : (m : ℕ) → (n : ℕ) × ((m ≡ n + n) ⊎ (m ≡ suc (n + n)))
    halves m = (m / 2, elim (tested (eqb (m % 2) 0)) [ inl p ↦ inl (let e : m % 2 ≡ 0 = grind (arith, nat_tests, p) in omega arith) | inr p ↦ inr (let e : 0 < m % 2 = grind (arith, nat_tests, p) in omega arith) ])

    pairs_stop : (count : Option ℕ) → GoesOn count 2 (values_count vs) t → skips (is_none count) (entry true (skip_at d)) (turns count (c ++ t)) (c ++ t) ≡ Err s
    pairs_stop count goes = let n = halves (values_count vs) in elim n.1 [ inl even ↦ by_even n.0 even count goes | inr odd ↦ by_odd n.0 odd count goes ]
      where
        by_even : (n : ℕ) → values_count vs ≡ n + n → (count : Option ℕ) → GoesOn count 2 (values_count vs) t → skips (is_none count) (entry true (skip_at d)) (turns count (c ++ t)) (c ++ t) ≡ Err s
        by_even n even (Some m) goes =
            let k : (k : ℕ) × (m ≡ n + suc k) = (m - n - 1, omega arith) in
            rw k.1 (both_again false d (suc k.0) t n vs c even each ∙ pair_next false k.0 refl)
        by_even n even None goes =
            let long = each_length d vs c each in
            let all = length-append c t in
            let j : (j : ℕ) × (length (c ++ t) ≡ n + j) = (length (c ++ t) - n, omega arith) in
            rw j.1 (both_again true d j.0 t n vs c even each ∙ by_turns j.0 (λ h. omega arith))
          where
            by_turns : (j : ℕ) → (j ≡ 0 → length t ≤ 0) → skips true (entry true (skip_at d)) j t ≡ Err s
            by_turns zero none = no_turns (none refl) true
            by_turns (suc k) none = pair_next true k (goes n even)

        by_odd : (n : ℕ) → values_count vs ≡ suc (n + n) → (count : Option ℕ) → GoesOn count 2 (values_count vs) t → skips (is_none count) (entry true (skip_at d)) (turns count (c ++ t)) (c ++ t) ≡ Err s
        by_odd n odd (Some m) goes =
            let k : (k : ℕ) × (m ≡ n + suc k) = (m - n - 1, omega arith) in
            rw k.1 (value_next false k.0 n vs c odd each)
        by_odd n odd None goes =
            let long = each_length d vs c each in
            let all = length-append c t in
            let k : (k : ℕ) × (length (c ++ t) ≡ n + suc k) = (length (c ++ t) - n - 1, omega arith) in
            rw k.1 (value_next true k.0 n vs c odd each)

pub stops_refused : {l : ℕ} {b : List ℕ} {s : Stop} → Stops l b s → (d : ℕ) → d + l ≡ 9 → skip_at d b ≡ Err s
stops_refused (no_head {l} {b} {s} k none at) d sum = skip_headless d b k (head_refuses none) ∙ ap (λ (x : Stop). Err x) (sym at)
stops_refused (too_short {l} {b} {s} h t hd n is states short parts at) d sum =
    skip_headed d b hd t (headed b h t hd is parts) ∙ short_body (inner_skip d) b t hd n states short ∙ ap (λ (x : Stop). Err x) (sym at)
stops_refused (no_text {l} {b} {s} h t u is wrong parts at) d sum =
    let body : skip_body (inner_skip d) b (heads.Text (length t)) (t ++ u) ≡ Err (stop_at b kinds.NotUtf8) = rw (text_wrong b t u wrong) refl in
    skip_headed d b (heads.Text (length t)) (t ++ u) (headed b h (t ++ u) (heads.Text (length t)) is parts) ∙ body ∙ ap (λ (x : Stop). Err x) (sym at)
stops_refused (too_deep {l} {b} {s} h t hd deep is opens parts at) zero sum =
    skip_headed 0 b hd t (headed b h t hd is parts) ∙ deep_body b t hd opens ∙ ap (λ (x : Stop). Err x) (sym at)
stops_refused (too_deep h t hd deep is opens parts at) (suc d) sum = absurd (omega arith)
stops_refused (in_list h c t count vs le is each goes stops parts) zero sum = absurd (omega arith)
stops_refused (in_list {l} {b} {s} h c t count vs le is each goes stops parts) (suc d) sum =
    skip_headed (suc d) b (heads.List count) (c ++ t) (headed b h (c ++ t) (heads.List count) is parts)
    ∙ items_stop d t s (stops_refused stops d (omega arith)) vs c (again_each each d (omega arith)) count goes
stops_refused (in_map h c t count vs le is each goes stops parts) zero sum = absurd (omega arith)
stops_refused (in_map {l} {b} {s} h c t count vs le is each goes stops parts) (suc d) sum =
    skip_headed (suc d) b (heads.Map count) (c ++ t) (headed b h (c ++ t) (heads.Map count) is parts)
    ∙ pairs_stop d t s (stops_refused stops d (omega arith)) vs c (again_each each d (omega arith)) count goes
stops_refused (in_tag h t le is stops parts) zero sum = absurd (omega arith)
stops_refused (in_tag {l} {b} {s} h t le is stops parts) (suc d) sum =
    skip_headed (suc d) b heads.Tag t (headed b h t heads.Tag is parts) ∙ stops_refused stops d (omega arith)

-- ---- pairs of the outer map

no_key_body : (b : List ℕ) (hd : Head) (u : List ℕ) → (IsTextHead hd → ⊥) → key_body b hd u ≡ Err (stop_at b kinds.Key)
no_key_body b (heads.Text n) u wrong = absurd (wrong tt)
no_key_body b (heads.Unsigned n) u wrong = refl
no_key_body b (heads.Negative n) u wrong = refl
no_key_body b (heads.Octets n) u wrong = refl
no_key_body b (heads.List c) u wrong = refl
no_key_body b (heads.Map c) u wrong = refl
no_key_body b heads.Tag u wrong = refl
no_key_body b (heads.Bool v) u wrong = refl
no_key_body b heads.Null u wrong = refl
no_key_body b heads.Other u wrong = refl

key_headless : (b : List ℕ) (k : CborKind) → head_at b ≡ Err k → key_at b ≡ Err (stop_at b k)
unfolding key_at
key_headless b k e = rw e refl

key_headed : (b : List ℕ) (hd : Head) (u : List ℕ) → head_at b ≡ Ok (hd, u) → key_at b ≡ key_body b hd u
unfolding key_at
key_headed b hd u e = rw e refl

-- a key that is a text stops as an item does
text_key_stops : (b : List ℕ) (hd : Head) (u : List ℕ) (s : Stop) → IsTextHead hd → skip_body (inner_skip 7) b hd u ≡ Err s → key_body b hd u ≡ Err s
text_key_stops b (heads.Text n) u s is e = elim (bind_err (text_at b n u) (λ x. Ok x.1) s e) [ inl p ↦ p | inr p ↦ not_err _ s p.2 ]
text_key_stops b (heads.Unsigned n) u s is e = absurd is
text_key_stops b (heads.Negative n) u s is e = absurd is
text_key_stops b (heads.Octets n) u s is e = absurd is
text_key_stops b (heads.List c) u s is e = absurd is
text_key_stops b (heads.Map c) u s is e = absurd is
text_key_stops b heads.Tag u s is e = absurd is
text_key_stops b (heads.Bool v) u s is e = absurd is
text_key_stops b heads.Null u s is e = absurd is
text_key_stops b heads.Other u s is e = absurd is

key_refused : (b : List ℕ) (s : Stop) → IsBytes b → ((h u : List ℕ) (hd : Head) → IsHead h hd → b ≡ h ++ u → IsTextHead hd) → skip_at 7 b ≡ Err s → key_at b ≡ Err s
key_refused b s fits only e = by_head (head_at b) refl
  where
    by_head : (r : Result (Head × List ℕ) CborKind) → head_at b ≡ r → key_at b ≡ Err s
    by_head (Err k) is = key_headless b k is ∙ ap (λ (x : Stop). Err x) (same_stop (skip_at 7 b) (stop_at b k) s (skip_headless 7 b k is) e)
    by_head (Ok x) is =
        let begins = head_takes b x.0 x.1 fits is in
        key_headed b x.0 x.1 is ∙ text_key_stops b x.0 x.1 s (only begins.head x.1 x.0 begins.is begins.parts) (sym (skip_headed 7 b x.0 x.1 is) ∙ e)

text_read : (b h u key : List ℕ) → Spells 2 h (text key) → b ≡ h ++ u → key_at b ≡ Ok (key, u)
text_read b h u key is parts = ap key_at parts ∙ (again is 7 refl).keyed u

pair_refused : {seen : List (List ℕ)} {b : List ℕ} {s : Stop} → IsBytes b → StopsPair seen b s → (f : List (List ℕ) → Skip) → one_pair seen f b ≡ Err s
pair_refused fits (in_key {seen} {b} {s} only stops) f = let e = key_refused b s fits only (stops_refused stops 7 refl) in rw e refl
pair_refused fits (no_key {seen} {b} {s} h u hd is wrong parts at) f =
    let e = key_headed b hd u (headed b h u hd is parts) ∙ no_key_body b hd u wrong in
    rw (e, at) refl
pair_refused fits (repeated {seen} {b} {s} h u key is was parts at) f = rw (text_read b h u key is parts, was, at) refl
pair_refused fits (in_value {seen} {b} {s} h u key is fresh stops parts) f = let e = stops_refused stops 7 refl in rw (text_read b h u key is parts, fresh, e) refl

-- one pair that is read
pair_read : (seen : List (List ℕ)) (b h g u key : List ℕ) (v : Value) → Spells 2 h (text key) → is_among key seen ≡ false → Spells 2 g v → b ≡ h ++ (g ++ u) → (f : List (List ℕ) → Skip) → one_pair seen f b ≡ f (seen ++ key ∷ []) u
pair_read seen b h g u key v is fresh second parts f = let e = (again second 7 refl).skipped u in rw (text_read b h (g ++ u) key is parts, fresh, e) refl

after_pair : (b h g u : List ℕ) → IsBytes b → b ≡ h ++ (g ++ u) → IsBytes u
after_pair b h g u fits parts = IsBytes-after (g ++ u) g u refl (IsBytes-after b h (g ++ u) parts fits)

one_turn : (ends : Bool) (seen : List (List ℕ)) (k : ℕ) (b : List ℕ) → (ends && begins_break b) ≡ false → distinct_pairs ends (skip_at 7) seen (suc k) b ≡ one_pair seen (λ t. distinct_pairs ends (skip_at 7) t k) b
unfolding distinct_pairs
one_turn ends seen k b goes = rw goes refl

abbrev Tries : Option ℕ → List ℕ → ℕ → Type 0
Tries (Some n) b k = k ≡ n
Tries None b k = length b ≤ k

key_begins : (b h u key : List ℕ) → Spells 2 h (text key) → b ≡ h ++ u → (0 < length b) × (begins_break b ≡ false) × (length u < length b)
key_begins b h u key is parts =
    let reads = again is 7 refl in
    let some = reads_some 7 h (text key) reads in
    let all : length b ≡ length h + length u = ap length parts ∙ length-append h u in
    (omega arith, ap begins_break parts ∙ goes_on true 7 (h ++ u) u (reads.skipped u), omega arith)

pairs_refused : {count : Option ℕ} {seen : List (List ℕ)} {b : List ℕ} {s : Stop} → IsBytes b → StopsPairs count seen b s → (k : ℕ) → Tries count b k → distinct_pairs (is_none count) (skip_at 7) seen k b ≡ Err s
unfolding distinct_pairs
pairs_refused fits (here {count = Some n} {seen} {b} {s} more goes stops) zero tries = absurd (more (ap (λ (m : ℕ). Some m) (sym tries)))
pairs_refused fits (here {count = Some n} {seen} {b} {s} more goes stops) (suc k) tries = one_turn false seen k b refl ∙ pair_refused fits stops (λ t. distinct_pairs false (skip_at 7) t k)
pairs_refused fits (here {count = None} {seen} {b} {s} more goes stops) zero tries =
    let nil = empty b tries in
    let short : key_at b ≡ Err (stop_at b kinds.Short) = key_headless b kinds.Short (ap head_at nil ∙ head_at_nil) in
    let one : one_pair seen (λ t r. Ok r) b ≡ Err (stop_at b kinds.Short) = rw short refl in
    sym one ∙ pair_refused fits stops (λ t r. Ok r)
pairs_refused fits (here {count = None} {seen} {b} {s} more goes stops) (suc k) tries = one_turn true seen k b (goes refl) ∙ pair_refused fits stops (λ t. distinct_pairs true (skip_at 7) t k)
pairs_refused fits (later {n} {seen} {b} {s} h g u key v is fresh second parts stops) zero tries = absurd (omega arith)
pairs_refused fits (later {n} {seen} {b} {s} h g u key v is fresh second parts stops) (suc k) tries =
    one_turn false seen k b refl ∙ pair_read seen b h g u key v is fresh second parts (λ t. distinct_pairs false (skip_at 7) t k)
    ∙ pairs_refused (after_pair b h g u fits parts) stops k (omega arith)
pairs_refused fits (later_to_break {seen} {b} {s} h g u key v is fresh second parts stops) zero tries = absurd (let some = (key_begins b h (g ++ u) key is parts).0 in omega arith)
pairs_refused fits (later_to_break {seen} {b} {s} h g u key v is fresh second parts stops) (suc k) tries =
    let begins = key_begins b h (g ++ u) key is parts in
    let less = begins.2 in
    let sum = length-append g u in
    one_turn true seen k b begins.1 ∙ pair_read seen b h g u key v is fresh second parts (λ t. distinct_pairs true (skip_at 7) t k)
    ∙ pairs_refused (after_pair b h g u fits parts) stops k (omega arith)

-- ---- the whole map

map_headed : (b rest : List ℕ) (count : Option ℕ) → IsBytes b → head_at b ≡ Ok (heads.Map count, rest) → map_of b ≡ map_body b (heads.Map count) rest
unfolding map_of
map_headed [] rest count fits e = absurd (let none = sym head_at_nil ∙ e in not_nil none)
  where
    not_nil : ◌≡◌ {A = Result (Head × List ℕ) CborKind} (Err kinds.Short) (Ok (heads.Map count, rest)) → ⊥
    not_nil e = cc
map_headed (x ∷ b) rest count fits e =
    let first : eqb (x / 32) 5 ≡ true = let begins = head_takes (x ∷ b) (heads.Map count) rest fits e in let f = five x b begins.head rest count begins.is begins.parts in grind (arith, nat_tests, f) in
    rw (first, e) refl

tries_all : (count : Option ℕ) (b : List ℕ) → Tries count b (turns count b)
tries_all (Some n) b = refl
tries_all None b = omega arith

pub map_refused : {b : List ℕ} {s : Stop} → IsBytes b → StopsMap b s → map_of b ≡ Err s
unfolding map_of
map_refused fits (no_map {x} {t} {s} other at) = let e : eqb (x / 32) 5 ≡ false = grind (arith, nat_tests, other) in rw (e, at) refl
map_refused fits (no_map_head {x} {t} {s} k five none at) = let e : eqb (x / 32) 5 ≡ true = grind (arith, nat_tests, five) in rw (e, head_refuses none, at) refl
map_refused fits (in_pairs {b} {s} h c count is stops parts) =
    let e : map_pairs 7 count c ≡ Err s = pairs_refused (IsBytes-after b h c parts fits) stops (turns count c) (tries_all count c) in
    map_headed b c count fits (headed b h c (heads.Map count) is parts) ∙ rw e refl
map_refused fits (trailing {b} {s} h t ps is more parts at) =
    let reads = again is 8 refl in
    let m = map_head 7 b t ps (ap (skip_at 8) parts ∙ reads.skipped t) (ap (value_at 8) parts ∙ reads.valued t) in
    let some : eqb (length t) 0 ≡ false = not_nil t more in
    map_headed b m.rest m.count fits m.head ∙ rw (m.strict, some, at) refl
  where
    not_nil : (t : List ℕ) → t ≢ [] → eqb (length t) 0 ≡ false
    not_nil [] more = absurd (more refl)
    not_nil (x ∷ t) more = grind (arith, nat_tests)
