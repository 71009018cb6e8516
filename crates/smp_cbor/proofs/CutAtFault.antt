-- Data that is cut at its first fault, and data that goes on after it.
use Rattle.std.proofs.Common.{◌≡◌, ◌≢◌, ℕ, suc, ◌+◌, ◌-◌, ◌<◌, ◌≤◌, false, ◌⊎◌, List, [], ◌∷◌, ◌++◌, length, take, drop, Option, Some, None, Result, Ok, Err, refl, sym, ap, subst, ◌∙◌, append_assoc, arith, inl, inr}
use Rattle.std.proofs.lemmas.List.{length-append, append-nil, length-take, take-append-drop}
use Rattle.smp_cbor.specs.declared.heads.Head.{Head}
use Rattle.smp_cbor.specs.declared.fault.CborKind.{CborKind}
use Rattle.smp_cbor.specs.declared.fault.CborKind.TheVariants as kinds
use Rattle.smp_cbor.specs.declared.fault.Stop.{Stop}
use Rattle.smp_cbor.specs.Heads.{head_at}
use Rattle.smp_cbor.specs.Skipping.{stop_at, begins_break, skip_at}
use Rattle.smp_cbor.specs.Values.{text, Pairs}
use Rattle.smp_cbor.specs.Shortest.{values_count}
use Rattle.smp_cbor.specs.Spelling.{IsHead, Spells, SpellsMap}
use Rattle.smp_cbor.specs.Faults.{NoHead, at_end, cut, reserved, no_length, low_simple, GoesOn, Stops, no_head, too_short, no_text, too_deep, in_list, in_map, in_tag, IsTextHead, StopsPair, in_key, no_key, repeated, in_value, StopsPairs, here, later, later_to_break, StopsMap, no_map, no_map_head, in_pairs, trailing}
use Rattle.smp_cbor.specs.Laws.{HasSoundFront, HasLastingFault}
use Rattle.smp_cbor.proofs.HeadLaws.{IsBytes, head_takes, head_again}
use Rattle.smp_cbor.proofs.Takes.{IsBytes-after}
use Rattle.smp_cbor.proofs.Again.{again, reads_some}
use Rattle.smp_cbor.proofs.RefusedHead.{head_fails}
use Rattle.smp_cbor.proofs.RefusedMap.{head_is, no_head_is, head_at_nil, stops_within, pairs_within}
use Rattle.smp_cbor.proofs.FaultIsRefused.{head_refuses, stops_refused, stop_nothing, skip_headless, same_stop}
use Rattle.smp_cbor.proofs.Endings.{spells_map}

-- ---- cut at the fault

-- nothing is left, and more is due
abbrev ended : Stop
ended = record { left = 0; kind = kinds.Short }

due : (l : ℕ) → Stops l [] ended
due l = no_head kinds.Short at_end refl

nothing_before : (b front rest : List ℕ) → b ≡ front ++ rest → length rest ≡ length b → front ≡ []
nothing_before b [] rest parts same = refl
nothing_before b (x ∷ front) rest parts same = absurd (let all = ap length parts ∙ length-append (x ∷ front) rest in omega arith)

-- two ways to part a list, where the second part of one is as long
record Split (x t front rest : List ℕ) : Type 0 where
  between : List ℕ
  front_is : front ≡ x ++ between
  t_is : t ≡ between ++ rest

split : (x t front rest : List ℕ) → x ++ t ≡ front ++ rest → length rest ≤ length t → Split x t front rest
split [] t front rest same le = record { between = front; front_is = refl; t_is = same }
split (a ∷ x) t [] rest same le = absurd (let all = ap length same in let sum = length-append (a ∷ x) t in omega arith)
split (a ∷ x) t (f ∷ front) rest same le =
    let first : a ≡ f = cc in
    let tail : x ++ t ≡ front ++ rest = cc in
    let s = split x t front rest tail le in
    let is = s.front_is in
    record { between = s.between; front_is = cc; t_is = s.t_is }

no_break_before : (front rest : List ℕ) → begins_break (front ++ rest) ≡ false → begins_break front ≡ false
no_break_before [] rest h = refl
no_break_before (x ∷ front) rest h = h

goes_cut : (count : Option ℕ) (each read : ℕ) (t front rest : List ℕ) → t ≡ front ++ rest → GoesOn count each read t → GoesOn count each read front
goes_cut (Some n) each read t front rest parts goes = goes
goes_cut None each read t front rest parts goes = λ n is. no_break_before front rest (ap begins_break (sym parts) ∙ goes n is)

stops_cut : {l : ℕ} {b : List ℕ} {s : Stop} → Stops l b s → (front rest : List ℕ) → b ≡ front ++ rest → length rest ≡ s.left → Stops l front ended
stops_cut (no_head {l} {b} {s} k none at) front rest parts left = rw (nothing_before b front rest parts (left ∙ ap (λ (s : Stop). s.left) at)) (due l)
stops_cut (too_short {l} {b} {s} h t hd n is states short whole at) front rest parts left = rw (nothing_before b front rest parts (left ∙ ap (λ (s : Stop). s.left) at)) (due l)
stops_cut (no_text {l} {b} {s} h t u is wrong whole at) front rest parts left = rw (nothing_before b front rest parts (left ∙ ap (λ (s : Stop). s.left) at)) (due l)
stops_cut (too_deep {l} {b} {s} h t hd deep is opens whole at) front rest parts left = rw (nothing_before b front rest parts (left ∙ ap (λ (s : Stop). s.left) at)) (due l)
stops_cut (in_list {l} {b} {s} h c t count vs le is each goes stops whole) front rest parts left =
    let within = stops_within stops in
    let p = split (h ++ c) t front rest (append_assoc h c t ∙ sym whole ∙ parts) (omega arith) in
    in_list h c p.between count vs le is each (goes_cut count 1 (values_count vs) t p.between rest p.t_is goes) (stops_cut stops p.between rest p.t_is left) (p.front_is ∙ append_assoc h c p.between)
stops_cut (in_map {l} {b} {s} h c t count vs le is each goes stops whole) front rest parts left =
    let within = stops_within stops in
    let p = split (h ++ c) t front rest (append_assoc h c t ∙ sym whole ∙ parts) (omega arith) in
    in_map h c p.between count vs le is each (goes_cut count 2 (values_count vs) t p.between rest p.t_is goes) (stops_cut stops p.between rest p.t_is left) (p.front_is ∙ append_assoc h c p.between)
stops_cut (in_tag {l} {b} {s} h t le is stops whole) front rest parts left =
    let within = stops_within stops in
    let p = split h t front rest (sym whole ∙ parts) (omega arith) in
    in_tag h p.between le is (stops_cut stops p.between rest p.t_is left) p.front_is

key_due : (seen : List (List ℕ)) → StopsPair seen [] ended
key_due seen = in_key (λ h u hd is parts. absurd (no_head_is [] h u hd kinds.Short head_at_nil is parts)) (due 2)

pair_cut : {seen : List (List ℕ)} {b : List ℕ} {s : Stop} → StopsPair seen b s → (front rest : List ℕ) → b ≡ front ++ rest → length rest ≡ s.left → StopsPair seen front ended
pair_cut (in_key {seen} {b} {s} only stops) front rest parts left =
    in_key (λ h u hd is front_is. only h (u ++ rest) hd is (parts ∙ ap (λ (x : List ℕ). x ++ rest) front_is ∙ append_assoc h u rest)) (stops_cut stops front rest parts left)
pair_cut (no_key {seen} {b} {s} h u hd is wrong whole at) front rest parts left = rw (nothing_before b front rest parts (left ∙ ap (λ (s : Stop). s.left) at)) (key_due seen)
pair_cut (repeated {seen} {b} {s} h u key is was whole at) front rest parts left = rw (nothing_before b front rest parts (left ∙ ap (λ (s : Stop). s.left) at)) (key_due seen)
pair_cut (in_value {seen} {b} {s} h u key is fresh stops whole) front rest parts left =
    let within = stops_within stops in
    let p = split h u front rest (sym whole ∙ parts) (omega arith) in
    in_value h p.between key is fresh (stops_cut stops p.between rest p.t_is left) p.front_is

pairs_cut : {count : Option ℕ} {seen : List (List ℕ)} {b : List ℕ} {s : Stop} → StopsPairs count seen b s → (front rest : List ℕ) → b ≡ front ++ rest → length rest ≡ s.left → StopsPairs count seen front ended
pairs_cut (here {count} {seen} {b} {s} more goes stops) front rest parts left =
    here more (λ is. no_break_before front rest (ap begins_break (sym parts) ∙ goes is)) (pair_cut stops front rest parts left)
pairs_cut (later {n} {seen} {b} {s} h g u key v is fresh second whole stops) front rest parts left =
    let within = pairs_within stops in
    let p = split (h ++ g) u front rest (append_assoc h g u ∙ sym whole ∙ parts) (omega arith) in
    later h g p.between key v is fresh second (p.front_is ∙ append_assoc h g p.between) (pairs_cut stops p.between rest p.t_is left)
pairs_cut (later_to_break {seen} {b} {s} h g u key v is fresh second whole stops) front rest parts left =
    let within = pairs_within stops in
    let p = split (h ++ g) u front rest (append_assoc h g u ∙ sym whole ∙ parts) (omega arith) in
    later_to_break h g p.between key v is fresh second (p.front_is ∙ append_assoc h g p.between) (pairs_cut stops p.between rest p.t_is left)

map_cut : {b : List ℕ} {s : Stop} → StopsMap b s → (front rest : List ℕ) → b ≡ front ++ rest → length rest ≡ s.left → 0 < length front → ((ps : Pairs) × SpellsMap front ps) ⊎ StopsMap front ended
map_cut (no_map {x} {t} {s} other at) front rest parts left some = absurd (let all = ap length parts ∙ length-append front rest in let same = left ∙ ap (λ (s : Stop). s.left) at in omega arith)
map_cut (no_map_head {x} {t} {s} k five none at) front rest parts left some = absurd (let all = ap length parts ∙ length-append front rest in let same = left ∙ ap (λ (s : Stop). s.left) at in omega arith)
map_cut (in_pairs {b} {s} h c count is stops whole) front rest parts left some =
    let within = pairs_within stops in
    let p = split h c front rest (sym whole ∙ parts) (omega arith) in
    inr (in_pairs h p.between count is (pairs_cut stops p.between rest p.t_is left) p.front_is)
map_cut (trailing {b} {s} h t ps is more whole at) front rest parts left some =
    let same : length rest ≡ length t = left ∙ ap (λ (s : Stop). s.left) at in
    let p = split h t front rest (sym whole ∙ parts) (omega arith) in
    let none : p.between ≡ [] = nothing_before t p.between rest p.t_is same in
    let front_is : front ≡ h = p.front_is ∙ ap (λ (x : List ℕ). h ++ x) none ∙ append-nil h in
    inl (ps, subst (λ (x : List ℕ). SpellsMap x ps) (sym front_is) (spells_map h ps is))

pub sound_front : (b : List ℕ) → HasSoundFront b
sound_front b at kind (within, stops) some =
    let len : length (take at b) ≡ at = omega (arith, length-take at b) in
    let parts : b ≡ take at b ++ drop at b = sym (take-append-drop at b) in
    let all : length b ≡ length (take at b) + length (drop at b) = ap length parts ∙ length-append (take at b) (drop at b) in
    let left : length (drop at b) ≡ length b - at = omega arith in
    elim (map_cut stops (take at b) (drop at b) parts left (omega arith)) [
      | inl m ↦ inl m
      | inr m ↦ inr (omega arith, let none : 0 ≡ length (take at b) - at = omega arith in subst (λ (n : ℕ). StopsMap (take at b) (record { left = n; kind = kinds.Short })) none m)
    ]

-- ---- going on after the fault

abbrev moved : Stop → List ℕ → Stop
moved s r = record { left = s.left + length r; kind = s.kind }

moved_stop : (b r : List ℕ) (k : CborKind) (s : Stop) → s ≡ stop_at b k → moved s r ≡ stop_at (b ++ r) k
moved_stop b r k s at = rw at (rw (length-append b r) refl)

kind_of : (b : List ℕ) (k : CborKind) (s : Stop) → s.kind ≢ kinds.Short → s ≡ stop_at b k → k ≢ kinds.Short
kind_of b k s wrong at is = wrong (ap (λ (s : Stop). s.kind) at ∙ is)

no_head_more : {b : List ℕ} {k : CborKind} → NoHead b k → k ≢ kinds.Short → (r : List ℕ) → NoHead (b ++ r) k
no_head_more at_end wrong r = absurd (wrong refl)
no_head_more (cut short) wrong r = absurd (wrong refl)
no_head_more (reserved from below) wrong r = reserved from below
no_head_more (no_length low list_not map_not) wrong r = no_length low list_not map_not
no_head_more (low_simple small) wrong r = low_simple small

no_break_more : (t r : List ℕ) → (t ≡ [] → ⊥) → begins_break t ≡ false → begins_break (t ++ r) ≡ false
no_break_more [] r some h = absurd (some refl)
no_break_more (x ∷ t) r some h = h

goes_more : (count : Option ℕ) (each read : ℕ) (t r : List ℕ) → (t ≡ [] → ⊥) → GoesOn count each read t → GoesOn count each read (t ++ r)
goes_more (Some n) each read t r some goes = goes
goes_more None each read t r some goes = λ n is. no_break_more t r some (goes n is)

-- where the data ends, only what is due is missing
some_left : (d l : ℕ) (t : List ℕ) (s : Stop) → d + l ≡ 9 → s.kind ≢ kinds.Short → Stops l t s → t ≡ [] → ⊥
some_left d l t s sum wrong stops nil =
    let none : length t ≤ 0 = rw nil (omega arith) in
    wrong (ap (λ (s : Stop). s.kind) (stop_nothing d t s none (stops_refused stops d sum)))

stops_more : {l : ℕ} {b : List ℕ} {s : Stop} → Stops l b s → s.kind ≢ kinds.Short → (r : List ℕ) → Stops l (b ++ r) (moved s r)
stops_more (no_head {l} {b} {s} k none at) wrong r = no_head k (no_head_more none (kind_of b k s wrong at) r) (moved_stop b r k s at)
stops_more (too_short {l} {b} {s} h t hd n is states short whole at) wrong r = absurd (kind_of b kinds.Short s wrong at refl)
stops_more (no_text {l} {b} {s} h t u is bad whole at) wrong r = no_text h t (u ++ r) is bad (rw whole (simp append_assoc)) (moved_stop b r kinds.NotUtf8 s at)
stops_more (too_deep {l} {b} {s} h t hd deep is opens whole at) wrong r = too_deep h (t ++ r) hd deep is opens (rw whole (append_assoc h t r)) (moved_stop b r kinds.Deep s at)
stops_more (in_list {l} {b} {s} h c t count vs le is each goes stops whole) wrong r =
    in_list h c (t ++ r) count vs le is each (goes_more count 1 (values_count vs) t r (some_left (8 - l) (suc l) t s (omega arith) wrong stops) goes) (stops_more stops wrong r) (rw whole (simp append_assoc))
stops_more (in_map {l} {b} {s} h c t count vs le is each goes stops whole) wrong r =
    in_map h c (t ++ r) count vs le is each (goes_more count 2 (values_count vs) t r (some_left (8 - l) (suc l) t s (omega arith) wrong stops) goes) (stops_more stops wrong r) (rw whole (simp append_assoc))
stops_more (in_tag {l} {b} {s} h t le is stops whole) wrong r = in_tag h (t ++ r) le is (stops_more stops wrong r) (rw whole (append_assoc h t r))

-- a head of longer data is the head of the data, or one that it lacks
text_more : (b r : List ℕ) (s : Stop) → IsBytes b → ((h u : List ℕ) (hd : Head) → IsHead h hd → b ≡ h ++ u → IsTextHead hd) → Stops 2 b s → s.kind ≢ kinds.Short → (h u : List ℕ) (hd : Head) → IsHead h hd → b ++ r ≡ h ++ u → IsTextHead hd
text_more b r s fits only stops wrong h u hd is parts = by_head (head_at b) refl
  where
    by_head : (x : Result (Head × List ℕ) CborKind) → head_at b ≡ x → IsTextHead hd
    by_head (Err k) e =
        let at = same_stop (skip_at 7 b) s (stop_at b k) (stops_refused stops 7 refl) (skip_headless 7 b k e) in
        absurd (no_head_is (b ++ r) h u hd k (head_refuses (no_head_more (head_fails b k e) (kind_of b k s wrong at) r)) is parts)
    by_head (Ok x) e =
        let begins = head_takes b x.0 x.1 fits e in
        let whole : b ++ r ≡ begins.head ++ (x.1 ++ r) = ap (λ (y : List ℕ). y ++ r) begins.parts ∙ append_assoc begins.head x.1 r in
        let same : x.0 ≡ hd = head_is (b ++ r) h u x.0 hd (x.1 ++ r) (ap head_at whole ∙ head_again begins.head x.0 begins.is (x.1 ++ r)) is parts in
        subst IsTextHead same (only begins.head x.1 x.0 begins.is begins.parts)

pair_more : {seen : List (List ℕ)} {b : List ℕ} {s : Stop} → IsBytes b → StopsPair seen b s → s.kind ≢ kinds.Short → (r : List ℕ) → StopsPair seen (b ++ r) (moved s r)
pair_more fits (in_key {seen} {b} {s} only stops) wrong r = in_key (text_more b r s fits only stops wrong) (stops_more stops wrong r)
pair_more fits (no_key {seen} {b} {s} h u hd is bad whole at) wrong r = no_key h (u ++ r) hd is bad (rw whole (append_assoc h u r)) (moved_stop b r kinds.Key s at)
pair_more fits (repeated {seen} {b} {s} h u key is was whole at) wrong r = repeated h (u ++ r) key is was (rw whole (append_assoc h u r)) (moved_stop b r kinds.Repeated s at)
pair_more fits (in_value {seen} {b} {s} h u key is fresh stops whole) wrong r = in_value h (u ++ r) key is fresh (stops_more stops wrong r) (rw whole (append_assoc h u r))

no_spelling : (h u b key : List ℕ) → Spells 2 h (text key) → b ≡ h ++ u → b ≡ [] → ⊥
no_spelling h u b key is whole nil =
    let some = reads_some 7 h (text key) (again is 7 refl) in
    let all = ap length whole ∙ length-append h u in
    let none : length b ≡ 0 = ap length nil in
    omega arith

pair_left : (seen : List (List ℕ)) (b : List ℕ) (s : Stop) → StopsPair seen b s → s.kind ≢ kinds.Short → b ≡ [] → ⊥
pair_left seen b s (in_key only stops) wrong nil = some_left 7 2 b s refl wrong stops nil
pair_left seen b s (no_key h u hd is bad whole at) wrong nil = no_head_is b h u hd kinds.Short (ap head_at nil ∙ head_at_nil) is whole
pair_left seen b s (repeated h u key is was whole at) wrong nil = no_spelling h u b key is whole nil
pair_left seen b s (in_value h u key is fresh stops whole) wrong nil = no_spelling h u b key is whole nil

pairs_more : {count : Option ℕ} {seen : List (List ℕ)} {b : List ℕ} {s : Stop} → IsBytes b → StopsPairs count seen b s → s.kind ≢ kinds.Short → (r : List ℕ) → StopsPairs count seen (b ++ r) (moved s r)
pairs_more fits (here {count} {seen} {b} {s} more goes stops) wrong r = here more (λ is. no_break_more b r (pair_left seen b s stops wrong) (goes is)) (pair_more fits stops wrong r)
pairs_more fits (later {n} {seen} {b} {s} h g u key v is fresh second whole stops) wrong r =
    later h g (u ++ r) key v is fresh second (rw whole (simp append_assoc)) (pairs_more (IsBytes-after (g ++ u) g u refl (IsBytes-after b h (g ++ u) whole fits)) stops wrong r)
pairs_more fits (later_to_break {seen} {b} {s} h g u key v is fresh second whole stops) wrong r =
    later_to_break h g (u ++ r) key v is fresh second (rw whole (simp append_assoc)) (pairs_more (IsBytes-after (g ++ u) g u refl (IsBytes-after b h (g ++ u) whole fits)) stops wrong r)

map_more : {b : List ℕ} {s : Stop} → IsBytes b → StopsMap b s → s.kind ≢ kinds.Short → (r : List ℕ) → StopsMap (b ++ r) (moved s r)
map_more fits (no_map {x} {t} {s} other at) wrong r = no_map other (moved_stop (x ∷ t) r kinds.NotAMap s at)
map_more fits (no_map_head {x} {t} {s} k five none at) wrong r = no_map_head k five (no_head_more none (kind_of (x ∷ t) k s wrong at) r) (moved_stop (x ∷ t) r k s at)
map_more fits (in_pairs {b} {s} h c count is stops whole) wrong r = in_pairs h (c ++ r) count is (pairs_more (IsBytes-after b h c whole fits) stops wrong r) (rw whole (append_assoc h c r))
map_more fits (trailing {b} {s} h t ps is more whole at) wrong r =
    trailing h (t ++ r) ps is (longer t r more) (rw whole (append_assoc h t r)) (rw at (rw (length-append t r) refl))
  where
    longer : (t r : List ℕ) → t ≢ [] → t ++ r ≢ []
    longer [] r more = λ e. more refl
    longer (x ∷ t) r more = λ e. cc

pub lasting_fault : (b rest : List ℕ) → IsBytes b → HasLastingFault b rest
lasting_fault b rest fits at kind wrong (within, stops) =
    let all = length-append b rest in
    let left : length b - at + length rest ≡ length (b ++ rest) - at = omega arith in
    (omega arith, subst (λ (n : ℕ). StopsMap (b ++ rest) (record { left = n; kind = kind })) left (map_more fits stops wrong rest))
