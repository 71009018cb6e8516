-- TLVs one after the other.
use Rattle.std.proofs.Common.{◌≡◌, ℕ, ◌+◌, ◌-◌, ◌<◌, ◌≤◌, List, [], ◌∷◌, length, take, drop, get_or, Option, Some, None, refl, sym, ap, ◌∙◌, subst, arith}
use Rattle.std.specs.Prelude.{IfSome}
use Rattle.std.specs.Option.{option_map}
use Rattle.std.proofs.lemmas.List.{drop-take, drop-drop, get_or-take}
use Rattle.smp_flash.specs.Area.{area}
use Rattle.smp_flash.proofs.Areas.{length-area, area-area}
use Rattle.smp_model.specs.Image.{Tlv, tlvs_of, number_16}
use Rattle.smp_model.specs.ImageFaults.{ReadsTlvsInOrder}
use Rattle.smp_tlv.specs.Walking.{tlvs_between, outcome, only_with, Follows, Adds}
use Rattle.smp_tlv.specs.declared.tlv.Hashes.TheVariants.{Missing}
use Rattle.smp_tlv.specs.declared.tlv.Hashes.{Hashes}

number-take : (n i : ℕ) (xs : List ℕ) → i + 1 < n → number_16 (take n xs) i ≡ number_16 xs i
number-take n i xs h =
    let a : get_or (take n xs) i 0 ≡ get_or xs i 0 = get_or-take n xs i 0 (omega arith) in
    let b : get_or (take n xs) (i + 1) 0 ≡ get_or xs (i + 1) 0 = get_or-take n xs (i + 1) 0 h in
    rw (a, b) refl

-- nothing is left at the end
pub tlvs_at_end : (end : ℕ) (held : List ℕ) → tlvs_between end end held ≡ Some []
unfolding tlvs_of
tlvs_at_end end held = let e : end - end ≡ 0 = omega arith in rw e refl

pub short_between : ReadsTlvsInOrder → (at end : ℕ) (held : List ℕ) → at < end → end - at < 4 → end ≤ length held → tlvs_between at end held ≡ None
short_between law at end held some few inside =
    let e : length (area at (end - at) held) ≡ end - at = length-area at (end - at) held (omega arith) in
    law.short (area at (end - at) held) (omega arith) (omega arith)

pub past_between : ReadsTlvsInOrder → (at end : ℕ) (held : List ℕ) (size : ℕ) → at + 4 ≤ end → end ≤ length held → size ≡ number_16 (drop at held) 2 → end < at + 4 + size → tlvs_between at end held ≡ None
past_between law at end held size some inside is past =
    let e : length (area at (end - at) held) ≡ end - at = length-area at (end - at) held (omega arith) in
    let n : number_16 (area at (end - at) held) 2 ≡ number_16 (drop at held) 2 = number-take (end - at) 2 (drop at held) (omega arith) in
    law.past (area at (end - at) held) (omega arith) (omega arith)

drop_between : (at end size : ℕ) (held : List ℕ) → at + 4 + size ≤ end → drop size (drop 4 (area at (end - at) held)) ≡ area (at + 4 + size) (end - (at + 4 + size)) held
drop_between at end size held fits =
    let m : ℕ = end - (at + 4 + size) in
    let all : end - at ≡ (4 + size) + m = omega arith in
    let place : at + (4 + size) ≡ at + 4 + size = omega arith in
    drop-drop size 4 (area at (end - at) held)
    ∙ (ap (λ k. drop (4 + size) (take k (drop at held))) all
    ∙ (drop-take (4 + size) m (drop at held)
    ∙ (ap (take m) (drop-drop (4 + size) at held)
    ∙ ap (λ k. take m (drop k held)) place)))

pub next_between : ReadsTlvsInOrder → (at end : ℕ) (held : List ℕ) (kind size : ℕ) → at + 4 + size ≤ end → end ≤ length held → kind ≡ number_16 (drop at held) 0 → size ≡ number_16 (drop at held) 2
    → tlvs_between at end held ≡ option_map (λ ts. record { kind = kind; value = area (at + 4) size held } ∷ ts) (tlvs_between (at + 4 + size) end held)
next_between law at end held kind size fits inside is_kind is_size =
    let r : List ℕ = area at (end - at) held in
    let e : length r ≡ end - at = length-area at (end - at) held (omega arith) in
    let k : number_16 r 0 ≡ kind = number-take (end - at) 0 (drop at held) (omega arith) ∙ sym is_kind in
    let n : number_16 r 2 ≡ size = number-take (end - at) 2 (drop at held) (omega arith) ∙ sym is_size in
    let value : take size (drop 4 r) ≡ area (at + 4) size held = area-area 4 size at (end - at) held (omega arith) in
    law.next r kind size (area (at + 4) size held) (area (at + 4 + size) (end - (at + 4 + size)) held) k n (omega arith) value (drop_between at end size held fits)

-- what is found with one TLV more
outcome_adds : (found next : Hashes) (t : Tlv) (o : Option (List Tlv)) → Adds found t next → outcome found (option_map (λ ts. t ∷ ts) o) ≡ outcome next o
outcome_adds found next t None adds = refl
outcome_adds found next t (Some ts) adds = ap (λ (h : Option (List ℕ)). Some h) (adds ts)

pub follows_next : ReadsTlvsInOrder → (found next : Hashes) (at end kind n size : ℕ) (held : List ℕ) → n ≡ size → at + 4 + n ≤ end → end ≤ length held
    → (kind ≡ number_16 (drop at held) 0) × (size ≡ number_16 (drop at held) 2) → Adds found (record { kind = kind; value = area (at + 4) size held }) next
    → Follows found at end (Some (record { at = at + 4 + n; found = next })) held
follows_next law found next at end kind n size held same fits inside head adds =
    let value : Adds found (record { kind = kind; value = area (at + 4) n held }) next = subst (λ k. Adds found (record { kind = kind; value = area (at + 4) k held }) next) (sym same) adds in
    ap (outcome found) (next_between law at end held kind n fits inside head.0 (same ∙ head.1))
    ∙ outcome_adds found next (record { kind = kind; value = area (at + 4) n held }) (tlvs_between (at + 4 + n) end held) value

-- two facts about bytes that may not be told
pub IfSome-two : (P Q R : List ℕ → Type 0) (x : Option (List ℕ)) → ((u : List ℕ) → P u → Q u → R u) → IfSome x P → IfSome x Q → IfSome x R
IfSome-two P Q R None step p q = tt
IfSome-two P Q R (Some u) step p q = step u p q

pub IfSome-three : (P Q S R : List ℕ → Type 0) (x : Option (List ℕ)) → ((u : List ℕ) → P u → Q u → S u → R u) → IfSome x P → IfSome x Q → IfSome x S → IfSome x R
IfSome-three P Q S R None step p q s = tt
IfSome-three P Q S R (Some u) step p q s = step u p q s

pub hash_at_end : (x : Option (List ℕ)) (found : Hashes) (at k end : ℕ) (h : Option (List ℕ)) → k ≡ end → h ≡ only_with found []
    → IfSome x (λ held. outcome Missing (tlvs_between at end held) ≡ outcome found (tlvs_between k end held))
    → IfSome x (λ held. ◌≡◌ {A = Option (Option (List ℕ))} (Some h) (outcome Missing (tlvs_between at end held)))
hash_at_end None found at k end h ended is same = tt
hash_at_end (Some held) found at k end h ended is same =
    let last : outcome found (tlvs_between k end held) ≡ Some (only_with found []) = ap (λ j. outcome found (tlvs_between j end held)) ended ∙ ap (outcome found) (tlvs_at_end end held) in
    ap (λ (o : Option (List ℕ)). Some o) is ∙ sym (same ∙ last)
