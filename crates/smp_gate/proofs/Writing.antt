-- Head, body and gate are written.
use Rattle.std.proofs.Common.{◌≡◌, inl, inr, ℕ, ◌+◌, ◌<◌, ◌≤◌, ◌^◌, None, List, ◌++◌, length, take, drop, replicate, sym, ◌∙◌, ap, subst, arith, length-append, length-take, ◌-◌}
use Rattle.std.proofs.lemmas.List.{take-take, take_at, append_assoc, length-replicate}
use Rattle.std.proofs.lemmas.Slice.{take-put_mid}
use borrow.Rule.Slice.PartMut.{put_mid, post_of}
use Rattle.smp_flash.specs.Area.{area, blank, spot, Keeps, Holds}
use Rattle.smp_flash.specs.Region.{gate}
use Rattle.smp_flash.proofs.Areas.{area-area, area-add, blank_first, blank_within, Keeps-wider, Clear-within}
use Rattle.smp_gate.specs.Side.{valid_side, AtMost, padding, side_bytes, whole_side}
use Rattle.smp_gate.specs.Step.{Quiet, Renewed, QuietOrRenewed, Ready}
use Rattle.smp_gate.proofs.Sides.{blank_gate, found_written, no_gate}
use Rattle.std.specs.Str.{bytes_eq}
use Rattle.std.proofs.lemmas.Bool.{cases_Bool}
use Rattle.std.proofs.lemmas.Slice.Eq.{bytes_eq-Decides}

-- three writes, one behind the other
pub laid_out : (n pad k l : ℕ) (into h b z : List ℕ) → length h ≡ 8 → length b ≡ n → length z ≡ pad
    → take (8 + n + pad) (put_mid (8 + n) k (put_mid 8 l (h ++ drop 8 into) b) z) ≡ h ++ (b ++ z)
laid_out n pad k l into h b z eight long rest =
    let y : List ℕ = h ++ drop 8 into in
    let x : List ℕ = put_mid 8 l y b in
    let front : 8 ≤ length y = omega (arith, length-append h (drop 8 into)) in
    let room : 8 + n ≤ length x = omega (arith, length-append (take 8 y) (b ++ post_of 8 l y), length-append b (post_of 8 l y), length-take 8 y) in
    take-put_mid (8 + n) k x z (8 + n + pad) (omega arith) room
    ∙ ap (λ (xs : List ℕ). xs ++ z) (take-put_mid 8 l y b (8 + n) (omega arith) front ∙ ap (λ (xs : List ℕ). xs ++ b) (take_at h (drop 8 into) 8 eight))
    ∙ append_assoc h b z

-- head and body lie on the side
pub room : (g : ℕ) (body : List ℕ) → length body ≤ 4080 → 8 + length (side_bytes g body) ≤ 4096
room g body fits = omega (arith, length-append body (replicate (padding (length body)) 0), length-replicate {A = ℕ} (padding (length body)) 0)

-- a side whose gate stays erased
pub Quiet-shut : (at n : ℕ) (old new : List ℕ) → 8 + n ≤ 4096 → area at 8 old ≡ blank 8 → Keeps (spot (at + 8) n) old new → Quiet at old new
Quiet-shut at n old new le shut keeps =
    let before : area at 8 new ≡ blank 8 = keeps.apart at 8 (inl (omega arith), tt) ∙ shut in
    let none : valid_side (area at 4096 new) ≡ None = blank_gate (area at 4096 new) (take-take 8 4096 (drop at new) (omega arith) ∙ before) in
    record {
      keeps = Keeps-wider (spot (at + 8) n) (spot at 4096) old new (λ p m clear. Clear-within (at + 8) n at 4096 (omega arith) (omega arith) p m clear) keeps;
      most = λ m most. subst (AtMost m) (sym none) tt;
    }

pub Ready-written : (at : ℕ) (text old new : List ℕ) → 8 + length text ≤ 4096 → area at 4096 old ≡ blank 4096 → Holds (at + 8) text old new → Ready at text new
Ready-written at text old new le is holds =
    let n : ℕ = length text in
    let p : at + 8 + n ≡ at + (8 + n) = omega arith in
    let behind : area (at + 8 + n) (4088 - n) old ≡ blank (4088 - n) = ap (λ (k : ℕ). area k (4088 - n) old) p ∙ blank_within at 4096 (8 + n) (4088 - n) old (omega arith) is in
    record {
      shut = holds.keeps.apart at 8 (inl (omega arith), tt) ∙ blank_first at 4096 8 old (omega arith) is;
      stands = holds.holds;
      clean = holds.keeps.apart (at + 8 + n) (4088 - n) (inr (omega arith), tt) ∙ behind;
    }

-- what stands behind the gate, on the side
behind_gate : (at : ℕ) (text new : List ℕ) → 8 + length text ≤ 4096 → area (at + 8) (length text) new ≡ text → take (length text) (drop 8 (area at 4096 new)) ≡ text
behind_gate at text new le is = area-area 8 (length text) at 4096 new le ∙ is

text_kept : (at : ℕ) (text old new : List ℕ) → Keeps (spot at 8) old new → Ready at text old → area (at + 8) (length text) new ≡ text
text_kept at text old new keeps ready = keeps.apart (at + 8) (length text) (inr (omega arith), tt) ∙ ready.stands

gate_keeps : (at : ℕ) (old new : List ℕ) → Keeps (spot at 8) old new → Keeps (spot at 4096) old new
gate_keeps at old new keeps = Keeps-wider (spot at 8) (spot at 4096) old new (λ p m clear. Clear-within at 8 at 4096 (omega arith) (omega arith) p m clear) keeps

-- all bytes of a side whose gate was written
pub whole_written : (at g : ℕ) (body old new : List ℕ) → length body ≤ 4080 → Ready at (side_bytes g body) old → Holds at gate old new → area at 4096 new ≡ whole_side g body
whole_written at g body old new fits ready holds =
    let text : List ℕ = side_bytes g body in
    let n : ℕ = length text in
    let le : 8 + n ≤ 4096 = room g body fits in
    let e : 4096 ≡ 8 + (n + (4088 - n)) = omega arith in
    let stands : area (at + 8) n new ≡ text = text_kept at text old new holds.keeps ready in
    let clean : area (at + 8 + n) (4088 - n) new ≡ blank (4088 - n) = holds.keeps.apart (at + 8 + n) (4088 - n) (inr (omega arith), tt) ∙ ready.clean in
    let behind : area (at + 8) (n + (4088 - n)) new ≡ text ++ blank (4088 - n) = area-add (at + 8) n (4088 - n) new ∙ (λ i. stands i ++ clean i) in
    ap (λ (k : ℕ). area at k new) e ∙ area-add at 8 (n + (4088 - n)) new ∙ (λ i. holds.holds i ++ behind i)

pub Renewed-written : (at g : ℕ) (body old new : List ℕ) → 1 ≤ g → g < 2 ^ 32 → length body ≤ 4080 → Ready at (side_bytes g body) old → Holds at gate old new
    → Renewed at (record { generation = g; body = body }) old new
Renewed-written at g body old new low high fits ready holds = record {
  keeps = gate_keeps at old new holds.keeps;
  found = found_written g body (area at 4096 new) low high fits (take-take 8 4096 (drop at new) (omega arith) ∙ holds.holds)
      (behind_gate at (side_bytes g body) new (room g body fits) (text_kept at (side_bytes g body) old new holds.keeps ready));
  whole = whole_written at g body old new fits ready holds;
}

-- a gate that is torn
pub either_torn : (at g : ℕ) (body old new : List ℕ) → 1 ≤ g → g < 2 ^ 32 → length body ≤ 4080 → Ready at (side_bytes g body) old → Keeps (spot at 8) old new
    → QuietOrRenewed at (record { generation = g; body = body }) old new
either_torn at g body old new low high fits ready keeps =
    let side : List ℕ = area at 4096 new in
    elim (cases_Bool (bytes_eq (take 8 (take 16 side)) gate)) [
      | inl is ↦
          let opened : area at 8 new ≡ gate =
          sym (take-take 8 4096 (drop at new) (omega arith)) ∙ sym (take-take 8 16 side (omega arith)) ∙ (bytes_eq-Decides (take 8 (take 16 side)) gate).0 is in
          inr (Renewed-written at g body old new low high fits ready (record { keeps = keeps; holds = opened }))
      | inr other ↦ inl (record { keeps = gate_keeps at old new keeps; most = λ m most. subst (AtMost m) (sym (no_gate side other)) tt })
    ]
