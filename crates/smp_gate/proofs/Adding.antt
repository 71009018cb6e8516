-- A cell is added: what a torn write of its bytes or of its gate leaves.
use Rattle.std.proofs.Common.{◌≡◌, inl, inr, ℕ, ◌+◌, ◌≤◌, Option, Some, None, List, length, sym, ◌∙◌, ap, arith}
use Rattle.std.specs.Prelude.{IfSome}
use Rattle.std.specs.Str.{bytes_eq}
use Rattle.smp_flash.specs.Area.{area, blank, spot, Keeps, Told}
use Rattle.smp_flash.specs.Region.{gate}
use Rattle.smp_flash.proofs.Areas.{blank_within}
use Rattle.smp_flash.proofs.Telling.{Told-after}
use Rattle.smp_gate.specs.Cells.{filled, span}

-- the gate's place is still erased while the cell's own bytes are written
still_free : (at n : ℕ) (old new : List ℕ) → area at (span n) old ≡ blank (span n) → Keeps (spot at (filled n)) old new → area (at + filled n) 8 new ≡ blank 8
still_free at n old new free keeps = keeps.apart (at + filled n) 8 (inr (omega arith), tt) ∙ blank_within at (span n) (filled n) 8 old (omega arith) free

pub told_still_free : (at n : ℕ) (x y : Option (List ℕ)) → IfSome x (λ held. area at (span n) held ≡ blank (span n)) → Told (Keeps (spot at (filled n))) x y
    → IfSome y (λ held. area (at + filled n) 8 held ≡ blank 8)
told_still_free at n x y free keeps =
    Told-after (λ held. area at (span n) held ≡ blank (span n)) (Keeps (spot at (filled n))) (λ held. area (at + filled n) 8 held ≡ blank 8) x y
    (λ u v f k. still_free at n u v f k) free keeps

-- so no gate stands there
pub told_shut : (at : ℕ) (cell : List ℕ) (x y : Option (List ℕ)) → IfSome x (λ held. area at (span (length cell)) held ≡ blank (span (length cell)))
    → Told (Keeps (spot at (filled (length cell)))) x y → IfSome y (λ held. area (at + filled (length cell)) 8 held ≡ gate → area at (length cell) held ≡ cell)
told_shut at cell x y free keeps =
    let n : ℕ = length cell in
    Told-after (λ held. area at (span n) held ≡ blank (span n)) (Keeps (spot at (filled n))) (λ held. area (at + filled n) 8 held ≡ gate → area at n held ≡ cell) x y
    (λ u v f k opened. absurd (cc (sym (ap (λ (xs : List ℕ). bytes_eq xs gate) (still_free at n u v f k)) ∙ ap (λ (xs : List ℕ). bytes_eq xs gate) opened))) free keeps

-- the cell's bytes stay while its gate is written
pub told_cell_kept : (at : ℕ) (cell : List ℕ) (x y : Option (List ℕ)) → IfSome x (λ held. area at (length cell) held ≡ cell)
    → Told (Keeps (spot (at + filled (length cell)) 8)) x y → IfSome y (λ held. area (at + filled (length cell)) 8 held ≡ gate → area at (length cell) held ≡ cell)
told_cell_kept at cell x y stands keeps =
    let n : ℕ = length cell in
    Told-after (λ held. area at n held ≡ cell) (Keeps (spot (at + filled n) 8)) (λ held. area (at + filled n) 8 held ≡ gate → area at n held ≡ cell) x y
    (λ u v s k opened. k.apart at n (inl (omega arith), tt) ∙ s) stands keeps
