-- How many cells a bank has: as many as gates stand.
use Rattle.std.proofs.Common.{◌≡◌, ℕ, zero, suc, ◌+◌, ◌-◌, ◌*◌, Bool, true, false, List, [], ◌∷◌, ◌++◌, length, refl, ◌∙◌, ap, arith}
use Rattle.std.specs.Str.{bytes_eq}
use Rattle.std.proofs.lemmas.List.{append-nil}
use Rattle.smp_flash.specs.Area.{area, blank}
use Rattle.smp_flash.specs.Region.{gate}
use Rattle.smp_flash.proofs.Areas.{blank_within}
use Rattle.smp_gate.specs.Cells.{filled, span, cells_at, places, counted, gates_from, cells_from, cells_in, standing, Used}

-- a range of cells in two parts
counted_append : (b : Bool) (x : List ℕ) (ys zs : List (List ℕ)) → counted b x (ys ++ zs) ≡ counted b x ys ++ zs
counted_append true x ys zs = refl
counted_append false x ys zs = refl

cells_split : (cell at m n : ℕ) (side : List ℕ) → cells_from cell at (m + n) side ≡ cells_from cell at m side ++ cells_from cell (at + m * span cell) n side
cells_split cell at zero n side =
    let e : 0 + n ≡ n = omega arith in
    let p : at ≡ at + 0 * span cell = omega arith in
    (λ i. cells_from cell (p i) (e i) side)
cells_split cell at (suc m) n side =
    let e : suc m + n ≡ suc (m + n) = omega arith in
    let p : at + span cell + m * span cell ≡ at + suc m * span cell = omega arith in
    let b : Bool = bytes_eq (area (at + filled cell) 8 side) gate in
    let x : List ℕ = area at cell side in
    ap (λ (k : ℕ). cells_from cell at k side) e
    ∙ ap (counted b x) (cells_split cell (at + span cell) m n side)
    ∙ counted_append b x (cells_from cell (at + span cell) m side) (cells_from cell (at + span cell + m * span cell) n side)
    ∙ ap (λ (q : ℕ). counted b x (cells_from cell (at + span cell) m side) ++ cells_from cell q n side) p

-- cells that are all FF don't count
cells_free : (cell at n : ℕ) (side : List ℕ) → area at (n * span cell) side ≡ blank (n * span cell) → cells_from cell at n side ≡ []
cells_free cell at zero side is = refl
cells_free cell at (suc n) side is =
    let g : area (at + filled cell) 8 side ≡ blank 8 = blank_within at (suc n * span cell) (filled cell) 8 side (omega arith) is in
    let none : bytes_eq (area (at + filled cell) 8 side) gate ≡ false = ap (λ (xs : List ℕ). bytes_eq xs gate) g in
    let rest : area (at + span cell) (n * span cell) side ≡ blank (n * span cell) = blank_within at (suc n * span cell) (span cell) (n * span cell) side (omega arith) is in
    ap (λ (b : Bool). counted b (area at cell side) (cells_from cell (at + span cell) n side)) none ∙ cells_free cell (at + span cell) n side rest

cells_used : (cell size : ℕ) (gates : List Bool) (side : List ℕ) → Used cell size gates side → cells_in cell size side ≡ cells_from cell (cells_at size) (length gates) side
cells_used cell size gates side used =
    let k : ℕ = length gates in
    let most = used.most in
    let n : places cell size ≡ k + (places cell size - k) = omega (arith, most) in
    ap (λ (i : ℕ). cells_from cell (cells_at size) i side) n ∙ cells_split cell (cells_at size) k (places cell size - k) side
    ∙ ap (λ (xs : List (List ℕ)). cells_from cell (cells_at size) k side ++ xs) (cells_free cell (cells_at size + k * span cell) (places cell size - k) side used.free)
    ∙ append-nil (cells_from cell (cells_at size) k side)

one_counted : (b : Bool) (x : List ℕ) (cells : List (List ℕ)) (gates : List Bool) → length cells ≡ standing gates → length (counted b x cells) ≡ standing (b ∷ gates)
one_counted true x cells gates e = ap suc e
one_counted false x cells gates e = e

cells_many : (cell at n : ℕ) (side : List ℕ) → length (cells_from cell at n side) ≡ standing (gates_from cell at n side)
cells_many cell at zero side = refl
cells_many cell at (suc n) side =
    one_counted (bytes_eq (area (at + filled cell) 8 side) gate) (area at cell side) (cells_from cell (at + span cell) n side) (gates_from cell (at + span cell) n side) (cells_many cell (at + span cell) n side)

pub cells_stand : (cell size : ℕ) (gates : List Bool) (side : List ℕ) → Used cell size gates side → length (cells_in cell size side) ≡ standing gates
cells_stand cell size gates side used =
    ap length (cells_used cell size gates side used) ∙ (cells_many cell (cells_at size) (length gates) side ∙ ap standing used.stand)
