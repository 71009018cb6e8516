-- The cells whose gate stands, counted.
use Rattle.std.proofs.Common.{◌≡◌, ℕ, zero, suc, ◌+◌, ◌*◌, ◌<◌, ◌≤◌, Bool, true, false, Option, Some, List, [], ◌∷◌, ◌++◌, length, take, get_or, refl, sym, ◌∙◌, ap, subst, arith}
use Rattle.std.specs.Str.{bytes_eq}
use Rattle.smp_flash.specs.Area.{area, blank}
use Rattle.smp_flash.specs.Region.{gate}
use Rattle.smp_gate.specs.Cells.{filled, span, cells_at, places, standing, place_of, cell_of, counted, gates_from, cells_from, cells_in, Used}

-- one gate more
pub standing_more : (gates : List Bool) (i : ℕ) → i < length gates → get_or gates i false ≡ true → standing (take (i + 1) gates) ≡ standing (take i gates) + 1
standing_more [] i low is = absurd (omega (arith, low))
standing_more (true ∷ gates) zero low is = refl
standing_more (false ∷ gates) zero low is = absurd (cc is)
standing_more (true ∷ gates) (suc i) low is =
    let m : suc i + 1 ≡ suc (i + 1) = omega arith in
    ap (λ (k : ℕ). standing (take k (true ∷ gates))) m ∙ ap suc (standing_more gates i (omega (arith, low)) is) ∙ omega arith
standing_more (false ∷ gates) (suc i) low is =
    let m : suc i + 1 ≡ suc (i + 1) = omega arith in
    ap (λ (k : ℕ). standing (take k (false ∷ gates))) m ∙ standing_more gates i (omega (arith, low)) is

pub standing_same : (gates : List Bool) (i : ℕ) → i < length gates → get_or gates i false ≡ false → standing (take (i + 1) gates) ≡ standing (take i gates)
standing_same [] i low is = absurd (omega (arith, low))
standing_same (true ∷ gates) zero low is = absurd (cc is)
standing_same (false ∷ gates) zero low is = refl
standing_same (true ∷ gates) (suc i) low is =
    let m : suc i + 1 ≡ suc (i + 1) = omega arith in
    ap (λ (k : ℕ). standing (take k (true ∷ gates))) m ∙ ap suc (standing_same gates i (omega (arith, low)) is)
standing_same (false ∷ gates) (suc i) low is =
    let m : suc i + 1 ≡ suc (i + 1) = omega arith in
    ap (λ (k : ℕ). standing (take k (false ∷ gates))) m ∙ standing_same gates i (omega (arith, low)) is

-- the gate behind which so many stand, and which stands itself
pub place_found : (gates : List Bool) (n i : ℕ) → i < length gates → get_or gates i false ≡ true → standing (take i gates) ≡ n → place_of n gates ≡ i
place_found [] n i low is before = absurd (omega (arith, low))
place_found (true ∷ gates) n zero low is before = subst (λ (k : ℕ). place_of k (true ∷ gates) ≡ 0) before refl
place_found (false ∷ gates) n zero low is before = absurd (cc is)
place_found (true ∷ gates) n (suc i) low is before =
    subst (λ (k : ℕ). place_of k (true ∷ gates) ≡ suc i) before (ap suc (place_found gates (standing (take i gates)) i (omega (arith, low)) is refl))
place_found (false ∷ gates) zero (suc i) low is before = ap suc (place_found gates zero i (omega (arith, low)) is before)
place_found (false ∷ gates) (suc n) (suc i) low is before = ap suc (place_found gates (suc n) i (omega (arith, low)) is before)

-- the cell of a number is the one at that gate's place
cell_there : (cell at n : ℕ) (gates : List Bool) (side : List ℕ) → gates_from cell at (length gates) side ≡ gates → n < standing gates
    → cell_of n (cells_from cell at (length gates) side) ≡ Some (area (at + place_of n gates * span cell) cell side)
cell_there cell at n [] side stand low = absurd (omega (arith, low))
cell_there cell at zero (true ∷ gates) side stand low =
    let b : bytes_eq (area (at + filled cell) 8 side) gate ≡ true = cc stand in
    let p : at ≡ at + 0 * span cell = omega arith in
    ap (λ (t : Bool). cell_of zero (counted t (area at cell side) (cells_from cell (at + span cell) (length gates) side))) b
    ∙ ap (λ (q : ℕ). Some (area q cell side)) p
cell_there cell at (suc n) (true ∷ gates) side stand low =
    let b : bytes_eq (area (at + filled cell) 8 side) gate ≡ true = cc stand in
    let rest : gates_from cell (at + span cell) (length gates) side ≡ gates = cc stand in
    let p : at + span cell + place_of n gates * span cell ≡ at + suc (place_of n gates) * span cell = omega arith in
    ap (λ (t : Bool). cell_of (suc n) (counted t (area at cell side) (cells_from cell (at + span cell) (length gates) side))) b
    ∙ cell_there cell (at + span cell) n gates side rest (omega (arith, low))
    ∙ ap (λ (q : ℕ). Some (area q cell side)) p
cell_there cell at zero (false ∷ gates) side stand low =
    let b : bytes_eq (area (at + filled cell) 8 side) gate ≡ false = cc stand in
    let rest : gates_from cell (at + span cell) (length gates) side ≡ gates = cc stand in
    let p : at + span cell + place_of zero gates * span cell ≡ at + suc (place_of zero gates) * span cell = omega arith in
    ap (λ (t : Bool). cell_of zero (counted t (area at cell side) (cells_from cell (at + span cell) (length gates) side))) b
    ∙ cell_there cell (at + span cell) zero gates side rest low
    ∙ ap (λ (q : ℕ). Some (area q cell side)) p
cell_there cell at (suc n) (false ∷ gates) side stand low =
    let b : bytes_eq (area (at + filled cell) 8 side) gate ≡ false = cc stand in
    let rest : gates_from cell (at + span cell) (length gates) side ≡ gates = cc stand in
    let p : at + span cell + place_of (suc n) gates * span cell ≡ at + suc (place_of (suc n) gates) * span cell = omega arith in
    ap (λ (t : Bool). cell_of (suc n) (counted t (area at cell side) (cells_from cell (at + span cell) (length gates) side))) b
    ∙ cell_there cell (at + span cell) (suc n) gates side rest low
    ∙ ap (λ (q : ℕ). Some (area q cell side)) p

pub cell_used : (cell size n : ℕ) (gates : List Bool) (side : List ℕ) → Used cell size gates side → cells_in cell size side ≡ cells_from cell (cells_at size) (length gates) side → n < standing gates
    → cell_of n (cells_in cell size side) ≡ Some (area (cells_at size + place_of n gates * span cell) cell side)
cell_used cell size n gates side used is low = ap (cell_of n) is ∙ cell_there cell (cells_at size) n gates side used.stand low

-- as many cells count as gates stand
pub cells_count : (cell at : ℕ) (gates : List Bool) (side : List ℕ) → gates_from cell at (length gates) side ≡ gates → length (cells_from cell at (length gates) side) ≡ standing gates
cells_count cell at [] side stand = refl
cells_count cell at (true ∷ gates) side stand =
    let b : bytes_eq (area (at + filled cell) 8 side) gate ≡ true = cc stand in
    let rest : gates_from cell (at + span cell) (length gates) side ≡ gates = cc stand in
    ap (λ (t : Bool). length (counted t (area at cell side) (cells_from cell (at + span cell) (length gates) side))) b
    ∙ ap suc (cells_count cell (at + span cell) gates side rest)
cells_count cell at (false ∷ gates) side stand =
    let b : bytes_eq (area (at + filled cell) 8 side) gate ≡ false = cc stand in
    let rest : gates_from cell (at + span cell) (length gates) side ≡ gates = cc stand in
    ap (λ (t : Bool). length (counted t (area at cell side) (cells_from cell (at + span cell) (length gates) side))) b
    ∙ cells_count cell (at + span cell) gates side rest
