-- The cells of a side: where they stand behind the body, and which of them count.
use Rattle.std.specs.Prelude.{◌≡◌, ◌≢◌, ◌⊎◌, ◌+◌, ◌-◌, ◌*◌, ◌/◌, ◌<◌, ◌≤◌, ℕ, zero, suc, Bool, true, false, List, [], ◌∷◌, ◌++◌, length, replicate, Option, Some, None}
use Rattle.std.specs.Str.{bytes_eq}
use Rattle.smp_flash.specs.Area.{area, blank}
use Rattle.smp_flash.specs.Region.{gate}
use Rattle.smp_gate.specs.Side.{padding}

-- so many bytes, filled to a multiple of 8
abbrev pub filled : ℕ → ℕ
filled n = n + padding n

-- the bytes that a cell takes: its own, filled, and a gate
abbrev pub span : ℕ → ℕ
span cell = filled cell + 8

-- the bytes of a cell as they are laid: its own, filled with zeros
abbrev pub filled_cell : List ℕ → List ℕ
filled_cell cell = cell ++ replicate (padding (length cell)) 0

-- where the cells of a side begin, behind a body of this length
abbrev pub cells_at : ℕ → ℕ
cells_at size = 16 + filled size

-- how many cells fit behind a body of this length
abbrev pub places : ℕ → ℕ → ℕ
places cell size = (4096 - cells_at size) / span cell

-- whether the gate of each of n cells stands, of which the first begins at this place of the side
abbrev pub gates_from : ℕ → ℕ → ℕ → List ℕ → List Bool
gates_from cell at zero side = []
gates_from cell at (suc n) side = bytes_eq (area (at + filled cell) 8 side) gate ∷ gates_from cell (at + span cell) n side

abbrev pub counted : Bool → List ℕ → List (List ℕ) → List (List ℕ)
counted true cell cells = cell ∷ cells
counted false cell cells = cells

-- those of the n cells whose gate stands, in order
abbrev pub cells_from : ℕ → ℕ → ℕ → List ℕ → List (List ℕ)
cells_from cell at zero side = []
cells_from cell at (suc n) side = counted (bytes_eq (area (at + filled cell) 8 side) gate) (area at cell side) (cells_from cell (at + span cell) n side)

-- the cells of a side whose body has this length
abbrev pub cells_in : ℕ → ℕ → List ℕ → List (List ℕ)
cells_in cell size side = cells_from cell (cells_at size) (places cell size) side

-- What is known of a side's cells: these are the gates of the first cells, each of the others is all FF, and the last of the
-- first is not. A cell among the first whose gate is missing is dead.
pub record Used (cell size : ℕ) (gates : List Bool) (side : List ℕ) : Type 0 where
  pub most : length gates ≤ places cell size
  pub stand : gates_from cell (cells_at size) (length gates) side ≡ gates
  pub free : area (cells_at size + length gates * span cell) ((places cell size - length gates) * span cell) side ≡ blank ((places cell size - length gates) * span cell)
  pub last : 0 < length gates → area (cells_at size + (length gates - 1) * span cell) (span cell) side ≢ blank (span cell)

-- how many gates stand
abbrev pub standing : List Bool → ℕ
standing [] = 0
standing (true ∷ gates) = suc (standing gates)
standing (false ∷ gates) = standing gates

-- which of the gates is the n-th that stands, counted from 0
abbrev pub place_of : ℕ → List Bool → ℕ
place_of n [] = 0
place_of zero (true ∷ gates) = 0
place_of (suc n) (true ∷ gates) = suc (place_of n gates)
place_of n (false ∷ gates) = suc (place_of n gates)

-- the cell of number n, where there is one
abbrev pub cell_of : ℕ → List (List ℕ) → Option (List ℕ)
cell_of n [] = None
cell_of zero (x ∷ xs) = Some x
cell_of (suc n) (x ∷ xs) = cell_of n xs

-- the bytes that are read to learn which of the places are used, where so many are: the gates of all of these but the last,
-- and the whole of that one and of each that is free
abbrev pub gate_reads : ℕ → ℕ → ℕ → ℕ
gate_reads cell places zero = places * span cell
gate_reads cell places (suc n) = n * 8 + (places - n) * span cell
