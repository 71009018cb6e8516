-- What a bank holds by its bytes: the newest of its two sides, the content, and how the generation moves.
use Rattle.std.specs.Prelude.{◌≡◌, ◌≢◌, ◌⊎◌, ◌+◌, ◌-◌, ◌*◌, ◌≤◌, ◌%◌, ℕ, if◌then◌else◌, nat_lt, List, [], ◌∷◌, ◌++◌, take, Option, Some, None}
use Rattle.smp_flash.specs.Area.{area, blank}
use Rattle.smp_flash.specs.Geometry.{size_of}
use Rattle.smp_flash.specs.declared.geometry.Geometry.{Geometry}
use Rattle.smp_flash.specs.declared.layout.BankPlace.{BankPlace}
use Rattle.smp_gate.specs.Side.{ValidSide, valid_side, length_in}
use Rattle.std.specs.Option.{option_map}
use Rattle.smp_gate.specs.Cells.{span, cells_at, places, cells_in, cell_of}

-- the sides don't overlap
abbrev pub Apart : BankPlace → Type 0
Apart place = (place.first.at + 4096 ≤ place.second.at) ⊎ (place.second.at + 4096 ≤ place.first.at)

-- The place is right for a bank on a flash of these sizes: two parts of 4096 bytes that begin at pages' starts, lie in the
-- flash and don't overlap.
pub record Fits (place : BankPlace) (g : Geometry) : Type 0 where
  pub apart : Apart place
  pub first_long : place.first.length ≡ 4096
  pub first_begins : place.first.at % g.page ≡ 0
  pub first_inside : place.first.at + 4096 ≤ size_of g
  pub second_long : place.second.length ≡ 4096
  pub second_begins : place.second.at % g.page ≡ 0
  pub second_inside : place.second.at + 4096 ≤ size_of g

-- both sides, as the spots that a bank's calls keep to
abbrev pub sides : BankPlace → List (ℕ × ℕ)
sides place = (place.first.at, 4096) ∷ (place.second.at, 4096) ∷ []

-- the side with the greater generation, the first where they are equal
abbrev pub newest : Option ValidSide → Option ValidSide → Option ValidSide
newest None y = y
newest (Some x) None = Some x
newest (Some x) (Some y) = if nat_lt x.generation y.generation then Some y else Some x

-- what the bank's newest side holds
abbrev pub newest_side : BankPlace → List ℕ → Option ValidSide
newest_side place bytes = newest (valid_side (area place.first.at 4096 bytes)) (valid_side (area place.second.at 4096 bytes))

-- What a bank stands for: a body, and the cells behind it that count.
pub record Content : Type 0 where
  pub body : List ℕ
  pub cells : List (List ℕ)

-- a body without cells
abbrev pub just : List ℕ → Content
just body = record { body = body; cells = [] }

-- the bytes of the newest of two sides
abbrev pub newer : Option ValidSide → Option ValidSide → List ℕ → List ℕ → Option (List ℕ)
newer None None a b = None
newer None (Some y) a b = Some b
newer (Some x) None a b = Some a
newer (Some x) (Some y) a b = if nat_lt x.generation y.generation then Some b else Some a

-- the bytes of the bank's newest side
abbrev pub newest_bytes : BankPlace → List ℕ → Option (List ℕ)
newest_bytes place bytes = newer (valid_side (area place.first.at 4096 bytes)) (valid_side (area place.second.at 4096 bytes))
    (area place.first.at 4096 bytes) (area place.second.at 4096 bytes)

abbrev pub content_by : ℕ → Option ValidSide → List ℕ → Option Content
content_by cell None side = None
content_by cell (Some found) side = Some (record { body = found.body; cells = cells_in cell (length_in (take 16 side)) side })

abbrev pub content_in : ℕ → Option (List ℕ) → Option Content
content_in cell None = None
content_in cell (Some side) = content_by cell (valid_side side) side

-- the content of a bank, for cells of this length: none where no side is valid
abbrev pub content_of : BankPlace → ℕ → List ℕ → Option Content
content_of place cell bytes = content_in cell (newest_bytes place bytes)

-- the bank holds this body, and maybe cells
abbrev pub HasBody : BankPlace → ℕ → List ℕ → List ℕ → Type 0
HasBody place cell body bytes = option_map (λ c. c.body) (content_of place cell bytes) ≡ Some body

-- the bank holds this cell of number n
abbrev pub HasCell : BankPlace → ℕ → ℕ → List ℕ → List ℕ → Type 0
HasCell place cell n bytes held = (c : Content) → content_of place cell held ≡ Some c → cell_of n c.cells ≡ Some bytes

-- the content is what it was, or this
abbrev pub SameOrThis : BankPlace → ℕ → Content → List ℕ → List ℕ → Type 0
SameOrThis place cell content old new = (content_of place cell new ≡ content_of place cell old) ⊎ (content_of place cell new ≡ Some content)

-- the content has this cell more
abbrev pub Added : BankPlace → ℕ → List ℕ → List ℕ → List ℕ → Type 0
Added place cell bytes old new = (c : Content) → content_of place cell old ≡ Some c
    → content_of place cell new ≡ Some (record { body = c.body; cells = c.cells ++ (bytes ∷ []) })

-- the content is what it was, or has this cell more
abbrev pub SameOrAdded : BankPlace → ℕ → List ℕ → List ℕ → List ℕ → Type 0
SameOrAdded place cell bytes old new = (content_of place cell new ≡ content_of place cell old) ⊎ Added place cell bytes old new

-- the newest side has the generation and the body that it had
abbrev pub SameNewest : BankPlace → List ℕ → List ℕ → Type 0
SameNewest place old new = newest_side place new ≡ newest_side place old

-- the side has no cell, or its last cell isn't all FF
abbrev pub FullSide : ℕ → Option (List ℕ) → Type 0
FullSide cell None = ⊥
FullSide cell (Some side) = (places cell (length_in (take 16 side)) ≡ 0)
    ⊎ (area (cells_at (length_in (take 16 side)) + (places cell (length_in (take 16 side)) - 1) * span cell) (span cell) side ≢ blank (span cell))

-- so it is of the newest side
abbrev pub IsFull : BankPlace → ℕ → List ℕ → Type 0
IsFull place cell bytes = FullSide cell (newest_bytes place bytes)

abbrev pub generation_by : Option ValidSide → ℕ
generation_by None = 0
generation_by (Some side) = side.generation

-- the generation of the newest side, 0 where no side is valid
abbrev pub newest_generation : BankPlace → List ℕ → ℕ
newest_generation place bytes = generation_by (newest_side place bytes)

-- the generation of the newest side never fell, and rose by at most n
pub record AgesAtMost (n : ℕ) (place : BankPlace) (old new : List ℕ) : Type 0 where
  pub kept : newest_generation place old ≤ newest_generation place new
  pub most : newest_generation place new ≤ newest_generation place old + n

-- the newest side is what it was, or this one
abbrev pub OldOrNew : BankPlace → ValidSide → List ℕ → List ℕ → Type 0
OldOrNew place next old new = (newest_side place new ≡ newest_side place old) ⊎ (newest_side place new ≡ Some next)

-- the side that begins there is as it was
abbrev pub SameSide : ℕ → List ℕ → List ℕ → Type 0
SameSide at old new = area at 4096 new ≡ area at 4096 old

-- both sides are erased
pub record Fresh (place : BankPlace) (bytes : List ℕ) : Type 0 where
  pub first : area place.first.at 4096 bytes ≡ blank 4096
  pub second : area place.second.at 4096 bytes ≡ blank 4096
