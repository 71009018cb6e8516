-- What is found of the cells of a side when it is opened, by the bytes of the whole flash.
use Rattle.std.specs.Prelude.{◌≡◌, ◌≢◌, ◌+◌, ◌-◌, ◌*◌, ◌<◌, ℕ, List, Option, Some, None}
use Rattle.std.specs.Str.{bytes_eq}
use Rattle.smp_flash.specs.Area.{area, blank}
use Rattle.smp_flash.specs.Region.{gate}
use Rattle.smp_gate.specs.Cells.{filled, span}
use Rattle.smp_gate.specs.declared.opening.Place.{Place}
use Rattle.smp_gate.specs.declared.opening.Place.TheVariants.{Free, Begun}
use Rattle.smp_gate.specs.declared.opening.Last.{Last}

-- the place of a cell is free, or it was begun and its gate stands or doesn't
abbrev pub PlaceIs : ℕ → ℕ → Place → List ℕ → Type 0
PlaceIs cell at Free bytes = area at (span cell) bytes ≡ blank (span cell)
PlaceIs cell at (Begun stands) bytes = (area at (span cell) bytes ≢ blank (span cell)) × (stands ≡ bytes_eq (area (at + filled cell) 8 bytes) gate)

-- The last of so many cells that was begun, and that all behind it are free.
pub record LastFound (cell at count : ℕ) (last : Last) (bytes : List ℕ) : Type 0 where
  pub begun : area (at + last.index * span cell) (span cell) bytes ≢ blank (span cell)
  pub stands : last.stands ≡ bytes_eq (area (at + last.index * span cell + filled cell) 8 bytes) gate
  pub free : area (at + (last.index + 1) * span cell) ((count - (last.index + 1)) * span cell) bytes ≡ blank ((count - (last.index + 1)) * span cell)

-- the same, or that all are free
abbrev pub LastIs : ℕ → ℕ → ℕ → Option Last → List ℕ → Type 0
LastIs cell at count None bytes = area at (count * span cell) bytes ≡ blank (count * span cell)
LastIs cell at count (Some last) bytes = LastFound cell at count last bytes
