-- What a bank's value says, and what the bytes have to be for it.
use Rattle.std.specs.Prelude.{◌≡◌, ◌+◌, ◌-◌, ◌*◌, ◌≤◌, ℕ, Bool, true, false, List, length, take, Some}
use Rattle.smp_flash.specs.Area.{area}
use Rattle.smp_flash.specs.declared.layout.BankPlace.{BankPlace}
use Rattle.smp_gate.specs.Side.{valid_side, length_in, AtMost}
use Rattle.smp_gate.specs.Cells.{span, cells_at, Used}

-- What a bank's value says: where it lies, the length of its cells, which side is the newest and of which generation, the
-- length of that side's body, whether the gate of each cell that was begun behind it stands, and whether all that is sure.
pub record BankState : Type 0 where
  pub place : BankPlace
  pub cell : ℕ
  pub second : Bool
  pub generation : ℕ
  pub size : ℕ
  pub gates : List Bool
  pub sure : Bool

-- where the newest side begins, by whether it is the second one, and the other side
abbrev pub current : BankPlace → Bool → ℕ
current place true = place.second.at
current place false = place.first.at

abbrev pub other : BankPlace → Bool → ℕ
other place true = place.first.at
other place false = place.second.at

-- the greatest generation that the other side may have: below the newest where that is the second side
abbrev pub bar : Bool → ℕ → ℕ
bar true generation = generation - 1
bar false generation = generation

-- the newest side has this generation and body, and the other side doesn't beat it
pub record Stands (place : BankPlace) (second : Bool) (generation : ℕ) (body bytes : List ℕ) : Type 0 where
  pub found : valid_side (area (current place second) 4096 bytes) ≡ Some (record { generation = generation; body = body })
  pub behind : AtMost (bar second generation) (valid_side (area (other place second) 4096 bytes))
  pub positive : 1 ≤ generation

-- What the bank's value says holds on these bytes.
pub record BankSays (bank : BankState) (bytes : List ℕ) : Type 0 where
  pub body : List ℕ
  pub stands : Stands bank.place bank.second bank.generation body bytes
  pub size : length_in (take 16 (area (current bank.place bank.second) 4096 bytes)) ≡ bank.size
  pub used : Used bank.cell bank.size bank.gates (area (current bank.place bank.second) 4096 bytes)

-- where the next cell goes
abbrev pub next_cell : BankState → ℕ
next_cell bank = current bank.place bank.second + (cells_at bank.size + length bank.gates * span bank.cell)
