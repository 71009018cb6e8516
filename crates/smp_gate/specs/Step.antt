-- What each step of a replacement leaves of the side that it renews.
use Rattle.std.specs.Prelude.{◌≡◌, ◌⊎◌, ◌+◌, ◌-◌, ◌≤◌, ℕ, List, length, Some}
use Rattle.smp_flash.specs.Area.{area, blank, spot, Keeps}
use Rattle.smp_gate.specs.Side.{ValidSide, valid_side, AtMost, whole_side}

-- only the side changed, and it holds no newer generation than before
pub record Quiet (at : ℕ) (old new : List ℕ) : Type 0 where
  pub keeps : Keeps (spot at 4096) old new
  pub most : (n : ℕ) → AtMost n (valid_side (area at 4096 old)) → AtMost n (valid_side (area at 4096 new))

-- only the side changed, and it holds this, and no cells
pub record Renewed (at : ℕ) (next : ValidSide) (old new : List ℕ) : Type 0 where
  pub keeps : Keeps (spot at 4096) old new
  pub found : valid_side (area at 4096 new) ≡ Some next
  pub whole : area at 4096 new ≡ whole_side next.generation next.body

abbrev pub QuietOrRenewed : ℕ → ValidSide → List ℕ → List ℕ → Type 0
QuietOrRenewed at next old new = Quiet at old new ⊎ Renewed at next old new

-- Pages are erased in ascending order: the first ones are erased, the next one may be torn, and what follows is as before.
pub record InOrder (at page : ℕ) (old new : List ℕ) : Type 0 where
  pub done : ℕ
  pub erased : area at done new ≡ blank done
  pub behind : (p n : ℕ) → done + page ≤ p → p + n ≤ 4096 → area (at + p) n new ≡ area (at + p) n old

-- head and body stand on the side, its gate is missing, and what follows is erased
pub record Ready (at : ℕ) (text bytes : List ℕ) : Type 0 where
  pub shut : area at 8 bytes ≡ blank 8
  pub stands : area (at + 8) (length text) bytes ≡ text
  pub clean : area (at + 8 + length text) (4088 - length text) bytes ≡ blank (4088 - length text)
