-- The order in which pages are erased and written, as it shows at any end of a call.
use Rattle.std.specs.Prelude.{◌≡◌, ◌⊎◌, ◌+◌, ◌-◌, ◌≤◌, ◌%◌, ℕ, List, length, take}
use Rattle.smp_flash.specs.Area.{area, blank, spot, Keeps, Fades}
use Rattle.smp_flash.specs.Geometry.{room}

-- Pages of a part are erased in ascending order: the first ones are erased, the next one may be torn, and what follows is as
-- before.
pub record ErasedInOrder (page at size : ℕ) (old new : List ℕ) : Type 0 where
  pub done : ℕ
  pub whole : done % page ≡ 0
  pub erased : area at done new ≡ blank done
  pub behind : (p n : ℕ) → done + page ≤ p → p + n ≤ size → area (at + p) n new ≡ area (at + p) n old

-- Bytes are put from a place on in ascending order, what lies in one page at once: the first ones stand, what follows them in
-- their page may be torn, and all that follows that page is as before.
pub record PutInOrder (page at : ℕ) (bytes old new : List ℕ) : Type 0 where
  pub done : ℕ
  pub turn : (done ≡ length bytes) ⊎ ((done ≡ 0) ⊎ ((at + done) % page ≡ 0))
  pub most : done ≤ length bytes
  pub stand : area at done new ≡ take done bytes
  pub behind : (p n : ℕ) → at + done + room page (at + done) ≤ p → area p n new ≡ area p n old

-- only the part changed, and all of it is erased but the n bytes from p on
pub record BlankBut (at size p n : ℕ) (old new : List ℕ) : Type 0 where
  pub keeps : Keeps (spot at size) old new
  pub before : area at (p - at) new ≡ blank (p - at)
  pub behind : area (p + n) (at + size - (p + n)) new ≡ blank (at + size - (p + n))

-- The part is erased, and only then the n bytes from p on are written: each of its bytes is as before or FF, or all of it is
-- erased but those.
abbrev pub ErasedThenWritten : (at size p n : ℕ) (old new : List ℕ) → Type 0
ErasedThenWritten at size p n old new = Fades at size old new ⊎ BlankBut at size p n old new
