-- What a call does to what the bytes stand for. The steps of a call are those of the side that it meets.
use Rattle.std.specs.Prelude.{◌≡◌, ℕ, List, [], ◌∷◌, ◌++◌, IsSome}
use Rattle.smp_flash.specs.Area.{area, Told}
use Rattle.smp_flash.specs.Calls.{Calls}
use Rattle.smp_flash.specs.Layout.{slot_of, progress_of, area_spot, upload_spots}
use Rattle.smp_flash.specs.State.{FlashState, End}
use Rattle.smp_flash.specs.State.End.{Went}
use Rattle.smp_flash.specs.declared.layout.Layout.{Layout}
use Rattle.smp_gate.specs.Newest.{AgesAtMost}
use Rattle.smp_model.specs.declared.device.Side.{Side}
use Rattle.smp_model.specs.Sides.{SideStep, side_applied, SidePart}
use Rattle.smp_upload.specs.Bytes.{SideStands, SideShows, pending_in}
use Rattle.smp_upload.specs.Counting.{Pays}

-- The bytes stand for the side after some of the steps.
pub record Reached (layout : Layout) (side : Side) (steps : List SideStep) (bytes : List ℕ) : Type 0 where
  pub reached : Side
  pub part : SidePart side steps reached
  pub stands : SideStands layout reached bytes

-- Whatever the bytes stood for, they stand for it after some of the steps.
pub record Moves (layout : Layout) (steps : Side → List SideStep) (old new : List ℕ) : Type 0 where
  pub moves : (side : Side) → SideStands layout side old → Reached layout side (steps side) new

-- They show it after all of them.
pub record Does (layout : Layout) (steps : Side → List SideStep) (old new : List ℕ) : Type 0 where
  pub does : (side : Side) → SideStands layout side old → SideShows layout (side_applied (steps side) side) new

-- Where the secondary slot is pending, no byte of it changes.
pub record KeepsPending (layout : Layout) (old new : List ℕ) : Type 0 where
  pub kept : IsSome (pending_in layout old) → area (slot_of layout 1).at (slot_of layout 1).length new ≡ area (slot_of layout 1).at (slot_of layout 1).length old
  pub still : IsSome (pending_in layout old) → pending_in layout new ≡ pending_in layout old

-- A call that ended so: its operations begin in the spots, and the record's bank has aged by n at most.
pub record Moved (layout : Layout) (spots : List (ℕ × ℕ)) (n : ℕ) (steps : Side → List SideStep) (end : End) (a b : FlashState) : Type 0 where
  pub calls : Calls spots end a b
  pub moves : Told (Moves layout steps) a.bytes b.bytes
  pub ages : Told (AgesAtMost n (progress_of layout)) a.bytes b.bytes
  pub pending : Told (KeepsPending layout) a.bytes b.bytes

-- A call that went through and did what it was to do.
pub record Done (layout : Layout) (spots : List (ℕ × ℕ)) (n : ℕ) (steps : Side → List SideStep) (a b : FlashState) : Type 0 where
  pub calls : Calls spots Went a b
  pub does : Told (Does layout steps) a.bytes b.bytes
  pub ages : Told (AgesAtMost n (progress_of layout)) a.bytes b.bytes
  pub pending : Told (KeepsPending layout) a.bytes b.bytes
  pub pays : Pays layout steps a b

-- no steps
abbrev pub no_steps : Side → List SideStep
no_steps side = []

-- the same step, whatever the side
abbrev pub one_step : SideStep → Side → List SideStep
one_step step side = step ∷ []

-- the steps of one call and then those of another, which meets the side that the first leaves
abbrev pub and_then : (Side → List SideStep) → (Side → List SideStep) → Side → List SideStep
and_then first second side = first side ++ second (side_applied (first side) side)

-- the primary slot, and what all other calls about an upload come to
abbrev pub mount_spots : Layout → List (ℕ × ℕ)
mount_spots layout = area_spot (slot_of layout 0) ∷ upload_spots layout
