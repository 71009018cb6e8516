-- What the steps of a rescue leave.
use Rattle.std.specs.Prelude.{◌≡◌, ℕ, Bool, List, Some, None, option_map}
use Rattle.smp_flash.specs.declared.layout.Layout.{Layout}
use Rattle.smp_model.specs.declared.device.Side.{Side}
use Rattle.smp_model.specs.declared.upload.Announcement.{Announcement}
use Rattle.smp_progress.specs.State.{ProgressState, ProgressSays}
use Rattle.smp_tlv.specs.declared.carried.Carried.{Carried}
use Rattle.smp_upload.specs.Bytes.{SideStandsAs, SideStands}
use Rattle.smp_upload.specs.States.{Sums, announced}
use Rattle.smp_upload.specs.Needs.{MountNeeds}

-- The bytes stand for a side with this upload by a record with this flag, and nothing is pending.
pub record HeldAs (layout : Layout) (rescue : Bool) (entry : ProgressState) (a : Announcement) (offset : ℕ) (bytes : List ℕ) : Type 0 where
  pub side : Side
  pub stands : SideStandsAs layout rescue side bytes
  pub upload : Some (record { announcement = a; offset = offset }) ≡ option_map announced side.upload
  pub free : side.pending ≡ None
  pub record_says : ProgressSays entry bytes

-- the sums are those of the accepted bytes
abbrev pub SumsHeld : Layout → Carried → List ℕ → Type 0
SumsHeld layout sums bytes = (side : Side) → SideStands layout side bytes → Sums sums side.upload

-- Whatever the bytes stood for, they stand for it by a record with this flag.
pub record Reflags (layout : Layout) (rescue : Bool) (old new : List ℕ) : Type 0 where
  pub same : (side : Side) → SideStands layout side old → SideStandsAs layout rescue side new

-- a mount of these bytes needs so many records
abbrev pub NeedsJust : Layout → ℕ → List ℕ → Type 0
NeedsJust layout n bytes = (m : ℕ) → MountNeeds layout m bytes → m ≡ n
