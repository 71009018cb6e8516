-- Which steps take patience of an aim at a region of the image.
use Rattle.std.specs.Prelude.{◌≡◌, ◌⊎◌, ℕ, List, [], ◌∷◌, Option, Some, IsSome, IsSomeAnd}
use Rattle.smp_flash.specs.Calls.{Smaller}
use Rattle.smp_flash.specs.Layout.{image_of}
use Rattle.smp_flash.specs.Region.{slot_region}
use Rattle.smp_flash.specs.State.{FlashState}
use Rattle.smp_flash.specs.declared.layout.Layout.{Layout}
use Rattle.smp_flash.specs.declared.region.Region.{Region}
use Rattle.smp_model.specs.declared.device.Side.{Side}
use Rattle.smp_model.specs.Sides.{SideStep, Choose, Append, Drop, MarkPending, Confirm, side_apply}
use Rattle.smp_progress.specs.State.{AimsAtRecord}
use Rattle.smp_upload.specs.Bytes.{SideStands}

-- the aim is at one of the image's slots
abbrev pub AimsAtSlot : Layout → (n : ℕ) → Option Region → Type 0
AimsAtSlot layout n aim = aim ≡ Some (slot_region (image_of layout) n)

-- The step counts in the aim. Of `Any` nothing is said here: it counts each change of a byte.
abbrev pub CountsStep : Layout → Option Region → Side → SideStep → Type 0
CountsStep layout aim side (Choose a) = AimsAtRecord layout aim
CountsStep layout aim side (Append bytes) = AimsAtRecord layout aim ⊎ AimsAtSlot layout 1 aim
CountsStep layout aim side Drop = IsSome side.upload × AimsAtRecord layout aim
CountsStep layout aim side (MarkPending mark) = AimsAtSlot layout 1 aim
CountsStep layout aim side Confirm = AimsAtSlot layout 0 aim

-- one of the steps counts in the aim
abbrev pub CountsSteps : Layout → Option Region → Side → List SideStep → Type 0
CountsSteps layout aim side [] = ⊥
CountsSteps layout aim side (step ∷ steps) = CountsStep layout aim side step ⊎ CountsSteps layout aim (side_apply step side) steps

-- Where one of the steps counts in the aim, the patience is smaller.
pub record Pays (layout : Layout) (steps : Side → List SideStep) (a b : FlashState) : Type 0 where
  pub pays : (side : Side) → IsSomeAnd a.bytes (SideStands layout side) → CountsSteps layout a.aim side (steps side) → Smaller a.patience b.patience
