-- The laws of the crates below by which what one image's calls do is what the device does.
use Rattle.std.specs.Prelude.{◌≡◌, ℕ, List, ◌++◌, Some}
use Rattle.smp_flash.specs.Area.{Keeps}
use Rattle.smp_flash.specs.declared.layout.Layout.{Layout}
use Rattle.smp_model.specs.declared.device.AbstractDevice.{AbstractDevice}
use Rattle.smp_model.specs.declared.device.Side.{Side}
use Rattle.smp_model.specs.Sides.{SideStep, side_applied, SidePart}
use Rattle.smp_model.specs.Steps.{Step, applied, on_side, side_at, with_side, Part}
use Rattle.smp_upload.specs.Bytes.{SideStands, Apart}
use Rattle.smp_upload.specs.States.{Known, Says}

pub record Laws : Type 0 where
  -- steps of a side
  pub found : (image : ℕ) (steps : List SideStep) (d : AbstractDevice) (s : Side) → side_at image d ≡ Some s → side_at image (applied (on_side image steps) d) ≡ Some (side_applied steps s)
  pub others : (image other : ℕ) (steps : List SideStep) (d : AbstractDevice) → (image ≡ other → ⊥) → side_at other (applied (on_side image steps) d) ≡ side_at other d
  pub device : (image : ℕ) (steps : List SideStep) (d : AbstractDevice) (s : Side) → side_at image d ≡ Some s → applied (on_side image steps) d ≡ with_side image (λ _. side_applied steps s) d
  pub part : (image : ℕ) (steps : List SideStep) (d : AbstractDevice) (s t : Side) → side_at image d ≡ Some s → SidePart s steps t → Part d (on_side image steps) (with_side image (λ _. t) d)
  -- parts of steps
  pub front : (a b : List Step) (d e : AbstractDevice) → Part d a e → Part d (a ++ b) e
  pub behind : (a b : List Step) (d e : AbstractDevice) → Part (applied a d) b e → Part d (a ++ b) e
  -- changes elsewhere
  pub stand : (layout : Layout) (side : Side) (spots : List (ℕ × ℕ)) (old new : List ℕ) → Apart layout spots → Keeps spots old new → SideStands layout side old → SideStands layout side new
  pub say : (known : Known) (spots : List (ℕ × ℕ)) (old new : List ℕ) → Apart known.layout spots → Keeps spots old new → Says known old → Says known new
