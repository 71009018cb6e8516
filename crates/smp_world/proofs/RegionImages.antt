-- A region counts steps of its own image.
use Rattle.std.proofs.Common.{◌≡◌, ℕ, Option, Some, sym, ap}
use Rattle.smp_flash.specs.declared.region.Region.{Region}
use Rattle.smp_flash.specs.declared.region.Region.TheVariants as regions
use Rattle.smp_model.specs.declared.device.AbstractDevice.{AbstractDevice}
use Rattle.smp_model.specs.Sides.{SideStep}
use Rattle.smp_model.specs.Steps.{OnSide}
use Rattle.smp_device.specs.Goings.{IsCounted}
use Rattle.smp_world.specs.Laws.{image_in}

abbrev some : ℕ → Option ℕ
some n = Some n

pub own_image : (g : Region) (d : AbstractDevice) (i : ℕ) (t : SideStep) → IsCounted g d (OnSide i t) → image_in g ≡ Some i
own_image regions.Slot0 d i t h = ap some (sym h.0)
own_image regions.Slot1 d i t h = ap some (sym h.0)
own_image regions.Progress d i t h = ap some (sym h.0)
own_image regions.ProgressGate d i t h = ap some (sym h.0)
own_image regions.Slot2 d i t h = ap some (sym h.0)
own_image regions.Slot3 d i t h = ap some (sym h.0)
own_image regions.Progress2 d i t h = ap some (sym h.0)
own_image regions.Progress2Gate d i t h = ap some (sym h.0)
own_image regions.Any d i t h = absurd h
own_image regions.Scratch d i t h = absurd h
own_image regions.Scratch2 d i t h = absurd h
own_image regions.Settings d i t h = absurd h
own_image regions.SettingsGate d i t h = absurd h
