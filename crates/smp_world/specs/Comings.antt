-- What may come of a packet together with the boot that follows a reset.
use Rattle.std.specs.Prelude.{ℕ, List, [], Bool, true, false, not, Option, Some, None, Result, is_some}
use Rattle.smp_model.specs.declared.device.AbstractDevice.{AbstractDevice}
use Rattle.smp_model.specs.declared.device.Sizes.{Sizes}
use Rattle.smp_model.specs.Handled.{is_reset}
use Rattle.smp_model.specs.Meant.{Meant}
use Rattle.smp_model.specs.Said.{Said}
use Rattle.smp_model.specs.Steps.{Step}
use Rattle.smp_device.specs.Goings.{Armed, Went, Goes, after_going, BootEnd, up, cut, fault, Booted, Boots, after_boot}

-- what came of a packet, and of the boot after it where there was one
pub record Came : Type 0 where
  pub went : Went
  pub boot : Option Booted

-- a boot follows a reset, and nothing else
abbrev pub BootsAfter : (after_reset : Bool) → Option Armed → AbstractDevice → Option Booted → Type 0
BootsAfter true armed d (Some b) = Boots armed d b
BootsAfter false armed d None = Unit {0}
BootsAfter true armed d None = ⊥
BootsAfter false armed d (Some b) = ⊥

-- what may come of a packet that means this, up to the end of its boot
pub record Comes (sizes : Sizes) (armed : Option Armed) (d : AbstractDevice) (m : Result Meant ℕ) (c : Came) : Type 0 where
  pub goes : Goes sizes armed d m c.went
  pub boots : BootsAfter (is_reset m) c.went.armed (after_going c.went d) c.boot

abbrev pub booted_if : Option Booted → AbstractDevice → AbstractDevice
booted_if None d = d
booted_if (Some b) d = after_boot b d

abbrev pub after_coming : Came → AbstractDevice → AbstractDevice
after_coming c d = booted_if c.boot (after_going c.went d)

abbrev pub is_up : BootEnd → Bool
is_up up = true
is_up cut = false
is_up fault = false

-- the device is up after a boot that ended so, and after a packet unless power was cut
abbrev pub is_up_after : Option Booted → Option Said → Bool
is_up_after None reply = is_some reply
is_up_after (Some b) reply = is_up b.ended

abbrev pub steps_of_boot : Option Booted → List Step
steps_of_boot None = []
steps_of_boot (Some b) = b.taken

abbrev pub armed_after : Option Booted → Option Armed → Option Armed
armed_after None armed = armed
armed_after (Some b) armed = b.armed

abbrev pub is_boot_struck : Option Booted → Bool
is_boot_struck None = false
is_boot_struck (Some b) = not (is_up b.ended)
