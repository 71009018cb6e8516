-- A device that was opened is of the sizes of its flash.
use Rattle.std.proofs.Common.{◌≡◌, Result, Ok, Err}
use Rattle.std.specs.Prelude.{IfOk}
use Rattle.smp_flash.specs.Layout.{geometry_of}
use Rattle.smp_flash.specs.State.{FlashState}
use Rattle.smp_device.specs.Handling.{DeviceState}
use Rattle.smp_device.specs.Starting.{Opens}
use Rattle.smp_device.specs.declared.device.OpenFault.{OpenFault}

pub opened_sizes : (r : Result DeviceState OpenFault) (a b : FlashState) → Opens r a b → IfOk r (λ d. geometry_of d.places.first ≡ a.geometry)
opened_sizes (Ok s) a b h = h.0
opened_sizes (Err fault) a b h = tt
