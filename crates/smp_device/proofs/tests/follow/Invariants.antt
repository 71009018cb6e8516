use Rattle.std.proofs.Common.{◌≡◌}
use Rattle.std.specs.Prelude.{IfSome}
use Rattle.smp_flash.specs.Layout.{geometry_of}
use Rattle.smp_flash.specs.Memory.{mem_state}
use Rattle.smp_device.specs.Handling.{DeviceSays}
use Rattle.smp_device.proofs.tests.follow.Given as goal

abbrev pub invariant-loop-i : goal.invariant-loop-i
invariant-loop-i g l = record {
  sizes : geometry_of l.device.places.first ≡ l.geometry;
  says : IfSome (mem_state l.flash).bytes (DeviceSays l.device);
}
