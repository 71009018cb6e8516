use Rattle.std.proofs.Common.{◌≡◌}
use Rattle.std.specs.Prelude.{IfSome}
use Rattle.smp_flash.specs.Layout.{geometry_of}
use Rattle.smp_flash.specs.Memory.{mem_state}
use Rattle.smp_side.specs.Held.{HeldSays, held_layout}
use Rattle.smp_side.proofs.tests.follows.Given as goal

abbrev pub invariant-loop-i : goal.invariant-loop-i
invariant-loop-i g l = record {
  sizes : geometry_of (held_layout l.held) ≡ (mem_state l.flash).geometry;
  says : IfSome (mem_state l.flash).bytes (HeldSays l.held);
}
