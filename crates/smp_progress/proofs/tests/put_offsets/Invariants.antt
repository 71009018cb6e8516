use Rattle.std.proofs.Common.{◌≡◌}
use Rattle.std.specs.Prelude.{IsTrue, IfSome}
use Rattle.smp_flash.specs.Layout.{geometry_of}
use Rattle.smp_flash.specs.Memory.{mem_state}
use Rattle.smp_progress.specs.State.{ProgressSays}
use Rattle.smp_progress.proofs.tests.put_offsets.Given as goal

abbrev pub invariant-loop-i : goal.invariant-loop-i
invariant-loop-i l = record {
  layout : l.progress.layout ≡ l.layout;
  sizes : geometry_of l.layout ≡ (mem_state l.flash).geometry;
  sure : IsTrue l.progress.bank.sure;
  says : IfSome (mem_state l.flash).bytes (ProgressSays l.progress);
}
