use Rattle.std.proofs.Common.{◌*◌}
use Rattle.std.specs.Prelude.{IfSome}
use Rattle.smp_flash.specs.Area.{dirty_pages, spot, Told}
use Rattle.smp_flash.specs.State.End.{Went}
use Rattle.smp_flash.specs.Calls.{Calls, ReadsAtMost, ChangesAtMost}
use Rattle.smp_gate.proofs.Clearing.{Partly}
use Rattle.smp_gate.proofs.steps.erase_side.Given as goal

abbrev pub invariant-loop-i : goal.invariant-loop-i
invariant-loop-i g l = record {
  calls : Calls (spot l.at 4096) Went (g.F.Flash.state l.fn.flash) (g.F.Flash.state l.flash);
  reads : ReadsAtMost (l.i * l.page) (g.F.Flash.state l.fn.flash).bytes_read (g.F.Flash.state l.flash).bytes_read;
  changes : ChangesAtMost 0 l.i (g.F.Flash.state l.fn.flash).changes (g.F.Flash.state l.flash).changes;
  erases : IfSome (g.F.Flash.state l.fn.flash).bytes (λ held. ChangesAtMost 0 (dirty_pages l.page l.at l.i held) (g.F.Flash.state l.fn.flash).changes (g.F.Flash.state l.flash).changes);
  partly : Told (Partly l.at (l.i * l.page)) (g.F.Flash.state l.fn.flash).bytes (g.F.Flash.state l.flash).bytes;
}
