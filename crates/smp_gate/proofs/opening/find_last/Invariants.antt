use Rattle.std.proofs.Common.{◌≡◌, ◌+◌, ◌*◌}
use Rattle.std.specs.Prelude.{IfSome}
use Rattle.smp_flash.specs.Area.{spot}
use Rattle.smp_flash.specs.State.End.{Went}
use Rattle.smp_flash.specs.Calls.{Calls, ReadsAtMost, ChangesAtMost}
use Rattle.smp_gate.specs.Cells.{span, cells_at, places}
use Rattle.smp_gate.proofs.Found.{FreeBehind}
use Rattle.smp_gate.proofs.opening.find_last.Given as goal

abbrev pub invariant-loop-i : goal.invariant-loop-i
invariant-loop-i g l = record {
  calls : Calls (spot l.side 4096) Went (g.F.Flash.state l.fn.flash) (g.F.Flash.state l.flash);
  kept : (g.F.Flash.state l.flash).bytes ≡ (g.F.Flash.state l.fn.flash).bytes;
  reads : ReadsAtMost (l.i * span l.cell) (g.F.Flash.state l.fn.flash).bytes_read (g.F.Flash.state l.flash).bytes_read;
  changes : ChangesAtMost 0 0 (g.F.Flash.state l.fn.flash).changes (g.F.Flash.state l.flash).changes;
  free : IfSome (g.F.Flash.state l.fn.flash).bytes (FreeBehind l.cell (l.side + cells_at l.size) (places l.cell l.size) l.i);
}
