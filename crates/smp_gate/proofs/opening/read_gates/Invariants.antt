use Rattle.std.proofs.Common.{◌≡◌, ◌+◌, ◌*◌, length}
use Rattle.std.specs.Prelude.{IfSome}
use Rattle.smp_flash.specs.Area.{spot}
use Rattle.smp_flash.specs.State.End.{Went}
use Rattle.smp_flash.specs.Calls.{Calls, ReadsAtMost, ChangesAtMost}
use Rattle.smp_gate.specs.Cells.{cells_at, gates_from}
use Rattle.smp_gate.proofs.opening.read_gates.Given as goal

abbrev pub invariant-loop-i : goal.invariant-loop-i
invariant-loop-i g l = record {
  calls : Calls (spot l.side 4096) Went (g.F.Flash.state l.fn.flash) (g.F.Flash.state l.flash);
  kept : (g.F.Flash.state l.flash).bytes ≡ (g.F.Flash.state l.fn.flash).bytes;
  reads : ReadsAtMost (l.i * 8) (g.F.Flash.state l.fn.flash).bytes_read (g.F.Flash.state l.flash).bytes_read;
  changes : ChangesAtMost 0 0 (g.F.Flash.state l.fn.flash).changes (g.F.Flash.state l.flash).changes;
  long : length l.gates.items ≡ l.i;
  gates : IfSome (g.F.Flash.state l.fn.flash).bytes (λ held. l.gates.items ≡ gates_from l.cell (l.side + cells_at l.size) l.i held);
}
