use Rattle.std.proofs.Common.{◌≡◌, ◌*◌}
use Rattle.std.specs.Prelude.{IfSome}
use Rattle.smp_flash.specs.Calls.{Calls, ReadsAtMost, ChangesAtMost}
use Rattle.smp_flash.specs.Layout.{geometry_of, progress_of}
use Rattle.smp_flash.specs.State.End.{Went}
use Rattle.smp_gate.specs.Newest.{sides}
use Rattle.smp_progress.proofs.Fronts.{FrontGives}
use Rattle.smp_progress.specs.Record.{IsRecord}
use Rattle.smp_progress.proofs.cells.after_cells.Given as goal

abbrev pub invariant-loop-n : goal.invariant-loop-n
invariant-loop-n g l = record {
  lawful : IsRecord (geometry_of l.layout) l.last;
  calls : Calls (sides (progress_of l.layout)) Went (g.F.Flash.state l.fn.flash) (g.F.Flash.state l.flash);
  kept : (g.F.Flash.state l.flash).bytes ≡ (g.F.Flash.state l.fn.flash).bytes;
  reads : ReadsAtMost (8 * l.n) (g.F.Flash.state l.fn.flash).bytes_read (g.F.Flash.state l.flash).bytes_read;
  changes : ChangesAtMost 0 0 (g.F.Flash.state l.fn.flash).changes (g.F.Flash.state l.flash).changes;
  gives : IfSome (g.F.Flash.state l.fn.flash).bytes (FrontGives l.layout l.first l.n l.last);
}
