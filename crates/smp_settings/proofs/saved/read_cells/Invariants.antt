use Rattle.std.proofs.Common.{◌≡◌, ◌*◌, true}
use Rattle.std.specs.Prelude.{IfSome}
use Rattle.smp_flash.specs.State.End.{Went}
use Rattle.smp_flash.specs.Calls.{Calls, ReadsAtMost, ChangesAtMost}
use Rattle.smp_gate.specs.Newest.{sides}
use Rattle.smp_model.specs.Settings.{is_within_limits}
use Rattle.smp_settings.proofs.Saving.{FirstGive}
use Rattle.smp_settings.proofs.saved.read_cells.Given as goal

abbrev pub invariant-loop-n : goal.invariant-loop-n
invariant-loop-n g l = record {
  calls : Calls (sides l.bank.place) Went (g.F.Flash.state l.fn.flash) (g.F.Flash.state l.flash);
  kept : (g.F.Flash.state l.flash).bytes ≡ (g.F.Flash.state l.fn.flash).bytes;
  reads : ReadsAtMost (168 * l.n) (g.F.Flash.state l.fn.flash).bytes_read (g.F.Flash.state l.flash).bytes_read;
  changes : ChangesAtMost 0 0 (g.F.Flash.state l.fn.flash).changes (g.F.Flash.state l.flash).changes;
  within : is_within_limits l.table ≡ true;
  give : IfSome (g.F.Flash.state l.fn.flash).bytes (FirstGive l.bank l.n l.fn.table l.table);
}
