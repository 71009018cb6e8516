use Rattle.std.proofs.Common.{◌≡◌, ◌*◌}
use Rattle.std.specs.Prelude.{IfSome}
use Rattle.smp_flash.specs.Area.{area, blank, spot}
use Rattle.smp_flash.specs.State.End.{Went}
use Rattle.smp_flash.specs.Calls.{Calls, ReadsAtMost, ChangesAtMost}
use Rattle.smp_flash.proofs.calls.is_page_erased.Given as goal

abbrev pub invariant-loop-i : goal.invariant-loop-i
invariant-loop-i g l = record {
  calls : Calls (spot l.at l.size) Went (g.F.Flash.state l.fn.flash) (g.F.Flash.state l.flash);
  kept : (g.F.Flash.state l.flash).bytes ≡ (g.F.Flash.state l.fn.flash).bytes;
  reads : ReadsAtMost (l.i * 512) (g.F.Flash.state l.fn.flash).bytes_read (g.F.Flash.state l.flash).bytes_read;
  changes : ChangesAtMost 0 0 (g.F.Flash.state l.fn.flash).changes (g.F.Flash.state l.flash).changes;
  unspent : (g.F.Flash.state l.flash).patience ≡ (g.F.Flash.state l.fn.flash).patience;
  erased : IfSome (g.F.Flash.state l.fn.flash).bytes (λ held. area l.at (l.i * 512) held ≡ blank (l.i * 512));
}
