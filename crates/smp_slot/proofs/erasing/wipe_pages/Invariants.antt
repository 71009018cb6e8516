use Rattle.std.proofs.Common.{◌≡◌, ◌-◌, ◌/◌, ◌%◌, ◌≤◌, length}
use Rattle.std.specs.Prelude.{IfSome}
use Rattle.smp_flash.specs.Area.{dirty_pages, spot, Told}
use Rattle.smp_flash.specs.Calls.{Calls, ReadsAtMost, ChangesAtMost}
use Rattle.smp_flash.specs.State.End.{Went}
use Rattle.smp_slot.proofs.Wiping.{Partly}
use Rattle.smp_slot.proofs.erasing.wipe_pages.Given as goal

abbrev pub invariant-loop-done : goal.invariant-loop-done
invariant-loop-done g l = record {
  most : l.done ≤ l.size;
  whole : l.done % l.page ≡ 0;
  calls : Calls (spot l.at l.size) Went (g.F.Flash.state l.fn.flash) (g.F.Flash.state l.flash);
  reads : ReadsAtMost l.done (g.F.Flash.state l.fn.flash).bytes_read (g.F.Flash.state l.flash).bytes_read;
  changes : ChangesAtMost 0 (l.done / l.page) (g.F.Flash.state l.fn.flash).changes (g.F.Flash.state l.flash).changes;
  erases : IfSome (g.F.Flash.state l.fn.flash).bytes (λ held. ChangesAtMost 0 (dirty_pages l.page l.at (l.done / l.page) held) (g.F.Flash.state l.fn.flash).changes (g.F.Flash.state l.flash).changes);
  partly : Told (Partly l.at l.size l.done) (g.F.Flash.state l.fn.flash).bytes (g.F.Flash.state l.flash).bytes;
  buffer : length l.buffer ≡ 512;
}

abbrev pub decreases-loop-done : goal.decreases-loop-done
decreases-loop-done g l = l.size - l.done
