use Rattle.std.proofs.Common.{◌≡◌, ◌-◌, ◌<◌, ◌≤◌, ◌++◌, ℕ, List, length}
use Rattle.std.specs.Prelude.{IfSome}
use Rattle.smp_flash.specs.Area.{area, spot}
use Rattle.smp_flash.specs.Calls.{Calls, ReadsAtMost}
use Rattle.smp_flash.specs.State.End.{Went}
use Rattle.smp_tlv.specs.Carried.{Carries}
use Rattle.smp_upload.proofs.summing.add_part.Given as goal

abbrev pub invariant-loop-done : goal.invariant-loop-done
invariant-loop-done g l = record {
  most : l.done ≤ l.size;
  calls : Calls (spot l.at l.size) Went (g.F.Flash.state l.fn.flash) (g.F.Flash.state l.flash);
  kept : (g.F.Flash.state l.flash).bytes ≡ (g.F.Flash.state l.fn.flash).bytes;
  reads : ReadsAtMost l.done (g.F.Flash.state l.fn.flash).bytes_read (g.F.Flash.state l.flash).bytes_read;
  block : 0 < length l.block;
  sums : IfSome (g.F.Flash.state l.fn.flash).bytes (λ held. (added : List ℕ) → Carries l.fn.sums added → Carries l.sums (added ++ area l.at l.done held));
}

abbrev pub decreases-loop-done : goal.decreases-loop-done
decreases-loop-done g l = l.size - l.done
