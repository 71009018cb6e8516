use Rattle.std.proofs.Common.{length, take, ◌-◌, ◌≡◌, ◌⊎◌, ◌+◌, ◌*◌, ◌≤◌, ◌%◌, ◌<◌, true, ℕ}
use Rattle.std.specs.Prelude.{IfSome}
use Rattle.smp_flash.specs.Area.{spot, Told}
use Rattle.smp_slot.specs.Costs.{entered, begun, dirty_begun}
use Rattle.smp_slot.specs.Laid.{Laid}
use Rattle.smp_slot.proofs.Counting.{IsTurn}
use Rattle.smp_flash.specs.Geometry.{tail}
use Rattle.smp_flash.specs.State.End.{Went}
use Rattle.smp_flash.specs.Calls.{Calls, ReadsAtMost, ChangesAtMost, Smaller}
use Rattle.smp_flash.specs.Region.{counts}
use Rattle.smp_slot.proofs.slot.put_pages.Given as goal

abbrev pub invariant-loop-done : goal.invariant-loop-done
invariant-loop-done g l = record {
  most : l.done ≤ length l.bytes;
  place : (l.done ≡ length l.bytes) ⊎ ((l.at + l.done) % l.unit ≡ 0);
  turn : (l.done ≡ length l.bytes) ⊎ IsTurn l.page l.at l.done;
  reads : ReadsAtMost (begun l.page l.at l.done * l.page) (g.F.Flash.state l.fn.flash).bytes_read (g.F.Flash.state l.flash).bytes_read;
  changes : ChangesAtMost (entered l.page l.at l.done) (begun l.page l.at l.done) (g.F.Flash.state l.fn.flash).changes (g.F.Flash.state l.flash).changes;
  erases : IfSome (g.F.Flash.state l.fn.flash).bytes (λ held. ChangesAtMost (entered l.page l.at l.done) (dirty_begun l.page l.at l.done held) (g.F.Flash.state l.fn.flash).changes (g.F.Flash.state l.flash).changes);
  calls : Calls (spot l.at (length l.bytes + tail l.page (l.at + length l.bytes))) Went (g.F.Flash.state l.fn.flash) (g.F.Flash.state l.flash);
  laid : Told (Laid l.at (tail l.page (l.at + l.done)) (take l.done l.bytes)) (g.F.Flash.state l.fn.flash).bytes (g.F.Flash.state l.flash).bytes;
  pays : 0 < l.done → counts (g.F.Flash.state l.fn.flash).geometry (g.F.Flash.state l.fn.flash).aim l.at ≡ true → Smaller (g.F.Flash.state l.fn.flash).patience (g.F.Flash.state l.flash).patience;
}

abbrev pub decreases-loop-done : goal.decreases-loop-done
decreases-loop-done g l = length l.bytes - l.done
