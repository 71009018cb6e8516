use Rattle.std.proofs.Common.{◌≡◌, ◌≤◌}
use Rattle.std.specs.Prelude.{count_by, take}
use Rattle.smp_world.proofs.clients.count_done.Given as goal

abbrev pub invariant-loop-seat : goal.invariant-loop-seat
invariant-loop-seat l = record {
  count : l.count ≡ count_by (λ seat. seat.is_done) (take l.seat-index l.seats);
  few : l.count ≤ l.seat-index;
}
