use Rattle.std.proofs.Common.{◌≡◌, ◌≤◌, length}
use Rattle.std.specs.Vec.{vec_capacity}
use Rattle.smp_files.proofs.table.spare_buffers.Given as goal

abbrev pub invariant-loop : goal.invariant-loop
invariant-loop l = (length l.spare.items ≡ l.counter) × (8 ≤ vec_capacity l.spare)
