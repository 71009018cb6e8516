use Rattle.std.proofs.Common.{◌≡◌, ◌≤◌, ◌+◌, length}
use Rattle.std.specs.Vec.{vec_capacity}
use Rattle.smp_files.proofs.table.keep_buffers.Given as goal

abbrev pub invariant-loop : goal.invariant-loop
invariant-loop l =
    (length l.files.items + length l.spare.items ≡ 8) × (vec_capacity l.initial.spare ≤ vec_capacity l.spare) × (length l.files.items + l.counter ≡ length l.initial.files.items)
    × (vec_capacity l.files ≡ vec_capacity l.initial.files)
