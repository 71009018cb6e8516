use Rattle.std.proofs.Common.{◌≡◌, ◌≤◌, ◌++◌, length}
use Rattle.smp_schedule.proofs.reading.collect.Given as goal

abbrev pub invariant-fields : goal.invariant-fields
invariant-fields l = (l.fn.fields ≡ l.words.items ++ l.fields) × (length l.words.items ≤ 509)

abbrev pub decreases-fields : goal.decreases-fields
decreases-fields l = length l.fields
