use Rattle.std.proofs.Common.{◌≡◌, length}
use Rattle.smp_schedule.specs.Jobs.{pairs_in}
use Rattle.smp_schedule.proofs.Settings.{behind}
use Rattle.smp_schedule.proofs.job_reading.read_pairs.Given as goal

abbrev pub invariant-pairs : goal.invariant-pairs
invariant-pairs l = behind l.pairs (pairs_in l.rest) ≡ pairs_in l.fields

abbrev pub decreases-pairs : goal.decreases-pairs
decreases-pairs l = length l.rest
