use Rattle.std.proofs.Common.{length}
use Rattle.smp_plain.proofs.devices.+applied.Given as goal

abbrev pub decreases-applied : goal.decreases-applied
decreases-applied l = length l.steps.now
