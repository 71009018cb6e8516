use Rattle.smp_jobs.proofs.Ends.{saves_are_answered}
use Rattle.smp_jobs.proofs.laws.saves_are_answered.Goals as goal

pub returns : goal.returns
returns c = saves_are_answered
