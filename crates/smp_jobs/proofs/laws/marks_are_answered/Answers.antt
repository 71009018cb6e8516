use Rattle.smp_jobs.proofs.Ends.{marks_are_answered}
use Rattle.smp_jobs.proofs.laws.marks_are_answered.Goals as goal

pub returns : goal.returns
returns c = marks_are_answered
