use Rattle.smp_jobs.proofs.Ends.{uploads_are_tagged}
use Rattle.smp_jobs.proofs.laws.uploads_are_tagged.Goals as goal

pub returns : goal.returns
returns c = uploads_are_tagged
