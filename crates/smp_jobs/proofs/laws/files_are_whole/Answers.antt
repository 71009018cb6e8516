use Rattle.smp_jobs.proofs.Ends.{files_are_whole}
use Rattle.smp_jobs.proofs.laws.files_are_whole.Goals as goal

pub returns : goal.returns
returns c = files_are_whole
