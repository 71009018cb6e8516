use Rattle.smp_jobs.proofs.Ends.{first_is_next}
use Rattle.smp_jobs.proofs.laws.the_first_request_is_next.Goals as goal

pub returns : goal.returns
returns c = first_is_next
