use Rattle.smp_client.proofs.Waits.{strangers_end, few_wait}
use Rattle.smp_client.proofs.laws.strangers_end_a_wait.Goals as goal

pub returns : goal.returns
returns c = record { all = strangers_end; fewer = few_wait }
