use Rattle.smp_client.proofs.Waits.{nine_waits}
use Rattle.smp_client.proofs.laws.nine_waits_end_a_request.Goals as goal

pub returns : goal.returns
returns c = nine_waits
