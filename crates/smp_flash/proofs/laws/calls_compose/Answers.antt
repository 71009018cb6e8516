use Rattle.smp_flash.proofs.Passing.{Calls-after}
use Rattle.smp_flash.proofs.laws.calls_compose.Goals as goal

pub returns-clause-calls : goal.returns-clause-calls
returns-clause-calls c = Calls-after
