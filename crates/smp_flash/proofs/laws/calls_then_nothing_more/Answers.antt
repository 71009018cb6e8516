use Rattle.smp_flash.proofs.Afterwards.{Calls-then}
use Rattle.smp_flash.proofs.laws.calls_then_nothing_more.Goals as goal

pub returns : goal.returns
returns c = Calls-then
