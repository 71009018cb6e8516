use Rattle.smp_schedule.proofs.Drawn.{generated_is_lawful}
use Rattle.smp_schedule.proofs.laws.generated_is_lawful.Goals as goal

pub returns : goal.returns
returns c = generated_is_lawful
