use Rattle.smp_model.proofs.DropsDue.{drop_is_due}
use Rattle.smp_model.proofs.laws.drops_are_due.Goals as goal

pub returns : goal.returns
returns c = drop_is_due
