use Rattle.smp_model.proofs.AskedMarks.{asked_is_set, none_confirms}
use Rattle.smp_model.proofs.laws.what_is_asked_for_is_done.Goals as goal

pub returns-clause-asked : goal.returns-clause-asked
returns-clause-asked c = asked_is_set

pub returns-clause-confirmed : goal.returns-clause-confirmed
returns-clause-confirmed c = none_confirms
