use Rattle.smp_world.proofs.FirstStates.{has_started, nothing_pending, nothing_acknowledged}
use Rattle.smp_world.proofs.laws.runs_begin_with_nothing.Goals as goal

pub returns-clause-started : goal.returns-clause-started
returns-clause-started c = has_started

pub returns-clause-pending : goal.returns-clause-pending
returns-clause-pending c = nothing_pending

pub returns-clause-acknowledged : goal.returns-clause-acknowledged
returns-clause-acknowledged c = nothing_acknowledged
