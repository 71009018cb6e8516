use Rattle.smp_flash.proofs.Passing.{Calls-after, changes_add}
use Rattle.smp_gate.proofs.Choosing.{first_Calls, second_Calls}
use Rattle.smp_gate.proofs.opening.choose_side.Goals as goal

pub returns-in_err-second-clause-changes : goal.returns-in_err-second-clause-changes
returns-in_err-second-clause-changes g c = changes_add 0 0 0 0 _ _ _ c.in_ok-first.ensures.changes c.in_err-second.ensures.changes

pub returns-clause-changes : goal.returns-clause-changes
returns-clause-changes g c = changes_add 0 0 0 0 _ _ _ c.in_ok-first.ensures.changes c.in_ok-second.ensures.changes

pub returns-clause-calls : goal.returns-clause-calls
returns-clause-calls g c = Calls-after _ _ _ _ _ (first_Calls c.args.place.now _ _ _ c.in_ok-first.ensures.calls) (second_Calls c.args.place.now _ _ _ c.in_ok-second.ensures.calls)
