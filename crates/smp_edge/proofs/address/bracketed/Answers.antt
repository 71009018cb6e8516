use Rattle.smp_edge.proofs.Spelled.{other_inside}
use Rattle.smp_edge.proofs.address.bracketed.Goals as goal

pub returns-in-Err-clause-none : goal.returns-in-Err-clause-none
returns-in-Err-clause-none c = λ ip. other_inside _ _ ip c.in_ok-inside.ensures.some c.in-Err.ensures
