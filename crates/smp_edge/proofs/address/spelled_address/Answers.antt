use Rattle.smp_edge.proofs.Spelled.{no_address_name}
use Rattle.smp_edge.proofs.address.spelled_address.Goals as goal

pub returns-in-None-clause-none : goal.returns-in-None-clause-none
returns-in-None-clause-none c = λ a. no_address_name _ a c.in_default.ensures c.in-None.ensures.none
