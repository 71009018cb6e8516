use Rattle.smp_edge.proofs.Spelled.{no_ip_name}
use Rattle.smp_edge.proofs.address.ip_named.Goals as goal

pub returns-in-None-clause-none : goal.returns-in-None-clause-none
returns-in-None-clause-none c = λ ip. no_ip_name _ ip c.in_default.ensures c.in-None.ensures.none
