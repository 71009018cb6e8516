use Rattle.smp_cbor.proofs.Endings.{shortest_is_read as law}
use Rattle.smp_cbor.proofs.laws.shortest_is_read.Goals as goal

pub returns : goal.returns
returns c = law
