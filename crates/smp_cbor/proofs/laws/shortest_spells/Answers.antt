use Rattle.smp_cbor.proofs.Trees.{shortest_spells as law}
use Rattle.smp_cbor.proofs.laws.shortest_spells.Goals as goal

pub returns : goal.returns
returns c = law
