use Rattle.smp_cbor.proofs.Endings.{spellings_end as law}
use Rattle.smp_cbor.proofs.laws.spellings_end.Goals as goal

pub returns : goal.returns
returns c = law
