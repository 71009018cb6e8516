use Rattle.smp_cbor.proofs.Lengths.{short_head_len}
use Rattle.smp_cbor.proofs.laws.heads_are_short.Goals as goal

pub returns : goal.returns
returns c = short_head_len
