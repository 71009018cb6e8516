use Rattle.std.proofs.Common.{arith}
use Rattle.smp_cbor.proofs.TextSize.{spelled_size}
use Rattle.smp_cbor.proofs.laws.texts_take_their_bytes.Goals as goal

pub returns : goal.returns
returns c = λ ps key t spelled found. spelled_size c.args._bytes.now ps key t (λ i. omega (arith, c.type_inv._bytes i)) spelled found
