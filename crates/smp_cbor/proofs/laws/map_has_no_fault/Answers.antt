use Rattle.std.proofs.Common.{arith}
use Rattle.smp_cbor.proofs.FaultIsUnique.{no_fault}
use Rattle.smp_cbor.proofs.laws.map_has_no_fault.Goals as goal

pub returns : goal.returns
returns c = no_fault c.args._bytes.now (λ i. omega (arith, c.type_inv._bytes i))
