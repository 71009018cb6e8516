use Rattle.std.proofs.Common.{arith}
use Rattle.smp_cbor.proofs.FaultIsUnique.{one_fault}
use Rattle.smp_cbor.proofs.laws.fault_is_unique.Goals as goal

pub returns : goal.returns
returns c = one_fault c.args._bytes.now (λ i. omega (arith, c.type_inv._bytes i))
