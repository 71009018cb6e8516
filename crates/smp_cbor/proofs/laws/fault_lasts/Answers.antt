use Rattle.std.proofs.Common.{arith}
use Rattle.smp_cbor.proofs.CutAtFault.{lasting_fault}
use Rattle.smp_cbor.proofs.laws.fault_lasts.Goals as goal

pub returns : goal.returns
returns c = lasting_fault c.args._bytes.now c.args._rest.now (λ i. omega (arith, c.type_inv._bytes i))
