use Rattle.std.proofs.Common.{arith}
use Rattle.smp_cbor.proofs.Trees.{least_head}
use Rattle.smp_cbor.proofs.laws.head_is_least.Goals as goal

pub returns : goal.returns
returns c = least_head c.args._head.now (λ i. omega (arith, c.type_inv._head i))
