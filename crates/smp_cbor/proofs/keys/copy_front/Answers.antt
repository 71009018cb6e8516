use Rattle.std.proofs.Common.{arith}
use Rattle.smp_cbor.proofs.Steps.{texts-copied}
use Rattle.smp_cbor.proofs.keys.copy_front.Goals as goal

pub returns : goal.returns
returns c = texts-copied c.loop-i.i c.loop-i.kept c.args.keys.now (omega arith) c.loop-i.invariant
