use Rattle.std.proofs.Common.{arith}
use Rattle.smp_cbor.proofs.Texts.{ascii_throughout}
use Rattle.smp_cbor.proofs.skipping.is_ascii.Goals as goal

pub returns : goal.returns
returns c = λ t. ascii_throughout c.args.bytes.now (λ i lt. c.loop-byte.invariant i (omega arith))
