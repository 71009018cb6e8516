use Rattle.std.proofs.Common.{arith}
use Rattle.smp_cbor.proofs.Whole.{short_text_head}
use Rattle.smp_cbor.proofs.keys.short_text.Goals as goal

pub returns-in-96-to-119 : goal.returns-in-96-to-119
returns-in-96-to-119 c = λ rest. rw c.from.ensures (short_text_head c.args.first rest (omega arith) (omega arith))
