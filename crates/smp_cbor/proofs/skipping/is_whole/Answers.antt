use Rattle.std.proofs.Common.{arith}
use Rattle.smp_cbor.proofs.Whole.{whole_unsigned, whole_negative, whole_octets, whole_text, whole_simple}
use Rattle.smp_cbor.proofs.skipping.is_whole.Goals as goal

pub returns-in-0-to-23 : goal.returns-in-0-to-23
returns-in-0-to-23 c = λ t depth rest. whole_unsigned depth c.args.first rest (omega arith)

pub returns-in-32-to-55 : goal.returns-in-32-to-55
returns-in-32-to-55 c = λ t depth rest. whole_negative depth c.args.first rest (omega arith) (omega arith)

pub returns-in-64 : goal.returns-in-64
returns-in-64 c = λ t depth rest. whole_octets depth c.args.first rest (omega arith)

pub returns-in-96 : goal.returns-in-96
returns-in-96 c = λ t depth rest. whole_text depth c.args.first rest (omega arith)

pub returns-in-224-to-247 : goal.returns-in-224-to-247
returns-in-224-to-247 c = λ t depth rest. whole_simple depth c.args.first rest (omega arith) (omega arith)
