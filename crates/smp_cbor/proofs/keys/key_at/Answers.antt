use Rattle.std.proofs.Common.{arith}
use Rattle.smp_cbor.proofs.Whole.{short_key}
use Rattle.smp_cbor.proofs.keys.key_at.Goals as goal

pub returns-in-Some : goal.returns-in-Some
returns-in-Some c = rw (short_key c.args.bytes.now c.in-Some.length (omega arith) c.in-Some.ensures) c.text_octets_of.ensures
