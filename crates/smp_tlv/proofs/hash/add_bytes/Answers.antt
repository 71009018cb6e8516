use Rattle.std.proofs.Common.{length}
use Rattle.smp_tlv.proofs.Hashing.{sum_more}
use Rattle.smp_tlv.proofs.hash.add_bytes.Goals as goal

pub returns-clause-sum : goal.returns-clause-sum
returns-clause-sum g c =
    sum_more (g.B.Bytes.state c.args.b.now).bytes c.args.at (length c.args.into.now) c.read.new.into c.args.sum.now c.update.new.self c.in_ok-read.ensures.bytes c.update.ensures
