use Rattle.std.proofs.Common.{arith, rules, sym}
use Rattle.smp_flash.proofs.Telling.{IfSome-same}
use Rattle.smp_tlv.specs.Reads.{area_reads}
use Rattle.smp_tlv.proofs.ReadsCounted.{walk_leaves, walk_goes_on}
use Rattle.smp_tlv.proofs.Walks.{hash_at_end}
use Rattle.smp_tlv.proofs.tlv.read_hash.Goals as goal

pub returns-clause-hash : goal.returns-clause-hash
returns-clause-hash g c =
    hash_at_end (g.B.Bytes.state c.args.b.now).bytes c.loop-walk.walk.found c.args.at c.loop-walk.walk.at c.args.end c.only.result (omega arith) c.only.ensures c.loop-walk.invariant.outcome

pub loop-walk-preserved : goal.loop-walk-preserved
loop-walk-preserved g c =
    let goes = walk_goes_on c.in_ok-read_tlv.field-0 c.in-Some.next c.loop-walk.walk.at c.args.end c.in-Some.is c.in_ok-read_tlv.ensures.goes_on in
    let from = c.loop-walk.invariant.from in
    record {
      looks = search rules;
      reads = walk_leaves (g.B.Bytes.state c.args.b.now).bytes c.in_ok-read_tlv.field-0 c.loop-walk.walk c.in-Some.next c.args.end (area_reads c.args.at c.args.end) _ _ _ c.in-Some.is c.loop-walk.invariant.reads
          (IfSome-same _ _ (g.B.Bytes.state c.args.b.now).bytes (sym c.loop-walk.invariant.looks.held) c.in_ok-read_tlv.ensures.left);
      from = omega (arith, from, goes.0);
      to = goes.1;
      outcome = search rules;
    }
