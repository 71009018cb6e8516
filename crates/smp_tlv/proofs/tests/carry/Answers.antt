use Rattle.std.proofs.Common.{[], take, arith, subst}
use Rattle.smp_tlv.specs.Carried.{Carries}
use Rattle.smp_tlv.proofs.Carrying.{piece_more}
use Rattle.smp_tlv.proofs.tests.carry.Goals as goal

pub loop-at-preserved : goal.loop-at-preserved
loop-at-preserved c = record {
  most = omega arith;
  carried = subst (Carries c.add-in-loop-at.new.self) (piece_more [] c.args.bytes.now c.loop-at.at c.min.result)
      (c.add-in-loop-at.ensures (take c.loop-at.at c.args.bytes.now) c.loop-at.invariant.carried);
}
