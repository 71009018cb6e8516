use Rattle.std.proofs.Common.{◌++◌, take, arith, subst}
use Rattle.smp_tlv.specs.Carried.{Carries}
use Rattle.smp_tlv.proofs.Carrying.{piece_more}
use Rattle.smp_tlv.proofs.carried.Carried.add.Goals as goal

pub loop-at-preserved : goal.loop-at-preserved
loop-at-preserved c = record {
  most = omega arith;
  carried = λ added carries.
      subst (λ m. Carries c.add_piece.new.self m) (piece_more added c.args.bytes.now c.loop-at.at c.room.result)
      (c.add_piece.ensures (added ++ take c.loop-at.at c.args.bytes.now) (c.loop-at.invariant.carried added carries));
}
