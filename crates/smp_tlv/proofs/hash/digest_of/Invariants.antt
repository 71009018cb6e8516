use Rattle.std.proofs.Common.{◌≡◌, ◌≤◌, ◌-◌, false, take}
use Rattle.std.specs.Prelude.{IfSome}
use Rattle.sha2.specs.Hashers.{Holds256}
use Rattle.smp_flash.specs.State.End.{Went}
use Rattle.smp_tlv.specs.State.{Looks}
use Rattle.smp_tlv.proofs.hash.digest_of.Given as goal

abbrev pub invariant-loop-at : goal.invariant-loop-at
invariant-loop-at g l = record {
  looks : Looks l.at Went (g.B.Bytes.state l.fn.b) (g.B.Bytes.state l.b);
  most : l.at ≤ l.size;
  off : (g.B.Bytes.state l.fn.b).holder.on ≡ false → l.at ≡ 0;
  sum : IfSome (g.B.Bytes.state l.fn.b).bytes (λ held. Holds256 l.sum (take l.at held));
}

abbrev pub decreases-loop-at : goal.decreases-loop-at
decreases-loop-at g l = l.size - l.at
