use Rattle.std.proofs.Common.{◌≡◌, ◌≤◌, ◌-◌}
use Rattle.std.specs.Prelude.{IfSome}
use Rattle.smp_flash.specs.State.End.{Went}
use Rattle.smp_tlv.specs.Reads.{area_reads, walk_reads, ReadsLeft}
use Rattle.smp_tlv.specs.State.{Looks}
use Rattle.smp_tlv.specs.Walking.{outcome, tlvs_between}
use Rattle.smp_tlv.specs.declared.tlv.Hashes.TheVariants.{Missing}
use Rattle.smp_tlv.proofs.tlv.read_hash.Given as goal

abbrev pub invariant-loop-walk : goal.invariant-loop-walk
invariant-loop-walk g l = record {
  looks : Looks (l.walk.at - l.at) Went (g.B.Bytes.state l.fn.b) (g.B.Bytes.state l.b);
  reads : IfSome (g.B.Bytes.state l.fn.b).bytes (λ held. ReadsLeft (walk_reads l.walk l.end held) (area_reads l.at l.end held) (g.B.Bytes.state l.fn.b).holder.bytes_read (g.B.Bytes.state l.b).holder.bytes_read);
  from : l.at ≤ l.walk.at;
  to : l.walk.at ≤ l.end;
  outcome : IfSome (g.B.Bytes.state l.fn.b).bytes (λ held. outcome Missing (tlvs_between l.at l.end held) ≡ outcome l.walk.found (tlvs_between l.walk.at l.end held));
}

abbrev pub decreases-loop-walk : goal.decreases-loop-walk
decreases-loop-walk g l = l.end - l.walk.at
