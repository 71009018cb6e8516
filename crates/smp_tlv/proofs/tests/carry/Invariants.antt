use Rattle.std.proofs.Common.{◌≤◌, ◌-◌, length, take}
use Rattle.smp_tlv.specs.Carried.{Carries}
use Rattle.smp_tlv.proofs.tests.carry.Given as goal

abbrev pub invariant-loop-at : goal.invariant-loop-at
invariant-loop-at l = record {
  most : l.at ≤ length l.bytes;
  carried : Carries l.carried (take l.at l.bytes);
}

abbrev pub decreases-loop-at : goal.decreases-loop-at
decreases-loop-at l = length l.bytes - l.at
