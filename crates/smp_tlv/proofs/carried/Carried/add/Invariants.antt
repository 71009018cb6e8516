use Rattle.std.proofs.Common.{◌≤◌, ◌-◌, ◌++◌, List, ℕ, length, take}
use Rattle.smp_tlv.specs.Carried.{Carries}
use Rattle.smp_tlv.proofs.carried.Carried.add.Given as goal

abbrev pub invariant-loop-at : goal.invariant-loop-at
invariant-loop-at l = record {
  most : l.at ≤ length l.bytes;
  carried : (added : List ℕ) → Carries l.fn.self added → Carries l.self (added ++ take l.at l.bytes);
}

abbrev pub decreases-loop-at : goal.decreases-loop-at
decreases-loop-at l = length l.bytes - l.at
