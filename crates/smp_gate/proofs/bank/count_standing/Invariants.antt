use Rattle.std.proofs.Common.{◌≡◌, ◌≤◌, take}
use Rattle.smp_gate.specs.Cells.{standing}
use Rattle.smp_gate.proofs.bank.count_standing.Given as goal

abbrev pub invariant-loop-i : goal.invariant-loop-i
invariant-loop-i l = record {
  count : l.count ≡ standing (take l.i l.gates);
  most : l.count ≤ l.i;
}
