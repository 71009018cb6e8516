use Rattle.std.proofs.Common.{◌≡◌, ◌≤◌, take}
use Rattle.smp_gate.specs.Cells.{standing}
use Rattle.smp_gate.proofs.bank.index_of.Given as goal

abbrev pub invariant-loop-i : goal.invariant-loop-i
invariant-loop-i l = record {
  before : l.before ≡ standing (take l.i l.gates);
  most : l.before ≤ l.n;
  least : l.before ≤ l.i;
}
