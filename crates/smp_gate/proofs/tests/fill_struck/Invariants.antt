use Rattle.std.proofs.Common.{◌≡◌}
use Rattle.std.specs.Prelude.{IsTrue, IfSome}
use Rattle.smp_flash.specs.Memory.{mem_state}
use Rattle.smp_gate.specs.Bank.{BankSays}
use Rattle.smp_gate.specs.Newest.{Fits}
use Rattle.smp_gate.proofs.tests.fill_struck.Given as goal

abbrev pub invariant-loop : goal.invariant-loop
invariant-loop g l = record {
  place : l.bank.place ≡ l.place;
  cell : l.bank.cell ≡ 8;
  sure : IsTrue l.bank.sure;
  fits : Fits l.place (mem_state l.flash).geometry;
  says : IfSome (mem_state l.flash).bytes (BankSays l.bank);
}
