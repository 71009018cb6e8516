use Rattle.std.specs.Prelude.{IfSome}
use Rattle.smp_flash.specs.Memory.{mem_state}
use Rattle.smp_gate.specs.Bank.{BankSays}
use Rattle.smp_gate.specs.Newest.{Fits}
use Rattle.smp_gate.proofs.tests.are_numbered.Given as goal

abbrev pub invariant-loop-n : goal.invariant-loop-n
invariant-loop-n l = record {
  fits : Fits l.bank.place (mem_state l.flash).geometry;
  says : IfSome (mem_state l.flash).bytes (BankSays l.bank);
}
