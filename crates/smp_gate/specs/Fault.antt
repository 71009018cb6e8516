-- How a call of a bank ends, and what becomes of the bank's value.
use Rattle.std.specs.Prelude.{◌+◌, ℕ, List, [], ◌∷◌, ◌++◌, true, false, not, Result, Ok, Err}
use Rattle.smp_flash.specs.State.{End}
use Rattle.smp_flash.specs.State.End.{Went, WentOff, Failed}
use Rattle.smp_flash.specs.declared.flash.CallFault.{CallFault}
use Rattle.smp_flash.specs.declared.flash.CallFault.TheVariants.{Fault as Faulty, Off as Gone}
use Rattle.smp_gate.specs.Bank.{BankState}
use Rattle.smp_gate.specs.declared.fault.BankFault.{BankFault}
use Rattle.smp_gate.specs.declared.fault.BankFault.TheVariants.{Unformatted, Fault, Off, Full, Worn}

-- the fault of a call, as a bank passes it on
abbrev pub bank_fault : CallFault → BankFault
bank_fault (Faulty operation) = Fault operation
bank_fault Gone = Off

-- how a call of a bank ended that was not Ok, as far as the flash goes
abbrev pub bank_fault_end : BankFault → End
bank_fault_end Unformatted = Went
bank_fault_end (Fault operation) = Failed operation
bank_fault_end Off = WentOff
bank_fault_end Full = Went
bank_fault_end Worn = Went

-- how a call of a bank ended
abbrev pub bank_end : {T : Type 0} → Result T BankFault → End
bank_end (Ok x) = Went
bank_end (Err fault) = bank_fault_end fault

-- the bank after a fault: not sure where an operation failed or the flash was off, else as before
abbrev pub after_fault : BankFault → BankState → BankState
after_fault Unformatted bank = bank
after_fault (Fault operation) bank = record bank { sure = false }
after_fault Off bank = record bank { sure = false }
after_fault Full bank = bank
after_fault Worn bank = bank

-- the bank after a replacement by a body of this length: the other side is the newest, with the next generation and no cells
abbrev pub after_replace : {T : Type 0} → ℕ → Result T BankFault → BankState → BankState
after_replace size (Ok x) bank = record bank { second = not bank.second; generation = bank.generation + 1; size = size; gates = [] }
after_replace size (Err fault) bank = after_fault fault bank

-- the bank after a cell was appended
abbrev pub after_append : {T : Type 0} → Result T BankFault → BankState → BankState
after_append (Ok x) bank = record bank { gates = bank.gates ++ (true ∷ []) }
after_append (Err fault) bank = after_fault fault bank
