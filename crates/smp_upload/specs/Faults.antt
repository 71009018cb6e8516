-- How a call on an upload's state ended, and the faults of the calls below as it passes them on.
use Rattle.std.specs.Prelude.{Result, Ok, Err}
use Rattle.smp_flash.specs.State.{End}
use Rattle.smp_flash.specs.State.End.{Went, WentOff, Failed}
use Rattle.smp_flash.specs.declared.flash.CallFault.{CallFault}
use Rattle.smp_flash.specs.declared.flash.CallFault.TheVariants as calls
use Rattle.smp_flash.specs.declared.flash.FlashFault.{FlashFault}
use Rattle.smp_flash.specs.declared.flash.FlashFault.TheVariants as flashes
use Rattle.smp_flash.specs.declared.flash.Operation.TheVariants.{Read}
use Rattle.smp_gate.specs.declared.fault.BankFault.{BankFault}
use Rattle.smp_gate.specs.declared.fault.BankFault.TheVariants as banks
use Rattle.smp_upload.specs.declared.states.UploadFault.{UploadFault}
use Rattle.smp_upload.specs.declared.states.UploadFault.TheVariants as faults
use Rattle.smp_upload.specs.declared.states.Lost.{Lost}

-- how a call ended that was not Ok, as far as the flash goes
abbrev pub upload_fault_end : UploadFault → End
upload_fault_end faults.Unformatted = Went
upload_fault_end (faults.Fault operation) = Failed operation
upload_fault_end faults.Off = WentOff
upload_fault_end faults.Worn = Went

-- how a call ended
abbrev pub upload_end : {T : Type 0} → Result T Lost → End
upload_end (Ok x) = Went
upload_end (Err lost) = upload_fault_end lost.fault

-- a fault before which no byte was changed
abbrev pub IsIdle : UploadFault → Type 0
IsIdle faults.Unformatted = Unit {0}
IsIdle (faults.Fault operation) = ⊥
IsIdle faults.Off = ⊥
IsIdle faults.Worn = Unit {0}

-- the fault of a bank's call; the bank of a record is never full for one
abbrev pub of_bank : BankFault → UploadFault
of_bank banks.Unformatted = faults.Unformatted
of_bank (banks.Fault operation) = faults.Fault operation
of_bank banks.Off = faults.Off
of_bank banks.Full = faults.Unformatted
of_bank banks.Worn = faults.Worn

-- the fault of a slot's call
abbrev pub of_call : CallFault → UploadFault
of_call (calls.Fault operation) = faults.Fault operation
of_call calls.Off = faults.Off

-- the fault of a read
abbrev pub of_read : FlashFault → UploadFault
of_read flashes.Fault = faults.Fault Read
of_read flashes.Off = faults.Off
