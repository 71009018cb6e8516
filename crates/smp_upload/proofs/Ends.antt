-- How a call below ended, as a call on an upload's state passes it on.
use Rattle.std.proofs.Common.{◌≡◌, ℕ, List, refl, sym, ◌∙◌, ap, subst}
use Rattle.std.specs.Prelude.{Err}
use Rattle.smp_flash.specs.Calls.{Calls}
use Rattle.smp_flash.specs.State.{FlashState, End, end_of, fault_end}
use Rattle.smp_flash.specs.declared.flash.CallFault.{CallFault}
use Rattle.smp_flash.specs.declared.flash.CallFault.TheVariants as faulty
use Rattle.smp_flash.specs.State.End.{Went, WentOff, Failed}
use Rattle.smp_flash.specs.declared.flash.FlashFault.{FlashFault}
use Rattle.smp_flash.specs.declared.flash.FlashFault.TheVariants as flashes
use Rattle.smp_flash.specs.declared.flash.Operation.TheVariants.{Read}
use Rattle.smp_upload.specs.Faults.{of_read, of_call, upload_fault_end}
use Rattle.smp_upload.specs.declared.states.UploadFault.{UploadFault}
use Rattle.smp_upload.specs.declared.states.UploadFault.TheVariants as faults

-- how a read ended that failed
abbrev pub read_end : FlashFault → End
read_end flashes.Fault = Failed Read
read_end flashes.Off = WentOff

same_end : (f : FlashFault) → upload_fault_end (of_read f) ≡ read_end f
same_end flashes.Fault = refl
same_end flashes.Off = refl

pub read_lost : (spots : List (ℕ × ℕ)) (p q : FlashState) (f : FlashFault) (u : UploadFault) → u ≡ of_read f → Calls spots (read_end f) p q → Calls spots (upload_fault_end u) p q
read_lost spots p q f u e calls = subst (λ (end : End). Calls spots end p q) (sym (ap upload_fault_end e ∙ same_end f)) calls

pub ends : (T : Type 0) (spots : List (ℕ × ℕ)) (p q : FlashState) (f : FlashFault) → Calls spots (end_of {T = T} Read (Err f)) p q → Calls spots (read_end f) p q
ends T spots p q flashes.Fault calls = calls
ends T spots p q flashes.Off calls = calls

call_end : (f : CallFault) → upload_fault_end (of_call f) ≡ fault_end f
call_end (faulty.Fault operation) = refl
call_end faulty.Off = refl

pub call_lost : (spots : List (ℕ × ℕ)) (p q : FlashState) (f : CallFault) (u : UploadFault) → u ≡ of_call f → Calls spots (fault_end f) p q → Calls spots (upload_fault_end u) p q
call_lost spots p q f u e calls = subst (λ (end : End). Calls spots end p q) (sym (ap upload_fault_end e ∙ call_end f)) calls

pub unformatted_end : (spots : List (ℕ × ℕ)) (p q : FlashState) (u : UploadFault) → u ≡ faults.Unformatted → Calls spots Went p q → Calls spots (upload_fault_end u) p q
unformatted_end spots p q u e calls = subst (λ (end : End). Calls spots end p q) (sym (ap upload_fault_end e)) calls
