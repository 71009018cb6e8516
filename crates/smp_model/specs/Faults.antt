-- What may come of a packet where the flash fails at its request, or a record is worn: the reply is that error, in the group
-- of the request. Of the steps of the request some front was done. The reply is counted as an error.
use Rattle.std.specs.Prelude.{◌≡◌, ℕ, List, Bool, true, ◌==◌, ◌&&◌, ◌||◌, Some, Ok, IsTrue}
use Rattle.smp_header.specs.Message.{Message, packet}
use Rattle.smp_model.specs.declared.device.AbstractDevice.{AbstractDevice}
use Rattle.smp_model.specs.declared.device.Sizes.{Sizes}
use Rattle.smp_model.specs.declared.error.TheConstants.{READ_FAILED, WRITE_FAILED, ERASE_FAILED, RECORD_WORN, SETTINGS_WORN}
use Rattle.smp_model.specs.Does.{does}
use Rattle.smp_model.specs.FlashUse.{uses_images}
use Rattle.smp_model.specs.Handled.{Handled}
use Rattle.smp_model.specs.Meaning.{meaning}
use Rattle.smp_model.specs.Meant as meant
use Rattle.smp_model.specs.Meant.{Meant, name_of}
use Rattle.smp_model.specs.Said.{Said, group_error, reply_bytes}
use Rattle.smp_model.specs.Steps.{Part, counted}
use Rattle.smp_model.specs.Table.{table}

-- an operation of the flash failed
abbrev pub is_failure : (number : ℕ) → Bool
is_failure number = (number == READ_FAILED) || ((number == WRITE_FAILED) || (number == ERASE_FAILED))

-- The errors by which a request reports a fault of the flash or a worn record: only requests that come to the flash do. A load
-- only reads.
abbrev pub reports_fault : Sizes → AbstractDevice → Meant → (number : ℕ) → Bool
reports_fault sizes d meant.load number = number == READ_FAILED
reports_fault sizes d meant.save number = is_failure number || (number == SETTINGS_WORN)
reports_fault sizes d m number = uses_images sizes d m && (is_failure number || (number == RECORD_WORN))

-- such an error that is found before any step is done: whatever breaks off a load, and a worn bank of settings
abbrev pub is_found_first : Meant → (number : ℕ) → Bool
is_found_first meant.load number = true
is_found_first m number = number == SETTINGS_WORN

-- the group of a request
abbrev pub group_of : Meant → ℕ
group_of m = (table (name_of m)).group

-- the reply that reports such an error
abbrev pub fault_reply : Meant → (number : ℕ) → Said
fault_reply m number = group_error (group_of m) number

-- What a request was broken off by, and the device after the reply that reports it.
pub record IsBrokenOff (sizes : Sizes) (d : AbstractDevice) (m : Meant) (number : ℕ) (e : AbstractDevice) : Type 0 where
  pub fault : IsTrue (reports_fault sizes d m number)
  pub reached : AbstractDevice
  pub part : Part d (does sizes d m).steps reached
  pub unchanged : IsTrue (is_found_first m number) → reached ≡ d
  pub device : e ≡ counted (fault_reply m number) reached

-- what may come of the bytes of a packet at which the flash fails or a record is worn
pub record IsHandledWithFault (sizes : Sizes) (d : AbstractDevice) (bytes : List ℕ) (h : Handled) : Type 0 where
  pub message : Message
  pub packet : packet bytes ≡ Some message
  pub request : Meant
  pub means : meaning message ≡ Ok request
  pub number : ℕ
  pub reply : h.reply ≡ Some (reply_bytes message (fault_reply request number))
  pub broken : IsBrokenOff sizes d request number h.device
