-- What a table of files holds, and what it makes of a part of a file, in the words of the abstract device.
use Rattle.std.specs.Prelude.{◌≡◌, ◌+◌, ◌≤◌, ℕ, List, ◌∷◌, ◌++◌, length, true, None, Result, Ok, Err}
use Rattle.smp_model.specs.declared.device.AbstractDevice.{AbstractDevice}
use Rattle.smp_model.specs.declared.device.StoredFile.{StoredFile}
use Rattle.smp_model.specs.declared.error.TheConstants.{INVALID_VALUE, FILE_NAME_LENGTH, NO_SUCH_FILE, NO_FREE_FILE, FILE_TOO_LONG, PAST_FILE_END}
use Rattle.smp_model.specs.Consistent.{are_files}
use Rattle.smp_model.specs.FileGroup.{refuses_file, continues_file}
use Rattle.smp_model.specs.Response.{Response}
use Rattle.smp_model.specs.Said as said
use Rattle.smp_model.specs.Said.{Said}
use Rattle.smp_model.specs.Steps.{Step, applied}
use Rattle.smp_files.specs.declared.fault.FileFault.{FileFault}
use Rattle.smp_files.specs.declared.fault.FileFault.TheVariants.{NameLength, NoLength, TooLong, PastEnd, NoFree, NoFile}

-- the files are within the limits, there is memory for 8, and both lists have room for as many
pub record TableHolds (files : List StoredFile) (file_room spare spare_room : ℕ) : Type 0 where
  pub lawful : are_files files ≡ true
  pub memory : length files + spare ≡ 8
  pub files_fit : 8 ≤ file_room
  pub spare_fit : 8 ≤ spare_room

-- the reply to a part that was answered so
abbrev pub written_reply : Result ℕ FileFault → Said
written_reply (Ok off) = said.offset off None
written_reply (Err NameLength) = (refuses_file FILE_NAME_LENGTH).reply
written_reply (Err NoLength) = said.smp_error INVALID_VALUE
written_reply (Err TooLong) = (refuses_file FILE_TOO_LONG).reply
written_reply (Err PastEnd) = (refuses_file PAST_FILE_END).reply
written_reply (Err NoFree) = (refuses_file NO_FREE_FILE).reply
written_reply (Err NoFile) = (refuses_file NO_SUCH_FILE).reply

-- the steps lead every device of the old files to the new ones, and change nothing else of it
abbrev pub StepsLead : List Step → List StoredFile → List StoredFile → Type 0
StepsLead steps old new = (d : AbstractDevice) → d.files ≡ old → applied steps d ≡ record d { files = new }

-- A part was answered as the device responds, and the files are as its steps make them.
pub record Responds (response : Response) (result : Result ℕ FileFault) (old new : List StoredFile) : Type 0 where
  pub reply : response.reply ≡ written_reply result
  pub steps : StepsLead response.steps old new

-- the same of the file at a place
abbrev pub GoesOn : (at off : ℕ) (part : List ℕ) → Result ℕ FileFault → List StoredFile → List StoredFile → Type 0
GoesOn at off part result old new = (f : StoredFile) (front rest : List StoredFile) → old ≡ front ++ f ∷ rest → at ≡ length front
    → Responds (continues_file off part f) result old new
