-- What is refused of an upload request before the flash is looked at.
use Rattle.std.specs.Prelude.{◌≡◌, ℕ, List, length, Option, Some, None, Result, Ok, Err, not, nat_lt, if◌then◌else◌}
use Rattle.smp_flash.specs.Geometry.{slot_size}
use Rattle.smp_flash.specs.declared.geometry.Geometry.{Geometry}
use Rattle.smp_model.specs.declared.device.Sizes.{Sizes}
use Rattle.smp_model.specs.declared.error.TheConstants.{NO_LENGTH, INVALID_DIGEST, IMAGE_TOO_LARGE, INVALID_HEADER, WRONG_MAGIC}
use Rattle.smp_model.specs.declared.upload.Announcement.{Announcement}
use Rattle.smp_model.specs.ImageGroup.{has_wrong_size, begins_with_magic}

-- the sizes by which the abstract device answers
abbrev pub sizes_of : Geometry → Sizes
sizes_of g = record { unit = g.unit; page = g.page; slot = slot_size g }

-- the first fault in the fields of a start, where so many bytes have room
abbrev pub start_fault : (room : ℕ) → Option ℕ → Option (List ℕ) → List ℕ → Option ℕ
start_fault room None sha bytes = Some NO_LENGTH
start_fault room (Some len) sha bytes =
    if has_wrong_size sha then Some INVALID_DIGEST
    else if nat_lt room len then Some IMAGE_TOO_LARGE
    else if nat_lt (length bytes) 32 then Some INVALID_HEADER
    else if not (begins_with_magic bytes) then Some WRONG_MAGIC
    else None

-- what a start announces, or its first fault
abbrev pub Announces : (room : ℕ) → Option ℕ → Option (List ℕ) → List ℕ → Result Announcement ℕ → Type 0
Announces room len sha bytes (Err number) = start_fault room len sha bytes ≡ Some number
Announces room len sha bytes (Ok a) = (start_fault room len sha bytes ≡ None) × (len ≡ Some a.length) × (sha ≡ a.digest)
