-- The lines of a schedule.
use Rattle.std.specs.Prelude.{ℕ, ◌+◌, nat_lt, if◌then◌else◌, List, [], ◌∷◌, Option, Some, None, codes}
use Rattle.std.specs.Option.{option_map, option_and_then}
use Rattle.std.specs.Str.{bytes_eq}
use Rattle.smp_flash.specs.declared.arm.Arm.{Arm}
use Rattle.smp_flash.specs.declared.arm.ArmKind.{ArmKind}
use Rattle.smp_flash.specs.declared.arm.ArmKind.TheVariants as kinds
use Rattle.smp_flash.specs.declared.arm.Left.{Left}
use Rattle.smp_flash.specs.declared.arm.Left.TheVariants as lefts
use Rattle.smp_flash.specs.declared.region.Region.{Region}
use Rattle.smp_flash.specs.declared.geometry.Geometry.{Geometry}
use Rattle.smp_flash.specs.Geometry.{is_lawful}
use Rattle.smp_schedule.specs.declared.event.Which.{Which}
use Rattle.smp_schedule.specs.declared.event.Which.TheVariants as which
use Rattle.smp_schedule.specs.declared.event.Event.{Event}
use Rattle.smp_schedule.specs.declared.event.Event.TheVariants as events
use Rattle.smp_schedule.specs.declared.flash_line.FlashLine.{FlashLine}
use Rattle.smp_schedule.specs.declared.job.JobWords.{JobWords}
use Rattle.smp_schedule.specs.Fields.{only}
use Rattle.smp_schedule.specs.Words.{word_in, number_in, hex_in, kind_in, region_in, left_in}
use Rattle.smp_schedule.specs.Jobs.{job_in}

-- A packet or reply: the newest, or one by its number.
abbrev pub which_in : List ℕ → Option Which
which_in bytes = if bytes_eq bytes (codes "new") then Some which.New else option_map which.Number (number_in 1 4294967295 bytes)

abbrev pub which_of : List (List ℕ) → Option Which
which_of fields = option_and_then which_in (only fields)

-- A client's number is one more than that of the one before, and at most 8.
abbrev pub client_with : Option ℕ → Option JobWords → Option Event
client_with (Some number) (Some job) = Some (events.Client number job)
client_with number job = None

abbrev pub client_of : ℕ → List (List ℕ) → Option Event
client_of clients [] = None
client_of clients (number ∷ fields) =
    if nat_lt clients 8 then client_with (number_in (clients + 1) (clients + 1) number) (job_in fields) else None

-- What the struck operation leaves; nothing is said of a read.
abbrev pub left_of : ArmKind → List (List ℕ) → Option Left
left_of kinds.Read [] = Some lefts.Nothing
left_of kinds.Read (field ∷ fields) = None
left_of kind fields = option_and_then left_in (only fields)

abbrev pub arm_left : ArmKind → Region → ℕ → Option Left → Option Arm
arm_left kind region after None = None
arm_left kind region after (Some left) = Some record { kind = kind; region = region; after = after; left = left }

abbrev pub arm_with : Option ArmKind → Option Region → Option ℕ → List (List ℕ) → Option Arm
arm_with (Some kind) (Some region) (Some after) fields = arm_left kind region after (left_of kind fields)
arm_with kind region after fields = None

abbrev pub arm_of : List (List ℕ) → Option Arm
arm_of (kind ∷ region ∷ after ∷ fields) = arm_with (kind_in kind) (region_in region) (number_in 1 1000000 after) fields
arm_of fields = None

abbrev pub boot_of : List (List ℕ) → Option Event
boot_of [] = Some events.Boot
boot_of (field ∷ fields) = None

-- the event of a line by its first word and its other fields, after so many clients
abbrev pub event_by : ℕ → List ℕ → List (List ℕ) → Option Event
event_by clients word fields =
    if bytes_eq word (codes "up") then option_map events.Up (which_of fields)
    else if bytes_eq word (codes "down") then option_map events.Down (which_of fields)
    else if bytes_eq word (codes "raw") then option_map events.Raw (option_and_then (hex_in 1 4096) (only fields))
    else if bytes_eq word (codes "quiet") then option_map events.Quiet (option_and_then (number_in 1 clients) (only fields))
    else if bytes_eq word (codes "arm") then option_map events.Armed (arm_of fields)
    else if bytes_eq word (codes "boot") then boot_of fields
    else if bytes_eq word (codes "client") then client_of clients fields
    else None

abbrev pub event_in : ℕ → List (List ℕ) → Option Event
event_in clients [] = None
event_in clients (word ∷ fields) = event_by clients word fields

-- The flash line.

abbrev pub geometry : ℕ → ℕ → ℕ → ℕ → Geometry
geometry page unit pages images = record { page = page; unit = unit; slot_pages = pages; images = images }

abbrev pub flash_line : Geometry → List ℕ → Option (List ℕ) → Option FlashLine
flash_line g image second = if is_lawful g then Some record { geometry = g; image = image; second = second } else None

abbrev pub flash_two : Geometry → Option (List ℕ) → Option (List ℕ) → Option FlashLine
flash_two g (Some image) (Some second) = flash_line g image (Some second)
flash_two g image second = None

abbrev pub flash_one : Geometry → Option (List ℕ) → Option FlashLine
flash_one g (Some image) = flash_line g image None
flash_one g None = None

-- one image, or two
abbrev pub flash_with : Option ℕ → Option ℕ → Option ℕ → List (List ℕ) → Option FlashLine
flash_with (Some page) (Some unit) (Some pages) (image ∷ []) = flash_one (geometry page unit pages 1) (word_in image)
flash_with (Some page) (Some unit) (Some pages) (image ∷ second ∷ []) = flash_two (geometry page unit pages 2) (word_in image) (word_in second)
flash_with page unit pages fields = None

abbrev pub flash_of : List (List ℕ) → Option FlashLine
flash_of (page ∷ unit ∷ pages ∷ fields) = flash_with (number_in 1 4096 page) (number_in 1 8 unit) (number_in 1 1024 pages) fields
flash_of fields = None

abbrev pub flash_by : List ℕ → List (List ℕ) → Option FlashLine
flash_by word fields = if bytes_eq word (codes "flash") then flash_of fields else None

abbrev pub flash_in : List (List ℕ) → Option FlashLine
flash_in [] = None
flash_in (word ∷ fields) = flash_by word fields
