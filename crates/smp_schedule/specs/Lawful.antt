-- The schedules that the grammar has: each number is within its bounds, and each name is a word with no space.
use Rattle.std.specs.Prelude.{Bool, true, ◌≡◌, ◌==◌, not, ℕ, ◌+◌, ◌≤◌, List, [], ◌∷◌, length, Option, Some, None}
use Rattle.std.specs.List.{list_all}
use Rattle.std.specs.Option.{ForSome}
use Rattle.hex.specs.Hex.{IsBytes}
use Rattle.smp_flash.specs.declared.arm.Arm.{Arm}
use Rattle.smp_flash.specs.declared.arm.ArmKind.{ArmKind}
use Rattle.smp_flash.specs.declared.arm.ArmKind.TheVariants as kinds
use Rattle.smp_flash.specs.declared.arm.Left.{Left}
use Rattle.smp_flash.specs.declared.arm.Left.TheVariants as lefts
use Rattle.smp_flash.specs.Geometry.{is_lawful}
use Rattle.smp_model.specs.declared.setting.Setting.{Setting}
use Rattle.smp_schedule.specs.declared.event.Which.{Which}
use Rattle.smp_schedule.specs.declared.event.Which.TheVariants as which
use Rattle.smp_schedule.specs.declared.event.Event.{Event}
use Rattle.smp_schedule.specs.declared.event.Event.TheVariants as events
use Rattle.smp_schedule.specs.declared.flash_line.FlashLine.{FlashLine}
use Rattle.smp_schedule.specs.declared.job.JobWords.{JobWords}
use Rattle.smp_schedule.specs.declared.job.JobWords.TheVariants as jobs
use Rattle.smp_schedule.specs.Words.{is_word}
use Rattle.smp_schedule.specs.Schedules.{Schedule, clients_after}

abbrev pub IsBetween : ℕ → ℕ → ℕ → Type 0
IsBetween low high n = (low ≤ n) × (n ≤ high)

abbrev pub is_no_space : ℕ → Bool
is_no_space b = not (b == 32)

-- a word with no space
abbrev pub IsField : List ℕ → Type 0
IsField bytes = (is_word bytes ≡ true) × (list_all is_no_space bytes ≡ true)

-- of at most so many bytes
abbrev pub IsName : ℕ → List ℕ → Type 0
IsName most bytes = IsField bytes × (length bytes ≤ most)

-- so many bytes, in hex
abbrev pub IsSized : ℕ → ℕ → List ℕ → Type 0
IsSized low high bytes = IsBytes bytes × IsBetween low high (length bytes)

abbrev pub IsWhich : Which → Type 0
IsWhich which.New = Unit {0}
IsWhich (which.Number n) = IsBetween 1 4294967295 n

abbrev pub IsPair : Setting → Type 0
IsPair pair = IsName 32 pair.name × IsSized 0 128 pair.val

abbrev pub ArePairs : List Setting → Type 0
ArePairs [] = Unit {0}
ArePairs (pair ∷ pairs) = IsPair pair × ArePairs pairs

abbrev pub IsJob : JobWords → Type 0
IsJob (jobs.Upload image file chunk ending) = (image ≤ 1) × IsField file × IsBetween 32 1900 chunk
IsJob jobs.List = Unit {0}
IsJob (jobs.Set pairs) = IsBetween 1 254 (length pairs) × ArePairs pairs
IsJob (jobs.Put file name) = IsField file × IsName 64 name
IsJob (jobs.Get name) = IsName 64 name
IsJob (jobs.Echo text) = IsName 1024 text

-- an armed read leaves nothing
abbrev pub IsLeft : ArmKind → Left → Type 0
IsLeft kinds.Read left = left ≡ lefts.Nothing
IsLeft kind (lefts.Seed n) = n ≤ 4294967295
IsLeft kind left = Unit {0}

abbrev pub IsArm : Arm → Type 0
IsArm arm = IsBetween 1 1000000 arm.after × IsLeft arm.kind arm.left

-- an event after so many clients
abbrev pub IsEvent : ℕ → Event → Type 0
IsEvent clients (events.Client number job) = (number ≡ clients + 1) × (number ≤ 8) × IsJob job
IsEvent clients (events.Raw bytes) = IsSized 1 4096 bytes
IsEvent clients (events.Up packet) = IsWhich packet
IsEvent clients (events.Down reply) = IsWhich reply
IsEvent clients (events.Quiet number) = IsBetween 1 clients number
IsEvent clients (events.Armed arm) = IsArm arm
IsEvent clients events.Boot = Unit {0}

abbrev pub AreEvents : ℕ → List Event → Type 0
AreEvents clients [] = Unit {0}
AreEvents clients (event ∷ later) = IsEvent clients event × AreEvents (clients_after event clients) later

abbrev pub IsSecond : ℕ → Option (List ℕ) → Type 0
IsSecond images None = images ≡ 1
IsSecond images (Some second) = (images ≡ 2) × IsField second

abbrev pub IsFlash : FlashLine → Type 0
IsFlash flash = (is_lawful flash.geometry ≡ true) × IsField flash.image × IsSecond flash.geometry.images flash.second

pub record IsLawful (s : Schedule) : Type 0 where
  pub flash : ForSome s.flash IsFlash
  pub events : AreEvents 0 s.events
  pub count : length s.events ≤ 100000
