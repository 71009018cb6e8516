-- The one text that a schedule is written as: a line for each event, with one space between two fields, no lines that are skipped,
-- and hex in lower case.
use Rattle.std.specs.Prelude.{ℕ, ◌==◌, if◌then◌else◌, List, [], ◌∷◌, ◌++◌, Option, Some, None, codes}
use Rattle.std.specs.Option.{option_to_list}
use Rattle.std.specs.Fmt.{decimal}
use Rattle.hex.specs.Hex.{encode_lower}
use Rattle.smp_flash.specs.declared.arm.Arm.{Arm}
use Rattle.smp_flash.specs.declared.arm.ArmKind.{ArmKind}
use Rattle.smp_flash.specs.declared.arm.ArmKind.TheVariants as kinds
use Rattle.smp_flash.specs.declared.arm.Left.{Left}
use Rattle.smp_flash.specs.declared.arm.Left.TheVariants as lefts
use Rattle.smp_model.specs.declared.setting.Setting.{Setting}
use Rattle.smp_schedule.specs.declared.event.Which.{Which}
use Rattle.smp_schedule.specs.declared.event.Which.TheVariants as which
use Rattle.smp_schedule.specs.declared.event.Event.{Event}
use Rattle.smp_schedule.specs.declared.event.Event.TheVariants as events
use Rattle.smp_schedule.specs.declared.flash_line.FlashLine.{FlashLine}
use Rattle.smp_schedule.specs.declared.job.JobWords.{JobWords}
use Rattle.smp_schedule.specs.declared.job.JobWords.TheVariants as jobs
use Rattle.smp_schedule.specs.Words.{region_word, kind_word, ending_word}
use Rattle.smp_schedule.specs.Schedules.{Schedule}

-- the fields behind the first, each with a space in front of it, and the end of the line
abbrev pub ended : List (List ℕ) → List ℕ
ended [] = codes "\n"
ended (field ∷ fields) = 32 ∷ field ++ ended fields

-- a line of some fields
abbrev pub line_of : List (List ℕ) → List ℕ
line_of [] = codes "\n"
line_of (field ∷ fields) = field ++ ended fields

-- The fields of an event's line.

abbrev pub which_word : Which → List ℕ
which_word which.New = codes "new"
which_word (which.Number n) = decimal n

abbrev pub left_word : Left → List ℕ
left_word lefts.Nothing = codes "none"
left_word lefts.Whole = codes "all"
left_word (lefts.Seed n) = decimal n

-- nothing is said of what a read leaves
abbrev pub left_words : ArmKind → Left → List (List ℕ)
left_words kinds.Read left = []
left_words kind left = left_word left ∷ []

abbrev pub arm_words : Arm → List (List ℕ)
arm_words arm = kind_word arm.kind ∷ region_word arm.region ∷ decimal arm.after ∷ left_words arm.kind arm.left

-- image 0 is not said
abbrev pub image_words : ℕ → List (List ℕ)
image_words image = if image == 0 then [] else decimal image ∷ []

-- `-` is the empty value
abbrev pub value_word : List ℕ → List ℕ
value_word [] = codes "-"
value_word (b ∷ bytes) = encode_lower (b ∷ bytes)

abbrev pub pair_words : List Setting → List (List ℕ)
pair_words [] = []
pair_words (pair ∷ pairs) = pair.name ∷ value_word pair.val ∷ pair_words pairs

abbrev pub job_words : JobWords → List (List ℕ)
job_words (jobs.Upload image file chunk ending) = codes "upload" ∷ file ∷ decimal chunk ∷ ending_word ending ∷ image_words image
job_words jobs.List = codes "list" ∷ []
job_words (jobs.Set pairs) = codes "set" ∷ pair_words pairs
job_words (jobs.Put file name) = codes "put" ∷ file ∷ name ∷ []
job_words (jobs.Get name) = codes "get" ∷ name ∷ []
job_words (jobs.Echo text) = codes "echo" ∷ text ∷ []

-- the front of a client's line, as far as the first word of its job
abbrev pub client_start : ℕ → List ℕ → List ℕ
client_start number job = codes "client" ++ (32 ∷ decimal number) ++ (32 ∷ job)

abbrev pub event_words : Event → List (List ℕ)
event_words (events.Client number job) = codes "client" ∷ decimal number ∷ job_words job
event_words (events.Raw bytes) = codes "raw" ∷ encode_lower bytes ∷ []
event_words (events.Up packet) = codes "up" ∷ which_word packet ∷ []
event_words (events.Down reply) = codes "down" ∷ which_word reply ∷ []
event_words (events.Quiet number) = codes "quiet" ∷ decimal number ∷ []
event_words (events.Armed arm) = codes "arm" ∷ arm_words arm
event_words events.Boot = codes "boot" ∷ []

abbrev pub flash_words : FlashLine → List (List ℕ)
flash_words flash =
    codes "flash" ∷ decimal flash.geometry.page ∷ decimal flash.geometry.unit ∷ decimal flash.geometry.slot_pages
    ∷ flash.image ∷ option_to_list flash.second

-- The text.

abbrev pub event_lines : List Event → List ℕ
event_lines [] = []
event_lines (event ∷ later) = line_of (event_words event) ++ event_lines later

abbrev pub flash_text : Option FlashLine → List ℕ
flash_text None = []
flash_text (Some flash) = line_of (flash_words flash)

-- The text of a schedule.
abbrev pub schedule_text : Schedule → List ℕ
schedule_text s = flash_text s.flash ++ event_lines s.events
