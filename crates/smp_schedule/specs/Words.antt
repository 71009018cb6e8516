-- The words of a schedule: what each spells. A word that is a name, a number or one of a table is spelled in one way; the digits
-- of hex may be in either case.
use Rattle.std.specs.Prelude.{Bool, ◌==◌, ◌&&◌, not, ℕ, nat_le, if◌then◌else◌, List, [], ◌∷◌, length, Option, Some, None, codes, find}
use Rattle.std.specs.List.{list_all}
use Rattle.std.specs.Option.{option_and_then}
use Rattle.std.specs.Result.{result_ok}
use Rattle.std.specs.Str.{is_utf8, bytes_eq}
use Rattle.std.specs.Str.Parse.{digits_value}
use Rattle.std.specs.Fmt.{decimal}
use Rattle.hex.specs.Hex.{decode_of}
use Rattle.smp_flash.specs.declared.arm.ArmKind.{ArmKind}
use Rattle.smp_flash.specs.declared.arm.ArmKind.TheVariants as kinds
use Rattle.smp_flash.specs.declared.arm.Left.{Left}
use Rattle.smp_flash.specs.declared.arm.Left.TheVariants as lefts
use Rattle.smp_flash.specs.declared.region.Region.{Region}
use Rattle.smp_flash.specs.declared.region.Region.TheVariants as regions
use Rattle.smp_model.specs.declared.upload.Ending.{Ending}
use Rattle.smp_model.specs.declared.upload.Ending.TheVariants as endings

-- Names.

abbrev pub is_plain : ℕ → Bool
is_plain b = nat_le 32 b && not (b == 127)

-- a word has at least one byte, is text, and has no control characters; within a line it has no space either
abbrev pub is_word : List ℕ → Bool
is_word bytes = nat_le 1 (length bytes) && (is_utf8 bytes && list_all is_plain bytes)

-- a word of at most so many bytes
abbrev pub name_in : ℕ → List ℕ → Option (List ℕ)
name_in most bytes = if nat_le (length bytes) most && is_word bytes then Some bytes else None

abbrev pub word_in : List ℕ → Option (List ℕ)
word_in bytes = if is_word bytes then Some bytes else None

-- Numbers: a word is a number where it is the decimal of it, so with no sign and no leading zero.

abbrev pub is_number : ℕ → ℕ → ℕ → List ℕ → Bool
is_number low high n bytes = bytes_eq (decimal n) bytes && (nat_le low n && nat_le n high)

abbrev pub number_in : ℕ → ℕ → List ℕ → Option ℕ
number_in low high bytes = if is_number low high (digits_value 10 bytes) bytes then Some (digits_value 10 bytes) else None

-- Bytes in hex.

abbrev pub sized : ℕ → ℕ → List ℕ → Option (List ℕ)
sized low high bytes = if nat_le low (length bytes) && nat_le (length bytes) high then Some bytes else None

abbrev pub hex_in : ℕ → ℕ → List ℕ → Option (List ℕ)
hex_in low high digits = option_and_then (sized low high) (result_ok (decode_of digits))

-- Words of tables.

abbrev pub region_word : Region → List ℕ
region_word regions.Any = codes "any"
region_word regions.Slot0 = codes "slot0"
region_word regions.Slot1 = codes "slot1"
region_word regions.Progress = codes "progress"
region_word regions.Scratch = codes "scratch"
region_word regions.Settings = codes "settings"
region_word regions.ProgressGate = codes "progress-gate"
region_word regions.SettingsGate = codes "settings-gate"
region_word regions.Slot2 = codes "slot2"
region_word regions.Slot3 = codes "slot3"
region_word regions.Progress2 = codes "progress2"
region_word regions.Progress2Gate = codes "progress2-gate"
region_word regions.Scratch2 = codes "scratch2"

-- those of image 0 and of both, and those of image 1
abbrev pub first_regions : List Region
first_regions = regions.Any ∷ regions.Slot0 ∷ regions.Slot1 ∷ regions.Progress ∷ regions.Scratch ∷ regions.Settings
    ∷ regions.ProgressGate ∷ regions.SettingsGate ∷ []

abbrev pub second_regions : List Region
second_regions = regions.Slot2 ∷ regions.Slot3 ∷ regions.Progress2 ∷ regions.Progress2Gate ∷ regions.Scratch2 ∷ []

abbrev pub region_among : List Region → List ℕ → Option Region
region_among those bytes = find (λ region. bytes_eq bytes (region_word region)) those

abbrev pub or_else : Option Region → Option Region → Option Region
or_else (Some region) other = Some region
or_else None other = other

abbrev pub region_in : List ℕ → Option Region
region_in bytes = or_else (region_among first_regions bytes) (region_among second_regions bytes)

abbrev pub kind_word : ArmKind → List ℕ
kind_word kinds.Cut = codes "cut"
kind_word kinds.Fail = codes "fail"
kind_word kinds.Read = codes "read"

abbrev pub kind_in : List ℕ → Option ArmKind
kind_in bytes = find (λ kind. bytes_eq bytes (kind_word kind)) (kinds.Cut ∷ kinds.Fail ∷ kinds.Read ∷ [])

abbrev pub seed_in : Option ℕ → Option Left
seed_in None = None
seed_in (Some n) = Some (lefts.Seed n)

abbrev pub left_in : List ℕ → Option Left
left_in bytes =
    if bytes_eq bytes (codes "none") then Some lefts.Nothing
    else if bytes_eq bytes (codes "all") then Some lefts.Whole
    else seed_in (number_in 0 4294967295 bytes)

abbrev pub ending_word : Ending → List ℕ
ending_word endings.Only = codes "only"
ending_word endings.Test = codes "test"
ending_word endings.Confirm = codes "confirm"

abbrev pub ending_in : List ℕ → Option Ending
ending_in bytes = find (λ ending. bytes_eq bytes (ending_word ending)) (endings.Only ∷ endings.Test ∷ endings.Confirm ∷ [])
