-- The words of a job, as a schedule and a command line give them.
use Rattle.std.specs.Prelude.{ℕ, nat_le, if◌then◌else◌, List, [], ◌∷◌, length, Option, Some, None, codes}
use Rattle.std.specs.Option.{option_map, option_and_then}
use Rattle.std.specs.Str.{bytes_eq}
use Rattle.smp_model.specs.declared.setting.Setting.{Setting}
use Rattle.smp_model.specs.declared.upload.Ending.{Ending}
use Rattle.smp_schedule.specs.declared.job.JobWords.{JobWords}
use Rattle.smp_schedule.specs.declared.job.JobWords.TheVariants as jobs
use Rattle.smp_schedule.specs.Words.{word_in, name_in, number_in, hex_in, ending_in}
use Rattle.smp_schedule.specs.Fields.{only}

-- the bytes of a chunk: 32 to 1900
abbrev pub chunk_in : List ℕ → Option ℕ
chunk_in bytes = number_in 32 1900 bytes

-- behind the ending: nothing for image 0, and `1` for image 1
abbrev pub image_in : List (List ℕ) → Option ℕ
image_in [] = Some 0
image_in (field ∷ []) = number_in 1 1 field
image_in (field ∷ next ∷ fields) = None

abbrev pub upload_file : ℕ → ℕ → Ending → Option (List ℕ) → Option JobWords
upload_file image chunk ending None = None
upload_file image chunk ending (Some file) = Some (jobs.Upload image file chunk ending)

abbrev pub upload_with : Option ℕ → Option ℕ → Option Ending → Option (List ℕ) → Option JobWords
upload_with (Some image) (Some chunk) (Some ending) file = upload_file image chunk ending file
upload_with image chunk ending file = None

abbrev pub upload_in : List (List ℕ) → Option JobWords
upload_in (file ∷ chunk ∷ ending ∷ more) = upload_with (image_in more) (chunk_in chunk) (ending_in ending) (word_in file)
upload_in fields = None

abbrev pub list_in : List (List ℕ) → Option JobWords
list_in [] = Some jobs.List
list_in (field ∷ fields) = None

-- `-` is the empty value
abbrev pub value_in : List ℕ → Option (List ℕ)
value_in bytes = if bytes_eq bytes (codes "-") then Some [] else hex_in 1 128 bytes

abbrev pub setting : List ℕ → List ℕ → Setting
setting name val = record { name = name; val = val }

abbrev pub pair_in : Option (List ℕ) → Option (List ℕ) → Option Setting
pair_in (Some name) (Some val) = Some (setting name val)
pair_in name val = None

abbrev pub with_pair : Option Setting → Option (List Setting) → Option (List Setting)
with_pair (Some pair) (Some pairs) = Some (pair ∷ pairs)
with_pair pair pairs = None

-- the settings of names and values by turns
abbrev pub pairs_in : List (List ℕ) → Option (List Setting)
pairs_in [] = Some []
pairs_in (name ∷ []) = None
pairs_in (name ∷ val ∷ fields) = with_pair (pair_in (name_in 32 name) (value_in val)) (pairs_in fields)

-- 1 to 254 of them
abbrev pub set_with : List Setting → Option JobWords
set_with [] = None
set_with (pair ∷ pairs) = if nat_le (length pairs) 253 then Some (jobs.Set (pair ∷ pairs)) else None

abbrev pub set_in : List (List ℕ) → Option JobWords
set_in fields = option_and_then set_with (pairs_in fields)

abbrev pub put_with : Option (List ℕ) → Option (List ℕ) → Option JobWords
put_with (Some file) (Some name) = Some (jobs.Put file name)
put_with file name = None

abbrev pub put_in : List (List ℕ) → Option JobWords
put_in (file ∷ name ∷ []) = put_with (word_in file) (name_in 64 name)
put_in fields = None

abbrev pub get_in : List (List ℕ) → Option JobWords
get_in fields = option_map jobs.Get (option_and_then (name_in 64) (only fields))

abbrev pub echo_in : List (List ℕ) → Option JobWords
echo_in fields = option_map jobs.Echo (option_and_then (name_in 1024) (only fields))

abbrev pub job_by : List ℕ → List (List ℕ) → Option JobWords
job_by word fields =
    if bytes_eq word (codes "upload") then upload_in fields
    else if bytes_eq word (codes "list") then list_in fields
    else if bytes_eq word (codes "set") then set_in fields
    else if bytes_eq word (codes "put") then put_in fields
    else if bytes_eq word (codes "get") then get_in fields
    else if bytes_eq word (codes "echo") then echo_in fields
    else None

-- the job that some words spell
abbrev pub job_in : List (List ℕ) → Option JobWords
job_in [] = None
job_in (word ∷ fields) = job_by word fields
