-- What a schedule names, loaded from files in the order of its lines.
use Rattle.std.specs.Prelude.{◌≡◌, ◌≤◌, ◌++◌, nat_lt, if◌then◌else◌, ℕ, zero, suc, List, [], ◌∷◌, length, Option, Some, None, Result, Ok, Err, IfSome}
use Rattle.smp_edge.specs.Faults.{next_call}
use Rattle.smp_edge.specs.Files.{Folder, HoldsFile}
use Rattle.smp_schedule.specs.declared.event.Event.{Event}
use Rattle.smp_schedule.specs.declared.event.Event.TheVariants as events
use Rattle.smp_schedule.specs.declared.flash_line.FlashLine.{FlashLine}
use Rattle.smp_schedule.specs.declared.job.JobWords.{JobWords}
use Rattle.smp_schedule.specs.declared.job.JobWords.TheVariants as jobs
use Rattle.smp_schedule.specs.Schedules.{Schedule, schedule}
use Rattle.smp_app.specs.declared.loading.Client.{Client}
use Rattle.smp_app.specs.declared.loading.Images.{Images}
use Rattle.smp_app.specs.declared.status.Status.{Status}
use Rattle.smp_app.specs.declared.status.Status.TheVariants.{Done, Usage, BadSchedule, BadImage, TooLong, FileFault, WriteFault, NoMemory}

-- the most bytes of a file that is loaded
abbrev pub most_loaded : ℕ
most_loaded = 8388608

-- The names of files.

abbrev pub names_of_job : JobWords → List (List ℕ)
names_of_job (jobs.Upload image file chunk ending) = file ∷ []
names_of_job jobs.List = []
names_of_job (jobs.Set pairs) = []
names_of_job (jobs.Put file name) = file ∷ []
names_of_job (jobs.Get name) = []
names_of_job (jobs.Echo text) = []

abbrev pub names_of_event : Event → List (List ℕ)
names_of_event (events.Client number job) = names_of_job job
names_of_event event = []

abbrev pub names_in : List Event → List (List ℕ)
names_in [] = []
names_in (event ∷ later) = names_of_event event ++ names_in later

abbrev pub second_names : Option (List ℕ) → List (List ℕ)
second_names None = []
second_names (Some name) = name ∷ []

abbrev pub names_of_line : FlashLine → List (List ℕ)
names_of_line line = line.image ∷ second_names line.second

abbrev pub names_of_flash : Option FlashLine → List (List ℕ)
names_of_flash None = []
names_of_flash (Some line) = names_of_line line

-- the files that a schedule names, each as often as it is named
abbrev pub names_of : Schedule → List (List ℕ)
names_of s = names_of_flash s.flash ++ names_in s.events

-- Why files can't be loaded: one is missing, or too long.

abbrev pub file_fault : Option (List ℕ) → Option Status
file_fault None = Some FileFault
file_fault (Some bytes) = if nat_lt most_loaded (length bytes) then Some TooLong else None

abbrev pub first_of : {A : Type 0} → Option A → Option A → Option A
first_of (Some fault) later = Some fault
first_of None later = later

-- that of the first of them that can't be
abbrev pub files_fault : (List ℕ → Option (List ℕ)) → List (List ℕ) → Option Status
files_fault file [] = None
files_fault file (name ∷ names) = first_of (file_fault (file name)) (files_fault file names)

abbrev pub HaveFault : Folder → List (List ℕ) → Option Status → Type 0
HaveFault folder names fault = IfSome folder (λ file. files_fault file names ≡ fault)

-- What loading them answers. The object may fail at any of them.
abbrev pub LoadsAll : {T : Type 0} → Folder → List (List ℕ) → Result T Status → Type 0
LoadsAll folder names (Ok x) = HaveFault folder names None
LoadsAll folder names (Err TooLong) = HaveFault folder names (Some TooLong)
LoadsAll folder names (Err FileFault) = Unit {0}
LoadsAll folder names (Err NoMemory) = Unit {0}
LoadsAll folder names (Err Done) = ⊥
LoadsAll folder names (Err Usage) = ⊥
LoadsAll folder names (Err (BadSchedule line)) = ⊥
LoadsAll folder names (Err (BadImage why)) = ⊥
LoadsAll folder names (Err WriteFault) = ⊥

-- What is loaded.

-- the file of that name, which is not too long
abbrev pub IsLoaded : Folder → List ℕ → List ℕ → Type 0
IsLoaded folder name bytes = HoldsFile folder name bytes × (length bytes ≤ most_loaded)

-- the second image, where the line names one
abbrev pub IsSecondLoaded : Folder → Option (List ℕ) → Option (List ℕ) → Type 0
IsSecondLoaded folder None None = Unit {0}
IsSecondLoaded folder (Some name) (Some bytes) = IsLoaded folder name bytes
IsSecondLoaded folder None (Some bytes) = ⊥
IsSecondLoaded folder (Some name) None = ⊥

-- the sizes and the images of a flash line
pub record AreImages (folder : Folder) (line : FlashLine) (images : Images) : Type 0 where
  pub geometry : images.geometry ≡ line.geometry
  pub first : IsLoaded folder line.image images.first
  pub second : IsSecondLoaded folder line.second images.second

-- the file that a job's words name, where they name one
abbrev pub IsFileOf : Folder → JobWords → List ℕ → Type 0
IsFileOf folder (jobs.Upload image file chunk ending) bytes = IsLoaded folder file bytes
IsFileOf folder jobs.List bytes = length bytes ≤ most_loaded
IsFileOf folder (jobs.Set pairs) bytes = length bytes ≤ most_loaded
IsFileOf folder (jobs.Put file name) bytes = IsLoaded folder file bytes
IsFileOf folder (jobs.Get name) bytes = length bytes ≤ most_loaded
IsFileOf folder (jobs.Echo text) bytes = length bytes ≤ most_loaded

-- a client with these words and their file
abbrev pub IsClient : Folder → JobWords → Client → Type 0
IsClient folder words client = (client.words.now ≡ words) × IsFileOf folder words client.file

-- one for each client's line, in their order
abbrev pub AreClients : Folder → List Event → List Client → Type 0
AreClients folder [] [] = Unit {0}
AreClients folder [] (client ∷ clients) = ⊥
AreClients folder (events.Client number job ∷ later) [] = ⊥
AreClients folder (events.Client number job ∷ later) (client ∷ clients) = IsClient folder job client × AreClients folder later clients
AreClients folder (event ∷ later) clients = AreClients folder later clients

-- Counts.

-- the files' count of answered loads after so many more
abbrev pub calls_after : ℕ → ℕ → ℕ
calls_after zero calls = calls
calls_after (suc n) calls = calls_after n (next_call calls)

-- What loading a schedule by its name answers.
abbrev pub LoadsSchedule : Folder → List ℕ → Result Schedule Status → Type 0
LoadsSchedule folder name (Ok s) = (text : List ℕ) × IsLoaded folder name text × (schedule text ≡ Ok s)
LoadsSchedule folder name (Err (BadSchedule line)) = (text : List ℕ) × IsLoaded folder name text × (schedule text ≡ Err line)
LoadsSchedule folder name (Err TooLong) = HaveFault folder (name ∷ []) (Some TooLong)
LoadsSchedule folder name (Err FileFault) = Unit {0}
LoadsSchedule folder name (Err NoMemory) = Unit {0}
LoadsSchedule folder name (Err Done) = ⊥
LoadsSchedule folder name (Err Usage) = ⊥
LoadsSchedule folder name (Err (BadImage why)) = ⊥
LoadsSchedule folder name (Err WriteFault) = ⊥
