-- What is written: the transcript of a replay, and the line of a sample.
use Rattle.std.specs.Prelude.{◌≡◌, ◌⊎◌, ℕ, List, [], ◌∷◌, length, Option, Some, None, option_map, Result, Ok, Err}
use Rattle.std.specs.Io.KnownBytes.{append_known}
use Rattle.smp_edge.specs.Faults.{next_call}
use Rattle.smp_edge.specs.Files.{Folder}
use Rattle.smp_edge.specs.Sink.{AppendsFront}
use Rattle.smp_model.specs.declared.image.ImageFault.{ImageFault}
use Rattle.smp_schedule.specs.declared.event.Event.{Event}
use Rattle.smp_schedule.specs.declared.event.Event.TheVariants as events
use Rattle.smp_schedule.specs.declared.flash_line.FlashLine.{FlashLine}
use Rattle.smp_schedule.specs.declared.job.JobWords.{JobWords}
use Rattle.smp_schedule.specs.declared.job.JobWords.TheVariants as jobs
use Rattle.smp_schedule.specs.Schedules.{Schedule, schedule}
use Rattle.smp_world.specs.Schedules.{IsReplay}
use Rattle.smp_app.specs.Loading.{IsLoaded, calls_after, file_fault, files_fault, first_of, names_of}
use Rattle.smp_app.specs.Making.{bad_image, misfits}
use Rattle.smp_app.specs.Words.{Asked, replays, asked_in}
use Rattle.smp_app.specs.declared.status.Status.{Status}
use Rattle.smp_app.specs.declared.status.Status.TheVariants.{Done, Usage, BadSchedule, BadImage, TooLong, FileFault, WriteFault, NoMemory}

-- The text is the transcript of the schedule in the file of that name.
pub record IsReplayOf (folder : Folder) (name text : List ℕ) : Type 0 where
  pub script : List ℕ
  pub loaded : IsLoaded folder name script
  pub said : Schedule
  pub spelled : schedule script ≡ Ok said
  pub replay : IsReplay folder said text

-- Its script was loaded once, and then each file as often as it is named.
pub record LoadsReplay (folder : Folder) (name : List ℕ) (before now : ℕ) : Type 0 where
  pub script : List ℕ
  pub loaded : IsLoaded folder name script
  pub said : Schedule
  pub spelled : schedule script ≡ Ok said
  pub calls : now ≡ calls_after (length (names_of said)) (next_call before)

-- What is written, by the status: the whole text or a front of it, or nothing.

abbrev pub WritesAll : (List ℕ → Type 0) → (old new : Option (List ℕ)) → Type 0
WritesAll IsText old new = (text : List ℕ) × IsText text × (new ≡ append_known old text)

abbrev pub WritesSome : (List ℕ → Type 0) → (old new : Option (List ℕ)) → Type 0
WritesSome IsText old new = (text : List ℕ) × IsText text × AppendsFront old new text

abbrev pub Prints : (List ℕ → Type 0) → Status → (old new : Option (List ℕ)) → Type 0
Prints IsText Done old new = WritesAll IsText old new
Prints IsText WriteFault old new = WritesSome IsText old new
Prints IsText NoMemory old new = (new ≡ old) ⊎ WritesSome IsText old new
Prints IsText Usage old new = new ≡ old
Prints IsText (BadSchedule line) old new = new ≡ old
Prints IsText (BadImage why) old new = new ≡ old
Prints IsText TooLong old new = new ≡ old
Prints IsText FileFault old new = new ≡ old

-- The status that words and files ask for, where the files are told.

abbrev pub bytes_by : Option (List ℕ) → List ℕ
bytes_by None = []
bytes_by (Some bytes) = bytes

abbrev pub line_misfit : (List ℕ → Option (List ℕ)) → Option FlashLine → Option ImageFault
line_misfit file None = None
line_misfit file (Some line) = misfits line.geometry (bytes_by (file line.image)) (option_map (λ name. bytes_by (file name)) line.second)

-- only an upload's file has to be an image
abbrev pub bad_job : (List ℕ → Option (List ℕ)) → JobWords → Option ImageFault
bad_job file (jobs.Upload image name chunk ending) = bad_image (bytes_by (file name))
bad_job file jobs.List = None
bad_job file (jobs.Set pairs) = None
bad_job file (jobs.Put name to) = None
bad_job file (jobs.Get name) = None
bad_job file (jobs.Echo text) = None

abbrev pub bad_jobs : (List ℕ → Option (List ℕ)) → List Event → Option ImageFault
bad_jobs file [] = None
bad_jobs file (events.Client number job ∷ later) = first_of (bad_job file job) (bad_jobs file later)
bad_jobs file (event ∷ later) = bad_jobs file later

-- the first image that is not good or does not fit: those of the flash line, and then those of uploads
abbrev pub bad_in : (List ℕ → Option (List ℕ)) → Schedule → Option ImageFault
bad_in file s = first_of (line_misfit file s.flash) (bad_jobs file s.events)

abbrev pub unless_bad : Option ImageFault → Status
unless_bad None = Done
unless_bad (Some why) = BadImage why

abbrev pub unless_fault : Option Status → Status → Status
unless_fault (Some fault) later = fault
unless_fault None later = later

-- all files are loaded before an image is tested
abbrev pub due_of_schedule : (List ℕ → Option (List ℕ)) → Schedule → Status
due_of_schedule file s = unless_fault (files_fault file (names_of s)) (unless_bad (bad_in file s))

abbrev pub due_of_read : (List ℕ → Option (List ℕ)) → Result Schedule ℕ → Status
due_of_read file (Ok s) = due_of_schedule file s
due_of_read file (Err line) = BadSchedule line

abbrev pub due_of_file : (List ℕ → Option (List ℕ)) → List ℕ → Status
due_of_file file name = unless_fault (file_fault (file name)) (due_of_read file (schedule (bytes_by (file name))))

abbrev pub due_of_replay : Folder → List ℕ → Option Status
due_of_replay None name = None
due_of_replay (Some file) name = Some (due_of_file file name)

abbrev pub due_of : Folder → Option Asked → Option Status
due_of folder None = Some Usage
due_of folder (Some (replays name)) = due_of_replay folder name

abbrev pub due : Folder → List (List ℕ) → Option Status
due folder words = due_of folder (asked_in words)

-- What may be answered in place of the due status: want of memory, and the fault of an object.
abbrev pub IsPrevented : Status → Type 0
IsPrevented Done = ⊥
IsPrevented Usage = ⊥
IsPrevented (BadSchedule line) = ⊥
IsPrevented (BadImage why) = ⊥
IsPrevented TooLong = ⊥
IsPrevented FileFault = Unit {0}
IsPrevented WriteFault = Unit {0}
IsPrevented NoMemory = Unit {0}

abbrev pub IsDueUnlessPrevented : Status → Status → Type 0
IsDueUnlessPrevented status asked = (status ≡ asked) ⊎ IsPrevented status

-- How the words end: with usage exactly where they are no command, and else as what they ask for.

-- what is printed of it
abbrev pub IsAskedText : Folder → Option Asked → List ℕ → Type 0
IsAskedText folder None text = ⊥
IsAskedText folder (Some (replays name)) text = IsReplayOf folder name text

abbrev pub IsTextOf : Folder → List (List ℕ) → List ℕ → Type 0
IsTextOf folder words text = IsAskedText folder (asked_in words) text

-- what is loaded for it
abbrev pub LoadsAsked : Folder → Option Asked → ℕ → ℕ → Type 0
LoadsAsked folder None before now = now ≡ before
LoadsAsked folder (Some (replays name)) before now = LoadsReplay folder name before now
