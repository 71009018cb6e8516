-- What a schedule says of a run: the flash with its images, the jobs of its clients, and the events. A schedule names files; what
-- they hold is told by a folder, and one that is not told may have held any bytes.
use Rattle.std.specs.Prelude.{◌≡◌, ℕ, List, [], ◌∷◌, Option, Some, None}
use Rattle.std.specs.Option.{option_map}
use Rattle.smp_edge.specs.Files.{Folder, HoldsFile}
use Rattle.smp_flash.specs.declared.geometry.Geometry.{Geometry}
use Rattle.smp_model.specs.declared.image.ImageInfo.{ImageInfo}
use Rattle.smp_model.specs.declared.upload.Ending.{Ending}
use Rattle.smp_model.specs.Image.{good_image, default_image}
use Rattle.smp_jobs.specs.Jobs.{Job, uploads, lists, sets, puts, gets, echoes, upload_job}
use Rattle.smp_device.specs.Uploads.{sizes_of}
use Rattle.smp_schedule.specs.declared.event.Event.{Event as Said}
use Rattle.smp_schedule.specs.declared.event.Event.TheVariants as said
use Rattle.smp_schedule.specs.declared.event.Which.{Which as SaidWhich}
use Rattle.smp_schedule.specs.declared.event.Which.TheVariants as which
use Rattle.smp_schedule.specs.declared.flash_line.FlashLine.{FlashLine}
use Rattle.smp_schedule.specs.declared.job.JobWords.{JobWords}
use Rattle.smp_schedule.specs.declared.job.JobWords.TheVariants as words
use Rattle.smp_schedule.specs.Schedules.{Schedule}
use Rattle.smp_world.specs.Runs.{Event, begins, raw, up, down, quiet, arms, boot, Which, new, number, nth, IsTranscript}

-- The flash.

-- where no line gives one
abbrev pub default_geometry : Geometry
default_geometry = record { page = 512; unit = 8; slot_pages = 16; images = 1 }

-- the second image, where the line names one
abbrev pub IsSecond : Folder → Option (List ℕ) → Option (List ℕ) → Type 0
IsSecond folder None None = Unit {0}
IsSecond folder (Some name) (Some image) = HoldsFile folder name image
IsSecond folder None (Some image) = ⊥
IsSecond folder (Some name) None = ⊥

pub record Flash : Type 0 where
  pub geometry : Geometry
  pub image : List ℕ
  pub second : Option (List ℕ)

abbrev pub default_flash : Flash
default_flash = record { geometry = default_geometry; image = default_image; second = None }

pub record IsOfLine (folder : Folder) (line : FlashLine) (f : Flash) : Type 0 where
  pub geometry : f.geometry ≡ line.geometry
  pub image : HoldsFile folder line.image f.image
  pub second : IsSecond folder line.second f.second

-- the flash that a schedule begins with: its line's, or the one that is chosen here
abbrev pub IsFlash : Folder → Option FlashLine → Flash → Type 0
IsFlash folder None f = f ≡ default_flash
IsFlash folder (Some line) f = IsOfLine folder line f

-- Jobs.

-- the upload of a file that is a good image, whose hash a mark names
pub record IsUploadOf (folder : Folder) (image : ℕ) (file : List ℕ) (chunk : ℕ) (ending : Ending) (job : Job) : Type 0 where
  pub bytes : List ℕ
  pub holds : HoldsFile folder file bytes
  pub info : ImageInfo
  pub good : good_image bytes ≡ Some info
  pub is : job ≡ uploads (upload_job image bytes info.hash chunk ending)

pub record IsPutOf (folder : Folder) (file name : List ℕ) (job : Job) : Type 0 where
  pub bytes : List ℕ
  pub holds : HoldsFile folder file bytes
  pub is : job ≡ puts name bytes

-- the job that some words mean
abbrev pub IsJobOf : Folder → JobWords → Job → Type 0
IsJobOf folder (words.Upload image file chunk ending) job = IsUploadOf folder image file chunk ending job
IsJobOf folder words.List job = job ≡ lists
IsJobOf folder (words.Set pairs) job = job ≡ sets pairs
IsJobOf folder (words.Put file name) job = IsPutOf folder file name job
IsJobOf folder (words.Get name) job = job ≡ gets name
IsJobOf folder (words.Echo text) job = job ≡ echoes text

-- one job for each client, in the order of their lines
abbrev pub AreJobsOf : Folder → List Said → List Job → Type 0
AreJobsOf folder [] [] = Unit {0}
AreJobsOf folder [] (job ∷ jobs) = ⊥
AreJobsOf folder (said.Client k w ∷ events) [] = ⊥
AreJobsOf folder (said.Client k w ∷ events) (job ∷ jobs) = IsJobOf folder w job × AreJobsOf folder events jobs
AreJobsOf folder (event ∷ events) jobs = AreJobsOf folder events jobs

-- Events.

abbrev pub which_of : SaidWhich → Which
which_of which.New = new
which_of (which.Number n) = number n

-- The event of a line: a client begins the job that has its number. None where there is no such job.
abbrev pub event_of : List Job → Said → Option Event
event_of jobs (said.Client k w) = option_map begins (nth jobs k)
event_of jobs (said.Raw bytes) = Some (raw bytes)
event_of jobs (said.Up packet) = Some (up (which_of packet))
event_of jobs (said.Down reply) = Some (down (which_of reply))
event_of jobs (said.Quiet client) = Some (quiet client)
event_of jobs (said.Armed arm) = Some (arms arm)
event_of jobs said.Boot = Some boot

abbrev pub AreEventsOf : List Job → List Said → List Event → Type 0
AreEventsOf jobs [] [] = Unit {0}
AreEventsOf jobs (line ∷ lines) (event ∷ events) = (event_of jobs line ≡ Some event) × AreEventsOf jobs lines events
AreEventsOf jobs [] (event ∷ events) = ⊥
AreEventsOf jobs (line ∷ lines) [] = ⊥

-- The text is the transcript of a run of the schedule, by what the folder tells of the files that it names.
pub record IsReplay (folder : Folder) (s : Schedule) (text : List ℕ) : Type 0 where
  pub flash : Flash
  pub formatted : IsFlash folder s.flash flash
  pub jobs : List Job
  pub are_jobs : AreJobsOf folder s.events jobs
  pub events : List Event
  pub are_events : AreEventsOf jobs s.events events
  pub is_transcript : IsTranscript (sizes_of flash.geometry) flash.image flash.second events text
