-- The jobs of the clients and the flash, made of what was loaded.
use Rattle.std.specs.Prelude.{◌≡◌, ◌≤◌, true, nat_lt, if◌then◌else◌, ℕ, List, [], ◌∷◌, length, Option, Some, None, Result, Ok, Err}
use Rattle.smp_flash.specs.declared.geometry.Geometry.{Geometry}
use Rattle.smp_device.specs.Formatting.{room_of}
use Rattle.smp_jobs.specs.Clients.{begun}
use Rattle.smp_jobs.specs.Jobs.{Job, uploads, lists, sets, puts, gets, echoes, upload_job}
use Rattle.smp_jobs.specs.States.{JobState, Stands}
use Rattle.smp_jobs.specs.declared.moves.JobFault.{JobFault}
use Rattle.smp_jobs.specs.declared.moves.JobFault.TheVariants as job_faults
use Rattle.smp_model.specs.Image.{image_of, good_image, default_image}
use Rattle.smp_model.specs.declared.image.ImageFault.{ImageFault}
use Rattle.smp_model.specs.declared.image.ImageFault.TheVariants.{WrongHash, TooLarge}
use Rattle.smp_model.specs.declared.image.ImageInfo.{ImageInfo}
use Rattle.smp_model.specs.declared.upload.Ending.{Ending}
use Rattle.smp_schedule.specs.declared.job.JobWords.{JobWords}
use Rattle.smp_schedule.specs.declared.job.JobWords.TheVariants as jobs
use Rattle.smp_schedule.specs.Lawful.{IsJob}
use Rattle.smp_edge.specs.Files.{Folder}
use Rattle.smp_flash.specs.Geometry.{is_lawful}
use Rattle.smp_schedule.specs.declared.flash_line.FlashLine.{FlashLine}
use Rattle.smp_world.specs.Clients.{Pairs}
use Rattle.smp_world.specs.Schedules.{default_geometry}
use Rattle.smp_app.specs.Loading.{AreImages, first_of, most_loaded}
use Rattle.smp_app.specs.declared.loading.Images.{Images}
use Rattle.smp_app.specs.declared.loading.Client.{Client}
use Rattle.smp_app.specs.declared.status.Status.{Status}
use Rattle.smp_app.specs.declared.status.Status.TheVariants.{Done, Usage, BadSchedule, BadImage, TooLong, FileFault, WriteFault, NoMemory}

-- Jobs.

-- why a file is no good image, where it is none: a fault of its bytes, or a hash that is not theirs
abbrev pub bad_by : Result ImageInfo ImageFault → Option ImageInfo → Option ImageFault
bad_by (Err fault) good = Some fault
bad_by (Ok info) None = Some WrongHash
bad_by (Ok info) (Some good) = None

abbrev pub bad_image : List ℕ → Option ImageFault
bad_image bytes = bad_by (image_of bytes) (good_image bytes)

-- only an upload's file has to be an image
abbrev pub bad_file : JobWords → List ℕ → Option ImageFault
bad_file (jobs.Upload image file chunk ending) bytes = bad_image bytes
bad_file jobs.List bytes = None
bad_file (jobs.Set pairs) bytes = None
bad_file (jobs.Put file name) bytes = None
bad_file (jobs.Get name) bytes = None
bad_file (jobs.Echo text) bytes = None

-- the job that a client's words and file mean
abbrev pub IsUploadWith : ℕ → List ℕ → ℕ → Ending → Job → Type 0
IsUploadWith image bytes chunk ending job =
    (info : ImageInfo) × (good_image bytes ≡ Some info) × (job ≡ uploads (upload_job image bytes info.hash chunk ending))

abbrev pub IsJobWith : JobWords → List ℕ → Job → Type 0
IsJobWith (jobs.Upload image file chunk ending) bytes job = IsUploadWith image bytes chunk ending job
IsJobWith jobs.List bytes job = job ≡ lists
IsJobWith (jobs.Set pairs) bytes job = job ≡ sets pairs
IsJobWith (jobs.Put file name) bytes job = job ≡ puts name bytes
IsJobWith (jobs.Get name) bytes job = job ≡ gets name
IsJobWith (jobs.Echo text) bytes job = job ≡ echoes text

-- a job in memory that is about to send the first packet of that job
abbrev pub BeginsJob : JobWords → List ℕ → JobState → Type 0
BeginsJob words bytes state = (job : Job) × IsJobWith words bytes job × Stands state (begun job)

-- what making it answers
abbrev pub JobRefused : JobWords → List ℕ → JobFault → Type 0
JobRefused words bytes (job_faults.BadImage fault) = bad_file words bytes ≡ Some fault
JobRefused words bytes job_faults.OutOfMemory = Unit {0}

abbrev pub OnlyBadImage : Option ImageFault → Status → Type 0
OnlyBadImage bad (BadImage fault) = bad ≡ Some fault
OnlyBadImage bad NoMemory = Unit {0}
OnlyBadImage bad Done = ⊥
OnlyBadImage bad Usage = ⊥
OnlyBadImage bad (BadSchedule line) = ⊥
OnlyBadImage bad TooLong = ⊥
OnlyBadImage bad FileFault = ⊥
OnlyBadImage bad WriteFault = ⊥

-- What testing images answers, by the first fault that there is.
abbrev pub Tests : {T : Type 0} → Option ImageFault → Result T Status → Type 0
Tests bad (Ok x) = bad ≡ None
Tests bad (Err status) = OnlyBadImage bad status

-- All clients.

-- words that a job can be made of, and a file that was loaded
abbrev pub CanMake : List Client → Type 0
CanMake [] = Unit {0}
CanMake (client ∷ clients) = (IsJob client.words.now × (length client.file ≤ most_loaded)) × CanMake clients

-- the first fault of an upload's file
abbrev pub bad_files : List Client → Option ImageFault
bad_files [] = None
bad_files (client ∷ clients) = first_of (bad_file client.words.now client.file) (bad_files clients)

abbrev pub AreJobsWith : List Client → List Job → Type 0
AreJobsWith [] [] = Unit {0}
AreJobsWith (client ∷ clients) (job ∷ jobs) = IsJobWith client.words.now client.file job × AreJobsWith clients jobs
AreJobsWith [] (job ∷ jobs) = ⊥
AreJobsWith (client ∷ clients) [] = ⊥

-- jobs in memory that are about to send the first packets of these jobs
abbrev pub AllBegin : List JobState → List Job → Type 0
AllBegin states jobs = Pairs (λ state job. Stands state (begun job)) states jobs

abbrev pub BeginJobs : List Client → List JobState → Type 0
BeginJobs clients states = (jobs : List Job) × AreJobsWith clients jobs × AllBegin states jobs

-- The flash.

-- why an image can't run in a slot: it is not good, or it has no room
abbrev pub misfit_by : ℕ → ℕ → Option ImageFault → Option ImageFault
misfit_by room size (Some fault) = Some fault
misfit_by room size None = if nat_lt room size then Some TooLarge else None

abbrev pub misfit : ℕ → List ℕ → Option ImageFault
misfit room image = misfit_by room (length image) (bad_image image)

abbrev pub second_misfit : ℕ → Option (List ℕ) → Option ImageFault
second_misfit room None = None
second_misfit room (Some image) = misfit room image

-- the first fault of the images of a flash
abbrev pub misfits : Geometry → List ℕ → Option (List ℕ) → Option ImageFault
misfits g first second = first_of (misfit (room_of g) first) (second_misfit (room_of g) second)

-- images that may be formatted with: as many as there are sides
abbrev pub IsSecondOf : Geometry → Option (List ℕ) → Type 0
IsSecondOf g None = g.images ≡ 1
IsSecondOf g (Some second) = (g.images ≡ 2) × (length second ≤ most_loaded)

pub record CanFormat (images : Images) : Type 0 where
  pub lawful : is_lawful images.geometry ≡ true
  pub first : length images.first ≤ most_loaded
  pub second : IsSecondOf images.geometry images.second

abbrev pub misfits_of : Images → Option ImageFault
misfits_of images = misfits images.geometry images.first images.second

-- what is chosen here where a schedule gives no flash
pub record AreDefault (images : Images) : Type 0 where
  pub geometry : images.geometry ≡ default_geometry
  pub first : images.first ≡ default_image
  pub second : images.second ≡ None
  pub fit : misfits_of images ≡ None

-- the images of a schedule's flash line, or those that are chosen
abbrev pub AreImagesOf : Folder → Option FlashLine → Images → Type 0
AreImagesOf folder None images = AreDefault images
AreImagesOf folder (Some line) images = AreImages folder line images
