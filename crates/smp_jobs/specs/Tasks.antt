-- The job that a task stands for, and what it keeps of the answers that it was given.
use Rattle.std.specs.Prelude.{◌≡◌, ◌≤◌, ◌-◌, ◌&&◌, nat_le, ℕ, List, length, None, Err, Bool}
use Rattle.std.specs.List.{list_all}
use Rattle.smp_model.specs.Settings.{is_setting}
use Rattle.smp_model.specs.declared.setting.Setting.{Setting}
use Rattle.std.specs.String.{string_bytes}
use Rattle.smp_model.specs.Meant.{meant_of}
use Rattle.smp_model.specs.declared.image.ImageFault.{ImageFault}
use Rattle.smp_model.specs.declared.image.ImageFault.TheVariants.{WrongHash}
use Rattle.smp_model.specs.Image.{image_of, good_image}
use Rattle.smp_reply.specs.Told.{Told}
use Rattle.smp_request.specs.Room.{strings_of}
use Rattle.smp_jobs.specs.Jobs.{UploadJob, upload_job, Job, uploads, lists, sets, puts, gets, echoes, Next, asks, ends, done, refused, mismatch, Got, got}
use Rattle.smp_jobs.specs.declared.task.Upload.{Upload}
use Rattle.smp_jobs.specs.declared.task.Get.{Get}
use Rattle.smp_jobs.specs.declared.task.Task.{Task}
use Rattle.smp_jobs.specs.declared.task.Task.TheVariants as tasks
use Rattle.smp_jobs.specs.declared.step.Step.{Step}
use Rattle.smp_jobs.specs.declared.step.Step.TheVariants as steps

abbrev pub upload_of : Upload → UploadJob
upload_of u = upload_job u.image u.file u.hash u.chunk u.ending

abbrev pub job_of : Task → Job
job_of (tasks.Upload u) = uploads (upload_of u)
job_of tasks.List = lists
job_of (tasks.Set s) = sets s.pairs
job_of (tasks.Put p) = puts (string_bytes p.name) p.file
job_of (tasks.Get g) = gets (string_bytes g.name)
job_of (tasks.Echo e) = echoes (string_bytes e.text)

-- What is kept of the answers: their count where it matters, what was got, and else nothing, since the newest alone matters.
pub data Progress : Type 0 where
  newest : Progress
  counted : ℕ → Progress
  holds : Got → Progress

abbrev pub got_by : Get → Got
got_by g = record { held = g.held.items; len = g.len }

abbrev pub progress_in : Task → Progress
progress_in (tasks.Upload u) = newest
progress_in tasks.List = newest
progress_in (tasks.Set s) = counted s.count
progress_in (tasks.Put p) = newest
progress_in (tasks.Get g) = holds (got_by g)
progress_in (tasks.Echo e) = newest

abbrev pub progress_of : Job → List Told → Progress
progress_of (uploads j) answers = newest
progress_of lists answers = newest
progress_of (sets settings) answers = counted (length answers)
progress_of (puts name file) answers = newest
progress_of (gets name) answers = holds (got answers)
progress_of (echoes text) answers = newest

-- the step that is told, without where its request lies in memory
abbrev pub said : Step → Next
said (steps.Ask request) = asks (meant_of request)
said steps.Done = ends done
said (steps.Refused group number) = ends (refused group number)
said steps.Mismatch = ends mismatch

-- its request fits a packet
abbrev pub Fits : Step → Type 0
Fits (steps.Ask request) = strings_of (meant_of request) ≤ 1978
Fits steps.Done = Unit {0}
Fits (steps.Refused group number) = Unit {0}
Fits steps.Mismatch = Unit {0}

-- where it asks, this is so
abbrev pub OnAsk : Step → Type 0 → Type 0
OnAsk (steps.Ask request) fact = fact
OnAsk steps.Done fact = Unit {0}
OnAsk (steps.Refused group number) fact = Unit {0}
OnAsk steps.Mismatch fact = Unit {0}

-- of a job that writes settings, no more answers come than there are requests
abbrev pub CanTake : Task → Type 0
CanTake (tasks.Upload u) = Unit {0}
CanTake tasks.List = Unit {0}
CanTake (tasks.Set s) = s.count ≤ length s.pairs
CanTake (tasks.Put p) = Unit {0}
CanTake (tasks.Get g) = Unit {0}
CanTake (tasks.Echo e) = Unit {0}

-- a job that asks once more after an answer
abbrev pub AsksAgain : Task → Type 0
AsksAgain (tasks.Upload u) = Unit {0}
AsksAgain tasks.List = ⊥
AsksAgain (tasks.Set s) = s.count ≤ length s.pairs
AsksAgain (tasks.Put p) = Unit {0}
AsksAgain (tasks.Get g) = Unit {0}
AsksAgain (tasks.Echo e) = ⊥

-- how many requests follow the open one, of a job whose requests are few
abbrev pub requests_left : Task → ℕ
requests_left (tasks.Upload u) = 0
requests_left tasks.List = 0
requests_left (tasks.Set s) = length s.pairs - s.count
requests_left (tasks.Put p) = 0
requests_left (tasks.Get g) = 0
requests_left (tasks.Echo e) = 0

-- settings that a job may write: 1 to 254 of them, each within the limits
abbrev pub can_set : List Setting → Bool
can_set settings = list_all is_setting settings && (nat_le 1 (length settings) && nat_le (length settings) 254)

-- a job that gets a file, and so takes memory for what it is answered
abbrev pub IsGet : Job → Type 0
IsGet (gets name) = Unit {0}
IsGet job = ⊥

-- Why a file is no good image: a fault of its bytes, or a hash that is not theirs.
abbrev pub IsBad : List ℕ → ImageFault → Type 0
IsBad file WrongHash = (good_image file ≡ None) × ((fault : ImageFault) → image_of file ≡ Err fault → ⊥)
IsBad file fault = image_of file ≡ Err fault
