-- A schedule's world before its first event.
use Rattle.std.specs.Prelude.{◌≡◌, ◌≢◌, List, [], length, Result, Ok, Err}
use Rattle.smp_edge.specs.Files.{Folder}
use Rattle.smp_jobs.specs.Jobs.{Job}
use Rattle.smp_schedule.specs.Schedules.{Schedule}
use Rattle.smp_device.specs.Uploads.{sizes_of}
use Rattle.smp_world.specs.Runs.{first_state}
use Rattle.smp_world.specs.Schedules.{AreJobsOf, Flash, IsFlash}
use Rattle.smp_world.specs.Worlds.{StandsNow, WorldState}
use Rattle.smp_app.specs.Making.{AreJobsWith}
use Rattle.smp_app.specs.Playing.{CanPlay}
use Rattle.smp_app.specs.declared.loading.Client.{Client}
use Rattle.smp_app.specs.declared.loading.Images.{Images}
use Rattle.smp_app.specs.Replays.{IsDueUnlessPrevented}
use Rattle.smp_app.specs.declared.status.Status.{Status}
use Rattle.smp_app.specs.declared.status.Status.TheVariants.{Done, Usage, BadSchedule, BadImage, TooLong, FileFault, WriteFault, NoMemory}

-- A world over a flash with these images, in which no client began: they have the jobs that were made.
pub record Builds (images : Images) (clients : List Client) (w : WorldState) : Type 0 where
  pub jobs : List Job
  pub are_jobs : AreJobsWith clients jobs
  pub stands : StandsNow (sizes_of images.geometry) jobs w (first_state (sizes_of images.geometry) images.first images.second)
  pub begun : w.clients.begun ≡ []
  pub waiting : length w.clients.waiting ≡ length clients
  pub steps : w.steps ≡ 0

-- It stands for the first state of the schedule's runs, and the events can happen in it.
pub record IsPrepared (folder : Folder) (s : Schedule) (w : WorldState) : Type 0 where
  pub flash : Flash
  pub formatted : IsFlash folder s.flash flash
  pub jobs : List Job
  pub are_jobs : AreJobsOf folder s.events jobs
  pub stands : StandsNow (sizes_of flash.geometry) jobs w (first_state (sizes_of flash.geometry) flash.image flash.second)
  pub can : CanPlay w s.events

-- Whatever is answered is due, unless it was prevented.
abbrev pub EndsDue : {T : Type 0} → Status → Result T Status → Type 0
EndsDue due (Ok x) = due ≡ Done
EndsDue due (Err status) = IsDueUnlessPrevented status due

-- how a command may end before anything is written
abbrev pub IsRefusal : Status → Type 0
IsRefusal (BadSchedule line) = Unit {0}
IsRefusal (BadImage why) = Unit {0}
IsRefusal TooLong = Unit {0}
IsRefusal FileFault = Unit {0}
IsRefusal NoMemory = Unit {0}
IsRefusal Done = ⊥
IsRefusal Usage = ⊥
IsRefusal WriteFault = ⊥

-- the status of a command that may break off
abbrev pub status_of : {T : Type 0} → Result T Status → Status
status_of (Ok x) = Done
status_of (Err status) = status

-- neither all was done, nor were the words no command
abbrev pub IsFailure : Status → Type 0
IsFailure status = (status ≢ Done) × (status ≢ Usage)
