-- The events of a lawful schedule: each client's line has the number of its job.
use Rattle.std.proofs.Common.{◌≡◌, ℕ, ◌+◌, List, [], ◌∷◌, ◌++◌, length, Some, refl, ap, subst, arith, length-append}
use Rattle.std.proofs.lemmas.List.{append_assoc}
use Rattle.std.specs.Prelude.{option_map}
use Rattle.smp_edge.specs.Files.{Folder}
use Rattle.smp_jobs.specs.Jobs.{Job}
use Rattle.smp_schedule.specs.declared.event.Event.{Event as Said}
use Rattle.smp_schedule.specs.declared.event.Event.TheVariants as said
use Rattle.smp_schedule.specs.declared.job.JobWords.{JobWords}
use Rattle.smp_schedule.specs.Lawful.{AreEvents, IsLawful}
use Rattle.smp_schedule.specs.Schedules.{Schedule}
use Rattle.smp_world.specs.Runs.{Event, begins}
use Rattle.smp_world.specs.Schedules.{AreJobsOf, event_of, AreEventsOf}
use Rattle.smp_world.proofs.Numbered.{nth_behind}

-- the events of these lines, among these jobs
abbrev Found : List Job → List Said → Type 0
Found jobs lines = (events : List Event) × AreEventsOf jobs lines events

one_found : (jobs : List Job) (line : Said) (lines : List Said) (e : Event) → event_of jobs line ≡ Some e → Found jobs lines → Found jobs (line ∷ lines)
one_found jobs line lines e is more = (e ∷ more.0, (is, more.1))

client_found : (before : List Job) (job : Job) (jobs : List Job) (k : ℕ) (w : JobWords) (lines : List Said) → k ≡ length before + 1
    → Found ((before ++ job ∷ []) ++ jobs) lines → Found (before ++ job ∷ jobs) (said.Client k w ∷ lines)
client_found before job jobs k w lines e more =
    one_found (before ++ job ∷ jobs) (said.Client k w) lines (begins job) (ap (option_map begins) (nth_behind before job jobs k e))
    (subst (λ (js : List Job). Found js lines) (append_assoc before (job ∷ []) jobs) more)

lines_found : (folder : Folder) (before : List Job) (lines : List Said) (jobs : List Job) → AreEvents (length before) lines → AreJobsOf folder lines jobs → Found (before ++ jobs) lines
lines_found folder before [] [] l j = ([], tt)
lines_found folder before [] (job ∷ jobs) l j = absurd j
lines_found folder before (said.Client k w ∷ lines) [] l j = absurd j
lines_found folder before (said.Client k w ∷ lines) (job ∷ jobs) l j =
    let number = l.0.0 in
    let count : k ≡ length (before ++ job ∷ []) = omega (arith, number, length-append before (job ∷ [])) in
    client_found before job jobs k w lines number (lines_found folder (before ++ job ∷ []) lines jobs (subst (λ (n : ℕ). AreEvents n lines) count l.1) j.1)
lines_found folder before (said.Raw bytes ∷ lines) jobs l j = one_found (before ++ jobs) (said.Raw bytes) lines _ refl (lines_found folder before lines jobs l.1 j)
lines_found folder before (said.Up w ∷ lines) jobs l j = one_found (before ++ jobs) (said.Up w) lines _ refl (lines_found folder before lines jobs l.1 j)
lines_found folder before (said.Down w ∷ lines) jobs l j = one_found (before ++ jobs) (said.Down w) lines _ refl (lines_found folder before lines jobs l.1 j)
lines_found folder before (said.Quiet k ∷ lines) jobs l j = one_found (before ++ jobs) (said.Quiet k) lines _ refl (lines_found folder before lines jobs l.1 j)
lines_found folder before (said.Armed a ∷ lines) jobs l j = one_found (before ++ jobs) (said.Armed a) lines _ refl (lines_found folder before lines jobs l.1 j)
lines_found folder before (said.Boot ∷ lines) jobs l j = one_found (before ++ jobs) said.Boot lines _ refl (lines_found folder before lines jobs l.1 j)

pub schedule_found : (folder : Folder) (s : Schedule) (jobs : List Job) → IsLawful s → AreJobsOf folder s.events jobs → (events : List Event) × AreEventsOf jobs s.events events
schedule_found folder s jobs lawful j = lines_found folder [] s.events jobs lawful.events j
