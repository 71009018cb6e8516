-- What was loaded and made for a schedule.
use Rattle.std.proofs.Common.{◌≡◌, ℕ, suc, ◌≤◌, List, [], ◌∷◌, length, Option, Some, None, Result, Ok, Err, refl, sym, ap, ◌∙◌, inl, inr, arith, subst}
use Rattle.std.specs.Prelude.{IfSome, option_map}
use Rattle.smp_edge.specs.Files.{Folder}
use Rattle.smp_jobs.specs.Jobs.{Job}
use Rattle.smp_jobs.specs.States.{JobState}
use Rattle.smp_model.specs.Image.{default_image}
use Rattle.smp_model.specs.declared.image.ImageFault.{ImageFault}
use Rattle.smp_schedule.specs.Lawful.{AreEvents, IsFlash, IsJob, IsLawful, IsSecond}
use Rattle.smp_schedule.specs.Schedules.{Schedule}
use Rattle.smp_schedule.specs.declared.event.Event.{Event}
use Rattle.smp_schedule.specs.declared.event.Event.TheVariants as events
use Rattle.smp_schedule.specs.declared.flash_line.FlashLine.{FlashLine}
use Rattle.smp_schedule.specs.declared.job.JobWords.{JobWords}
use Rattle.smp_schedule.specs.declared.job.JobWords.TheVariants as jobs
use Rattle.smp_world.specs.Schedules.{AreJobsOf, Flash, IsJobOf, IsOfLine, default_flash, default_geometry}
use Rattle.smp_flash.specs.Memory.{Memory}
use Rattle.smp_world.specs.Machines.{IsFormatted}
use Rattle.smp_world.specs.Worlds.{OpensWorld, WorldState}
use Rattle.smp_world.specs.declared.clients.Seat.{Seat}
use Rattle.smp_flash.specs.Geometry.{is_lawful}
use Rattle.smp_flash.specs.declared.geometry.Geometry.{Geometry}
use Rattle.smp_world.specs.Schedules as runs
use Rattle.smp_world.specs.Clients.{Pairs, SeatStands}
use Rattle.smp_app.specs.Loading.{AreClients, AreImages, HaveFault, IsFileOf, IsSecondLoaded, LoadsAll, files_fault, first_of, most_loaded, names_of}
use Rattle.smp_app.specs.Making.{AllBegin, AreDefault, AreImagesOf, AreJobsWith, BeginJobs, CanFormat, CanMake, IsJobWith, IsSecondOf, OnlyBadImage, Tests, bad_file, bad_files, bad_image, misfits, misfits_of}
use Rattle.smp_app.specs.Causes.{FileCause}
use Rattle.smp_app.specs.Playing.{clients_in}
use Rattle.smp_app.proofs.Loads.{Refused}
use Rattle.smp_app.specs.Preparing.{Builds, EndsDue, IsPrepared, IsRefusal}
use Rattle.smp_app.specs.Replays.{IsDueUnlessPrevented, bad_in, bad_job, bad_jobs, bytes_by, due_of_schedule, line_misfit, unless_bad, unless_fault}
use Rattle.smp_app.specs.declared.loading.Client.{Client}
use Rattle.smp_app.specs.declared.loading.Images.{Images}
use Rattle.smp_app.specs.declared.status.Status.{Status}
use Rattle.smp_app.specs.declared.status.Status.TheVariants.{Done, Usage, BadSchedule, BadImage, TooLong, FileFault, WriteFault, NoMemory}

-- The images can be formatted with.

second_of : (g : Geometry) (folder : Folder) (named second : Option (List ℕ)) → IsSecond g.images named → IsSecondLoaded folder named second → IsSecondOf g second
second_of g folder None None h held = h
second_of g folder (Some name) (Some bytes) h held = (h.0, held.1)
second_of g folder None (Some bytes) h held = absurd held
second_of g folder (Some name) None h held = absurd held

pub can_format_line : (folder : Folder) (line : FlashLine) (images : Images) → IsFlash line → AreImages folder line images → CanFormat images
can_format_line folder line images h held = record {
  lawful = ap is_lawful held.geometry ∙ h.0;
  first = held.first.1;
  second = subst (λ (g : Geometry). IsSecondOf g images.second) (sym held.geometry) (second_of line.geometry folder line.second images.second h.2 held.second);
}

pub can_format_default : (images : Images) → AreDefault images → length images.first ≤ most_loaded → CanFormat images
can_format_default images h short = record {
  lawful = ap is_lawful h.geometry;
  first = short;
  second = subst (IsSecondOf images.geometry) (sym h.second) (ap (λ (g : Geometry). g.images) h.geometry);
}

-- The jobs that are made are those of the schedule.

job_by_words : (folder : Folder) (w : JobWords) (bytes : List ℕ) (job : Job) → IsFileOf folder w bytes → IsJobWith w bytes job → IsJobOf folder w job
job_by_words folder (jobs.Upload image file chunk ending) bytes job held h =
    record { bytes = bytes; holds = held.0; info = h.0; good = h.1; is = h.2 }
job_by_words folder jobs.List bytes job held h = h
job_by_words folder (jobs.Set pairs) bytes job held h = h
job_by_words folder (jobs.Put file name) bytes job held h = record { bytes = bytes; holds = held.0; is = h }
job_by_words folder (jobs.Get name) bytes job held h = h
job_by_words folder (jobs.Echo text) bytes job held h = h

one_job : (folder : Folder) (w : JobWords) (client : Client) (job : Job) → client.words.now ≡ w → IsFileOf folder w client.file
    → IsJobWith client.words.now client.file job → IsJobOf folder w job
one_job folder w client job is held h =
    job_by_words folder w client.file job held (subst (λ (words : JobWords). IsJobWith words client.file job) is h)

pub are_jobs : (folder : Folder) (said : List Event) (clients : List Client) (made : List Job) → AreClients folder said clients → AreJobsWith clients made
    → AreJobsOf folder said made
are_jobs folder [] [] [] held h = tt
are_jobs folder [] [] (job ∷ made) held h = absurd h
are_jobs folder [] (client ∷ clients) made held h = absurd held
are_jobs folder (events.Client number w ∷ later) [] made held h = absurd held
are_jobs folder (events.Client number w ∷ later) (client ∷ clients) [] held h = absurd h
are_jobs folder (events.Client number w ∷ later) (client ∷ clients) (job ∷ made) held h =
    (one_job folder w client job held.0.0 held.0.1 h.0, are_jobs folder later clients made held.1 h.1)
are_jobs folder (events.Raw bytes ∷ later) clients made held h = are_jobs folder later clients made held h
are_jobs folder (events.Up packet ∷ later) clients made held h = are_jobs folder later clients made held h
are_jobs folder (events.Down reply ∷ later) clients made held h = are_jobs folder later clients made held h
are_jobs folder (events.Quiet client ∷ later) clients made held h = are_jobs folder later clients made held h
are_jobs folder (events.Armed arm ∷ later) clients made held h = are_jobs folder later clients made held h
are_jobs folder (events.Boot ∷ later) clients made held h = are_jobs folder later clients made held h

short_file : (folder : Folder) (w : JobWords) (bytes : List ℕ) → IsFileOf folder w bytes → length bytes ≤ most_loaded
short_file folder (jobs.Upload image file chunk ending) bytes h = h.1
short_file folder jobs.List bytes h = h
short_file folder (jobs.Set pairs) bytes h = h
short_file folder (jobs.Put file name) bytes h = h.1
short_file folder (jobs.Get name) bytes h = h
short_file folder (jobs.Echo text) bytes h = h

pub can_make : (folder : Folder) (said : List Event) (clients : List Client) (k : ℕ) → AreEvents k said → AreClients folder said clients → CanMake clients
can_make folder [] [] k h held = tt
can_make folder [] (client ∷ clients) k h held = absurd held
can_make folder (events.Client number w ∷ later) [] k h held = absurd held
can_make folder (events.Client number w ∷ later) (client ∷ clients) k h held =
    ((subst IsJob (sym held.0.0) h.0.2, short_file folder w client.file held.0.1), can_make folder later clients number h.1 held.1)
can_make folder (events.Raw bytes ∷ later) clients k h held = can_make folder later clients k h.1 held
can_make folder (events.Up packet ∷ later) clients k h held = can_make folder later clients k h.1 held
can_make folder (events.Down reply ∷ later) clients k h held = can_make folder later clients k h.1 held
can_make folder (events.Quiet client ∷ later) clients k h held = can_make folder later clients k h.1 held
can_make folder (events.Armed arm ∷ later) clients k h held = can_make folder later clients k h.1 held
can_make folder (events.Boot ∷ later) clients k h held = can_make folder later clients k h.1 held

-- As many jobs wait as clients are to begin.

clients_counted : (folder : Folder) (said : List Event) (clients : List Client) → AreClients folder said clients → length clients ≡ clients_in said
clients_counted folder [] [] held = refl
clients_counted folder [] (client ∷ clients) held = absurd held
clients_counted folder (events.Client number w ∷ later) [] held = absurd held
clients_counted folder (events.Client number w ∷ later) (client ∷ clients) held =
    let rest = clients_counted folder later clients held.1 in omega (arith, rest)
clients_counted folder (events.Raw bytes ∷ later) clients held = clients_counted folder later clients held
clients_counted folder (events.Up packet ∷ later) clients held = clients_counted folder later clients held
clients_counted folder (events.Down reply ∷ later) clients held = clients_counted folder later clients held
clients_counted folder (events.Quiet client ∷ later) clients held = clients_counted folder later clients held
clients_counted folder (events.Armed arm ∷ later) clients held = clients_counted folder later clients held
clients_counted folder (events.Boot ∷ later) clients held = clients_counted folder later clients held

jobs_counted : (clients : List Client) (made : List Job) → AreJobsWith clients made → length made ≡ length clients
jobs_counted [] [] h = refl
jobs_counted [] (job ∷ made) h = absurd h
jobs_counted (client ∷ clients) [] h = absurd h
jobs_counted (client ∷ clients) (job ∷ made) h = ap suc (jobs_counted clients made h.1)

states_counted : (states : List JobState) (made : List Job) → AllBegin states made → length states ≡ length made
states_counted [] [] h = refl
states_counted [] (job ∷ made) h = absurd h
states_counted (state ∷ states) [] h = absurd h
states_counted (state ∷ states) (job ∷ made) h = ap suc (states_counted states made h.1)

-- The flash is that of the schedule.

abbrev flash_of : Images → Flash
flash_of images = record { geometry = images.geometry; image = images.first; second = images.second }

second_is : (folder : Folder) (named second : Option (List ℕ)) → IsSecondLoaded folder named second → runs.IsSecond folder named second
second_is folder None None h = tt
second_is folder (Some name) (Some bytes) h = h.0
second_is folder None (Some bytes) h = absurd h
second_is folder (Some name) None h = absurd h

flash_same : (g : Geometry) (image : List ℕ) (second : Option (List ℕ)) → g ≡ default_geometry → image ≡ default_image → second ≡ None
    → record { geometry = g; image = image; second = second } ≡ default_flash
flash_same g image second a b c = rw (a, b, c) refl

is_flash : (folder : Folder) (line : Option FlashLine) (images : Images) → AreImagesOf folder line images → runs.IsFlash folder line (flash_of images)
is_flash folder None images h = flash_same images.geometry images.first images.second h.geometry h.first h.second
is_flash folder (Some line) images h = record { geometry = h.geometry; image = h.first.0; second = second_is folder line.second images.second h.second }

-- no client has begun in a first state, and all jobs wait
none_seated : (seats : List Seat) → Pairs SeatStands seats [] → seats ≡ []
none_seated [] h = refl
none_seated (seat ∷ seats) h = absurd h

pub is_built : (images : Images) (clients : List Client) (states : List JobState) (w : WorldState) (m : Memory) → BeginJobs clients states
    → IsFormatted images.geometry images.first images.second m → OpensWorld (Ok w) m states → w.steps ≡ 0 → Builds images clients w
is_built images clients states w m made formatted opens steps =
    let stands = opens images.geometry images.first images.second made.0 formatted made.2 in
    record {
      jobs = made.0;
      are_jobs = made.1;
      stands = stands;
      begun = none_seated w.clients.begun stands.clients.seats;
      waiting = states_counted w.clients.waiting made.0 stands.clients.waiting ∙ jobs_counted clients made.0 made.1;
      steps = steps;
    }

pub prepared : (folder : Folder) (s : Schedule) (images : Images) (clients : List Client) (w : WorldState)
    → IsLawful s → AreImagesOf folder s.flash images → AreClients folder s.events clients → Builds images clients w → IsPrepared folder s w
prepared folder s images clients w lawful flash held built =
    let counted = clients_counted folder s.events clients held in
    let waiting = built.waiting in
    record {
      flash = flash_of images;
      formatted = is_flash folder s.flash images flash;
      jobs = built.jobs;
      are_jobs = are_jobs folder s.events clients built.jobs held built.are_jobs;
      stands = built.stands;
      can = record {
        lawful = subst (λ (seats : List Seat). AreEvents (length seats) s.events) (sym built.begun) lawful.events;
        jobs = omega (arith, counted, waiting);
        steps = omega (arith, built.steps, lawful.count);
      };
    }

-- What is due.

bytes_told : (file : List ℕ → Option (List ℕ)) (name bytes : List ℕ) → file name ≡ Some bytes → bytes_by (file name) ≡ bytes
bytes_told file name bytes h = ap bytes_by h

job_told : (file : List ℕ → Option (List ℕ)) (w : JobWords) (bytes : List ℕ) → IsFileOf (Some file) w bytes → bad_file w bytes ≡ bad_job file w
job_told file (jobs.Upload image name chunk ending) bytes h = ap bad_image (sym (bytes_told file name bytes h.0))
job_told file jobs.List bytes h = refl
job_told file (jobs.Set pairs) bytes h = refl
job_told file (jobs.Put name to) bytes h = refl
job_told file (jobs.Get name) bytes h = refl
job_told file (jobs.Echo text) bytes h = refl

client_told : (file : List ℕ → Option (List ℕ)) (w : JobWords) (client : Client) → client.words.now ≡ w → IsFileOf (Some file) w client.file
    → bad_file client.words.now client.file ≡ bad_job file w
client_told file w client is h = ap (λ (words : JobWords). bad_file words client.file) is ∙ job_told file w client.file h

clients_told : (file : List ℕ → Option (List ℕ)) (said : List Event) (clients : List Client) → AreClients (Some file) said clients → bad_files clients ≡ bad_jobs file said
clients_told file [] [] h = refl
clients_told file [] (client ∷ clients) h = absurd h
clients_told file (events.Client number w ∷ later) [] h = absurd h
clients_told file (events.Client number w ∷ later) (client ∷ clients) h =
    ap (λ (why : Option ImageFault). first_of why (bad_files clients)) (client_told file w client h.0.0 h.0.1)
    ∙ ap (first_of (bad_job file w)) (clients_told file later clients h.1)
clients_told file (events.Raw bytes ∷ later) clients h = clients_told file later clients h
clients_told file (events.Up packet ∷ later) clients h = clients_told file later clients h
clients_told file (events.Down reply ∷ later) clients h = clients_told file later clients h
clients_told file (events.Quiet client ∷ later) clients h = clients_told file later clients h
clients_told file (events.Armed arm ∷ later) clients h = clients_told file later clients h
clients_told file (events.Boot ∷ later) clients h = clients_told file later clients h

second_told : (file : List ℕ → Option (List ℕ)) (named second : Option (List ℕ)) → IsSecondLoaded (Some file) named second
    → second ≡ option_map (λ name. bytes_by (file name)) named
second_told file None None h = refl
second_told file (Some name) (Some bytes) h = ap Some (sym (bytes_told file name bytes h.0))
second_told file None (Some bytes) h = absurd h
second_told file (Some name) None h = absurd h

line_told : (file : List ℕ → Option (List ℕ)) (line : Option FlashLine) (images : Images) → AreImagesOf (Some file) line images → misfits_of images ≡ line_misfit file line
line_told file None images h = h.fit
line_told file (Some line) images h =
    ap (λ (g : Geometry). misfits g images.first images.second) h.geometry
    ∙ ap (λ (first : List ℕ). misfits line.geometry first images.second) (sym (bytes_told file line.image images.first h.first.0))
    ∙ ap (misfits line.geometry (bytes_by (file line.image))) (second_told file line.second images.second h.second)

-- files that could not be loaded
loads_due : (T : Type 0) (file : List ℕ → Option (List ℕ)) (names : List (List ℕ)) (status later : Status) → LoadsAll (Some file) names (Refused T status)
    → IsDueUnlessPrevented status (unless_fault (files_fault file names) later)
loads_due T file names Done later h = absurd h
loads_due T file names Usage later h = absurd h
loads_due T file names (BadSchedule line) later h = absurd h
loads_due T file names (BadImage why) later h = absurd h
loads_due T file names TooLong later h = inl (sym (ap (λ (f : Option Status). unless_fault f later) h))
loads_due T file names FileFault later h = inr tt
loads_due T file names WriteFault later h = absurd h
loads_due T file names NoMemory later h = inr tt

pub due_of_loads : (T U : Type 0) (folder : Folder) (s : Schedule) (status : Status) → LoadsAll folder (names_of s) (Refused T status)
    → IfSome folder (λ file. EndsDue (due_of_schedule file s) (Refused U status))
due_of_loads T U None s status h = tt
due_of_loads T U (Some file) s status h = loads_due T file (names_of s) status (unless_bad (bad_in file s)) h

-- images that were tested after all was loaded
loaded : (file : List ℕ → Option (List ℕ)) (s : Schedule) → files_fault file (names_of s) ≡ None → due_of_schedule file s ≡ unless_bad (bad_in file s)
loaded file s h = ap (λ (f : Option Status). unless_fault f (unless_bad (bad_in file s))) h

bad_due : (due : Status) (bad : Option ImageFault) (status : Status) → OnlyBadImage bad status → ((why : ImageFault) → bad ≡ Some why → due ≡ BadImage why)
    → IsDueUnlessPrevented status due
bad_due due bad Done h is = absurd h
bad_due due bad Usage h is = absurd h
bad_due due bad (BadSchedule line) h is = absurd h
bad_due due bad (BadImage why) h is = inl (sym (is why h))
bad_due due bad TooLong h is = absurd h
bad_due due bad FileFault h is = absurd h
bad_due due bad WriteFault h is = absurd h
bad_due due bad NoMemory h is = inr tt

told_all : (file : List ℕ → Option (List ℕ)) (s : Schedule) (images : Images) (clients : List Client) → AreImagesOf (Some file) s.flash images → AreClients (Some file) s.events clients
    → bad_in file s ≡ first_of (misfits_of images) (bad_files clients)
told_all file s images clients held those =
    ap (λ (w : Option ImageFault). first_of w (bad_jobs file s.events)) (sym (line_told file s.flash images held))
    ∙ ap (first_of (misfits_of images)) (sym (clients_told file s.events clients those))

refused_due : (U : Type 0) (folder : Folder) (s : Schedule) (images : Images) (clients : List Client) (status : Status) → HaveFault folder (names_of s) None
    → AreImagesOf folder s.flash images → AreClients folder s.events clients → OnlyBadImage (first_of (misfits_of images) (bad_files clients)) status
    → IfSome folder (λ file. EndsDue (due_of_schedule file s) (Refused U status))
refused_due U None s images clients status all held those h = tt
refused_due U (Some file) s images clients status all held those h =
    bad_due (due_of_schedule file s) (first_of (misfits_of images) (bad_files clients)) status h
    (λ why bad. loaded file s all ∙ ap unless_bad (told_all file s images clients held those ∙ bad))

done_due : (folder : Folder) (s : Schedule) (images : Images) (clients : List Client) → HaveFault folder (names_of s) None
    → AreImagesOf folder s.flash images → AreClients folder s.events clients → first_of (misfits_of images) (bad_files clients) ≡ None
    → IfSome folder (λ file. due_of_schedule file s ≡ Done)
done_due None s images clients all held those good = tt
done_due (Some file) s images clients all held those good =
    loaded file s all ∙ ap unless_bad (told_all file s images clients held those ∙ good)

-- what is answered once all was loaded
pub due_of_tests : (U : Type 0) (folder : Folder) (s : Schedule) (images : Images) (clients : List Client) (result : Result U Status) → HaveFault folder (names_of s) None
    → AreImagesOf folder s.flash images → AreClients folder s.events clients → Tests (first_of (misfits_of images) (bad_files clients)) result
    → IfSome folder (λ file. EndsDue (due_of_schedule file s) result)
due_of_tests U folder s images clients (Ok x) all held those h = done_due folder s images clients all held those h
due_of_tests U folder s images clients (Err status) all held those h = refused_due U folder s images clients status all held those h

-- the flash is tested first
pub first_tested : (first later : Option ImageFault) (status : Status) → OnlyBadImage first status → OnlyBadImage (first_of first later) status
first_tested first later Done h = absurd h
first_tested first later Usage h = absurd h
first_tested first later (BadSchedule line) h = absurd h
first_tested first later (BadImage why) h = ap (λ (w : Option ImageFault). first_of w later) h
first_tested first later TooLong h = absurd h
first_tested first later FileFault h = absurd h
first_tested first later WriteFault h = absurd h
first_tested first later NoMemory h = tt

pub later_tested : (first later : Option ImageFault) (status : Status) → first ≡ None → OnlyBadImage later status → OnlyBadImage (first_of first later) status
later_tested None later status none h = h
later_tested (Some why) later status none h = absurd cc

pub all_tested : (first later : Option ImageFault) → first ≡ None → later ≡ None → first_of first later ≡ None
all_tested None later none h = h
all_tested (Some why) later none h = absurd cc

pub no_memory_due : (U : Type 0) (folder : Folder) (s : Schedule) → IfSome folder (λ file. EndsDue (due_of_schedule file s) (Refused U NoMemory))
no_memory_due U None s = tt
no_memory_due U (Some file) s = inr tt

-- Refusals.

pub loads_refused : (T : Type 0) (folder : Folder) (names : List (List ℕ)) (status : Status) → LoadsAll folder names (Refused T status) → IsRefusal status
loads_refused T folder names Done h = absurd h
loads_refused T folder names Usage h = absurd h
loads_refused T folder names (BadSchedule line) h = absurd h
loads_refused T folder names (BadImage why) h = absurd h
loads_refused T folder names TooLong h = tt
loads_refused T folder names FileFault h = tt
loads_refused T folder names WriteFault h = absurd h
loads_refused T folder names NoMemory h = tt

pub tests_refused : (bad : Option ImageFault) (status : Status) → OnlyBadImage bad status → IsRefusal status
tests_refused bad Done h = absurd h
tests_refused bad Usage h = absurd h
tests_refused bad (BadSchedule line) h = absurd h
tests_refused bad (BadImage why) h = tt
tests_refused bad TooLong h = absurd h
tests_refused bad FileFault h = absurd h
tests_refused bad WriteFault h = absurd h
tests_refused bad NoMemory h = tt

-- a refusal that is no fault of the files leaves their count
pub quiet : (status : Status) (before now : ℕ) → (status ≡ FileFault → ⊥) → now ≡ before → FileCause status before now
quiet status before now other same = (omega (arith, same), (λ is. absurd (other is)), (λ isnt. same))

pub tests_quiet : (bad : Option ImageFault) (status : Status) → OnlyBadImage bad status → status ≡ FileFault → ⊥
tests_quiet bad Done h is = absurd h
tests_quiet bad Usage h is = absurd h
tests_quiet bad (BadSchedule line) h is = absurd h
tests_quiet bad (BadImage why) h is = absurd cc
tests_quiet bad TooLong h is = absurd h
tests_quiet bad FileFault h is = absurd h
tests_quiet bad WriteFault h is = absurd h
tests_quiet bad NoMemory h is = absurd cc
