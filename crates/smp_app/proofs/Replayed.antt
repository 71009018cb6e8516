-- How a replay ends, and what it writes.
use Rattle.std.proofs.Common.{◌≡◌, ℕ, ◌≤◌, false, List, length, Option, Some, None, Result, Ok, Err, refl, sym, ap, ◌∙◌, inl, inr, arith, nat_lt, subst}
use Rattle.std.specs.Prelude.{◌⊎◌, IfErr, IfSome, OnErr, OnOk}
use Rattle.smp_edge.specs.Files.{Folder}
use Rattle.smp_jobs.specs.Jobs.{Job}
use Rattle.smp_device.specs.Uploads.{sizes_of}
use Rattle.smp_schedule.specs.Schedules.{Schedule, schedule}
use Rattle.smp_world.specs.Runs.{Event, first_state, transcript}
use Rattle.smp_world.specs.Schedules.{AreEventsOf, AreJobsOf, IsReplay}
use Rattle.smp_world.specs.Worlds.{WorldState}
use Rattle.smp_app.specs.Causes.{FileCause, RisesWith, WriteCause, WriteEnds}
use Rattle.smp_app.specs.Loading.{LoadsSchedule, file_fault, first_of, most_loaded}
use Rattle.smp_app.specs.Playing.{IsBreak, WritesFrontOf, WritesTranscript}
use Rattle.smp_app.specs.Preparing.{EndsDue, IsFailure, IsPrepared, IsRefusal, status_of}
use Rattle.smp_app.specs.Replays.{IsDueUnlessPrevented, IsReplayOf, Prints, WritesAll, WritesSome, bytes_by, due_of_file, due_of_read, due_of_replay, due_of_schedule, unless_fault}
use Rattle.smp_app.specs.declared.status.Status.{Status}
use Rattle.smp_app.specs.declared.status.Status.TheVariants.{Done, Usage, BadSchedule, BadImage, TooLong, FileFault, WriteFault, NoMemory}
use Rattle.smp_app.proofs.Loads.{Refused}

-- What is due.

-- of a file that is not too long
of_text : (file : List ℕ → Option (List ℕ)) (name text : List ℕ) (read : Result Schedule ℕ) → file name ≡ Some text → length text ≤ most_loaded → schedule text ≡ read
    → due_of_file file name ≡ due_of_read file read
of_text file name text read held fits spelled =
    let short : nat_lt most_loaded (length text) ≡ false = grind (arith, fits) in
    ap (λ (f : Option (List ℕ)). unless_fault (file_fault f) (due_of_read file (schedule (bytes_by f)))) held
    ∙ rw short (ap (due_of_read file) spelled)

alone : (fault : Option Status) (s : Status) → first_of fault None ≡ Some s → fault ≡ Some s
alone None s h = absurd cc
alone (Some t) s h = h

told_due : (U : Type 0) (file : List ℕ → Option (List ℕ)) (name : List ℕ) (status : Status) → LoadsSchedule (Some file) name (Refused Schedule status)
    → IsDueUnlessPrevented status (due_of_file file name)
told_due U file name Done h = absurd h
told_due U file name Usage h = absurd h
told_due U file name (BadSchedule line) h = inl (sym (of_text file name h.0 (Err line) h.1.0 h.1.1 h.2))
told_due U file name (BadImage why) h = absurd h
told_due U file name TooLong h =
    inl (sym (ap (λ (f : Option Status). unless_fault f (due_of_read file (schedule (bytes_by (file name))))) (alone (file_fault (file name)) TooLong h)))
told_due U file name FileFault h = inr tt
told_due U file name WriteFault h = absurd h
told_due U file name NoMemory h = inr tt

pub schedule_due : (U : Type 0) (folder : Folder) (name : List ℕ) (status : Status) → LoadsSchedule folder name (Refused Schedule status)
    → IfSome (due_of_replay folder name) (λ due. EndsDue due (Refused U status))
schedule_due U None name status h = tt
schedule_due U (Some file) name status h = told_due U file name status h

pub later_due : (U : Type 0) (folder : Folder) (name : List ℕ) (s : Schedule) (result : Result U Status) → LoadsSchedule folder name (Ok s)
    → IfSome folder (λ file. EndsDue (due_of_schedule file s) result) → IfSome (due_of_replay folder name) (λ due. EndsDue due result)
later_due U None name s result h due = tt
later_due U (Some file) name s result h due =
    subst (λ (d : Status). EndsDue d result) (sym (of_text file name h.0 (Ok s) h.1.0 h.1.1 h.2)) due

breaks : (status due : Status) → IsBreak status → IsDueUnlessPrevented status due
breaks WriteFault due h = inr tt
breaks NoMemory due h = inr tt
breaks Done due h = absurd h
breaks Usage due h = absurd h
breaks (BadSchedule line) due h = absurd h
breaks (BadImage why) due h = absurd h
breaks TooLong due h = absurd h
breaks FileFault due h = absurd h

pub break_due : (U : Type 0) (folder : Folder) (s : Schedule) (status : Status) → IsBreak status → IfSome folder (λ file. EndsDue (due_of_schedule file s) (Refused U status))
break_due U None s status h = tt
break_due U (Some file) s status h = breaks status (due_of_schedule file s) h

-- What is written.

pub refused_prints : (IsText : List ℕ → Type 0) (status : Status) (old new : Option (List ℕ)) → IsRefusal status → new ≡ old → Prints IsText status old new
refused_prints IsText (BadSchedule line) old new h same = same
refused_prints IsText (BadImage why) old new h same = same
refused_prints IsText TooLong old new h same = same
refused_prints IsText FileFault old new h same = same
refused_prints IsText NoMemory old new h same = inl same
refused_prints IsText Done old new h same = absurd h
refused_prints IsText Usage old new h same = absurd h
refused_prints IsText WriteFault old new h same = absurd h

break_prints : (IsText : List ℕ → Type 0) (status : Status) (old new : Option (List ℕ)) → IsBreak status → WritesSome IsText old new → Prints IsText status old new
break_prints IsText WriteFault old new h some = some
break_prints IsText NoMemory old new h some = inr some
break_prints IsText Done old new h some = absurd h
break_prints IsText Usage old new h some = absurd h
break_prints IsText (BadSchedule line) old new h some = absurd h
break_prints IsText (BadImage why) old new h some = absurd h
break_prints IsText TooLong old new h some = absurd h
break_prints IsText FileFault old new h some = absurd h

-- a lawful schedule whose clients have jobs has its events
abbrev pub HaveEvents : Folder → Schedule → Type 0
HaveEvents folder s = (made : List Job) → AreJobsOf folder s.events made → (events : List Event) × AreEventsOf made s.events events

pub writes_all : (folder : Folder) (s : Schedule) (w : WorldState) (old new : Option (List ℕ)) → HaveEvents folder s → IsPrepared folder s w
    → WritesTranscript s.events w old new → WritesAll (IsReplay folder s) old new
writes_all folder s w old new have p h =
    let events = have p.jobs p.are_jobs in
    let sizes = sizes_of p.flash.geometry in
    let first = first_state sizes p.flash.image p.flash.second in
    let written = h sizes p.jobs first events.0 events.1 p.stands in (
      transcript first written.0,
      record {
        flash = p.flash;
        formatted = p.formatted;
        jobs = p.jobs;
        are_jobs = p.are_jobs;
        events = events.0;
        are_events = events.1;
        is_transcript = record { moments = written.0; run = written.1; spelled = refl };
      },
      written.2,
    )

writes_some : (folder : Folder) (s : Schedule) (w : WorldState) (old new : Option (List ℕ)) → HaveEvents folder s → IsPrepared folder s w
    → WritesFrontOf s.events w old new → WritesSome (IsReplay folder s) old new
writes_some folder s w old new have p h =
    let events = have p.jobs p.are_jobs in
    let sizes = sizes_of p.flash.geometry in
    let first = first_state sizes p.flash.image p.flash.second in
    let written = h sizes p.jobs first events.0 events.1 p.stands in (
      transcript first written.moments,
      record {
        flash = p.flash;
        formatted = p.formatted;
        jobs = p.jobs;
        are_jobs = p.are_jobs;
        events = events.0;
        are_events = events.1;
        is_transcript = record { moments = written.moments; run = written.run; spelled = refl };
      },
      written.front,
    )

pub prints_some : (folder : Folder) (s : Schedule) (w : WorldState) (status : Status) (old new : Option (List ℕ)) → HaveEvents folder s → IsPrepared folder s w
    → IsBreak status → WritesFrontOf s.events w old new → Prints (IsReplay folder s) status old new
prints_some folder s w status old new have p ends h =
    break_prints (IsReplay folder s) status old new ends (writes_some folder s w old new have p h)

-- the text of a schedule is that of the file that was loaded
named : (folder : Folder) (name : List ℕ) (s : Schedule) (text : List ℕ) → LoadsSchedule folder name (Ok s) → IsReplay folder s text → IsReplayOf folder name text
named folder name s text h replay = record { script = h.0; loaded = h.1; said = s; spelled = h.2; replay = replay }

some_named : (folder : Folder) (name : List ℕ) (s : Schedule) (old new : Option (List ℕ)) → LoadsSchedule folder name (Ok s) → WritesSome (IsReplay folder s) old new
    → WritesSome (IsReplayOf folder name) old new
some_named folder name s old new h some = (some.0, named folder name s some.0 h some.1, some.2)

memory_named : (folder : Folder) (name : List ℕ) (s : Schedule) (old new : Option (List ℕ)) → LoadsSchedule folder name (Ok s)
    → (new ≡ old) ⊎ WritesSome (IsReplay folder s) old new → (new ≡ old) ⊎ WritesSome (IsReplayOf folder name) old new
memory_named folder name s old new h (inl same) = inl same
memory_named folder name s old new h (inr some) = inr (some_named folder name s old new h some)

pub prints_of : (folder : Folder) (name : List ℕ) (s : Schedule) (status : Status) (old new : Option (List ℕ)) → LoadsSchedule folder name (Ok s)
    → Prints (IsReplay folder s) status old new → Prints (IsReplayOf folder name) status old new
prints_of folder name s Done old new h all = (all.0, named folder name s all.0 h all.1, all.2)
prints_of folder name s Usage old new h same = same
prints_of folder name s (BadSchedule line) old new h same = same
prints_of folder name s (BadImage why) old new h same = same
prints_of folder name s TooLong old new h same = same
prints_of folder name s FileFault old new h same = same
prints_of folder name s WriteFault old new h some = some_named folder name s old new h some
prints_of folder name s NoMemory old new h either = memory_named folder name s old new h either

-- Causes.

still : (fault status : Status) (before now : ℕ) → (status ≡ fault → ⊥) → now ≡ before → RisesWith fault status before now
still fault status before now other same = (omega (arith, same), (λ is. absurd (other is)), (λ isnt. same))

pub done_quiet : (before now : ℕ) → now ≡ before → FileCause Done before now × WriteCause Done before now
done_quiet before now same = (still FileFault Done before now (λ is. absurd cc) same, still WriteFault Done before now (λ is. absurd cc) same)

refused_no_write : (status : Status) → IsRefusal status → status ≡ WriteFault → ⊥
refused_no_write (BadSchedule line) h is = absurd cc
refused_no_write (BadImage why) h is = absurd cc
refused_no_write TooLong h is = absurd cc
refused_no_write FileFault h is = absurd cc
refused_no_write NoMemory h is = absurd cc
refused_no_write Done h is = absurd h
refused_no_write Usage h is = absurd h
refused_no_write WriteFault h is = absurd h

pub refused_quiet : (status : Status) (before now : ℕ) → IsRefusal status → now ≡ before → WriteCause status before now
refused_quiet status before now h same = still WriteFault status before now (refused_no_write status h) same

break_no_file : (status : Status) → IsBreak status → status ≡ FileFault → ⊥
break_no_file WriteFault h is = absurd cc
break_no_file NoMemory h is = absurd cc
break_no_file Done h is = absurd h
break_no_file Usage h is = absurd h
break_no_file (BadSchedule line) h is = absurd h
break_no_file (BadImage why) h is = absurd h
break_no_file TooLong h is = absurd h
break_no_file FileFault h is = absurd h

pub break_quiet : (status : Status) (before now : ℕ) → IsBreak status → now ≡ before → FileCause status before now
break_quiet status before now h same = still FileFault status before now (break_no_file status h) same

loads_refused_so : (folder : Folder) (name : List ℕ) (status : Status) → LoadsSchedule folder name (Refused Schedule status) → IsRefusal status
loads_refused_so folder name Done h = absurd h
loads_refused_so folder name Usage h = absurd h
loads_refused_so folder name (BadSchedule line) h = tt
loads_refused_so folder name (BadImage why) h = absurd h
loads_refused_so folder name TooLong h = tt
loads_refused_so folder name FileFault h = tt
loads_refused_so folder name WriteFault h = absurd h
loads_refused_so folder name NoMemory h = tt

pub unloaded_prints : (folder : Folder) (name : List ℕ) (status : Status) (old new : Option (List ℕ)) → LoadsSchedule folder name (Refused Schedule status) → new ≡ old
    → Prints (IsReplayOf folder name) status old new
unloaded_prints folder name status old new h same = refused_prints (IsReplayOf folder name) status old new (loads_refused_so folder name status h) same

pub unloaded_quiet : (folder : Folder) (name : List ℕ) (status : Status) (before now : ℕ) → LoadsSchedule folder name (Refused Schedule status) → now ≡ before
    → WriteCause status before now
unloaded_quiet folder name status before now h same = refused_quiet status before now (loads_refused_so folder name status h) same

-- By how writing ended.

result_due : (U : Type 0) (due : Status) (result : Result U Status) → due ≡ Done → IfErr result IsBreak → EndsDue due result
result_due U due (Ok x) is ends = is
result_due U due (Err status) is ends = breaks status due ends

pub write_due : (U : Type 0) (folder : Folder) (s : Schedule) (result : Result U Status) → IfSome folder (λ file. due_of_schedule file s ≡ Done) → IfErr result IsBreak
    → IfSome folder (λ file. EndsDue (due_of_schedule file s) result)
write_due U None s result is ends = tt
write_due U (Some file) s result is ends = result_due U (due_of_schedule file s) result is ends

pub write_prints : (U : Type 0) (folder : Folder) (s : Schedule) (w : WorldState) (result : Result U Status) (old new : Option (List ℕ)) → HaveEvents folder s → IsPrepared folder s w
    → OnOk result (WritesTranscript s.events w old new) → OnErr result (WritesFrontOf s.events w old new) → IfErr result IsBreak
    → Prints (IsReplay folder s) (status_of result) old new
write_prints U folder s w (Ok x) old new have p all front ends = writes_all folder s w old new have p all
write_prints U folder s w (Err status) old new have p all front ends = prints_some folder s w status old new have p ends front

pub write_cause : (U : Type 0) (result : Result U Status) (before now : ℕ) → WriteEnds result before now → WriteCause (status_of result) before now
write_cause U (Ok x) before now h = still WriteFault Done before now (λ is. absurd cc) h
write_cause U (Err status) before now h = h

pub break_file_cause : (U : Type 0) (result : Result U Status) (before now : ℕ) → IfErr result IsBreak → now ≡ before → FileCause (status_of result) before now
break_file_cause U (Ok x) before now ends same = still FileFault Done before now (λ is. absurd cc) same
break_file_cause U (Err status) before now ends same = break_quiet status before now ends same

-- What fails is told so.

pub refused_fails : (status : Status) → IsRefusal status → IsFailure status
refused_fails (BadSchedule line) h = ((λ is. absurd cc), (λ is. absurd cc))
refused_fails (BadImage why) h = ((λ is. absurd cc), (λ is. absurd cc))
refused_fails TooLong h = ((λ is. absurd cc), (λ is. absurd cc))
refused_fails FileFault h = ((λ is. absurd cc), (λ is. absurd cc))
refused_fails NoMemory h = ((λ is. absurd cc), (λ is. absurd cc))
refused_fails Done h = absurd h
refused_fails Usage h = absurd h
refused_fails WriteFault h = absurd h

break_fails : (status : Status) → IsBreak status → IsFailure status
break_fails WriteFault h = ((λ is. absurd cc), (λ is. absurd cc))
break_fails NoMemory h = ((λ is. absurd cc), (λ is. absurd cc))
break_fails Done h = absurd h
break_fails Usage h = absurd h
break_fails (BadSchedule line) h = absurd h
break_fails (BadImage why) h = absurd h
break_fails TooLong h = absurd h
break_fails FileFault h = absurd h

pub write_fails : (U : Type 0) (result : Result U Status) → IfErr result IsBreak → IfErr result IsFailure
write_fails U (Ok x) ends = tt
write_fails U (Err status) ends = break_fails status ends

pub unloaded_fails : (folder : Folder) (name : List ℕ) (status : Status) → LoadsSchedule folder name (Refused Schedule status) → IsFailure status
unloaded_fails folder name status h = refused_fails status (loads_refused_so folder name status h)
