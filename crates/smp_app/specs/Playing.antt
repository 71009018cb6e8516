-- Events of a schedule that happen to a world, and what is put of them.
use Rattle.std.specs.Prelude.{◌≡◌, ◌+◌, ◌≤◌, ◌<◌, ◌++◌, ℕ, List, [], ◌∷◌, length, flat_map, Option, Some}
use Rattle.std.specs.Io.KnownBytes.{append_known}
use Rattle.smp_edge.specs.Sink.{AppendsFront}
use Rattle.smp_jobs.specs.Jobs.{Job}
use Rattle.smp_model.specs.declared.device.Sizes.{Sizes}
use Rattle.smp_schedule.specs.declared.event.Event.{Event as Said}
use Rattle.smp_schedule.specs.declared.event.Event.TheVariants as said
use Rattle.smp_schedule.specs.Lawful.{AreEvents}
use Rattle.smp_world.specs.Lines.{lines_text}
use Rattle.smp_world.specs.Runs.{Event, Happens, Moment, Run, State, last_line, state_at_end, transcript}
use Rattle.smp_world.specs.Schedules.{AreEventsOf, event_of}
use Rattle.smp_world.specs.Worlds.{StandsNow, WorldState}
use Rattle.smp_app.specs.Gathering.{PutOn}
use Rattle.smp_app.specs.declared.status.Status.{Status}
use Rattle.smp_app.specs.declared.status.Status.TheVariants.{Done, Usage, BadSchedule, BadImage, TooLong, FileFault, WriteFault, NoMemory}

-- how many clients begin
abbrev pub clients_in : List Said → ℕ
clients_in [] = 0
clients_in (said.Client number words ∷ later) = 1 + clients_in later
clients_in (event ∷ later) = clients_in later

-- A world in which these events can happen: clients begin in their order, each with a job that waits.
pub record CanPlay (w : WorldState) (events : List Said) : Type 0 where
  pub lawful : AreEvents (length w.clients.begun) events
  pub jobs : clients_in events ≤ length w.clients.waiting
  pub steps : w.steps + length events < 500000000

-- the lines of moments
abbrev pub text_of : List Moment → List ℕ
text_of moments = flat_map (λ m. lines_text m.lines) moments

-- The events happened: a run of them led to the state that the world stands for, of whose lines some were put out and the others are
-- held.
pub record Plays (sizes : Sizes) (jobs : List Job) (s : State) (events : List Event) (w : WorldState) (old new : Option (List ℕ)) (held : List ℕ) : Type 0 where
  pub moments : List Moment
  pub run : Run sizes s events moments
  pub stands : StandsNow sizes jobs w (state_at_end s moments)
  pub put : PutOn old new (text_of moments) held

-- It broke off: a front of the lines of a run was put out.
pub record BreaksOff (sizes : Sizes) (s : State) (events : List Event) (old new : Option (List ℕ)) : Type 0 where
  pub moments : List Moment
  pub run : Run sizes s events moments
  pub front : AppendsFront old new (text_of moments)

-- whatever run the world stands in
abbrev pub PlaysAll : List Said → (before after : WorldState) → (old new : Option (List ℕ)) → List ℕ → Type 0
PlaysAll said before after old new held = (sizes : Sizes) (jobs : List Job) (s : State) (events : List Event)
    → AreEventsOf jobs said events → StandsNow sizes jobs before s → Plays sizes jobs s events after old new held

abbrev pub BreaksAll : List Said → WorldState → (old new : Option (List ℕ)) → Type 0
BreaksAll said before old new = (sizes : Sizes) (jobs : List Job) (s : State) (events : List Event)
    → AreEventsOf jobs said events → StandsNow sizes jobs before s → BreaksOff sizes s events old new

-- The whole transcript, and a front of one.
pub record Writes (sizes : Sizes) (s : State) (events : List Event) (old new : Option (List ℕ)) : Type 0 where
  pub moments : List Moment
  pub run : Run sizes s events moments
  pub front : AppendsFront old new (transcript s moments)

-- how playing may end that is not done
abbrev pub IsBreak : Status → Type 0
IsBreak WriteFault = Unit {0}
IsBreak NoMemory = Unit {0}
IsBreak Done = ⊥
IsBreak Usage = ⊥
IsBreak (BadSchedule line) = ⊥
IsBreak (BadImage why) = ⊥
IsBreak TooLong = ⊥
IsBreak FileFault = ⊥

-- One event.

abbrev pub PlaysOne : Said → (before after : WorldState) → (old new : Option (List ℕ)) → (held_before held : List ℕ) → Type 0
PlaysOne event before after old new held_before held = (sizes : Sizes) (jobs : List Job) (s : State) (e : Event)
    → event_of jobs event ≡ Some e → StandsNow sizes jobs before s
    → (m : Moment) × Happens sizes s e m × StandsNow sizes jobs after m.state × PutOn old new (held_before ++ lines_text m.lines) held

abbrev pub BreaksOne : Said → WorldState → (old new : Option (List ℕ)) → List ℕ → Type 0
BreaksOne event before old new held = (sizes : Sizes) (jobs : List Job) (s : State) (e : Event)
    → event_of jobs event ≡ Some e → StandsNow sizes jobs before s
    → (m : Moment) × Happens sizes s e m × AppendsFront old new (held ++ lines_text m.lines)

-- So far a run came of the first events, which goes on with those that are left.
pub record Going (sizes : Sizes) (jobs : List Job) (s : State) (events : List Event) (rest : List Said) (w : WorldState) (old new : Option (List ℕ)) (held : List ℕ) : Type 0 where
  pub moments : List Moment
  pub left : List Event
  pub are_left : AreEventsOf jobs rest left
  pub stands : StandsNow sizes jobs w (state_at_end s moments)
  pub goes : (more : List Moment) → Run sizes (state_at_end s moments) left more → Run sizes s events (moments ++ more)
  pub put : PutOn old new (text_of moments) held

abbrev pub GoesOn : List Said → List Said → (before now : WorldState) → (old new : Option (List ℕ)) → List ℕ → Type 0
GoesOn said rest before now old new held = (sizes : Sizes) (jobs : List Job) (s : State) (events : List Event)
    → AreEventsOf jobs said events → StandsNow sizes jobs before s → Going sizes jobs s events rest now old new held

-- from each state there is a run of whatever events
abbrev pub AllRun : Type 0
AllRun = (sizes : Sizes) (s : State) (events : List Event) → (moments : List Moment) × Run sizes s events moments

-- the transcript was written, of whatever run the world stands in
abbrev pub WritesTranscript : List Said → WorldState → (old new : Option (List ℕ)) → Type 0
WritesTranscript said before old new = (sizes : Sizes) (jobs : List Job) (s : State) (events : List Event)
    → AreEventsOf jobs said events → StandsNow sizes jobs before s
    → (moments : List Moment) × Run sizes s events moments × (new ≡ append_known old (transcript s moments))

abbrev pub WritesFrontOf : List Said → WorldState → (old new : Option (List ℕ)) → Type 0
WritesFrontOf said before old new = (sizes : Sizes) (jobs : List Job) (s : State) (events : List Event)
    → AreEventsOf jobs said events → StandsNow sizes jobs before s → Writes sizes s events old new

-- The last line was put behind what was held, for whatever state the world stands.
abbrev pub Finishes : WorldState → List ℕ → (old new : Option (List ℕ)) → Type 0
Finishes w held old new = (sizes : Sizes) (jobs : List Job) (s : State) → StandsNow sizes jobs w s → new ≡ append_known old (held ++ last_line s)

abbrev pub FinishesInPart : WorldState → List ℕ → (old new : Option (List ℕ)) → Type 0
FinishesInPart w held old new = (sizes : Sizes) (jobs : List Job) (s : State) → StandsNow sizes jobs w s → AppendsFront old new (held ++ last_line s)
