-- A schedule: an optional flash line and events, one a line.
use Rattle.std.specs.Prelude.{◌≡◌, ◌+◌, ◌<◌, ◌^◌, length, ℕ, suc, nat_lt, if◌then◌else◌, List, [], ◌∷◌, ◌++◌, Option, Some, None, Result, Ok, Err}
use Rattle.smp_schedule.specs.declared.event.Event.{Event}
use Rattle.smp_schedule.specs.declared.event.Event.TheVariants as events
use Rattle.smp_schedule.specs.declared.flash_line.FlashLine.{FlashLine}
use Rattle.smp_schedule.specs.declared.fault.ScheduleFault.{ScheduleFault}
use Rattle.smp_schedule.specs.declared.fault.ScheduleFault.TheVariants.{BadLine, OutOfMemory}
use Rattle.smp_schedule.specs.Fields.{lines_of, is_skipped, fields_of}
use Rattle.smp_schedule.specs.Events.{event_in, flash_in}

pub record Schedule : Type 0 where
  pub flash : Option FlashLine
  pub events : List Event

-- the clients after an event
abbrev pub clients_after : Event → ℕ → ℕ
clients_after (events.Client number job) clients = number
clients_after event clients = clients

-- The event of a line, after so many clients and events: at most 100000 events.
abbrev pub event_at : ℕ → ℕ → List ℕ → Option Event
event_at clients count line = if nat_lt count 100000 then event_in clients (fields_of line) else None

-- An event in front of those of the further lines, or the first line outside the grammar.
abbrev pub onto_events : ℕ → Option Event → Result (List Event) ℕ → Result (List Event) ℕ
onto_events number None others = Err number
onto_events number (Some event) (Ok others) = Ok (event ∷ others)
onto_events number (Some event) (Err line) = Err line

abbrev pub clients_with : Option Event → ℕ → ℕ
clients_with None clients = clients
clients_with (Some event) clients = clients_after event clients

-- The events from a line on, by its number from 1, or the first line outside the grammar.
abbrev pub events_from : ℕ → ℕ → ℕ → List (List ℕ) → Result (List Event) ℕ
events_from number clients count [] = Ok []
events_from number clients count (line ∷ lines) =
    if is_skipped line then events_from (suc number) clients count lines
    else onto_events number (event_at clients count line) (events_from (suc number) (clients_with (event_at clients count line) clients) (suc count) lines)

abbrev pub under : Option FlashLine → Result (List Event) ℕ → Result Schedule ℕ
under flash (Ok events) = Ok record { flash = flash; events = events }
under flash (Err line) = Err line

-- The first line that is not skipped may be a flash line.
abbrev pub begun : ℕ → Option FlashLine → List ℕ → List (List ℕ) → Result Schedule ℕ
begun number (Some flash) line lines = under (Some flash) (events_from (suc number) 0 0 lines)
begun number None line lines = under None (events_from number 0 0 (line ∷ lines))

abbrev pub schedule_from : ℕ → List (List ℕ) → Result Schedule ℕ
schedule_from number [] = Ok record { flash = None; events = [] }
schedule_from number (line ∷ lines) =
    if is_skipped line then schedule_from (suc number) lines else begun number (flash_in (fields_of line)) line lines

-- The schedule that a text spells, or the first line outside the grammar.
abbrev pub schedule : List ℕ → Result Schedule ℕ
schedule text = schedule_from 1 (lines_of text)

-- What reading a schedule answers.
abbrev pub Reads : Result Schedule ScheduleFault → Result Schedule ℕ → Type 0
Reads (Ok s) read = read ≡ Ok s
Reads (Err (BadLine n)) read = read ≡ Err n
Reads (Err OutOfMemory) read = Unit {0}

-- What reading one line answers, by its number and its event.
abbrev pub ReadsLine : Result Event ScheduleFault → ℕ → Option Event → Type 0
ReadsLine (Ok event) number due = due ≡ Some event
ReadsLine (Err (BadLine n)) number due = (n ≡ number) × (due ≡ None)
ReadsLine (Err OutOfMemory) number due = Unit {0}

-- these events, and those that are read after them
abbrev pub after : List Event → Result (List Event) ℕ → Result (List Event) ℕ
after events (Ok others) = Ok (events ++ others)
after events (Err line) = Err line

-- the events that were read, with those of the lines that are left
abbrev pub events_left : List Event → ℕ → ℕ → List (List ℕ) → Result (List Event) ℕ
events_left events clients number lines = after events (events_from number clients (length events) lines)

-- What a line does to them: nothing, or it is the first outside the grammar.
abbrev pub TakesLine : {T : Type 0} → Result T ScheduleFault → Result (List Event) ℕ → Result (List Event) ℕ → Type 0
TakesLine (Ok t) old new = old ≡ new
TakesLine (Err (BadLine n)) old new = old ≡ Err n
TakesLine (Err OutOfMemory) old new = Unit {0}

abbrev pub ReadsEvents : {V : Type 0} → (V → List Event) → Result V ScheduleFault → Result (List Event) ℕ → Type 0
ReadsEvents view (Ok v) read = read ≡ Ok (view v)
ReadsEvents view (Err (BadLine n)) read = read ≡ Err n
ReadsEvents view (Err OutOfMemory) read = Unit {0}

-- The first line of a text that is not skipped, with its number, what is behind it, and the text from it on.
pub record IsFirst (text : List ℕ) (number : ℕ) (line behind from : List ℕ) : Type 0 where
  pub reads : schedule text ≡ begun number (flash_in (fields_of line)) line (lines_of behind)
  pub lines : lines_of from ≡ line ∷ lines_of behind
  pub fits : number + length from < 2 ^ 32
  pub shorter : length behind < length from
