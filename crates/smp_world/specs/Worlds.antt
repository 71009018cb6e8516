-- What a world stands for, and what a step of it does.
use Rattle.std.specs.Prelude.{◌≡◌, ◌+◌, ◌-◌, ◌*◌, ◌<◌, ◌≤◌, ◌^◌, ℕ, List, [], ◌∷◌, ◌++◌, length, codes, count_by, Option, Some, None, Result, Ok, Err, is_some, slice_get, slice_index_or}
use Rattle.smp_header.specs.Message.{packet}
use Rattle.smp_model.specs.declared.device.AbstractDevice.{AbstractDevice}
use Rattle.smp_model.specs.declared.device.Sizes.{Sizes}
use Rattle.smp_model.specs.Packets.{packet_bytes}
use Rattle.smp_jobs.specs.Jobs.{Job, End, done, no_answer, refused, mismatch, stalled}
use Rattle.smp_jobs.specs.Clients.{begun}
use Rattle.smp_jobs.specs.States.{JobState, Stands, packet_in}
use Rattle.smp_jobs.specs.declared.moves.JobEnd.{JobEnd}
use Rattle.smp_jobs.specs.declared.moves.JobEnd.TheVariants as job_ends
use Rattle.smp_jobs.specs.declared.moves.JobMove.{JobMove}
use Rattle.smp_jobs.specs.declared.moves.JobMove.TheVariants as moves
use Rattle.smp_flash.specs.Memory.{Memory}
use Rattle.smp_flash.specs.declared.geometry.Geometry.{Geometry}
use Rattle.smp_device.specs.Uploads.{sizes_of}
use Rattle.smp_device.specs.declared.device.OpenFault.{OpenFault}
use Rattle.smp_device.specs.declared.device.OpenFault.TheVariants as opens
use Rattle.smp_schedule.specs.declared.event.Event.{Event as Said}
use Rattle.smp_schedule.specs.declared.event.Event.TheVariants as said
use Rattle.smp_world.specs.Clients.{Asking, ClientsState, ClientsStand, Pairs}
use Rattle.smp_world.specs.Lines as lines
use Rattle.smp_world.specs.Lines.{Did, Line, is_booted, is_cut, line_text, lines_text}
use Rattle.smp_world.specs.Machines.{IsFormatted, MachineState, MachineStands, IsShown, armed_of, sizes_in}
use Rattle.smp_world.specs.Runs.{Event, begins, Happens, Mail as Sent, Moment, State, first_state, last_line}
use Rattle.smp_world.specs.Schedules.{event_of}
use Rattle.smp_world.specs.declared.machine.BootEnd.{BootEnd}
use Rattle.smp_world.specs.declared.machine.BootEnd.TheVariants as ends
use Rattle.smp_world.specs.declared.machine.Fate.{Fate}
use Rattle.smp_world.specs.declared.machine.Fate.TheVariants as fates
use Rattle.smp_world.specs.declared.clients.Seat.{Seat}
use Rattle.smp_world.specs.declared.mail.Mail.{Mail}

pub record WorldState : Type 0 where
  pub machine : MachineState
  pub clients : ClientsState
  pub packets : List Mail
  pub replies : List Mail
  -- how many steps it made, and how many cuts fell and boots ended with the device up
  pub steps : ℕ
  pub cuts : ℕ
  pub boots : ℕ

-- the bytes of a packet, which are read as it
pub record MailStands (mail : Mail) (sent : Sent) : Type 0 where
  pub client : mail.client ≡ sent.client
  pub bytes : mail.packet ≡ packet_bytes sent.message
  pub is_packet : packet mail.packet ≡ Some sent.message

-- of a client's packet, which is a request
pub record PacketStands (mail : Mail) (sent : Sent) : Type 0 where
  pub stands : MailStands mail sent
  pub asks : Asking sent.message

-- It stands for a state of a run over a flash of these sizes, whose clients have these jobs; no bank was written more often than
-- `age` says.
pub record WorldStands (age : ℕ) (sizes : Sizes) (jobs : List Job) (w : WorldState) (s : State) : Type 0 where
  pub machine : MachineStands age w.machine s.device
  pub sizes_are : sizes_in w.machine ≡ sizes
  pub up : is_some w.machine.device.up ≡ s.up
  pub armed : armed_of w.machine ≡ s.armed
  pub clients : ClientsStand jobs w.clients s.clients
  pub packets : Pairs PacketStands w.packets s.packets
  pub replies : Pairs MailStands w.replies s.replies

-- A moment of a run came of an event: the world stands for the state then, its lines were put, and its cuts and boots are counted.
pub record Stepped (age : ℕ) (sizes : Sizes) (jobs : List Job) (s : State) (e : Event) (old new : WorldState) (before after : List ℕ) : Type 0 where
  pub moment : Moment
  pub happens : Happens sizes s e moment
  pub stands : WorldStands age sizes jobs new moment.state
  pub spelled : after ≡ before ++ lines_text moment.lines
  pub cuts : new.cuts ≡ old.cuts + count_by is_cut moment.lines
  pub boots : new.boots ≡ old.boots + count_by is_booted moment.lines

-- a bank is written at most seven times in a step
abbrev pub DoesEvent : Event → (old new : WorldState) → (before after : List ℕ) → Type 0
DoesEvent e old new before after =
    (age : ℕ) (sizes : Sizes) (jobs : List Job) (s : State) → WorldStands age sizes jobs old s → age + 10 < 2 ^ 32 → Stepped (age + 7) sizes jobs s e old new before after

-- the same of an event of a schedule
abbrev pub DoesSaid : Said → (old new : WorldState) → (before after : List ℕ) → Type 0
DoesSaid event old new before after =
    (age : ℕ) (sizes : Sizes) (jobs : List Job) (s : State) (e : Event) → event_of jobs event ≡ Some e → WorldStands age sizes jobs old s → age + 10 < 2 ^ 32 → Stepped (age + 7) sizes jobs s e old new before after

-- the next client begins its job
abbrev pub DoesBegin : (old new : WorldState) → (before after : List ℕ) → Type 0
DoesBegin old new before after =
    (age : ℕ) (sizes : Sizes) (jobs : List Job) (s : State) (job : Job) → slice_get jobs (length s.clients) ≡ Some job → WorldStands age sizes jobs old s → age + 10 < 2 ^ 32 → Stepped (age + 7) sizes jobs s (begins job) old new before after

-- A world after its steps.

abbrev pub age_of : ℕ → ℕ
age_of steps = 3 + 7 * steps

abbrev pub StandsNow : Sizes → List Job → WorldState → State → Type 0
StandsNow sizes jobs w s = WorldStands (age_of w.steps) sizes jobs w s

-- A world over a flash that was formatted, whose clients have these jobs, stands for the first state of its runs. There is none
-- only for want of memory.
abbrev pub OpensWorld : Result WorldState OpenFault → Memory → List JobState → Type 0
OpensWorld (Ok w) m states =
    (g : Geometry) (image : List ℕ) (second : Option (List ℕ)) (jobs : List Job) → IsFormatted g image second m → Pairs (λ state job. Stands state (begun job)) states jobs
    → StandsNow (sizes_of g) jobs w (first_state (sizes_of g) image second)
OpensWorld (Err fault) m states = (g : Geometry) (image : List ℕ) (second : Option (List ℕ)) → IsFormatted g image second m → fault ≡ opens.OutOfMemory

-- the clause of a step: for whatever state the world stands, a moment of its run came of the event
abbrev pub Steps : Said → (old new : WorldState) → (before after : List ℕ) → Type 0
Steps event old new before after =
    (sizes : Sizes) (jobs : List Job) (s : State) (e : Event) → event_of jobs event ≡ Some e → StandsNow sizes jobs old s → Stepped (age_of new.steps) sizes jobs s e old new before after

-- a step may be made: clients begin in their order, and an arm has a number
abbrev pub CanStep : WorldState → Said → Type 0
CanStep w (said.Client number words) = (number ≡ length w.clients.begun + 1) × (1 ≤ length w.clients.waiting)
CanStep w (said.Armed arm) = 1 ≤ arm.after
CanStep w event = Unit {0}

-- how many clients have begun then, and how many are to begin
abbrev pub OneBegan : (old new : WorldState) → Type 0
OneBegan old new = (length new.clients.begun ≡ length old.clients.begun + 1) × (length new.clients.waiting + 1 ≡ length old.clients.waiting)

abbrev pub NoneBegan : (old new : WorldState) → Type 0
NoneBegan old new = (length new.clients.begun ≡ length old.clients.begun) × (length new.clients.waiting ≡ length old.clients.waiting)

abbrev pub CountsClients : Said → (old new : WorldState) → Type 0
CountsClients (said.Client number words) old new = OneBegan old new
CountsClients event old new = NoneBegan old new

-- the last line is that of the state for which it stands
abbrev pub EndsWorld : WorldState → (before after : List ℕ) → Type 0
EndsWorld w before after = (age : ℕ) (sizes : Sizes) (jobs : List Job) (s : State) → WorldStands age sizes jobs w s → after ≡ before ++ last_line s

-- What is put.

abbrev pub PutsLine : Line → (before after : List ℕ) → Type 0
PutsLine line before after = after ≡ before ++ (line_text line ++ codes "\n")

-- what came of raw bytes, and of a client's packet, by the reply's bytes
abbrev pub raw_told : Fate → List ℕ → lines.Fate
raw_told fates.Replied reply = lines.replied None reply
raw_told fates.Reset reply = lines.replied None reply
raw_told fates.Dropped reply = lines.dropped
raw_told fates.Down reply = lines.is_down
raw_told fates.Cut reply = lines.was_cut

abbrev pub up_told : Fate → (number : ℕ) → List ℕ → lines.Fate
up_told fates.Replied number reply = lines.replied (Some number) reply
up_told fates.Reset number reply = lines.replied (Some number) reply
up_told fates.Dropped number reply = lines.dropped
up_told fates.Down number reply = lines.is_down
up_told fates.Cut number reply = lines.was_cut

-- the line of a boot, where there was one
abbrev pub PutsBoot : Option BootEnd → MachineState → (before after : List ℕ) → Type 0
PutsBoot None m before after = after ≡ before
PutsBoot (Some ends.Up) m before after = (d : AbstractDevice) → IsShown m d → PutsLine (lines.booted d) before after
PutsBoot (Some ends.Cut) m before after = PutsLine lines.boot_cut before after
PutsBoot (Some ends.Fault) m before after = PutsLine lines.boot_fault before after

-- how a job ended, but for want of memory, which is not told
abbrev pub end_of : JobEnd → Option End
end_of job_ends.NoAnswer = Some no_answer
end_of (job_ends.Refused group number) = Some (refused group number)
end_of job_ends.Mismatch = Some mismatch
end_of job_ends.Stalled = Some stalled
end_of job_ends.OutOfMemory = None

abbrev pub did_ended : Option End → Option Did
did_ended None = None
did_ended (Some e) = Some (lines.ended e)

abbrev pub did_of : JobMove → ℕ → Option Did
did_of moves.Send number = Some (lines.sent number)
did_of moves.Wait number = Some lines.waits
did_of moves.Done number = Some (lines.ended done)
did_of (moves.Failed e) number = did_ended (end_of e)
did_of moves.Over number = Some lines.over

-- what a client did, by its move and the number of its packet, where there is such a client
abbrev pub move_told : Option JobMove → ℕ → Option Did
move_told None number = Some lines.none
move_told (Some made) number = did_of made number

abbrev pub PutsEnd : Option End → (before after : List ℕ) → Type 0
PutsEnd None before after = ⊥
PutsEnd (Some e) before after = after ≡ before ++ lines.end_text e

abbrev pub PutsDid : Option Did → (before after : List ℕ) → Type 0
PutsDid None before after = ⊥
PutsDid (Some did) before after = after ≡ before ++ lines.did_text did

abbrev pub PutsMove : (Did → Line) → Option Did → (before after : List ℕ) → Type 0
PutsMove line None before after = ⊥
PutsMove line (Some did) before after = PutsLine (line did) before after

-- the packet of the client with this number
abbrev pub IsPacketOf : ℕ → ClientsState → List ℕ → Type 0
IsPacketOf number clients bytes = (d : Seat) → bytes ≡ packet_in (slice_index_or clients.begun (number - 1) d).job

abbrev pub with_mail : List Mail → ℕ → List ℕ → List Mail
with_mail mail client packet = mail ++ record { client = client; packet = packet } ∷ []

-- the packet that a client sent is kept
abbrev pub KeepsPacket : (client : ℕ) → (old new : WorldState) → Type 0
KeepsPacket client old new = (bytes : List ℕ) × (IsPacketOf client old.clients bytes × (new ≡ record old { packets = with_mail old.packets client bytes }))

abbrev pub KeepsSent : Option JobMove → (client : ℕ) → (old new : WorldState) → Type 0
KeepsSent (Some moves.Send) client old new = KeepsPacket client old new
KeepsSent made client old new = new ≡ old

-- and the reply to one
abbrev pub KeepsReply : Fate → (client : ℕ) → (old new : WorldState) → Type 0
KeepsReply fates.Replied client old new = new ≡ record old { replies = with_mail old.replies client old.machine.reply }
KeepsReply fates.Reset client old new = new ≡ record old { replies = with_mail old.replies client old.machine.reply }
KeepsReply fates.Dropped client old new = new ≡ old
KeepsReply fates.Down client old new = new ≡ old
KeepsReply fates.Cut client old new = new ≡ old

-- What is counted of a packet, and of the boot that followed it: cuts, and boots that ended with the device up.
abbrev pub fate_cuts : Fate → ℕ
fate_cuts fates.Cut = 1
fate_cuts fate = 0

abbrev pub boot_cuts : Option BootEnd → ℕ
boot_cuts (Some ends.Cut) = 1
boot_cuts boot = 0

abbrev pub boot_ups : Option BootEnd → ℕ
boot_ups (Some ends.Up) = 1
boot_ups boot = 0
