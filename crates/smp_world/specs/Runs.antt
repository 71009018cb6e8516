-- Runs: events, and what may come of each, from the state before it.
use Rattle.std.specs.Prelude.{◌≡◌, ℕ, zero, suc, ◌+◌, List, [], ◌∷◌, ◌++◌, length, count_by, flat_map, Bool, true, false, not, ◌||◌, Option, Some, None, slice_get, slice_set}
use Rattle.std.specs.Result.{result_ok}
use Rattle.smp_header.specs.Message.{Message, packet}
use Rattle.smp_flash.specs.declared.arm.Arm.{Arm}
use Rattle.smp_model.specs.declared.device.AbstractDevice.{AbstractDevice}
use Rattle.smp_model.specs.declared.device.Sizes.{Sizes}
use Rattle.smp_model.specs.Counters.{after_drop}
use Rattle.smp_model.specs.Handled.{is_request}
use Rattle.smp_model.specs.Meaning.{meaning}
use Rattle.smp_model.specs.Meant.{Meant}
use Rattle.smp_model.specs.Packets.{packet_bytes}
use Rattle.smp_model.specs.Said.{Said, reply_message}
use Rattle.smp_model.specs.Steps.{Step}
use Rattle.smp_jobs.specs.Jobs.{Job, End, done}
use Rattle.smp_jobs.specs.Clients.{Client, Turn, begun, client_hears, client_waited}
use Rattle.smp_device.specs.Formatting.{formatted}
use Rattle.smp_device.specs.Goings.{Armed, armed_by, Booted, Boots, after_boot}
use Rattle.smp_world.specs.Comings.{is_up, Came, Comes, after_coming, is_up_after, steps_of_boot, armed_after, is_boot_struck}
use Rattle.smp_world.specs.Lines as lines
use Rattle.smp_world.specs.Lines.{Line, Did, Fate, boot_line_by, lines_text, last_text}

-- a packet or a reply by its number, from 1, or the newest
pub data Which : Type 0 where
  new : Which
  number : ℕ → Which

pub data Event : Type 0 where
  -- a client begins its job
  begins : Job → Event
  -- bytes come to the device that no client sent
  raw : List ℕ → Event
  -- a packet that a client sent comes to the device
  up : Which → Event
  -- a reply to a client's packet comes to that client
  down : Which → Event
  -- a wait of a client ends
  quiet : (client : ℕ) → Event
  arms : Arm → Event
  boot : Event

-- a packet of a client, or a reply to one
pub record Mail : Type 0 where
  pub client : ℕ
  pub message : Message

-- Clients, packets and replies are numbered from 1 in the order in which they came.
pub record State : Type 0 where
  pub device : AbstractDevice
  pub up : Bool
  pub armed : Option Armed
  pub clients : List Client
  pub packets : List Mail
  pub replies : List Mail

-- What came of an event: its lines, the request that the device took in hand with the steps that it took and the reply that
-- it sent, whether a trouble struck, and the state then.
pub record Moment : Type 0 where
  pub lines : List Line
  pub request : Option Meant
  pub taken : List Step
  pub reply : Option Said
  pub struck : Bool
  pub state : State

-- the one of this number, from 1
abbrev pub nth : {A : Type 0} → List A → ℕ → Option A
nth xs zero = None
nth xs (suc n) = slice_get xs n

-- another in its place
abbrev pub with_nth : {A : Type 0} → List A → ℕ → A → List A
with_nth xs zero x = xs
with_nth xs (suc n) x = slice_set xs n x

-- the number that is meant: that of the newest is the count of them
abbrev pub number_of : {A : Type 0} → List A → Which → ℕ
number_of xs new = length xs
number_of xs (number n) = n

-- a moment at which the device does nothing
abbrev pub still : Line → State → Moment
still line s = record { lines = line ∷ []; request = None; taken = []; reply = None; struck = false; state = s }

-- Packets to the device.

-- the state after what came of a packet
abbrev pub state_after : State → Came → State
state_after s c = record s {
  device = after_coming c s.device;
  up = is_up_after c.boot c.went.reply;
  armed = armed_after c.boot c.went.armed;
}

-- the line of a boot after a reset
abbrev pub boot_lines : Option Booted → AbstractDevice → List Line
boot_lines None d = []
boot_lines (Some b) d = boot_line_by b.ended d ∷ []

-- the moment of a packet, by what came of it and the state then
abbrev pub moment_of : Line → Message → Came → State → Moment
moment_of line m c t = record {
  lines = line ∷ boot_lines c.boot t.device;
  request = result_ok (meaning m);
  taken = c.went.taken ++ steps_of_boot c.boot;
  reply = c.went.reply;
  struck = c.went.struck || is_boot_struck c.boot;
  state = t;
}

-- the bytes of a reply to a packet
abbrev pub reply_to : Message → Said → List ℕ
reply_to m reply = packet_bytes (reply_message m reply)

-- what is told of raw bytes that are a request
abbrev pub raw_fate : Message → Option Said → Fate
raw_fate m None = lines.was_cut
raw_fate m (Some reply) = lines.replied None (reply_to m reply)

-- bytes that are no request are dropped
abbrev pub drops : State → State
drops s = record s { device = record s.device { counters = after_drop s.device.counters } }

-- what may come of raw bytes: of a request, of a packet that may be none, of bytes that may be no packet, and where the device may
-- be down
abbrev pub RawRequest : Sizes → State → Message → Moment → Type 0
RawRequest sizes s m out =
    (c : Came) × Comes sizes s.armed s.device (meaning m) c × (out ≡ moment_of (lines.raw (raw_fate m c.went.reply)) m c (state_after s c))

abbrev pub RawMessage : Sizes → Bool → State → Message → Moment → Type 0
RawMessage sizes true s m out = RawRequest sizes s m out
RawMessage sizes false s m out = out ≡ still (lines.raw lines.dropped) (drops s)

abbrev pub RawPacket : Sizes → State → Option Message → Moment → Type 0
RawPacket sizes s None out = out ≡ still (lines.raw lines.dropped) (drops s)
RawPacket sizes s (Some m) out = RawMessage sizes (is_request m) s m out

abbrev pub RawComes : Sizes → Bool → State → List ℕ → Moment → Type 0
RawComes sizes true s bytes out = RawPacket sizes s (packet bytes) out
RawComes sizes false s bytes out = out ≡ still (lines.raw lines.is_down) s

-- what is told of a client's packet: its reply is the next one
abbrev pub up_fate : State → Message → Option Said → Fate
up_fate s m None = lines.was_cut
up_fate s m (Some reply) = lines.replied (Some (length s.replies + 1)) (reply_to m reply)

-- the replies with this one
abbrev pub with_reply : List Mail → Mail → Option Said → List Mail
with_reply replies p None = replies
with_reply replies p (Some reply) = replies ++ record { client = p.client; message = reply_message p.message reply } ∷ []

abbrev pub state_after_up : State → Mail → Came → State
state_after_up s p c = record (state_after s c) { replies = with_reply s.replies p c.went.reply }

-- What may come of a client's packet, which is always a request, where the device may be down; and of one that may not be there.
abbrev pub UpComes : Sizes → Bool → State → ℕ → Mail → Moment → Type 0
UpComes sizes true s n p out =
    (c : Came) × Comes sizes s.armed s.device (meaning p.message) c
    × (out ≡ moment_of (lines.up n (up_fate s p.message c.went.reply)) p.message c (state_after_up s p c))
UpComes sizes false s n p out = out ≡ still (lines.up n lines.is_down) s

abbrev pub UpNamed : Sizes → State → ℕ → Option Mail → Moment → Type 0
UpNamed sizes s n None out = out ≡ still (lines.up n lines.missing) s
UpNamed sizes s n (Some p) out = UpComes sizes s.up s n p out

-- Moves of clients.

-- the packets with the one that a client sent
abbrev pub with_packet : List Mail → ℕ → Option Message → List Mail
with_packet packets k None = packets
with_packet packets k (Some m) = packets ++ record { client = k; message = m } ∷ []

-- what a client did in a turn, by the number of the packet that it sent
abbrev pub did_end : Option End → Did
did_end None = lines.waits
did_end (Some e) = lines.ended e

abbrev pub did_by : ℕ → Option Message → Option End → Did
did_by n (Some m) ended = lines.sent n
did_by n None ended = did_end ended

abbrev pub did_in : ℕ → Turn → Did
did_in n t = did_by n t.packet t.client.ended

-- client k after a turn, with the packet that it sent
abbrev pub turned : (Did → Line) → State → ℕ → Turn → Moment
turned line s k t =
    still (line (did_in (length s.packets + 1) t))
    (record s { clients = with_nth s.clients k t.client; packets = with_packet s.packets k t.packet })

-- a client that had ended does nothing
abbrev pub unless_ended : (Did → Line) → State → ℕ → Option End → Turn → Moment
unless_ended line s k (Some e) t = still (line lines.over) s
unless_ended line s k None t = turned line s k t

-- client k moves, where there is one
abbrev pub moves : (Did → Line) → State → ℕ → Option Client → (Client → Turn) → Moment
moves line s k None turn = still (line lines.none) s
moves line s k (Some c) turn = unless_ended line s k c.ended (turn c)

-- a reply is heard by its client; a wait of a client ends; a client begins, with its first packet
abbrev pub comes_down : State → ℕ → Option Mail → Moment
comes_down s n None = still (lines.down n lines.none) s
comes_down s n (Some r) = moves (lines.down n) s r.client (nth s.clients r.client) (λ c. client_hears c r.message)

abbrev pub is_quiet : State → ℕ → Moment
is_quiet s k = moves (lines.quiet k) s k (nth s.clients k) client_waited

abbrev pub client_begins : State → Job → Moment
client_begins s job = still
    (lines.client_sends (length s.clients + 1) (length s.packets + 1))
    (record s {
      clients = s.clients ++ begun job ∷ [];
      packets = s.packets ++ record { client = length s.clients + 1; message = (begun job).request.packet } ∷ [];
    })

-- Boots.

abbrev pub state_booted : State → Booted → State
state_booted s b = record s { device = after_boot b s.device; up = is_up b.ended; armed = b.armed }

abbrev pub moment_booted : Booted → State → Moment
moment_booted b t = record {
  lines = boot_line_by b.ended t.device ∷ [];
  request = None;
  taken = b.taken;
  reply = None;
  struck = not (is_up b.ended);
  state = t;
}

abbrev pub BootComes : State → Moment → Type 0
BootComes s out = (b : Booted) × Boots s.armed s.device b × (out ≡ moment_booted b (state_booted s b))

-- What may come of an event.
abbrev pub Happens : Sizes → State → Event → Moment → Type 0
Happens sizes s (begins job) out = out ≡ client_begins s job
Happens sizes s (raw bytes) out = RawComes sizes s.up s bytes out
Happens sizes s (up which) out = UpNamed sizes s (number_of s.packets which) (nth s.packets (number_of s.packets which)) out
Happens sizes s (down which) out = out ≡ comes_down s (number_of s.replies which) (nth s.replies (number_of s.replies which))
Happens sizes s (quiet k) out = out ≡ is_quiet s k
Happens sizes s (arms arm) out = out ≡ still lines.armed (record s { armed = Some (armed_by arm) })
Happens sizes s boot out = BootComes s out

-- A run: a moment for each event, each from the state of the one before.
abbrev pub Run : Sizes → State → List Event → List Moment → Type 0
Run sizes s [] [] = Unit {0}
Run sizes s (e ∷ events) (m ∷ moments) = Happens sizes s e m × Run sizes m.state events moments
Run sizes s [] (m ∷ moments) = ⊥
Run sizes s (e ∷ events) [] = ⊥

-- the state that a run ends in
abbrev pub state_at_end : State → List Moment → State
state_at_end s [] = s
state_at_end s (m ∷ moments) = state_at_end m.state moments

-- The transcript.

abbrev pub is_done : Option End → Bool
is_done (Some done) = true
is_done ended = false

abbrev pub last_line : State → List ℕ
last_line s = last_text (length s.packets) (length s.replies) (count_by (λ c. is_done c.ended) s.clients)

abbrev pub transcript : State → List Moment → List ℕ
transcript s moments = flat_map (λ m. lines_text m.lines) moments ++ last_line (state_at_end s moments)

-- The first state: a device as it is formatted with one image or two, after its start.
abbrev pub first_state : Sizes → List ℕ → Option (List ℕ) → State
first_state sizes image second = record { device = formatted sizes image second; up = true; armed = None; clients = []; packets = []; replies = [] }

-- the text is the transcript of a run of these events from there
pub record IsTranscript (sizes : Sizes) (image : List ℕ) (second : Option (List ℕ)) (events : List Event) (text : List ℕ) : Type 0 where
  pub moments : List Moment
  pub run : Run sizes (first_state sizes image second) events moments
  pub spelled : text ≡ transcript (first_state sizes image second) moments
