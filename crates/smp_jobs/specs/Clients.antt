-- A client: a job over a session. It begins with one packet sent.
use Rattle.std.specs.Prelude.{ℕ, ◌+◌, ◌%◌, List, [], ◌∷◌, if◌then◌else◌, Option, Some, None}
use Rattle.smp_header.specs.Message.{Message}
use Rattle.smp_model.specs.Meant.{Meant}
use Rattle.smp_model.specs.Written.{request_message}
use Rattle.smp_reply.specs.Told.{Told}
use Rattle.smp_client.specs.Requests as requests
use Rattle.smp_client.specs.Requests.{Open, opened, Reaction, Moved, hears, hears_bytes, wait_ends}
use Rattle.smp_jobs.specs.Jobs.{Job, End, no_answer, stalled, Next, asks, ends, next, first_of, may_send, asked_of}

pub record Client : Type 0 where
  pub job : Job
  -- the answers that it was given, the newest first
  pub answers : List Told
  pub request : Open
  -- the packets that it sent, those sent again among them
  pub sent : ℕ
  pub ended : Option End

-- a client after it moved, and the packet that it sent then
pub record Turn : Type 0 where
  pub client : Client
  pub packet : Option Message

-- requests are written in version 2, whose version bits are 1
abbrev pub packet_of : ℕ → Meant → Message
packet_of sequence m = request_message 1 sequence m

-- a client sends its first packet when it begins
abbrev pub begun : Job → Client
begun job = record {
  job = job;
  answers = [];
  request = opened (packet_of 0 (first_of job)) (asked_of (first_of job));
  sent = 1;
  ended = None;
}

abbrev pub stops : Client → End → Turn
stops c e = record { client = record c { ended = Some e }; packet = None }

-- a packet is sent where the job may send one more
abbrev pub sends : Client → Turn
sends c =
    if may_send c.job c.sent
    then record { client = record c { sent = c.sent + 1 }; packet = Some c.request.packet }
    else stops c stalled

-- a request has the number after that of the one before, and 0 follows 255
abbrev pub asks_for : Client → Meant → Client
asks_for c m = record c { request = opened (packet_of ((c.request.packet.sequence + 1) % 256) m) (asked_of m) }

abbrev pub goes_on : Client → Next → Turn
goes_on c (asks m) = sends (asks_for c m)
goes_on c (ends e) = stops c e

abbrev pub with_answer : Client → Told → Client
with_answer c answer = record c { answers = answer ∷ c.answers }

abbrev pub takes : Client → Told → Turn
takes c answer = goes_on (with_answer c answer) (next c.job (answer ∷ c.answers))

abbrev pub after_reaction : Client → Reaction → Turn
after_reaction c requests.sends = sends c
after_reaction c requests.waits = record { client = c; packet = None }
after_reaction c (requests.answers answer) = takes c answer
after_reaction c requests.no_answer = stops c no_answer

abbrev pub after_moved : Client → Moved → Turn
after_moved c m = after_reaction (record c { request = m.request }) m.reaction

-- what a client does that has not ended: when it hears a packet, when it hears any bytes, and when a wait ends
abbrev pub client_hears : Client → Message → Turn
client_hears c m = after_moved c (hears c.request m)

abbrev pub client_hears_bytes : Client → List ℕ → Turn
client_hears_bytes c bytes = after_moved c (hears_bytes c.request bytes)

abbrev pub client_waited : Client → Turn
client_waited c = after_moved c (wait_ends c.request)
