-- The open request that the fields of a session stand for.
use Rattle.std.specs.Prelude.{◌≡◌, ℕ, List, drop, Option, Some, None}
use Rattle.std.specs.Option.{option_map}
use Rattle.smp_header.specs.Message.{Message}
use Rattle.smp_header.specs.declared.TheConstants.{HEADER}
use Rattle.smp_client.specs.declared.waiting.Waiting.{Waiting}
use Rattle.smp_client.specs.declared.waiting.Header.{Header}
use Rattle.smp_client.specs.Requests.{Open, Moved, moved, sends, no_answer}

-- the packet, whose data stands behind its header
abbrev pub message_at : List ℕ → Header → Message
message_at bytes h = record {
  version = h.version;
  op = h.op;
  group = h.group;
  sequence = h.sequence;
  command = h.command;
  bytes = drop HEADER bytes;
}

abbrev pub open_of : List ℕ → Waiting → Open
open_of bytes w = record { packet = message_at bytes w.header; asked = w.header.asked; waits = w.waits; strangers = w.strangers }

abbrev pub request_of : List ℕ → Option Waiting → Option Open
request_of bytes waiting = option_map (open_of bytes) waiting

-- The request after its wait ended: the packet is sent again, or there is no answer.
abbrev pub EndsWait : Moved → Option Open → Type 0
EndsWait m None = m.reaction ≡ no_answer
EndsWait m (Some o) = m ≡ moved o sends
