-- A request that waits for its answer, and what becomes of it when something is heard or a wait ends. The first seven fields of a
-- packet tell a reply ("SMP protocol specification", frame); how often a request is sent again is chosen here.
use Rattle.std.specs.Prelude.{ℕ, ◌+◌, List, Bool, ◌==◌, ◌&&◌, nat_lt, if◌then◌else◌, Option, Some, None}
use Rattle.smp_header.specs.Message.{Message, packet}
use Rattle.smp_reply.specs.declared.answer.Asked.{Asked}
use Rattle.smp_reply.specs.Told.{Told, told}

-- its packet, what it asks for, the waits that ended, and the packets heard in this wait that were no answer
pub record Open : Type 0 where
  pub packet : Message
  pub asked : Asked
  pub waits : ℕ
  pub strangers : ℕ

abbrev pub opened : Message → Asked → Open
opened packet asked = record { packet = packet; asked = asked; waits = 0; strangers = 0 }

pub data Reaction : Type 0 where
  -- the same packet is to be sent again
  sends : Reaction
  -- nothing: the wait goes on
  waits : Reaction
  -- the request is answered, and ends
  answers : Told → Reaction
  -- the last wait ended, and with it the request
  no_answer : Reaction

pub record Moved : Type 0 where
  pub request : Open
  pub reaction : Reaction

abbrev pub moved : Open → Reaction → Moved
moved request reaction = record { request = request; reaction = reaction }

-- a reply to that packet: its sequence number, group and command, the next operation, and a version that is known
abbrev pub is_reply_to : Message → Message → Bool
is_reply_to request m =
    (m.sequence == request.sequence)
    && ((m.group == request.group)
    && ((m.command == request.command)
    && ((m.op == request.op + 1) && nat_lt m.version 2)))

-- the answer that a packet brings to a request: none where it is no reply to it, or not of the kind that was asked for
abbrev pub answer_by : Message → Asked → Message → Option Told
answer_by request asked m = if is_reply_to request m then told asked m.bytes else None

abbrev pub answer_of_packet : Message → Asked → Option Message → Option Told
answer_of_packet request asked None = None
answer_of_packet request asked (Some m) = answer_by request asked m

-- and that any bytes bring: those that are no packet bring none
abbrev pub answer_of_bytes : Message → Asked → List ℕ → Option Told
answer_of_bytes request asked bytes = answer_of_packet request asked (packet bytes)

-- the packet is sent again after each of the first eight waits, and the ninth ends the request
abbrev pub wait_ends : Open → Moved
wait_ends o = if o.waits == 8 then moved o no_answer else moved (record o { waits = o.waits + 1; strangers = 0 }) sends

-- the 64th packet of a wait that is no answer ends that wait
abbrev pub is_strange : Open → Moved
is_strange o = if o.strangers == 63 then wait_ends o else moved (record o { strangers = o.strangers + 1 }) waits

abbrev pub by_answer : Open → Option Told → Moved
by_answer o None = is_strange o
by_answer o (Some answer) = moved o (answers answer)

-- what a packet does that is heard, and what any bytes do
abbrev pub hears : Open → Message → Moved
hears o m = by_answer o (answer_by o.packet o.asked m)

abbrev pub hears_bytes : Open → List ℕ → Moved
hears_bytes o bytes = by_answer o (answer_of_bytes o.packet o.asked bytes)
