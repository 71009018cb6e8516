-- A session: it numbers its requests one after another, and has one open at a time.
use Rattle.std.specs.Prelude.{◌≡◌, ◌⊎◌, ℕ, ◌+◌, ◌%◌, List, [], Option, Some, None, IsSomeAnd}
use Rattle.std.specs.Option.{option_map}
use Rattle.smp_header.specs.Message.{Message, packet}
use Rattle.smp_reply.specs.declared.answer.Asked.{Asked}
use Rattle.smp_reply.specs.Told.{told_of}
use Rattle.smp_client.specs.declared.session.Move.{Move}
use Rattle.smp_client.specs.declared.session.Move.TheVariants as moves
use Rattle.smp_client.specs.Requests.{Open, opened, Reaction, sends, waits, answers, no_answer, Moved, hears_bytes, wait_ends}

pub record Session : Type 0 where
  -- the version bits of its packets
  pub version : ℕ
  -- the sequence number of the next request
  pub next : ℕ
  -- the bytes of the packet that was sent last; none before the first
  pub packet : List ℕ
  -- the request that waits for its answer
  pub request : Option Open

abbrev pub new_session : ℕ → Session
new_session version = record { version = version; next = 0; packet = []; request = None }

-- A packet that the session may send: a read or a write, with its next number.
pub record IsNext (s : Session) (m : Message) : Type 0 where
  pub operation : (m.op ≡ 0) ⊎ (m.op ≡ 2)
  pub sequence : m.sequence ≡ s.next

abbrev pub CanSend : Session → List ℕ → Type 0
CanSend s bytes = (s.request ≡ None) × IsSomeAnd (packet bytes) (IsNext s)

-- the session with that request open; numbers go round after 255
abbrev pub with_request : Session → List ℕ → Asked → Session
with_request s bytes asked = record s {
  next = (s.next + 1) % 256;
  packet = bytes;
  request = option_map (λ m. opened m asked) (packet bytes);
}

-- an answer, and the last wait, end the request
abbrev pub left_open : Open → Reaction → Option Open
left_open o sends = Some o
left_open o waits = Some o
left_open o (answers answer) = None
left_open o no_answer = None

-- The move that is told, without where its answer lies in memory.
abbrev pub reaction_of : Move → Reaction
reaction_of moves.Send = sends
reaction_of moves.Wait = waits
reaction_of (moves.Answer answer) = answers (told_of answer)
reaction_of moves.NoAnswer = no_answer

-- What a session does with its open request: the request moves and nothing else does, and the move is told.
pub record Does (old new : Session) (told : Move) (m : Moved) : Type 0 where
  pub session : new ≡ record old { request = left_open m.request m.reaction }
  pub move : reaction_of told ≡ m.reaction

abbrev pub Hears : Option Open → Session → Session → List ℕ → Move → Type 0
Hears None old new bytes move = ⊥
Hears (Some o) old new bytes move = Does old new move (hears_bytes o bytes)

abbrev pub Waited : Option Open → Session → Session → Move → Type 0
Waited None old new move = ⊥
Waited (Some o) old new move = Does old new move (wait_ends o)
