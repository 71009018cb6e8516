-- A device that serves over a console.
use Rattle.std.specs.Prelude.{◌≡◌, ◌-◌, ◌^◌, ◌≤◌, ℕ, List, [], ◌∷◌, ◌++◌, map, flat_map, length, take, Option, Some, None, Result, Ok, Err}
use Rattle.std.specs.Io.KnownBytes.{IsAtEnd, append_known, prepend_known}
use Rattle.smp_edge.specs.Faults.{Rose}
use Rattle.smp_edge.specs.Sink.{AppendsFront}
use Rattle.smp_console.specs.Frames.{frames}
use Rattle.smp_console.specs.Framing.{frame}
use Rattle.smp_console.specs.Receiving.{Received, HasText}
use Rattle.smp_serve.specs.Devices.{IsServed, IsStopped}
use Rattle.smp_serve.specs.Sessions.{Exchange, Passes, Point, Serves, Stop, Stops, exchange, packet_at, stop_fault, unsent, fell, unstarted}
use Rattle.smp_serve.specs.declared.fault.ServeFault.{ServeFault}
use Rattle.smp_serve.specs.declared.fault.ServeFault.TheVariants as faults

-- the pieces of text that were read, joined
abbrev pub joined : List (List ℕ) → List ℕ
joined pieces = flat_map (λ piece. piece) pieces

-- each has 1 to 512 bytes
abbrev pub ArePieces : List (List ℕ) → Type 0
ArePieces [] = Unit {0}
ArePieces (piece ∷ pieces) = (1 ≤ length piece) × (length piece ≤ 512) × ArePieces pieces

-- as many as can be counted
abbrev pub most_pieces : ℕ
most_pieces = 2 ^ 32 - 1

abbrev pub packet_in : Exchange → List ℕ
packet_in x = x.packet

-- a reply is put as the text of one packet
abbrev pub text_if : Option (List ℕ) → List ℕ
text_if None = []
text_if (Some reply) = frame reply

abbrev pub reply_text : Exchange → List ℕ
reply_text x = text_if x.reply

-- The device was given each packet of a text, and the text of each reply was put, one after the other.
pub record ConsoleSession (a b : Point) (text : List ℕ) (exchanges : List Exchange) (old new : Option (List ℕ)) : Type 0 where
  pub serves : Serves a exchanges b
  pub packets : frames text ≡ map packet_in exchanges
  pub writes : new ≡ append_known old (flat_map reply_text exchanges)

-- these pieces were read, and served
pub record PiecesServed (pieces : List (List ℕ)) (a b : Point) (old new : Option (List ℕ)) : Type 0 where
  pub are : ArePieces pieces
  pub few : length pieces ≤ most_pieces
  pub exchanges : List Exchange
  pub session : ConsoleSession a b (joined pieces) exchanges old new

-- the whole input was read
pub record ConsoleServes (a b : Point) (left rest old new : Option (List ℕ)) : Type 0 where
  pub pieces : List (List ℕ)
  pub served : PiecesServed pieces a b old new
  pub reads : left ≡ prepend_known (joined pieces) rest
  pub ends : IsAtEnd rest

-- a read failed
pub record ConsoleUnread (a b : Point) (left rest old new : Option (List ℕ)) : Type 0 where
  pub pieces : List (List ℕ)
  pub served : PiecesServed pieces a b old new
  pub reads : left ≡ prepend_known (joined pieces) rest

-- as many pieces were read as can be counted, and a further one came
pub record ConsoleSpent (a b : Point) (left rest old new : Option (List ℕ)) : Type 0 where
  pub pieces : List (List ℕ)
  pub served : PiecesServed pieces a b old new
  pub all : length pieces ≡ most_pieces
  pub further : List ℕ
  pub is_piece : ArePieces (further ∷ [])
  pub reads : left ≡ prepend_known (joined pieces ++ further) rest

-- what is put of the text of the reply to the last packet
abbrev pub WritesLast : Stop → Option (List ℕ) → Option (List ℕ) → Type 0
WritesLast (unsent packet reply) old new = AppendsFront old new (frame reply)
WritesLast (fell packet down) old new = new ≡ old
WritesLast (unstarted packet reply fault) old new = new ≡ append_known old (frame reply)

-- It stopped at a packet of a text: those before it were served.
pub record TextStops (stop : Stop) (a b : Point) (text : List ℕ) (old new : Option (List ℕ)) : Type 0 where
  pub exchanges : List Exchange
  pub before : Point
  pub between : Option (List ℕ)
  pub serves : Serves a exchanges before
  pub packets : frames text ≡ map packet_in exchanges ++ packet_at stop ∷ []
  pub writes : between ≡ append_known old (flat_map reply_text exchanges)
  pub stops : Stops stop before b
  pub writes_last : WritesLast stop between new

-- it stopped within the last piece that was read
pub record ConsoleStops (fault : ServeFault) (a b : Point) (left rest old new : Option (List ℕ)) : Type 0 where
  pub pieces : List (List ℕ)
  pub are : ArePieces pieces
  pub few : length pieces ≤ most_pieces
  pub front : List ℕ
  pub behind : List ℕ
  pub cut : joined pieces ≡ front ++ behind
  pub last : length behind ≤ 512
  pub stop : Stop
  pub told : fault ≡ stop_fault faults.Write stop
  pub stops : TextStops stop a b front old new
  pub reads : left ≡ prepend_known (joined pieces) rest

-- What a session over a console is that was answered so.
abbrev pub ConsoleEnds : Result (Unit {0}) ServeFault → (a b : Point) → (left rest old new : Option (List ℕ)) → Type 0
ConsoleEnds (Ok x) a b left rest old new = ConsoleServes a b left rest old new
ConsoleEnds (Err faults.Read) a b left rest old new = ConsoleUnread a b left rest old new
ConsoleEnds (Err faults.Spent) a b left rest old new = ConsoleSpent a b left rest old new
ConsoleEnds (Err faults.Link) a b left rest old new = ⊥
ConsoleEnds (Err faults.Write) a b left rest old new = ConsoleStops faults.Write a b left rest old new
ConsoleEnds (Err faults.FlashFault) a b left rest old new = ConsoleStops faults.FlashFault a b left rest old new
ConsoleEnds (Err faults.FlashOff) a b left rest old new = ConsoleStops faults.FlashOff a b left rest old new
ConsoleEnds (Err faults.Unformatted) a b left rest old new = ConsoleStops faults.Unformatted a b left rest old new
ConsoleEnds (Err faults.Worn) a b left rest old new = ConsoleStops faults.Worn a b left rest old new

-- And so of the device: what was replied is what the device replies that flash and value stand for.
abbrev pub StopsOf : ServeFault → (a b : Point) → (left rest old new : Option (List ℕ)) → Type 0
StopsOf fault a b left rest old new = (s : ConsoleStops fault a b left rest old new) × IsStopped s.stop a s.stops.before b s.stops.exchanges

abbrev pub ConsoleEndsOf : Result (Unit {0}) ServeFault → (a b : Point) → (left rest old new : Option (List ℕ)) → Type 0
ConsoleEndsOf (Ok x) a b left rest old new = (s : ConsoleServes a b left rest old new) × IsServed a b s.served.exchanges
ConsoleEndsOf (Err faults.Read) a b left rest old new = (s : ConsoleUnread a b left rest old new) × IsServed a b s.served.exchanges
ConsoleEndsOf (Err faults.Spent) a b left rest old new = (s : ConsoleSpent a b left rest old new) × IsServed a b s.served.exchanges
ConsoleEndsOf (Err faults.Link) a b left rest old new = ⊥
ConsoleEndsOf (Err faults.Write) a b left rest old new = StopsOf faults.Write a b left rest old new
ConsoleEndsOf (Err faults.FlashFault) a b left rest old new = StopsOf faults.FlashFault a b left rest old new
ConsoleEndsOf (Err faults.FlashOff) a b left rest old new = StopsOf faults.FlashOff a b left rest old new
ConsoleEndsOf (Err faults.Unformatted) a b left rest old new = StopsOf faults.Unformatted a b left rest old new
ConsoleEndsOf (Err faults.Worn) a b left rest old new = StopsOf faults.Worn a b left rest old new

-- The counts of faults of the sink and of the source: each rose exactly where it is the answer.
abbrev pub WriteCaused : {T : Type 0} → Result T ServeFault → ℕ → ℕ → Type 0
WriteCaused (Ok x) before now = now ≡ before
WriteCaused (Err faults.Write) before now = (before ≤ now) × Rose before now
WriteCaused (Err faults.Link) before now = now ≡ before
WriteCaused (Err faults.Read) before now = now ≡ before
WriteCaused (Err faults.FlashFault) before now = now ≡ before
WriteCaused (Err faults.FlashOff) before now = now ≡ before
WriteCaused (Err faults.Unformatted) before now = now ≡ before
WriteCaused (Err faults.Worn) before now = now ≡ before
WriteCaused (Err faults.Spent) before now = now ≡ before

abbrev pub ReadCaused : {T : Type 0} → Result T ServeFault → ℕ → ℕ → Type 0
ReadCaused (Ok x) before now = now ≡ before
ReadCaused (Err faults.Read) before now = (before ≤ now) × Rose before now
ReadCaused (Err faults.Link) before now = now ≡ before
ReadCaused (Err faults.Write) before now = now ≡ before
ReadCaused (Err faults.FlashFault) before now = now ≡ before
ReadCaused (Err faults.FlashOff) before now = now ≡ before
ReadCaused (Err faults.Unformatted) before now = now ≡ before
ReadCaused (Err faults.Worn) before now = now ≡ before
ReadCaused (Err faults.Spent) before now = now ≡ before

-- what a read of a piece takes of what is left: so many bytes, or none at the end
abbrev pub TakesPiece : List ℕ → (left rest : Option (List ℕ)) → Option ℕ → Type 0
TakesPiece into left rest None = IsAtEnd left × (rest ≡ left)
TakesPiece into left rest (Some n) = (1 ≤ n) × (n ≤ 512) × (left ≡ prepend_known (take n into) rest)

-- A packet was given to the device: the text of the reply, if any, was put.
pub record Replies (packet : List ℕ) (a b : Point) (old new : Option (List ℕ)) : Type 0 where
  pub reply : Option (List ℕ)
  pub passes : Passes (exchange packet reply) a b
  pub writes : new ≡ append_known old (text_if reply)

pub record RepliesStop (packet : List ℕ) (fault : ServeFault) (a b : Point) (old new : Option (List ℕ)) : Type 0 where
  pub stop : Stop
  pub told : fault ≡ stop_fault faults.Write stop
  pub packet_is : packet_at stop ≡ packet
  pub stops : Stops stop a b
  pub writes : WritesLast stop old new

abbrev pub RepliesTo : List ℕ → Result (Unit {0}) ServeFault → Point → Point → Option (List ℕ) → Option (List ℕ) → Type 0
RepliesTo packet (Ok x) a b old new = Replies packet a b old new
RepliesTo packet (Err fault) a b old new = RepliesStop packet fault a b old new

-- A piece that was read behind a text: it was served whole, or up to a packet.
pub record PieceServes (text piece : List ℕ) (receiver : Received) (a b : Point) (old new : Option (List ℕ)) : Type 0 where
  pub exchanges : List Exchange
  pub serves : Serves a exchanges b
  pub packets : frames (text ++ piece) ≡ frames text ++ map packet_in exchanges
  pub writes : new ≡ append_known old (flat_map reply_text exchanges)
  pub holds : HasText receiver (text ++ piece)

pub record PieceStops (text piece : List ℕ) (fault : ServeFault) (a b : Point) (old new : Option (List ℕ)) : Type 0 where
  pub done : List ℕ
  pub behind : List ℕ
  pub cut : piece ≡ done ++ behind
  pub exchanges : List Exchange
  pub before : Point
  pub between : Option (List ℕ)
  pub serves : Serves a exchanges before
  pub stop : Stop
  pub packets : frames (text ++ done) ≡ frames text ++ (map packet_in exchanges ++ packet_at stop ∷ [])
  pub writes : between ≡ append_known old (flat_map reply_text exchanges)
  pub told : fault ≡ stop_fault faults.Write stop
  pub stops : Stops stop before b
  pub writes_last : WritesLast stop between new

abbrev pub PieceEnds : List ℕ → List ℕ → Result (Unit {0}) ServeFault → Received → (a b : Point) → (old new : Option (List ℕ)) → Type 0
PieceEnds text piece (Ok x) receiver a b old new = PieceServes text piece receiver a b old new
PieceEnds text piece (Err fault) receiver a b old new = PieceStops text piece fault a b old new

-- a session that stops at a packet neither failed in a read nor was spent
abbrev pub IsAtPacket : {T : Type 0} → Result T ServeFault → Type 0
IsAtPacket (Ok x) = Unit {0}
IsAtPacket (Err faults.Read) = ⊥
IsAtPacket (Err faults.Spent) = ⊥
IsAtPacket (Err faults.Link) = ⊥
IsAtPacket (Err faults.Write) = Unit {0}
IsAtPacket (Err faults.FlashFault) = Unit {0}
IsAtPacket (Err faults.FlashOff) = Unit {0}
IsAtPacket (Err faults.Unformatted) = Unit {0}
IsAtPacket (Err faults.Worn) = Unit {0}
