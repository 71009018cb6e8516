-- A device that serves over a link.
use Rattle.std.specs.Prelude.{◌≡◌, ◌⊎◌, ◌+◌, ◌<◌, ◌≤◌, ℕ, Bool, List, [], ◌∷◌, map, flat_map, length, is_some, Option, Some, None, Result, Ok, Err}
use Rattle.smp_edge.specs.Faults.{Rose}
use Rattle.smp_edge.specs.Link.{with_sent, without_next}
use Rattle.smp_edge.specs.declared.link.Peer.{Peer}
use Rattle.smp_edge.specs.declared.scripts.Scripted.{Scripted}
use Rattle.smp_edge.specs.declared.scripts.Scripted.TheVariants as items
use Rattle.smp_edge.specs.declared.scripts.Sent.{Sent}
use Rattle.smp_serve.specs.Devices.{IsServed, IsStopped}
use Rattle.smp_serve.specs.Hearing.{LinkState, HearsAll, HearsOne, with_all}
use Rattle.smp_serve.specs.Sessions.{Exchange, Passes, Point, Serves, Stop, Stops, exchange, packet_at, stop_fault, unsent, fell, unstarted}
use Rattle.smp_serve.specs.declared.fault.ServeFault.{ServeFault}
use Rattle.smp_serve.specs.declared.fault.ServeFault.TheVariants as faults
use Rattle.smp_serve.specs.declared.link_serving.Served.{Served}

-- a packet that was given to the device with its reply, and the peer that sent it
pub record Letter : Type 0 where
  pub from : Peer
  pub exchange : Exchange

-- the datagram of an item that is heard: its peer and its bytes
pub record Datagram : Type 0 where
  pub from : Peer
  pub held : List ℕ

abbrev pub datagram_in : Scripted → List Datagram
datagram_in items.Quiet = []
datagram_in (items.Packet from held) = record { from = from; held = held } ∷ []

abbrev pub datagram_of : Letter → Datagram
datagram_of letter = record { from = letter.from; held = letter.exchange.packet }

-- a reply goes to the peer that asked
abbrev pub sent_if : Peer → Option (List ℕ) → List Sent
sent_if to None = []
sent_if to (Some reply) = record { to = to; held = reply } ∷ []

abbrev pub reply_to : Letter → List Sent
reply_to letter = sent_if letter.from letter.exchange.reply

abbrev pub exchange_of : Letter → Exchange
exchange_of letter = letter.exchange

-- The device was given each datagram that was heard, and each reply was sent.
pub record LinkSession (a b : Point) (x y : LinkState) (heard : List Scripted) (letters : List Letter) : Type 0 where
  pub serves : Serves a (map exchange_of letters) b
  pub hears : HearsAll x.script y.script heard
  pub datagrams : flat_map datagram_in heard ≡ map datagram_of letters
  pub sends : y.sent ≡ with_all x.sent (flat_map reply_to letters)

-- a session of so many turns, and what it counted
pub record LinkServes (turns : ℕ) (served : Served) (a b : Point) (x y : LinkState) : Type 0 where
  pub heard : List Scripted
  pub letters : List Letter
  pub session : LinkSession a b x y heard letters
  pub turns_are : length heard ≡ turns
  pub answered : served.answered ≡ length (flat_map reply_to letters)
  pub all : served.answered + served.dropped ≡ length letters

-- before its last turn a hearing failed
pub record LinkUnheard (turns : ℕ) (a b : Point) (x y : LinkState) : Type 0 where
  pub heard : List Scripted
  pub letters : List Letter
  pub middle : LinkState
  pub session : LinkSession a b x middle heard letters
  pub turns_left : length heard < turns
  pub hears : (y.script ≡ middle.script) ⊎ (y.script ≡ without_next middle.script)
  pub sends : y.sent ≡ middle.sent

-- what is sent of the reply to the last packet
abbrev pub SendsLast : Stop → Peer → Option (List Sent) → Option (List Sent) → Type 0
SendsLast (unsent packet reply) to old new = (new ≡ old) ⊎ (new ≡ with_sent old to reply)
SendsLast (fell packet down) to old new = new ≡ old
SendsLast (unstarted packet reply fault) to old new = new ≡ with_sent old to reply

-- it stopped at a packet
pub record LinkStops (turns : ℕ) (stop : Stop) (a b : Point) (x y : LinkState) : Type 0 where
  pub heard : List Scripted
  pub letters : List Letter
  pub before : Point
  pub middle : LinkState
  pub session : LinkSession a before x middle heard letters
  pub turns_left : length heard < turns
  pub from : Peer
  pub hears : HearsOne middle.script y.script (items.Packet from (packet_at stop))
  pub stops : Stops stop before b
  pub sends : SendsLast stop from middle.sent y.sent

pub record LinkStopsBy (turns : ℕ) (fault : ServeFault) (a b : Point) (x y : LinkState) : Type 0 where
  pub stop : Stop
  pub told : fault ≡ stop_fault faults.Link stop
  pub stops : LinkStops turns stop a b x y

-- What a session over a link is that was answered so.
abbrev pub LinkEnds : (turns : ℕ) → Result Served ServeFault → (a b : Point) → (x y : LinkState) → Type 0
LinkEnds turns (Ok served) a b x y = LinkServes turns served a b x y
LinkEnds turns (Err fault) a b x y = ((fault ≡ faults.Link) × LinkUnheard turns a b x y) ⊎ LinkStopsBy turns fault a b x y

-- And so of the device: what was replied is what the device replies that flash and value stand for.
abbrev pub LinkEndsOf : (turns : ℕ) → Result Served ServeFault → (a b : Point) → (x y : LinkState) → Type 0
LinkEndsOf turns (Ok served) a b x y = (s : LinkServes turns served a b x y) × IsServed a b (map exchange_of s.letters)
LinkEndsOf turns (Err fault) a b x y =
    ((fault ≡ faults.Link) × ((u : LinkUnheard turns a b x y) × IsServed a b (map exchange_of u.letters)))
    ⊎ ((s : LinkStopsBy turns fault a b x y) × IsStopped s.stop a s.stops.before b (map exchange_of s.stops.letters))

-- The count of the link's faults rose exactly where that is the answer.
abbrev pub LinkCaused : {T : Type 0} → Result T ServeFault → ℕ → ℕ → Type 0
LinkCaused (Ok x) before now = now ≡ before
LinkCaused (Err faults.Link) before now = (before ≤ now) × Rose before now
LinkCaused (Err faults.Read) before now = now ≡ before
LinkCaused (Err faults.Write) before now = now ≡ before
LinkCaused (Err faults.FlashFault) before now = now ≡ before
LinkCaused (Err faults.FlashOff) before now = now ≡ before
LinkCaused (Err faults.Unformatted) before now = now ≡ before
LinkCaused (Err faults.Worn) before now = now ≡ before
LinkCaused (Err faults.Spent) before now = now ≡ before

-- A datagram was given to the device: the reply, if any, was sent to its peer.
pub record Answers (from : Peer) (packet : List ℕ) (answered : Bool) (a b : Point) (old new : Option (List Sent)) : Type 0 where
  pub reply : Option (List ℕ)
  pub passes : Passes (exchange packet reply) a b
  pub sends : new ≡ with_all old (sent_if from reply)
  pub told : answered ≡ is_some reply

pub record AnswersStop (from : Peer) (packet : List ℕ) (fault : ServeFault) (a b : Point) (old new : Option (List Sent)) : Type 0 where
  pub stop : Stop
  pub told : fault ≡ stop_fault faults.Link stop
  pub packet_is : packet_at stop ≡ packet
  pub stops : Stops stop a b
  pub sends : SendsLast stop from old new

abbrev pub AnswersTo : Peer → List ℕ → Result Bool ServeFault → Point → Point → Option (List Sent) → Option (List Sent) → Type 0
AnswersTo from packet (Ok answered) a b old new = Answers from packet answered a b old new
AnswersTo from packet (Err fault) a b old new = AnswersStop from packet fault a b old new

-- One turn: an item was heard, and its datagram, if it is one, was given to the device.
pub record TurnPasses (served : Served) (a b : Point) (x y : LinkState) : Type 0 where
  pub item : Scripted
  pub letters : List Letter
  pub hears : HearsOne x.script y.script item
  pub serves : Serves a (map exchange_of letters) b
  pub datagrams : datagram_in item ≡ map datagram_of letters
  pub sends : y.sent ≡ with_all x.sent (flat_map reply_to letters)
  pub answered : served.answered ≡ length (flat_map reply_to letters)
  pub all : served.answered + served.dropped ≡ length letters
  pub one : length letters ≤ 1

pub record TurnUnheard (a b : Point) (x y : LinkState) : Type 0 where
  pub hears : (y.script ≡ x.script) ⊎ (y.script ≡ without_next x.script)
  pub sends : y.sent ≡ x.sent
  pub point : b ≡ a

pub record TurnStops (fault : ServeFault) (a b : Point) (x y : LinkState) : Type 0 where
  pub stop : Stop
  pub told : fault ≡ stop_fault faults.Link stop
  pub from : Peer
  pub hears : HearsOne x.script y.script (items.Packet from (packet_at stop))
  pub stops : Stops stop a b
  pub sends : SendsLast stop from x.sent y.sent

abbrev pub TurnEnds : Result Served ServeFault → (a b : Point) → (x y : LinkState) → Type 0
TurnEnds (Ok served) a b x y = TurnPasses served a b x y
TurnEnds (Err fault) a b x y = ((fault ≡ faults.Link) × TurnUnheard a b x y) ⊎ TurnStops fault a b x y
