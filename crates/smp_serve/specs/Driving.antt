-- A client that is driven over a link: what it hears, what it sends, and how it ends.
use Rattle.std.specs.Prelude.{◌≡◌, ◌⊎◌, ◌≤◌, ℕ, List, [], ◌∷◌, ◌++◌, map, Bool, true, false, Option, Some, None, Result, Ok, Err}
use Rattle.std.specs.Io.KnownBytes.{append_known}
use Rattle.smp_edge.specs.Faults.{Rose}
use Rattle.smp_edge.specs.Link.{without_next}
use Rattle.smp_edge.specs.Sink.{AppendsFront}
use Rattle.smp_edge.specs.declared.link.Peer.{Peer}
use Rattle.smp_edge.specs.declared.scripts.Scripted.{Scripted}
use Rattle.smp_edge.specs.declared.scripts.Scripted.TheVariants as items
use Rattle.smp_edge.specs.declared.scripts.Sent.{Sent}
use Rattle.smp_header.specs.Message.{Message}
use Rattle.smp_model.specs.Packets.{packet_bytes}
use Rattle.smp_jobs.specs.Clients.{Client, Turn, client_hears_bytes, client_waited}
use Rattle.smp_jobs.specs.Jobs.{done}
use Rattle.smp_jobs.specs.Results.{result}
use Rattle.smp_jobs.specs.States.{JobState, HearsWant, Stands, Turns, printed_in, told_as, told_by}
use Rattle.smp_jobs.specs.declared.moves.JobEnd.{JobEnd}
use Rattle.smp_jobs.specs.declared.moves.JobEnd.TheVariants as job_ends
use Rattle.smp_jobs.specs.declared.moves.JobMove.{JobMove}
use Rattle.smp_jobs.specs.declared.moves.JobMove.TheVariants as moves
use Rattle.smp_serve.specs.Hearing.{LinkState, HearsOne, HearsAll, HearsBefore, with_all}
use Rattle.smp_serve.specs.declared.driving.ClientFault.{ClientFault}
use Rattle.smp_serve.specs.declared.driving.ClientFault.TheVariants as faults

-- The job has not ended: it stands for some client that goes on.
pub record IsRunning (job : JobState) : Type 0 where
  pub client : Client
  pub goes : client.ended ≡ None
  pub stands : Stands job client

-- What a client does at an item: it hears a packet, whoever sent it, or a wait of it ends.
abbrev pub turn_of : Client → Scripted → Turn
turn_of c (items.Packet from held) = client_hears_bytes c held
turn_of c items.Quiet = client_waited c

-- its job may want memory there
abbrev pub WantsAt : Client → Scripted → Type 0
WantsAt c (items.Packet from held) = HearsWant c held
WantsAt c items.Quiet = ⊥

-- the bytes of the packet that it sends then, if any
abbrev pub bytes_sent : Option Message → List (List ℕ)
bytes_sent None = []
bytes_sent (Some m) = packet_bytes m ∷ []

-- A client sent the packet of its request, heard these items, and sent what each asked of it: these packets, one after the
-- other. It hears nothing once it has ended.
pub data Drives : Client → List Scripted → List (List ℕ) → Client → Type 0 where
  sends_first : (c now : Client) (heard : List Scripted) (packets : List (List ℕ))
      → heard ≡ [] → packets ≡ packet_bytes c.request.packet ∷ [] → now ≡ c → Drives c heard packets now
  takes_turn : (c before now : Client) (earlier heard : List Scripted) (item : Scripted) (given packets : List (List ℕ))
      → Drives c earlier given before → before.ended ≡ None → heard ≡ earlier ++ item ∷ []
      → packets ≡ given ++ bytes_sent (turn_of before item).packet → now ≡ (turn_of before item).client → Drives c heard packets now

-- packets to one peer
abbrev pub to_peer : Peer → List (List ℕ) → List Sent
to_peer peer packets = map (λ packet. record { to = peer; held = packet }) packets

-- It was driven up to here, and the job stands for it.
pub record Drove (c : Client) (peer : Peer) (job : JobState) (now : Client) (a b : LinkState) : Type 0 where
  pub heard : List Scripted
  pub packets : List (List ℕ)
  pub drives : Drives c heard packets now
  pub hears : HearsAll a.script b.script heard
  pub sends : b.sent ≡ with_all a.sent (to_peer peer packets)
  pub stands : Stands job now

-- It was driven to its end, which is told so.
pub record DroveToEnd (c : Client) (peer : Peer) (job : JobState) (told : JobEnd) (a b : LinkState) : Type 0 where
  pub now : Client
  pub drove : Drove c peer job now a b
  pub ended : told_by now.ended None ≡ moves.Failed told

-- It is done.
pub record DroveToDone (c : Client) (peer : Peer) (job : JobState) (a b : LinkState) : Type 0 where
  pub now : Client
  pub drove : Drove c peer job now a b
  pub done : now.ended ≡ Some done
  pub text : printed_in job ≡ result now.job now.answers

-- It was driven up to here, and goes on; the next hearing failed.
pub record HearingFailed (c : Client) (peer : Peer) (job : JobState) (a b : LinkState) : Type 0 where
  pub now : Client
  pub heard : List Scripted
  pub packets : List (List ℕ)
  pub drives : Drives c heard packets now
  pub goes : now.ended ≡ None
  pub hears : HearsBefore a.script b.script heard
  pub sends : b.sent ≡ with_all a.sent (to_peer peer packets)
  pub stands : Stands job now

-- It was driven up to here, and goes on; its last packet was not sent, or it was and the sending failed.
pub record SendingFailed (c : Client) (peer : Peer) (job : JobState) (a b : LinkState) : Type 0 where
  pub now : Client
  pub heard : List Scripted
  pub packets : List (List ℕ)
  pub last : List ℕ
  pub drives : Drives c heard (packets ++ last ∷ []) now
  pub goes : now.ended ≡ None
  pub hears : HearsAll a.script b.script heard
  pub sends : (b.sent ≡ with_all a.sent (to_peer peer packets)) ⊎ (b.sent ≡ with_all a.sent (to_peer peer (packets ++ last ∷ [])))
  pub stands : Stands job now

-- It was driven up to here, and then there was no memory for what the next item asked of it.
pub record RanOut (c : Client) (peer : Peer) (job : JobState) (a b : LinkState) : Type 0 where
  pub before : Client
  pub earlier : List Scripted
  pub item : Scripted
  pub packets : List (List ℕ)
  pub drives : Drives c earlier packets before
  pub goes : before.ended ≡ None
  pub wants : WantsAt before item
  pub hears : HearsAll a.script b.script (earlier ++ item ∷ [])
  pub sends : b.sent ≡ with_all a.sent (to_peer peer packets)
  pub over : job.is_over ≡ true
  pub printed : printed_in job ≡ []

abbrev pub DrivesToEnd : JobEnd → Client → Peer → JobState → LinkState → LinkState → Type 0
DrivesToEnd job_ends.OutOfMemory c peer job a b = RanOut c peer job a b
DrivesToEnd job_ends.NoAnswer c peer job a b = DroveToEnd c peer job job_ends.NoAnswer a b
DrivesToEnd (job_ends.Refused group number) c peer job a b = DroveToEnd c peer job (job_ends.Refused group number) a b
DrivesToEnd job_ends.Mismatch c peer job a b = DroveToEnd c peer job job_ends.Mismatch a b
DrivesToEnd job_ends.Stalled c peer job a b = DroveToEnd c peer job job_ends.Stalled a b

-- How a client was driven whose drive was answered so.
abbrev pub DrivesTo : Result (Unit {0}) ClientFault → Client → Peer → JobState → LinkState → LinkState → Type 0
DrivesTo (Ok x) c peer job a b = DroveToDone c peer job a b
DrivesTo (Err faults.Write) c peer job a b = DroveToDone c peer job a b
DrivesTo (Err faults.Link) c peer job a b = HearingFailed c peer job a b ⊎ SendingFailed c peer job a b
DrivesTo (Err (faults.End told)) c peer job a b = DrivesToEnd told c peer job a b

-- What is written: the text of a job that is done, and nothing else.
abbrev pub Prints : Result (Unit {0}) ClientFault → List ℕ → Option (List ℕ) → Option (List ℕ) → Type 0
Prints (Ok x) text old new = new ≡ append_known old text
Prints (Err faults.Write) text old new = AppendsFront old new text
Prints (Err faults.Link) text old new = new ≡ old
Prints (Err (faults.End told)) text old new = new ≡ old

-- The count of the link's faults, and that of the sink's: each rose exactly where it is the answer.
abbrev pub LinkCause : {T : Type 0} → Result T ClientFault → ℕ → ℕ → Type 0
LinkCause (Err faults.Link) before now = (before ≤ now) × Rose before now
LinkCause (Err faults.Write) before now = now ≡ before
LinkCause (Err (faults.End told)) before now = now ≡ before
LinkCause (Ok x) before now = now ≡ before

abbrev pub SinkCause : Result (Unit {0}) ClientFault → ℕ → ℕ → Type 0
SinkCause (Err faults.Write) before now = (before ≤ now) × Rose before now
SinkCause (Err faults.Link) before now = now ≡ before
SinkCause (Err (faults.End told)) before now = now ≡ before
SinkCause (Ok x) before now = now ≡ before

-- One turn: an item is heard, and the packet that it asks for, if any, is sent.

-- The client goes on.
pub record TurnedOn (c : Client) (peer : Peer) (job : JobState) (a b : LinkState) : Type 0 where
  pub item : Scripted
  pub hears : HearsOne a.script b.script item
  pub goes : (turn_of c item).client.ended ≡ None
  pub sends : b.sent ≡ with_all a.sent (to_peer peer (bytes_sent (turn_of c item).packet))
  pub stands : Stands job (turn_of c item).client

-- It ended, and this tells how.
pub record TurnedToEnd (c : Client) (job : JobState) (told : JobMove) (a b : LinkState) : Type 0 where
  pub item : Scripted
  pub hears : HearsOne a.script b.script item
  pub ended : told_as (turn_of c item) ≡ told
  pub sends : b.sent ≡ a.sent
  pub stands : Stands job (turn_of c item).client

-- Nothing was heard.
pub record TurnUnheard (c : Client) (job : JobState) (a b : LinkState) : Type 0 where
  pub left : (b.script ≡ a.script) ⊎ (b.script ≡ without_next a.script)
  pub sends : b.sent ≡ a.sent
  pub stands : Stands job c

-- It goes on, and its packet was not sent, or it was and the sending failed.
pub record TurnUnsent (c : Client) (peer : Peer) (job : JobState) (a b : LinkState) : Type 0 where
  pub item : Scripted
  pub hears : HearsOne a.script b.script item
  pub goes : (turn_of c item).client.ended ≡ None
  pub message : Message
  pub packet : (turn_of c item).packet ≡ Some message
  pub sends : (b.sent ≡ a.sent) ⊎ (b.sent ≡ with_all a.sent (to_peer peer (packet_bytes message ∷ [])))
  pub stands : Stands job (turn_of c item).client

-- There was no memory for what the item asked of it.
pub record TurnStarved (c : Client) (job : JobState) (a b : LinkState) : Type 0 where
  pub item : Scripted
  pub hears : HearsOne a.script b.script item
  pub wants : WantsAt c item
  pub sends : b.sent ≡ a.sent
  pub over : job.is_over ≡ true
  pub printed : printed_in job ≡ []

abbrev pub TurnsToEnd : JobEnd → Client → JobState → LinkState → LinkState → Type 0
TurnsToEnd job_ends.OutOfMemory c job a b = TurnStarved c job a b
TurnsToEnd job_ends.NoAnswer c job a b = TurnedToEnd c job (moves.Failed job_ends.NoAnswer) a b
TurnsToEnd (job_ends.Refused group number) c job a b = TurnedToEnd c job (moves.Failed (job_ends.Refused group number)) a b
TurnsToEnd job_ends.Mismatch c job a b = TurnedToEnd c job (moves.Failed job_ends.Mismatch) a b
TurnsToEnd job_ends.Stalled c job a b = TurnedToEnd c job (moves.Failed job_ends.Stalled) a b

-- What a turn is that is answered so: whether it goes on or is done, or why it ends otherwise.
abbrev pub TurnsTo : Result Bool ClientFault → Client → Peer → JobState → LinkState → LinkState → Type 0
TurnsTo (Ok true) c peer job a b = TurnedOn c peer job a b
TurnsTo (Ok false) c peer job a b = TurnedToEnd c job moves.Done a b
TurnsTo (Err faults.Link) c peer job a b = TurnUnheard c job a b ⊎ TurnUnsent c peer job a b
TurnsTo (Err (faults.End told)) c peer job a b = TurnsToEnd told c job a b
TurnsTo (Err faults.Write) c peer job a b = ⊥

-- What a hearing is whose move is this.
pub record HearsAt (c : Client) (job : JobState) (move : JobMove) (a b : Option (List Scripted)) : Type 0 where
  pub item : Scripted
  pub hears : HearsOne a b item
  pub turns : Turns (WantsAt c item) job move (turn_of c item)
