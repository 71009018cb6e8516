-- What a running job holds, and what it does as a client.
use Rattle.std.specs.Prelude.{◌≡◌, ◌⊎◌, ◌≤◌, ◌+◌, ◌-◌, ◌*◌, ◌%◌, ℕ, zero, suc, List, [], Bool, true, false, if◌then◌else◌, Option, Some, None, is_some, option_map, MatchOption}
use Rattle.smp_header.specs.Message.{Message, packet}
use Rattle.smp_model.specs.Meant.{Meant}
use Rattle.smp_model.specs.Written.{request_message, request_bytes}
use Rattle.smp_model.specs.Packets.{packet_bytes}
use Rattle.smp_reply.specs.Told.{Told}
use Rattle.smp_client.specs.Requests as reactions
use Rattle.smp_client.specs.Requests.{Open, opened, Reaction, hears_bytes}
use Rattle.smp_client.specs.Sessions.{Session}
use Rattle.smp_jobs.specs.Jobs.{Job, uploads, upload_job, End, done, no_answer, refused, mismatch, stalled, most_packets, asked_of}
use Rattle.smp_jobs.specs.Clients.{Client, Turn, begun, client_hears_bytes}
use Rattle.smp_jobs.specs.Results.{result}
use Rattle.smp_jobs.specs.Tasks.{job_of, progress_in, progress_of, IsGet, CanTake, AsksAgain, IsBad, requests_left}
use Rattle.smp_model.specs.declared.upload.Ending.{Ending}
use Rattle.smp_model.specs.Image.{good_image}
use Rattle.smp_jobs.specs.declared.running.Running.{Running}
use Rattle.smp_jobs.specs.declared.moves.JobMove.{JobMove}
use Rattle.smp_jobs.specs.declared.moves.JobMove.TheVariants as moves
use Rattle.smp_jobs.specs.declared.moves.JobEnd.TheVariants as job_ends
use Rattle.smp_jobs.specs.declared.moves.JobFault.{JobFault}
use Rattle.smp_jobs.specs.declared.moves.JobFault.TheVariants as job_faults

-- a session after a request in version 2 began
abbrev pub asking : Session → Meant → Session
asking s m = record s {
  next = (s.next + 1) % 256;
  packet = request_bytes 1 s.next m;
  request = Some (opened (request_message 1 s.next m) (asked_of m));
}

-- one packet less of those that may be sent, where there is a bound; none where no more may be sent
abbrev pub spend : Option ℕ → Option (Option ℕ)
spend None = Some None
spend (Some zero) = None
spend (Some (suc n)) = Some (Some n)

-- whether a packet was counted
abbrev pub Counts : Bool → Option ℕ → Option ℕ → Type 0
Counts true old new = spend old ≡ Some new
Counts false old new = spend old ≡ None

-- a request that began where one more packet may be sent
abbrev pub Sends : JobMove → Session → Session → Option ℕ → Option ℕ → Meant → Type 0
Sends moves.Send old new room left m =
    (spend room ≡ Some left) × (new ≡ asking old m) × (packet new.packet ≡ Some (request_message 1 old.next m))
Sends (moves.Failed job_ends.Stalled) old new room left m = spend room ≡ None
Sends move old new room left m = ⊥

-- the same packet sent again
abbrev pub SendsAgain : JobMove → Option ℕ → Option ℕ → Type 0
SendsAgain moves.Send room left = spend room ≡ Some left
SendsAgain (moves.Failed job_ends.Stalled) room left = spend room ≡ None
SendsAgain move room left = ⊥

-- how many more packets may be sent, where there is a bound
abbrev pub room_of : Job → ℕ → Option ℕ
room_of job sent = option_map (λ most. most - sent) (most_packets job)

-- What a running job holds of a client, but for its open request.
pub record Holds (r : Running) (c : Client) : Type 0 where
  pub job : job_of r.task ≡ c.job
  pub progress : progress_in r.task ≡ progress_of c.job c.answers
  pub room : r.room ≡ room_of c.job c.sent
  pub bytes : r.session.packet ≡ packet_bytes c.request.packet
  pub is_packet : packet r.session.packet ≡ Some c.request.packet
  pub next : r.session.next ≡ (c.request.packet.sequence + 1) % 256
  pub goes : c.ended ≡ None

pub record Runs (r : Running) (c : Client) : Type 0 where
  pub held : Holds r c
  pub request : r.session.request ≡ Some c.request

-- Memory is wanted where a job is done, and for what one gets; so only where an answer came.
abbrev pub MayRunOut : Turn → Type 0
MayRunOut t = (t.client.ended ≡ Some done) ⊎ IsGet t.client.job

abbrev pub WantsMemory : Reaction → Turn → Type 0
WantsMemory (reactions.answers answer) t = MayRunOut t
WantsMemory reactions.sends t = ⊥
WantsMemory reactions.waits t = ⊥
WantsMemory reactions.no_answer t = ⊥

-- the client did not end, and sent that packet
pub record GoesOn (r : Running) (t : Turn) (sent : Option Message) : Type 0 where
  pub runs : Runs r t.client
  pub packet : t.packet ≡ sent

-- the client ended, and sent nothing
pub record Ends (t : Turn) (e : End) : Type 0 where
  pub ended : t.client.ended ≡ Some e
  pub packet : t.packet ≡ None

-- What a client's turn is told as, and what is held after it. Only where memory is wanted, another end may be told for want of it.
abbrev pub After : Type 0 → Running → JobMove → Turn → Type 0
After wanted r moves.Send t = GoesOn r t (Some t.client.request.packet)
After wanted r moves.Wait t = GoesOn r t None
After wanted r moves.Done t = Ends t done × (r.printed.items ≡ result t.client.job t.client.answers)
After wanted r (moves.Failed job_ends.NoAnswer) t = Ends t no_answer × (r.printed.items ≡ [])
After wanted r (moves.Failed (job_ends.Refused group number)) t = Ends t (refused group number) × (r.printed.items ≡ [])
After wanted r (moves.Failed job_ends.Mismatch) t = Ends t mismatch × (r.printed.items ≡ [])
After wanted r (moves.Failed job_ends.Stalled) t = Ends t stalled × (r.printed.items ≡ [])
After wanted r (moves.Failed job_ends.OutOfMemory) t = wanted × (r.printed.items ≡ [])
After wanted r moves.Over t = ⊥

-- A job that ends moves no more.
abbrev pub is_end : JobMove → Bool
is_end moves.Send = false
is_end moves.Wait = false
is_end moves.Done = true
is_end (moves.Failed e) = true
is_end moves.Over = true

abbrev pub OnGoing : JobMove → Type 0 → Type 0
OnGoing moves.Send fact = fact
OnGoing moves.Wait fact = fact
OnGoing moves.Done fact = Unit {0}
OnGoing (moves.Failed e) fact = Unit {0}
OnGoing moves.Over fact = Unit {0}

-- what is so of a running job, whatever it heard
abbrev pub IsCounted : Option Open → Type 0
IsCounted None = ⊥
IsCounted (Some o) = (o.waits ≤ 8) × (o.strangers ≤ 63)

pub record Sound (r : Running) : Type 0 where
  pub request : IsCounted r.session.request
  pub take : CanTake r.task
  pub room : is_some r.room ≡ is_some (most_packets (job_of r.task))
  pub printed : r.printed.items ≡ []

-- a request that was begun just now
abbrev pub IsFresh : Option Open → Type 0
IsFresh None = ⊥
IsFresh (Some o) = (o.waits ≡ 0) × (o.strangers ≡ 0)

-- A job that asks again, after an answer.
pub record Goes (old new : Running) : Type 0 where
  pub job : job_of new.task ≡ job_of old.task
  pub take : AsksAgain new.task
  pub room : spend old.room ≡ Some new.room
  pub request : IsFresh new.session.request
  pub printed : new.printed.items ≡ []
  pub requests : most_packets (job_of old.task) ≡ None → requests_left new.task + 1 ≤ requests_left old.task

-- the same after an answer that is taken already
pub record Asks (old new : Running) : Type 0 where
  pub task : new.task ≡ old.task
  pub take : AsksAgain new.task
  pub room : spend old.room ≡ Some new.room
  pub request : IsFresh new.session.request
  pub printed : new.printed.items ≡ []

-- The job that is done prints its result.
abbrev pub Finishes : JobMove → Running → Job → List Told → Type 0
Finishes moves.Done r job answers = r.printed.items ≡ result job answers
Finishes (moves.Failed job_ends.OutOfMemory) r job answers = r.printed.items ≡ []
Finishes move r job answers = ⊥

-- How far a running job is from its end: the packets that it may still send, or those of the requests to come, and in each wait the
-- packets that it may still hear.
abbrev pub waits_left : Option Open → ℕ
waits_left None = 0
waits_left (Some o) = 8 - o.waits

abbrev pub hears_left : Option Open → ℕ
hears_left None = 0
hears_left (Some o) = 64 - o.strangers

abbrev pub packets_left : Option ℕ → ℕ → Option Open → ℕ
packets_left (Some room) requests request = room
packets_left None requests request = 9 * requests + waits_left request

abbrev pub left_of : Running → ℕ
left_of r = 64 * packets_left r.room (requests_left r.task) r.session.request + hears_left r.session.request

-- A job as its owner sees it.
pub record JobState : Type 0 where
  pub running : Running
  pub is_over : Bool

-- a number that falls whenever something is heard or a wait ends, until the job has ended
abbrev pub left : JobState → ℕ
left s = if s.is_over then 0 else left_of s.running

abbrev pub IsSound : Running → Bool → Type 0
IsSound r true = Unit {0}
IsSound r false = Sound r

abbrev pub packet_in : JobState → List ℕ
packet_in s = s.running.session.packet

abbrev pub printed_in : JobState → List ℕ
printed_in s = s.running.printed.items

-- A job stands for a client: while it runs it does what the client does, and once it is done it prints the result.
abbrev pub StandsBy : Option End → JobState → Client → Type 0
StandsBy None s c = (s.is_over ≡ false) × (printed_in s ≡ []) × Runs s.running c
StandsBy (Some done) s c = (s.is_over ≡ true) × (printed_in s ≡ result c.job c.answers)
StandsBy (Some e) s c = (s.is_over ≡ true) × (printed_in s ≡ [])

abbrev pub Stands : JobState → Client → Type 0
Stands s c = StandsBy c.ended s c

-- the move that tells of a turn
abbrev pub told_by : Option End → Option Message → JobMove
told_by None (Some m) = moves.Send
told_by None None = moves.Wait
told_by (Some done) m = moves.Done
told_by (Some no_answer) m = moves.Failed job_ends.NoAnswer
told_by (Some (refused group number)) m = moves.Failed (job_ends.Refused group number)
told_by (Some mismatch) m = moves.Failed job_ends.Mismatch
told_by (Some stalled) m = moves.Failed job_ends.Stalled

abbrev pub told_as : Turn → JobMove
told_as t = told_by t.client.ended t.packet

-- A client's turn: its move is told, and the job stands for the client after it. Only where memory is wanted it may end for want of it.
abbrev pub Turns : Type 0 → JobState → JobMove → Turn → Type 0
Turns wanted s (moves.Failed job_ends.OutOfMemory) t = wanted × (s.is_over ≡ true) × (printed_in s ≡ [])
Turns wanted s move t = (move ≡ told_as t) × Stands s t.client

-- what is wanted of memory where a client hears bytes
abbrev pub HearsWant : Client → List ℕ → Type 0
HearsWant c bytes = WantsMemory (hears_bytes c.request bytes).reaction (client_hears_bytes c bytes)

-- The upload of a file that is a good image begins.
abbrev pub UploadBegins : JobState → ℕ → List ℕ → ℕ → Ending → Type 0
UploadBegins s image file chunk ending =
    MatchOption (good_image file) ⊥ (λ info. Stands s (begun (uploads (upload_job image file info.hash chunk ending))))

-- why there is no upload
abbrev pub UploadRefused : List ℕ → JobFault → Type 0
UploadRefused file (job_faults.BadImage fault) = IsBad file fault
UploadRefused file job_faults.OutOfMemory = ⊥
