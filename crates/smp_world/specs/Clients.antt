-- The clients of a world: what the jobs stand for, and what a turn of one does.
use Rattle.std.specs.Prelude.{◌≡◌, ◌<◌, ◌^◌, ℕ, List, [], ◌∷◌, Bool, true, false, drop, length, Option, Some, None}
use Rattle.smp_header.specs.Message.{Message}
use Rattle.smp_model.specs.Handled.{is_request}
use Rattle.smp_jobs.specs.Jobs.{Job}
use Rattle.smp_jobs.specs.Clients.{Client, Turn, begun}
use Rattle.smp_jobs.specs.Jobs.{End}
use Rattle.smp_jobs.specs.States.{JobState, Stands, told_as}
use Rattle.smp_jobs.specs.declared.moves.JobMove.{JobMove}
use Rattle.smp_jobs.specs.declared.moves.JobMove.TheVariants as moves
use Rattle.smp_jobs.specs.declared.moves.JobEnd.TheVariants as job_ends
use Rattle.smp_world.specs.Runs.{is_done, nth, with_nth}
use Rattle.smp_world.specs.declared.clients.Seat.{Seat}

-- the clients that began, and the jobs of those that are to begin
pub record ClientsState : Type 0 where
  pub begun : List Seat
  pub waiting : List JobState

-- a packet that is a request
pub record Asking (m : Message) : Type 0 where
  pub request : is_request m ≡ true
  pub group : m.group < 2 ^ 16

-- a job stands for its client, whose packet is a request, and is marked where it is done
pub record SeatStands (seat : Seat) (c : Client) : Type 0 where
  pub stands : Stands seat.job c
  pub marked : seat.is_done ≡ is_done c.ended
  pub asks : Asking c.request.packet

-- as many of these as of those, each related to the one at its place
abbrev pub Pairs : {A B : Type 0} → (A → B → Type 0) → List A → List B → Type 0
Pairs P [] [] = Unit {0}
Pairs P [] (y ∷ ys) = ⊥
Pairs P (x ∷ xs) [] = ⊥
Pairs P (x ∷ xs) (y ∷ ys) = P x y × Pairs P xs ys

-- of all these jobs the first ones have begun, and these are their clients
pub record ClientsStand (jobs : List Job) (s : ClientsState) (clients : List Client) : Type 0 where
  pub seats : Pairs SeatStands s.begun clients
  pub waiting : Pairs (λ state job. Stands state (begun job)) s.waiting (drop (length clients) jobs)

-- What a turn does.

-- a seat moves as its client's turn tells, but where there is no memory
abbrev pub SeatTurns : Turn → JobMove → Seat → Type 0
SeatTurns t (moves.Failed job_ends.OutOfMemory) new = Unit {0}
SeatTurns t move new = (move ≡ told_as t) × SeatStands new t.client

abbrev pub SeatMoves : Option End → Turn → JobMove → (old new : Seat) → Type 0
SeatMoves None t move old new = SeatTurns t move new
SeatMoves (Some e) t move old new = (move ≡ moves.Over) × (new ≡ old)

abbrev pub MovesSeat : (Client → Turn) → JobMove → (old new : Seat) → Type 0
MovesSeat turn move old new = (c : Client) → SeatStands old c → SeatMoves c.ended (turn c) move old new

abbrev pub is_done_by : JobMove → Bool
is_done_by moves.Done = true
is_done_by move = false

-- a client that did not end moves as its turn tells, but where there is no memory
abbrev pub MovesBy : (k : ℕ) → Turn → JobMove → List Job → List Client → ClientsState → Type 0
MovesBy k t (moves.Failed job_ends.OutOfMemory) jobs clients new = Unit {0}
MovesBy k t move jobs clients new = (move ≡ told_as t) × ClientsStand jobs new (with_nth clients k t.client)

abbrev pub MovesUnlessEnded : (k : ℕ) → Option End → Turn → JobMove → List Job → List Client → (old new : ClientsState) → Type 0
MovesUnlessEnded k None t move jobs clients old new = MovesBy k t move jobs clients new
MovesUnlessEnded k (Some e) t move jobs clients old new = (move ≡ moves.Over) × (new ≡ old)

-- where there is one of this number
abbrev pub MovesWhere : (k : ℕ) → Option Client → (Client → Turn) → Option JobMove → List Job → List Client → (old new : ClientsState) → Type 0
MovesWhere k None turn move jobs clients old new = (move ≡ None) × (new ≡ old)
MovesWhere k (Some c) turn move jobs clients old new = (made : JobMove) × ((move ≡ Some made) × MovesUnlessEnded k c.ended (turn c) made jobs clients old new)

-- what came of a turn of the client of this number, for whatever clients they stand
abbrev pub MovesClient : (k : ℕ) → (Client → Turn) → Option JobMove → (old new : ClientsState) → Type 0
MovesClient k turn move old new = (jobs : List Job) (clients : List Client) → ClientsStand jobs old clients → MovesWhere k (nth clients k) turn move jobs clients old new
