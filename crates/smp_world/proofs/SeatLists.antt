-- The seats of a world and its clients, side by side.
use Rattle.std.proofs.Common.{◌≡◌, ◌+◌, ◌≤◌, ◌<◌, ℕ, zero, suc, List, [], ◌∷◌, ◌++◌, length, Option, Some, None, Bool, false, cond, ◌⊎◌, refl, sym, ◌∙◌, ap, subst, arith}
use Rattle.std.specs.Prelude.{count_by, drop, slice_get, slice_index_or, slice_set}
use Rattle.std.proofs.lemmas.List.Sums.{sum_by-cons}
use Rattle.smp_jobs.specs.Jobs.{Job, End}
use Rattle.smp_jobs.specs.Clients.{Client, Turn, begun}
use Rattle.smp_jobs.specs.Jobs as jobs
use Rattle.smp_jobs.specs.States.{JobState, Stands, told_as}
use Rattle.smp_jobs.specs.declared.moves.JobMove.{JobMove}
use Rattle.smp_jobs.specs.declared.moves.JobMove.TheVariants as moves
use Rattle.smp_jobs.specs.declared.moves.JobEnd.TheVariants as job_ends
use Rattle.smp_world.specs.Clients.{ClientsStand, ClientsState, MovesBy, MovesClient, MovesSeat, MovesUnlessEnded, MovesWhere, Pairs, SeatMoves, SeatStands, SeatTurns}
use Rattle.smp_world.specs.Runs.{is_done}
use Rattle.smp_world.specs.declared.clients.Seat.{Seat}
use Rattle.smp_world.proofs.Pairing.{none_at, pair_at, pairs_push, pairs_set}
use Rattle.smp_world.proofs.Seats.{asks_of}

pub seats_done : (xs : List Seat) (cs : List Client) → Pairs SeatStands xs cs → count_by (λ seat. seat.is_done) xs ≡ count_by (λ c. is_done c.ended) cs
seats_done [] [] h = refl
seats_done [] (c ∷ cs) h = absurd h
seats_done (x ∷ xs) [] h = absurd h
seats_done (x ∷ xs) (c ∷ cs) h =
    sum_by-cons (λ (seat : Seat). cond seat.is_done 1 0) x xs
    ∙ sum_same (cond x.is_done 1 0) (cond (is_done c.ended) 1 0) (count_by (λ seat. seat.is_done) xs) (count_by (λ c. is_done c.ended) cs) (ap (λ (b : Bool). cond b 1 0) h.0.marked) (seats_done xs cs h.1)
    ∙ sym (sum_by-cons (λ (c : Client). cond (is_done c.ended) 1 0) c cs)
  where
    sum_same : (a b m n : ℕ) → a ≡ b → m ≡ n → a + m ≡ b + n
    sum_same a b m n e f = omega (arith, e, f)

-- The next client begins.

abbrev pub AreJobs : List JobState → List Job → Type 0
AreJobs states jobs = Pairs (λ state job. Stands state (begun job)) states jobs

pub next_job : (states : List JobState) (n : ℕ) (js : List Job) → 1 ≤ length states → AreJobs states (drop n js) → (d : JobState)
    → (job : Job) × ((slice_get js n ≡ Some job) × Stands (slice_index_or states 0 d) (begun job) × AreJobs (drop 1 states) (drop (suc n) js))
next_job [] n js some h d = absurd (none some) where
  none : 1 ≤ 0 → ⊥
  none l = omega (arith, l)
next_job (s ∷ states) zero [] some h d = absurd h
next_job (s ∷ states) zero (job ∷ js) some h d = (job, (refl, h.0, h.1))
next_job (s ∷ states) (suc n) [] some h d = absurd h
next_job (s ∷ states) (suc n) (job ∷ js) some h d = next_job (s ∷ states) n js some h d

pub length_push : {X : Type 0} (xs : List X) (x : X) → length (xs ++ x ∷ []) ≡ length xs + 1
length_push [] x = refl
length_push (y ∷ xs) x = let e = length_push xs x in omega (arith, e)

after_one : {X : Type 0} (xs : List X) (x : X) → suc (length xs) ≡ length (xs ++ x ∷ [])
after_one [] x = refl
after_one (y ∷ xs) x = let e = after_one xs x in omega (arith, e)

length_kept : {X : Type 0} (xs : List X) (i : ℕ) (x : X) → length (slice_set xs i x) ≡ length xs
length_kept [] i x = refl
length_kept (y ∷ xs) zero x = refl
length_kept (y ∷ xs) (suc i) x = ap suc (length_kept xs i x)

-- the clients after the next one began
pub client_begins_so : (js : List Job) (old new : ClientsState) (clients : List Client) → ClientsStand js old clients → 1 ≤ length old.waiting → (d : JobState)
    → new.waiting ≡ drop 1 old.waiting → new.begun ≡ old.begun ++ (record { job = slice_index_or old.waiting 0 d; is_done = false } ∷ [])
    → (job : Job) × ((slice_get js (length clients) ≡ Some job) × ClientsStand js new (clients ++ begun job ∷ []))
client_begins_so js old new clients h some d waiting begins =
    let next = next_job old.waiting (length clients) js some h.waiting d in
    let seat : Seat = record { job = slice_index_or old.waiting 0 d; is_done = false } in (
      next.0,
      (
        next.1.0,
        record {
          seats = subst (λ (xs : List Seat). Pairs SeatStands xs (clients ++ begun next.0 ∷ [])) (sym begins)
              (pairs_push SeatStands old.begun clients h.seats seat (begun next.0) (record { stands = next.1.1; marked = refl; asks = asks_of 1 0 (jobs.first_of next.0) }));
          waiting = subst (λ (states : List JobState). AreJobs states (drop (length (clients ++ begun next.0 ∷ [])) js)) (sym waiting)
              (subst (λ (n : ℕ). AreJobs (drop 1 old.waiting) (drop n js)) (after_one clients (begun next.0)) next.1.2);
        },
      ),
    )

-- A client's turn.

moved : (js : List Job) (old new : ClientsState) (clients : List Client) (i : ℕ) (x : Seat) (c : Client) → ClientsStand js old clients → new.begun ≡ slice_set old.begun i x → new.waiting ≡ old.waiting → SeatStands x c
    → ClientsStand js new (slice_set clients i c)
moved js old new clients i x c h begins waits s = record {
  seats = subst (λ (xs : List Seat). Pairs SeatStands xs (slice_set clients i c)) (sym begins) (pairs_set SeatStands old.begun clients h.seats i x c s);
  waiting = subst (λ (states : List JobState). AreJobs states (drop (length (slice_set clients i c)) js)) (sym waits)
      (subst (λ (n : ℕ). AreJobs old.waiting (drop n js)) (sym (length_kept clients i c)) h.waiting);
}

told : (js : List Job) (old new : ClientsState) (clients : List Client) (i : ℕ) (x : Seat) (t : Turn) (made : JobMove) → ClientsStand js old clients → new.begun ≡ slice_set old.begun i x → new.waiting ≡ old.waiting → (made ≡ told_as t) × SeatStands x t.client
    → (made ≡ told_as t) × ClientsStand js new (slice_set clients i t.client)
told js old new clients i x t made h begins waits s = (s.0, moved js old new clients i x t.client h begins waits s.1)

turned : (js : List Job) (old new : ClientsState) (clients : List Client) (i : ℕ) (x : Seat) (t : Turn) (made : JobMove) → ClientsStand js old clients → new.begun ≡ slice_set old.begun i x → new.waiting ≡ old.waiting → SeatTurns t made x
    → MovesBy (suc i) t made js clients new
turned js old new clients i x t moves.Send h begins waits s = told js old new clients i x t moves.Send h begins waits s
turned js old new clients i x t moves.Wait h begins waits s = told js old new clients i x t moves.Wait h begins waits s
turned js old new clients i x t moves.Done h begins waits s = told js old new clients i x t moves.Done h begins waits s
turned js old new clients i x t moves.Over h begins waits s = told js old new clients i x t moves.Over h begins waits s
turned js old new clients i x t (moves.Failed job_ends.OutOfMemory) h begins waits s = tt
turned js old new clients i x t (moves.Failed job_ends.NoAnswer) h begins waits s = told js old new clients i x t (moves.Failed job_ends.NoAnswer) h begins waits s
turned js old new clients i x t (moves.Failed (job_ends.Refused group number)) h begins waits s = told js old new clients i x t (moves.Failed (job_ends.Refused group number)) h begins waits s
turned js old new clients i x t (moves.Failed job_ends.Mismatch) h begins waits s = told js old new clients i x t (moves.Failed job_ends.Mismatch) h begins waits s
turned js old new clients i x t (moves.Failed job_ends.Stalled) h begins waits s = told js old new clients i x t (moves.Failed job_ends.Stalled) h begins waits s

set_same : (xs : List Seat) (i : ℕ) (d : Seat) → slice_set xs i (slice_index_or xs i d) ≡ xs
set_same [] i d = refl
set_same (x ∷ xs) zero d = refl
set_same (x ∷ xs) (suc i) d = ap (λ (ys : List Seat). x ∷ ys) (set_same xs i d)

unless_ended : (js : List Job) (old new : ClientsState) (clients : List Client) (i : ℕ) (d x : Seat) (o : Option End) (t : Turn) (made : JobMove) → ClientsStand js old clients → new.begun ≡ slice_set old.begun i x → new.waiting ≡ old.waiting
    → SeatMoves o t made (slice_index_or old.begun i d) x → MovesUnlessEnded (suc i) o t made js clients old new
unless_ended js old new clients i d x None t made h begins waits s = turned js old new clients i x t made h begins waits s
unless_ended js old new clients i d x (Some e) t made h begins waits s =
    let same : new.begun ≡ old.begun = begins ∙ ap (slice_set old.begun i) s.1 ∙ set_same old.begun i d in
    (s.0, (λ j. record { begun = same j; waiting = waits j }))

pub client_moves : (turn : Client → Turn) (made : JobMove) (old new : ClientsState) (i : ℕ) (d x : Seat) → i < length old.begun → MovesSeat turn made (slice_index_or old.begun i d) x → new.begun ≡ slice_set old.begun i x → new.waiting ≡ old.waiting
    → MovesClient (suc i) turn (Some made) old new
client_moves turn made old new i d x few m begins waits js clients h =
    let at = pair_at SeatStands old.begun clients h.seats i few d in
    subst (λ (o : Option Client). MovesWhere (suc i) o turn (Some made) js clients old new) (sym at.1.0)
    (made, (refl, unless_ended js old new clients i d x at.0.ended (turn at.0) made h begins waits (m at.0 at.1.1)))

pub nobody_moves : (turn : Client → Turn) (old : ClientsState) (n : ℕ) → (n ≡ 0) ⊎ (length old.begun < n) → MovesClient n turn None old old
nobody_moves turn old n where_not js clients h = subst (λ (o : Option Client). MovesWhere n o turn None js clients old old) (sym (none_at SeatStands n old.begun clients h.seats where_not)) (refl, refl)
