-- The turns of clients: each sends requests, and what a seat does is told of its client.
use Rattle.std.proofs.Common.{◌≡◌, ◌+◌, ◌<◌, ◌%◌, ◌^◌, ℕ, List, ◌∷◌, Option, Some, None, Bool, true, false, ◌||◌, if◌then◌else◌, ◌==◌, refl, sym, ◌∙◌, ap, subst, arith}
use Rattle.smp_header.specs.Message.{Message, packet}
use Rattle.smp_model.specs.Handled.{is_request}
use Rattle.smp_model.specs.Meant.{Meant}
use Rattle.smp_model.specs.Meant as meant
use Rattle.smp_model.specs.Written.{request_message}
use Rattle.smp_reply.specs.Told.{Told}
use Rattle.smp_client.specs.Requests as requests
use Rattle.smp_client.specs.Requests.{Open, Reaction, Moved, answer_of_packet, by_answer, hears, hears_bytes, is_strange, wait_ends}
use Rattle.smp_jobs.specs.Jobs as jobs
use Rattle.smp_jobs.specs.Jobs.{Job, End, Next, may_send, next}
use Rattle.smp_jobs.specs.Clients.{Client, Turn, after_moved, after_reaction, asks_for, client_hears, client_hears_bytes, client_waited, goes_on, sends, with_answer}
use Rattle.smp_jobs.specs.States.{HearsWant, JobState, Stands, StandsBy, Turns, told_as, told_by}
use Rattle.smp_jobs.specs.declared.moves.JobMove.{JobMove}
use Rattle.smp_jobs.specs.declared.moves.JobMove.TheVariants as moves
use Rattle.smp_jobs.specs.declared.moves.JobEnd.TheVariants as job_ends
use Rattle.smp_world.specs.Clients.{Asking, MovesSeat, SeatMoves, SeatStands, SeatTurns, is_done_by}
use Rattle.smp_world.specs.Runs.{is_done}
use Rattle.smp_world.specs.declared.clients.Seat.{Seat}

-- Every request of a client is a request.

asks_request : (version sequence : ℕ) (m : Meant) → is_request (request_message version sequence m) ≡ true
asks_request version sequence (meant.echo text) = refl
asks_request version sequence meant.reset = refl
asks_request version sequence meant.parameters = refl
asks_request version sequence meant.image_list = refl
asks_request version sequence (meant.image_set hash confirm) = refl
asks_request version sequence (meant.upload image len off sha part) = refl
asks_request version sequence (meant.erase slot) = refl
asks_request version sequence (meant.stat_group name) = refl
asks_request version sequence meant.stat_list = refl
asks_request version sequence (meant.setting_read name max_size) = refl
asks_request version sequence (meant.setting_write name val) = refl
asks_request version sequence (meant.setting_delete name) = refl
asks_request version sequence meant.commit = refl
asks_request version sequence meant.load = refl
asks_request version sequence meant.save = refl
asks_request version sequence (meant.file_read off name) = refl
asks_request version sequence (meant.file_write off part len name) = refl
asks_request version sequence (meant.file_status name) = refl
asks_request version sequence (meant.file_hash name kind off len) = refl
asks_request version sequence meant.file_types = refl
asks_request version sequence meant.file_close = refl

asks_group : (version sequence : ℕ) (m : Meant) → (request_message version sequence m).group < 2 ^ 16
asks_group version sequence (meant.echo text) = omega arith
asks_group version sequence meant.reset = omega arith
asks_group version sequence meant.parameters = omega arith
asks_group version sequence meant.image_list = omega arith
asks_group version sequence (meant.image_set hash confirm) = omega arith
asks_group version sequence (meant.upload image len off sha part) = omega arith
asks_group version sequence (meant.erase slot) = omega arith
asks_group version sequence (meant.stat_group name) = omega arith
asks_group version sequence meant.stat_list = omega arith
asks_group version sequence (meant.setting_read name max_size) = omega arith
asks_group version sequence (meant.setting_write name val) = omega arith
asks_group version sequence (meant.setting_delete name) = omega arith
asks_group version sequence meant.commit = omega arith
asks_group version sequence meant.load = omega arith
asks_group version sequence meant.save = omega arith
asks_group version sequence (meant.file_read off name) = omega arith
asks_group version sequence (meant.file_write off part len name) = omega arith
asks_group version sequence (meant.file_status name) = omega arith
asks_group version sequence (meant.file_hash name kind off len) = omega arith
asks_group version sequence meant.file_types = omega arith
asks_group version sequence meant.file_close = omega arith

pub asks_of : (version sequence : ℕ) (m : Meant) → Asking (request_message version sequence m)
asks_of version sequence m = record { request = asks_request version sequence m; group = asks_group version sequence m }

abbrev pub Asks : Client → Type 0
Asks c = Asking c.request.packet

wait_keeps : (o : Open) → (wait_ends o).request.packet ≡ o.packet
wait_keeps o = by_test (o.waits == 8) where
  by_test : (b : Bool) → (if b then requests.moved o requests.no_answer else requests.moved (record o { waits = o.waits + 1; strangers = 0 }) requests.sends).request.packet ≡ o.packet
  by_test true = refl
  by_test false = refl

strange_keeps : (o : Open) → (is_strange o).request.packet ≡ o.packet
strange_keeps o = by_test (o.strangers == 63) where
  by_test : (b : Bool) → (if b then wait_ends o else requests.moved (record o { strangers = o.strangers + 1 }) requests.waits).request.packet ≡ o.packet
  by_test true = wait_keeps o
  by_test false = refl

answer_keeps : (o : Open) (answer : Option Told) → (by_answer o answer).request.packet ≡ o.packet
answer_keeps o None = strange_keeps o
answer_keeps o (Some answer) = refl

sends_ask : (c : Client) → Asks c → Asks (sends c).client
sends_ask c a = by_test (may_send c.job c.sent) where
  turn : Bool → Turn
  turn b = if b then (record { client = record c { sent = c.sent + 1 }; packet = Some c.request.packet }) else (record { client = record c { ended = Some jobs.stalled }; packet = None })

  by_test : (b : Bool) → Asks (turn b).client
  by_test true = a
  by_test false = a

goes_ask : (c : Client) (n : Next) → Asks c → Asks (goes_on c n).client
goes_ask c (jobs.asks m) a = sends_ask (asks_for c m) (asks_of 1 ((c.request.packet.sequence + 1) % 256) m)
goes_ask c (jobs.ends e) a = a

reaction_asks : (c : Client) (r : Reaction) → Asks c → Asks (after_reaction c r).client
reaction_asks c requests.sends a = sends_ask c a
reaction_asks c requests.waits a = a
reaction_asks c (requests.answers answer) a = goes_ask (with_answer c answer) (next c.job (answer ∷ c.answers)) a
reaction_asks c requests.no_answer a = a

moved_asks : (c : Client) (m : Moved) → m.request.packet ≡ c.request.packet → Asks c → Asks (after_moved c m).client
moved_asks c m e a = reaction_asks (record c { request = m.request }) m.reaction (subst Asking (sym e) a)

hears_asks : (c : Client) (bytes : List ℕ) → Asks c → Asks (client_hears_bytes c bytes).client
hears_asks c bytes a = moved_asks c (hears_bytes c.request bytes) (answer_keeps c.request (answer_of_packet c.request.packet c.request.asked (packet bytes))) a

waits_asks : (c : Client) → Asks c → Asks (client_waited c).client
waits_asks c a = moved_asks c (wait_ends c.request) (wait_keeps c.request) a

-- bytes that are a packet are heard as it
pub hears_packet : (c : Client) (bytes : List ℕ) (m : Message) → packet bytes ≡ Some m → client_hears_bytes c bytes ≡ client_hears c m
hears_packet c bytes m e = ap (λ (p : Option Message). after_moved c (by_answer c.request (answer_of_packet c.request.packet c.request.asked p))) e

-- A packet that a client sends in a turn is its open request's.

abbrev pub SendsOwn : Turn → Type 0
SendsOwn t = (m : Message) → t.packet ≡ Some m → (m ≡ t.client.request.packet) × (t.client.ended ≡ None)

own : (x m : Message) → Some x ≡ Some m → m ≡ x
own x m e = cc e

sends_own : (c : Client) → c.ended ≡ None → SendsOwn (sends c)
sends_own c goes = by_test (may_send c.job c.sent) where
  by_test : (b : Bool) → SendsOwn (if b then (record { client = record c { sent = c.sent + 1 }; packet = Some c.request.packet }) else (record { client = record c { ended = Some jobs.stalled }; packet = None }))
  by_test true = λ m e. (own c.request.packet m e, goes)
  by_test false = λ m e. cc e

goes_own : (c : Client) (n : Next) → c.ended ≡ None → SendsOwn (goes_on c n)
goes_own c (jobs.asks m) goes = sends_own (asks_for c m) goes
goes_own c (jobs.ends e) goes = λ m h. cc h

reaction_own : (c : Client) (r : Reaction) → c.ended ≡ None → SendsOwn (after_reaction c r)
reaction_own c requests.sends goes = sends_own c goes
reaction_own c requests.waits goes = λ m e. cc e
reaction_own c (requests.answers answer) goes = goes_own (with_answer c answer) (next c.job (answer ∷ c.answers)) goes
reaction_own c requests.no_answer goes = λ m e. cc e

pub hears_own : (c : Client) (bytes : List ℕ) → c.ended ≡ None → SendsOwn (client_hears_bytes c bytes)
hears_own c bytes goes = reaction_own (record c { request = (hears_bytes c.request bytes).request }) (hears_bytes c.request bytes).reaction goes

pub waits_own : (c : Client) → c.ended ≡ None → SendsOwn (client_waited c)
waits_own c goes = reaction_own (record c { request = (wait_ends c.request).request }) (wait_ends c.request).reaction goes

-- Seats.

done_told : (e : Option End) (p : Option Message) → is_done_by (told_by e p) ≡ is_done e
done_told None (Some m) = refl
done_told None None = refl
done_told (Some jobs.done) p = refl
done_told (Some jobs.no_answer) p = refl
done_told (Some (jobs.refused group number)) p = refl
done_told (Some jobs.mismatch) p = refl
done_told (Some jobs.stalled) p = refl

marked : (was now : Bool) (made : JobMove) (t : Turn) → was ≡ false → now ≡ (was || is_done_by made) → made ≡ told_as t → now ≡ is_done t.client.ended
marked true now made t e h told = cc e
marked false now made t e h told = h ∙ ap is_done_by told ∙ done_told t.client.ended t.packet

seat_told : (job : JobState) (was now : Bool) (made : JobMove) (t : Turn) → Asks t.client → was ≡ false → now ≡ (was || is_done_by made) → (made ≡ told_as t) × Stands job t.client
    → (made ≡ told_as t) × SeatStands (record { job = job; is_done = now }) t.client
seat_told job was now made t asks e h turns = (turns.0, record { stands = turns.1; marked = marked was now made t e h turns.0; asks = asks })

seat_turns : (want : Type 0) (job : JobState) (was now : Bool) (made : JobMove) (t : Turn) → Asks t.client → was ≡ false → now ≡ (was || is_done_by made) → Turns want job made t → SeatTurns t made (record { job = job; is_done = now })
seat_turns want job was now moves.Send t asks e h turns = seat_told job was now moves.Send t asks e h turns
seat_turns want job was now moves.Wait t asks e h turns = seat_told job was now moves.Wait t asks e h turns
seat_turns want job was now moves.Done t asks e h turns = seat_told job was now moves.Done t asks e h turns
seat_turns want job was now moves.Over t asks e h turns = seat_told job was now moves.Over t asks e h turns
seat_turns want job was now (moves.Failed job_ends.OutOfMemory) t asks e h turns = tt
seat_turns want job was now (moves.Failed job_ends.NoAnswer) t asks e h turns = seat_told job was now (moves.Failed job_ends.NoAnswer) t asks e h turns
seat_turns want job was now (moves.Failed (job_ends.Refused group number)) t asks e h turns = seat_told job was now (moves.Failed (job_ends.Refused group number)) t asks e h turns
seat_turns want job was now (moves.Failed job_ends.Mismatch) t asks e h turns = seat_told job was now (moves.Failed job_ends.Mismatch) t asks e h turns
seat_turns want job was now (moves.Failed job_ends.Stalled) t asks e h turns = seat_told job was now (moves.Failed job_ends.Stalled) t asks e h turns

ended_over : (e : End) (s : JobState) (c : Client) → StandsBy (Some e) s c → s.is_over ≡ true
ended_over jobs.done s c h = h.0
ended_over jobs.no_answer s c h = h.0
ended_over (jobs.refused group number) s c h = h.0
ended_over jobs.mismatch s c h = h.0
ended_over jobs.stalled s c h = h.0

or_over : (was now : Bool) (made : JobMove) → made ≡ moves.Over → now ≡ (was || is_done_by made) → now ≡ was
or_over true now made e h = h
or_over false now made e h = h ∙ ap is_done_by e

-- what a seat does, by what its job does
seat_by : (o : Option End) (c : Client) (t : Turn) (old new : Seat) (made : JobMove) (want : Type 0) → c.ended ≡ o → SeatStands old c → Asks t.client → new.is_done ≡ (old.is_done || is_done_by made)
    → (old.job.is_over ≡ true → (made ≡ moves.Over) × (new.job ≡ old.job)) → (c.ended ≡ None → Stands old.job c → Turns want new.job made t) → SeatMoves o t made old new
seat_by None c t old new made want e s asks mark over turns =
    seat_turns want new.job old.is_done new.is_done made t asks (s.marked ∙ ap is_done e) mark (turns e s.stands)
seat_by (Some x) c t old new made want e s asks mark over turns =
    let h = over (ended_over x old.job c (subst (λ (o : Option End). StandsBy o old.job c) e s.stands)) in
    (h.0, (λ i. record { job = h.1 i; is_done = or_over old.is_done new.is_done made h.0 mark i }))

pub seat_hears : (bytes : List ℕ) (old new : Seat) (made : JobMove) → new.is_done ≡ (old.is_done || is_done_by made) → (old.job.is_over ≡ true → (made ≡ moves.Over) × (new.job ≡ old.job))
    → ((c : Client) → c.ended ≡ None → Stands old.job c → Turns (HearsWant c bytes) new.job made (client_hears_bytes c bytes)) → MovesSeat (λ c. client_hears_bytes c bytes) made old new
seat_hears bytes old new made mark over turns c s = seat_by c.ended c (client_hears_bytes c bytes) old new made (HearsWant c bytes) refl s (hears_asks c bytes s.asks) mark over (turns c)

pub seat_waits : (old new : Seat) (made : JobMove) → new.is_done ≡ (old.is_done || is_done_by made) → (old.job.is_over ≡ true → (made ≡ moves.Over) × (new.job ≡ old.job))
    → ((c : Client) → c.ended ≡ None → Stands old.job c → Turns ⊥ new.job made (client_waited c)) → MovesSeat client_waited made old new
seat_waits old new made mark over turns c s = seat_by c.ended c (client_waited c) old new made ⊥ refl s (waits_asks c s.asks) mark over (turns c)
