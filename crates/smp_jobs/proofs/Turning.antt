-- The turns of a running job, and those of the client that it stands for.
use Rattle.std.proofs.Common.{◌≡◌, ◌+◌, ◌%◌, ℕ, List, [], ◌∷◌, Bool, true, false, Option, Some, None, refl, sym, ap, subst, ◌∙◌}
use Rattle.std.specs.Prelude.{if◌then◌else◌}
use Rattle.smp_header.specs.Message.{Message, packet}
use Rattle.smp_model.specs.Meant.{Meant}
use Rattle.smp_model.specs.Packets.{packet_bytes}
use Rattle.smp_model.specs.Written.{request_message}
use Rattle.smp_reply.specs.Told.{Told}
use Rattle.smp_client.specs.Requests as reactions
use Rattle.smp_client.specs.Requests.{Open, opened, Reaction, Moved, hears_bytes, answer_of_bytes, wait_ends}
use Rattle.smp_client.specs.Sessions.{Session, Does, Hears, Waited, left_open}
use Rattle.smp_client.specs.declared.session.Move.{Move}
use Rattle.smp_jobs.specs.Jobs.{Job, stalled, asks, next, may_send, asked_of}
use Rattle.smp_jobs.specs.Clients.{Client, Turn, sends, stops, goes_on, takes, with_answer, asks_for, after_reaction, after_moved}
use Rattle.smp_jobs.specs.Tasks.{job_of, progress_in}
use Rattle.smp_jobs.specs.States.{After, MayRunOut, WantsMemory, GoesOn, Holds, Runs, Sends, SendsAgain, asking, spend}
use Rattle.smp_jobs.specs.declared.running.Running.{Running}
use Rattle.smp_jobs.specs.declared.moves.JobMove.{JobMove}
use Rattle.smp_jobs.specs.declared.moves.JobMove.TheVariants as moves
use Rattle.smp_jobs.specs.declared.moves.JobEnd.TheVariants as job_ends
use Rattle.smp_jobs.proofs.Rooms.{may, left_after, may_not}

-- a client that sends, and one that has sent too much
abbrev sent_once : Client → Turn
sent_once c = record { client = record c { sent = c.sent + 1 }; packet = Some c.request.packet }

abbrev sending : Bool → Client → Turn
sending b c = if b then sent_once c else stops c stalled

sends_on : (c : Client) → may_send c.job c.sent ≡ true → sends c ≡ sent_once c
sends_on c h = ap (λ (b : Bool). sending b c) h

sends_no_more : (c : Client) → may_send c.job c.sent ≡ false → sends c ≡ stops c stalled
sends_no_more c h = ap (λ (b : Bool). sending b c) h

-- What is held of a client is held of it in the next state of its job, where the rest is as before.
still : (old new : Running) (c : Client) (request : Open) → Holds old c → new.task ≡ old.task → new.room ≡ old.room
    → new.session.packet ≡ old.session.packet → new.session.next ≡ old.session.next → request.packet ≡ c.request.packet
    → Holds new (record c { request = request })
still old new c request h task room bytes number same = record {
  job = ap job_of task ∙ h.job;
  progress = ap progress_in task ∙ h.progress;
  room = room ∙ h.room;
  bytes = bytes ∙ h.bytes ∙ ap packet_bytes (sym same);
  is_packet = ap packet bytes ∙ h.is_packet ∙ ap Some (sym same);
  next = number ∙ h.next ∙ ap (λ (m : Message). (m.sequence + 1) % 256) (sym same);
  goes = h.goes;
}

-- A request that is asked for.

asked_holds : (old new : Running) (c : Client) (answer : Told) (m : Meant) → Holds old (with_answer c answer) → new.task ≡ old.task
    → spend old.room ≡ Some new.room → new.session ≡ asking old.session m → packet new.session.packet ≡ Some (request_message 1 old.session.next m)
    → Runs new (record (asks_for (with_answer c answer) m) { sent = c.sent + 1 })
asked_holds old new c answer m h task room e read = record {
  held = record {
    job = ap job_of task ∙ h.job;
    progress = ap progress_in task ∙ h.progress;
    room = left_after c.job c.sent old.room new.room h.room room;
    bytes = ap (λ (s : Session). s.packet) e ∙ ap (λ (n : ℕ). packet_bytes (request_message 1 n m)) h.next;
    is_packet = read ∙ ap (λ (n : ℕ). Some (request_message 1 n m)) h.next;
    next = ap (λ (s : Session). s.next) e ∙ ap (λ (n : ℕ). (n + 1) % 256) h.next;
    goes = h.goes;
  };
  request = ap (λ (s : Session). s.request) e ∙ ap (λ (n : ℕ). Some (opened (request_message 1 n m) (asked_of m))) h.next;
}

pub asked : (wanted : Type 0) (old new : Running) (c : Client) (answer : Told) (m : Meant) (move : JobMove) → Holds old (with_answer c answer)
    → asks m ≡ next (job_of old.task) (answer ∷ c.answers) → new.task ≡ old.task → new.printed.items ≡ []
    → Sends move old.session new.session old.room new.room m → After wanted new move (takes c answer)
asked wanted old new c answer m moves.Send h e task printed s =
    let c' : Client = asks_for (with_answer c answer) m in
    let is : takes c answer ≡ sent_once c' =
    ap (goes_on (with_answer c answer)) (ap (λ (j : Job). next j (answer ∷ c.answers)) (sym h.job) ∙ sym e) ∙ sends_on c' (may c.job c.sent old.room new.room h.room s.0)
    in subst (λ (t : Turn). After wanted new moves.Send t) (sym is) record { runs = asked_holds old new c answer m h task s.0 s.1 s.2; packet = refl }
asked wanted old new c answer m (moves.Failed job_ends.Stalled) h e task printed s =
    let c' : Client = asks_for (with_answer c answer) m in
    let is : takes c answer ≡ stops c' stalled =
    ap (goes_on (with_answer c answer)) (ap (λ (j : Job). next j (answer ∷ c.answers)) (sym h.job) ∙ sym e) ∙ sends_no_more c' (may_not c.job c.sent old.room h.room s)
    in subst (λ (t : Turn). After wanted new (moves.Failed job_ends.Stalled) t) (sym is) (record { ended = refl; packet = refl }, printed)
asked wanted old new c answer m (moves.Failed job_ends.NoAnswer) h e task printed s = absurd s
asked wanted old new c answer m (moves.Failed (job_ends.Refused group number)) h e task printed s = absurd s
asked wanted old new c answer m (moves.Failed job_ends.Mismatch) h e task printed s = absurd s
asked wanted old new c answer m (moves.Failed job_ends.OutOfMemory) h e task printed s = absurd s
asked wanted old new c answer m moves.Wait h e task printed s = absurd s
asked wanted old new c answer m moves.Done h e task printed s = absurd s
asked wanted old new c answer m moves.Over h e task printed s = absurd s

-- What is heard, and a wait that ends, by what becomes of the open request.

-- the request's packet again
again_runs : (old new : Running) (c : Client) (m : Moved) → Runs old c → new.task ≡ old.task → spend old.room ≡ Some new.room
    → new.session ≡ record old.session { request = Some m.request } → m.request.packet ≡ c.request.packet
    → Runs new (record c { request = m.request; sent = c.sent + 1 })
again_runs old new c m h task room e same = record {
  held = record {
    job = ap job_of task ∙ h.held.job;
    progress = ap progress_in task ∙ h.held.progress;
    room = left_after c.job c.sent old.room new.room h.held.room room;
    bytes = ap (λ (s : Session). s.packet) e ∙ h.held.bytes ∙ ap packet_bytes (sym same);
    is_packet = ap (λ (s : Session). packet s.packet) e ∙ h.held.is_packet ∙ ap Some (sym same);
    next = ap (λ (s : Session). s.next) e ∙ h.held.next ∙ ap (λ (p : Message). (p.sequence + 1) % 256) (sym same);
    goes = h.held.goes;
  };
  request = ap (λ (s : Session). s.request) e;
}

pub again : (wanted : Type 0) (old new : Running) (c : Client) (m : Moved) (move : JobMove) → Runs old c → m.request.packet ≡ c.request.packet
    → reactions.sends ≡ m.reaction → new.session ≡ record old.session { request = left_open m.request m.reaction }
    → new.task ≡ old.task → new.printed.items ≡ [] → SendsAgain move old.room new.room → After wanted new move (after_moved c m)
again wanted old new c m moves.Send h same r e task printed s =
    let c' : Client = record c { request = m.request } in
    let is : after_moved c m ≡ sent_once c' = ap (after_reaction c') (sym r) ∙ sends_on c' (may c.job c.sent old.room new.room h.held.room s) in
    let left : new.session ≡ record old.session { request = Some m.request } = e ∙ ap (λ (r : Reaction). record old.session { request = left_open m.request r }) (sym r) in
    subst (λ (t : Turn). After wanted new moves.Send t) (sym is) record { runs = again_runs old new c m h task s left same; packet = refl }
again wanted old new c m (moves.Failed job_ends.Stalled) h same r e task printed s =
    let c' : Client = record c { request = m.request } in
    let is : after_moved c m ≡ stops c' stalled = ap (after_reaction c') (sym r) ∙ sends_no_more c' (may_not c.job c.sent old.room h.held.room s) in
    subst (λ (t : Turn). After wanted new (moves.Failed job_ends.Stalled) t) (sym is) (record { ended = refl; packet = refl }, printed)
again wanted old new c m (moves.Failed job_ends.NoAnswer) h same r e task printed s = absurd s
again wanted old new c m (moves.Failed (job_ends.Refused group number)) h same r e task printed s = absurd s
again wanted old new c m (moves.Failed job_ends.Mismatch) h same r e task printed s = absurd s
again wanted old new c m (moves.Failed job_ends.OutOfMemory) h same r e task printed s = absurd s
again wanted old new c m moves.Wait h same r e task printed s = absurd s
again wanted old new c m moves.Done h same r e task printed s = absurd s
again wanted old new c m moves.Over h same r e task printed s = absurd s

-- the wait goes on
pub waiting : (old new : Running) (c : Client) (m : Moved) → Runs old c → m.request.packet ≡ c.request.packet
    → reactions.waits ≡ m.reaction → new.session ≡ record old.session { request = left_open m.request m.reaction }
    → new.task ≡ old.task → new.room ≡ old.room → GoesOn new (after_moved c m) None
waiting old new c m h same r e task room =
    let is : after_moved c m ≡ record { client = record c { request = m.request }; packet = None } = ap (after_reaction (record c { request = m.request })) (sym r) in
    let left : new.session ≡ record old.session { request = Some m.request } = e ∙ ap (λ (r : Reaction). record old.session { request = left_open m.request r }) (sym r) in
    subst (λ (t : Turn). GoesOn new t None) (sym is) record {
      runs = record {
        held = still old new c m.request h.held task room (ap (λ (s : Session). s.packet) left) (ap (λ (s : Session). s.next) left) same;
        request = ap (λ (s : Session). s.request) left;
      };
      packet = refl;
    }

-- the request is answered
pub answered_holds : (old new : Running) (c : Client) (m : Moved) (answer : Told) → Runs old c → m.request.packet ≡ c.request.packet
    → reactions.answers answer ≡ m.reaction → new.session ≡ record old.session { request = left_open m.request m.reaction }
    → new.task ≡ old.task → new.room ≡ old.room → Holds new (record c { request = m.request })
answered_holds old new c m answer h same r e task room =
    still old new c m.request h.held task room (ap (λ (s : Session). s.packet) e) (ap (λ (s : Session). s.next) e) same

pub answered : (r : Running) (c : Client) (m : Moved) (answer : Told) (move : JobMove) → reactions.answers answer ≡ m.reaction
    → After (MayRunOut (takes (record c { request = m.request }) answer)) r move (takes (record c { request = m.request }) answer)
    → After (WantsMemory m.reaction (after_moved c m)) r move (after_moved c m)
answered r c m answer move e h = subst (λ (n : Reaction). After (WantsMemory n (after_reaction (record c { request = m.request }) n)) r move (after_reaction (record c { request = m.request }) n)) e h

-- what a session does, where its open request is known
pub does_heard : (old new : Session) (o : Open) (bytes : List ℕ) (move : Move) → old.request ≡ Some o → Hears old.request old new bytes move
    → Does old new move (hears_bytes o bytes)
does_heard old new o bytes move e h = subst (λ (r : Option Open). Hears r old new bytes move) e h

pub does_waited : (old new : Session) (o : Open) (move : Move) → old.request ≡ Some o → Waited old.request old new move → Does old new move (wait_ends o)
does_waited old new o move e h = subst (λ (r : Option Open). Waited r old new move) e h
