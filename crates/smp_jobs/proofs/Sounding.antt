-- What is so of a running job stays so while it runs, and it comes nearer to its end.
use Rattle.std.proofs.Common.{◌≡◌, ◌<◌, ◌+◌, ℕ, zero, suc, [], Option, Some, None, refl, sym, ap, subst, ◌∙◌}
use Rattle.std.specs.Prelude.{is_some}
use Rattle.smp_client.specs.Requests.{Open, Reaction, Moved}
use Rattle.smp_client.specs.Sessions.{Session, Does, left_open}
use Rattle.smp_client.specs.declared.session.Move.TheVariants as session_moves
use Rattle.smp_jobs.specs.Jobs.{most_packets}
use Rattle.smp_jobs.specs.Tasks.{job_of, CanTake, requests_left}
use Rattle.smp_jobs.specs.States.{Sound, IsCounted, SendsAgain, OnGoing, spend, left_of}
use Rattle.smp_jobs.specs.declared.task.Task.{Task}
use Rattle.smp_jobs.specs.declared.running.Running.{Running}
use Rattle.smp_jobs.specs.declared.moves.JobMove.{JobMove}
use Rattle.smp_jobs.specs.declared.moves.JobMove.TheVariants as moves
use Rattle.smp_jobs.proofs.Opens.{Becomes, IsWithin}
use Rattle.smp_jobs.proofs.Falling.{left_by, again_falls, waiting_falls}

-- a running job has an open request, whose counts are in their bounds
pub opened_is : (r : Option Open) → IsCounted r → (o : Open) × (r ≡ Some o)
opened_is None h = absurd h
opened_is (Some o) h = (o, refl)

pub within : (r : Option Open) (o : Open) → IsCounted r → r ≡ Some o → IsWithin o
within None o h e = absurd h
within (Some p) o h e = let is : p ≡ o = cc in subst IsWithin is record { waits = h.0; strangers = h.1 }

pub same_kind : (room left : Option ℕ) → spend room ≡ Some left → is_some left ≡ is_some room
same_kind None left h = let is : None ≡ left = cc in ap is_some (sym is)
same_kind (Some zero) left h = absurd cc
same_kind (Some (suc n)) left h = let is : Some n ≡ left = cc in ap is_some (sym is)

counted : (r : Option Open) (o : Open) → r ≡ Some o → IsWithin o → IsCounted r
counted r o e h = subst IsCounted (sym e) (h.waits, h.strangers)

-- the request after the session moved on
sent_request : (old new : Session) (m : Moved) → Does old new session_moves.Send m → new.request ≡ Some m.request
sent_request old new m d = ap (λ (s : Session). s.request) d.session ∙ ap (λ (r : Reaction). left_open m.request r) (sym d.move)

waiting_request : (old new : Session) (m : Moved) → Does old new session_moves.Wait m → new.request ≡ Some m.request
waiting_request old new m d = ap (λ (s : Session). s.request) d.session ∙ ap (λ (r : Reaction). left_open m.request r) (sym d.move)

sound_by : (old new : Running) (o : Open) → Sound old → new.session.request ≡ Some o → IsWithin o → new.task ≡ old.task
    → is_some new.room ≡ is_some old.room → new.printed.items ≡ [] → Sound new
sound_by old new o h e few task room printed = record {
  request = counted new.session.request o e few;
  take = subst CanTake (sym task) h.take;
  room = room ∙ h.room ∙ ap (λ (t : Task). is_some (most_packets (job_of t))) (sym task);
  printed = printed;
}

pub again_sound : (old new : Running) (o : Open) (m : Moved) (move : JobMove) → Sound old → old.session.request ≡ Some o → Becomes o m
    → Does old.session new.session session_moves.Send m → new.task ≡ old.task → new.printed.items ≡ [] → SendsAgain move old.room new.room → OnGoing move (Sound new)
again_sound old new o m moves.Send h e b d task printed s =
    sound_by old new m.request h (sent_request old.session new.session m d) (b.within (within old.session.request o h.request e)) task (same_kind old.room new.room s) printed
again_sound old new o m (moves.Failed job_end) h e b d task printed s = tt
again_sound old new o m moves.Wait h e b d task printed s = absurd s
again_sound old new o m moves.Done h e b d task printed s = tt
again_sound old new o m moves.Over h e b d task printed s = tt

pub waiting_sound : (old new : Running) (o : Open) (m : Moved) → Sound old → old.session.request ≡ Some o → Becomes o m
    → Does old.session new.session session_moves.Wait m → new.task ≡ old.task → new.room ≡ old.room → new.printed.items ≡ [] → Sound new
waiting_sound old new o m h e b d task room printed =
    sound_by old new m.request h (waiting_request old.session new.session m d) (b.within (within old.session.request o h.request e)) task (ap is_some room) printed

falls_by : (old new : Running) (o after : Open) → old.session.request ≡ Some o → new.session.request ≡ Some after → new.task ≡ old.task
    → left_by new.room (requests_left old.task) (Some after) < left_by old.room (requests_left old.task) (Some o) → left_of new < left_of old
falls_by old new o after e f task h =
    let one : left_of new ≡ left_by new.room (requests_left old.task) (Some after) =
    ap (λ (r : Option Open). left_by new.room (requests_left new.task) r) f ∙ ap (λ (t : Task). left_by new.room (requests_left t) (Some after)) task in
    let two : left_of old ≡ left_by old.room (requests_left old.task) (Some o) = ap (λ (r : Option Open). left_by old.room (requests_left old.task) r) e in
    subst (λ (n : ℕ). n < left_of old) (sym one) (subst (λ (n : ℕ). left_by new.room (requests_left old.task) (Some after) < n) (sym two) h)

pub again_nearer : (old new : Running) (o : Open) (m : Moved) (move : JobMove) → Sound old → old.session.request ≡ Some o → Becomes o m
    → Does old.session new.session session_moves.Send m → new.task ≡ old.task → SendsAgain move old.room new.room → OnGoing move (left_of new < left_of old)
again_nearer old new o m moves.Send h e b d task s =
    let few : IsWithin o = within old.session.request o h.request e in
    let counts : (m.request.waits ≡ o.waits + 1) × (m.request.strangers ≡ 0) = b.again (sym d.move) in
    falls_by old new o m.request e (sent_request old.session new.session m d) task
    (again_falls old.room new.room (requests_left old.task) o m.request s few.strangers counts.0 counts.1 (b.within few).waits)
again_nearer old new o m (moves.Failed job_end) h e b d task s = tt
again_nearer old new o m moves.Wait h e b d task s = absurd s
again_nearer old new o m moves.Done h e b d task s = tt
again_nearer old new o m moves.Over h e b d task s = tt

pub waiting_nearer : (old new : Running) (o : Open) (m : Moved) → Sound old → old.session.request ≡ Some o → Becomes o m
    → Does old.session new.session session_moves.Wait m → new.task ≡ old.task → new.room ≡ old.room → left_of new < left_of old
waiting_nearer old new o m h e b d task room =
    let few : IsWithin o = within old.session.request o h.request e in
    let counts : (m.request.waits ≡ o.waits) × (m.request.strangers ≡ o.strangers + 1) = b.waiting (sym d.move) in
    falls_by old new o m.request e (waiting_request old.session new.session m d) task
    (subst (λ (r : Option ℕ). left_by r (requests_left old.task) (Some m.request) < left_by old.room (requests_left old.task) (Some o)) (sym room)
    (waiting_falls old.room (requests_left old.task) o m.request counts.0 counts.1 (b.within few).strangers))
