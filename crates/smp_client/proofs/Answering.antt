-- What a session makes of its open request.
use Rattle.std.proofs.Common.{◌≡◌, ℕ, List, true, false, Option, Some, None, refl, sym, ap, subst, ◌∙◌}
use Rattle.smp_header.specs.Message.{Message, packet}
use Rattle.smp_reply.specs.declared.answer.Asked.{Asked}
use Rattle.smp_reply.specs.declared.answer.Answer.{Answer}
use Rattle.smp_reply.specs.Told.{Told, told, told_of}
use Rattle.smp_client.specs.declared.session.Move.{Move}
use Rattle.smp_client.specs.declared.session.Move.TheVariants as moves
use Rattle.smp_client.specs.declared.waiting.Waiting.{Waiting}
use Rattle.smp_client.specs.Waits.{open_of, request_of}
use Rattle.smp_client.specs.Requests.{Open, Reaction, sends, no_answer, Moved, moved, is_reply_to, is_strange, wait_ends, answer_by, answer_of_packet, answer_of_bytes, by_answer}
use Rattle.smp_client.specs.Sessions.{Session, Does, Hears, Waited, left_open}

pub answer_then : (request : Message) (asked : Asked) (m : Message) (found : Option Told) → is_reply_to request m ≡ true → found ≡ told asked m.bytes → found ≡ answer_by request asked m
answer_then request asked m found is e = rw is e

pub answer_else : (request : Message) (asked : Asked) (m : Message) → is_reply_to request m ≡ false → None ≡ answer_by request asked m
answer_else request asked m is = rw is refl

pub answer_of_none : (request : Message) (asked : Asked) (bytes : List ℕ) → None ≡ packet bytes → None ≡ answer_of_bytes request asked bytes
answer_of_none request asked bytes e = ap (answer_of_packet request asked) e

pub answer_of_some : (request : Message) (asked : Asked) (bytes : List ℕ) (m : Message) (found : Option Told)
    → Some m ≡ packet bytes → found ≡ answer_by request asked m → found ≡ answer_of_bytes request asked bytes
answer_of_some request asked bytes m found e h = h ∙ ap (answer_of_packet request asked) e

-- the open request of a session, by its fields
pub held : (s : Session) (own : List ℕ) (waiting : Option Waiting) (w : Waiting) → request_of own waiting ≡ s.request → own ≡ s.packet → waiting ≡ Some w
    → s.request ≡ Some (open_of s.packet w)
held s own waiting w e packet is = sym e ∙ ap (λ (p : List ℕ). request_of p waiting) packet ∙ ap (request_of s.packet) is

-- the request is answered
pub answered : (old new : Session) (o : Open) (answer : Answer) (bytes : List ℕ) → old.request ≡ Some o → new ≡ record old { request = None }
    → Some (told_of answer) ≡ answer_of_bytes o.packet o.asked bytes → Hears old.request old new bytes (moves.Answer answer)
answered old new o answer bytes found ended e =
    subst (λ (r : Option Open). Hears r old new bytes (moves.Answer answer)) (sym found)
    (subst (λ (told : Option Told). Does old new (moves.Answer answer) (by_answer o told)) e record { session = ended; move = refl })

-- what was heard is no answer
pub unanswered : (old new : Session) (o : Open) (move : Move) (bytes : List ℕ) → old.request ≡ Some o → None ≡ answer_of_bytes o.packet o.asked bytes
    → Does old new move (is_strange o) → Hears old.request old new bytes move
unanswered old new o move bytes found e h =
    subst (λ (r : Option Open). Hears r old new bytes move) (sym found)
    (subst (λ (told : Option Told). Does old new move (by_answer o told)) e h)

pub waited : (old new : Session) (o : Open) (move : Move) → old.request ≡ Some o → Does old new move (wait_ends o) → Waited old.request old new move
waited old new o move found h = subst (λ (r : Option Open). Waited r old new move) (sym found) h

-- the wait ended, and there is one more, or none
pub sent_again : (old new : Session) (o : Open) (m : Moved) → new ≡ record old { request = Some o } → m ≡ moved o sends → Does old new moves.Send m
sent_again old new o m again e = subst (λ (m : Moved). Does old new moves.Send m) (sym e) record { session = again; move = refl }

pub given_up : (old new : Session) (m : Moved) → new ≡ record old { request = None } → m.reaction ≡ no_answer → Does old new moves.NoAnswer m
given_up old new m ended e = record {
  session = ended ∙ ap (λ (r : Reaction). record old { request = left_open m.request r }) (sym e);
  move = sym e;
}
