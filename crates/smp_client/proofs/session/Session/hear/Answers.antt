use Rattle.std.proofs.Common.{◌≡◌, Some, None, ap}
use Rattle.smp_client.specs.Sessions.{Session}
use Rattle.smp_client.specs.Waits.{open_of}
use Rattle.smp_client.proofs.Answering.{held, answered, unanswered}
use Rattle.smp_client.proofs.session.Session.hear.Goals as goal

pub returns-in-Some-answer_to : goal.returns-in-Some-answer_to
returns-in-Some-answer_to c =
    let now = c.args.self.now in
    let found : now.request ≡ Some (open_of now.packet c.in-Some.waiting) =
    held now c.self.inside.packet.items c.self.inside.waiting c.in-Some.waiting (ap (λ (s : Session). s.request) c.self.view_is) (ap (λ (s : Session). s.packet) c.self.view_is) c.in-Some.is in
    answered now _ (open_of now.packet c.in-Some.waiting) c.in-Some-answer_to.answer c.args.packet.now found (ap (λ (s : Session). record s { request = None }) c.self.view_is) (c.in-Some-answer_to.ensures now.packet)

pub returns-in-None : goal.returns-in-None
returns-in-None c =
    let now = c.args.self.now in
    let found : now.request ≡ Some (open_of now.packet c.in-Some.waiting) =
    held now c.self.inside.packet.items c.self.inside.waiting c.in-Some.waiting (ap (λ (s : Session). s.request) c.self.view_is) (ap (λ (s : Session). s.packet) c.self.view_is) c.in-Some.is in
    unanswered now c.hear_stranger.new.self (open_of now.packet c.in-Some.waiting) c.hear_stranger.result c.args.packet.now found (c.in-None.ensures now.packet) c.hear_stranger.ensures
