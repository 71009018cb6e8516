use Rattle.std.proofs.Common.{Some, None, ap}
use Rattle.smp_client.specs.Requests.{wait_ends}
use Rattle.smp_client.specs.Sessions.{Session}
use Rattle.smp_client.specs.Waits.{open_of}
use Rattle.smp_client.proofs.Answering.{sent_again, given_up}
use Rattle.smp_client.proofs.session.Session.end_wait.Goals as goal

pub returns-in-Some : goal.returns-in-Some
returns-in-Some c =
    sent_again c.args.self.now _ (open_of c.args.self.now.packet c.in-Some.next) (wait_ends (open_of c.args.self.now.packet c.args.waiting))
    (ap (λ (s : Session). record s { request = Some (open_of s.packet c.in-Some.next) }) c.self.view_is)
    (c.in-Some.ensures c.args.self.now.packet)

pub returns-in-None : goal.returns-in-None
returns-in-None c =
    given_up c.args.self.now _ (wait_ends (open_of c.args.self.now.packet c.args.waiting))
    (ap (λ (s : Session). record s { request = None }) c.self.view_is)
    (c.in-None.ensures c.args.self.now.packet)
