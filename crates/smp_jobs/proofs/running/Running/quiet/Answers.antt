-- A wait that ends, by the session's move.
use Rattle.std.proofs.Common.{refl}
use Rattle.smp_client.specs.Requests.{wait_ends}
use Rattle.smp_client.specs.declared.session.Move.TheVariants as session_moves
use Rattle.smp_jobs.proofs.Opens.{waited}
use Rattle.smp_jobs.proofs.Sounding.{opened_is, again_sound, again_nearer}
use Rattle.smp_jobs.proofs.Turning.{does_waited, again}
use Rattle.smp_jobs.proofs.running.Running.quiet.Goals as goal

pub returns-in-Send-clause-waited : goal.returns-in-Send-clause-waited
returns-in-Send-clause-waited c = λ client h.
    let old = c.args.self.now in
    let does = does_waited old.session c.quiet.new.self client.request session_moves.Send h.request c.in-Send.ensures in
    again ⊥ old _ client (wait_ends client.request) c.send_again.result h (waited client.request).packet
    does.move does.session refl c.requires.printed c.send_again.ensures

pub returns-in-Send-clause-sound : goal.returns-in-Send-clause-sound
returns-in-Send-clause-sound c =
    let old = c.args.self.now in
    let o = opened_is old.session.request c.requires.request in
    let does = does_waited old.session c.quiet.new.self o.0 session_moves.Send o.1 c.in-Send.ensures in
    again_sound old _ o.0 (wait_ends o.0) c.send_again.result c.requires o.1 (waited o.0) does refl c.requires.printed c.send_again.ensures

pub returns-in-Send-clause-falls : goal.returns-in-Send-clause-falls
returns-in-Send-clause-falls c =
    let old = c.args.self.now in
    let o = opened_is old.session.request c.requires.request in
    let does = does_waited old.session c.quiet.new.self o.0 session_moves.Send o.1 c.in-Send.ensures in
    again_nearer old record old { session = c.quiet.new.self; room = c.send_again.new.room } o.0 (wait_ends o.0) c.send_again.result c.requires o.1 (waited o.0) does refl c.send_again.ensures
