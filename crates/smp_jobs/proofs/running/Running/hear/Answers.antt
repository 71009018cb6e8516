-- What is heard, by the session's move.
use Rattle.std.proofs.Common.{refl}
use Rattle.smp_reply.specs.Told.{told_of}
use Rattle.smp_client.specs.Requests.{hears_bytes}
use Rattle.smp_client.specs.declared.session.Move.TheVariants as session_moves
use Rattle.smp_jobs.specs.States.{HearsWant}
use Rattle.smp_jobs.proofs.Opens.{heard}
use Rattle.smp_jobs.proofs.Sounding.{opened_is, again_sound, again_nearer, waiting_sound, waiting_nearer}
use Rattle.smp_jobs.proofs.Turning.{does_heard, again, waiting, answered, answered_holds}
use Rattle.smp_jobs.proofs.running.Running.hear.Goals as goal

pub returns-in-Send-clause-heard : goal.returns-in-Send-clause-heard
returns-in-Send-clause-heard c = λ client h.
    let old = c.args.self.now in
    let bytes = c.args.packet.now in
    let does = does_heard old.session c.hear.new.self client.request bytes session_moves.Send h.request c.in-Send.ensures in
    again (HearsWant client bytes) old _ client (hears_bytes client.request bytes) c.send_again.result h (heard client.request bytes).packet
    does.move does.session refl c.requires.printed c.send_again.ensures

pub returns-in-Send-clause-sound : goal.returns-in-Send-clause-sound
returns-in-Send-clause-sound c =
    let old = c.args.self.now in
    let bytes = c.args.packet.now in
    let o = opened_is old.session.request c.requires.request in
    let does = does_heard old.session c.hear.new.self o.0 bytes session_moves.Send o.1 c.in-Send.ensures in
    again_sound old _ o.0 (hears_bytes o.0 bytes) c.send_again.result c.requires o.1 (heard o.0 bytes) does refl c.requires.printed c.send_again.ensures

pub returns-in-Send-clause-falls : goal.returns-in-Send-clause-falls
returns-in-Send-clause-falls c =
    let old = c.args.self.now in
    let bytes = c.args.packet.now in
    let o = opened_is old.session.request c.requires.request in
    let does = does_heard old.session c.hear.new.self o.0 bytes session_moves.Send o.1 c.in-Send.ensures in
    again_nearer old record old { session = c.hear.new.self; room = c.send_again.new.room } o.0 (hears_bytes o.0 bytes) c.send_again.result c.requires o.1 (heard o.0 bytes) does refl c.send_again.ensures

pub returns-in-Wait-clause-heard : goal.returns-in-Wait-clause-heard
returns-in-Wait-clause-heard c = λ client h.
    let old = c.args.self.now in
    let bytes = c.args.packet.now in
    let does = does_heard old.session c.hear.new.self client.request bytes session_moves.Wait h.request c.in-Wait.ensures in
    waiting old _ client (hears_bytes client.request bytes) h (heard client.request bytes).packet does.move does.session refl refl

pub returns-in-Wait-clause-sound : goal.returns-in-Wait-clause-sound
returns-in-Wait-clause-sound c =
    let old = c.args.self.now in
    let bytes = c.args.packet.now in
    let o = opened_is old.session.request c.requires.request in
    let does = does_heard old.session c.hear.new.self o.0 bytes session_moves.Wait o.1 c.in-Wait.ensures in
    waiting_sound old _ o.0 (hears_bytes o.0 bytes) c.requires o.1 (heard o.0 bytes) does refl refl c.requires.printed

pub returns-in-Wait-clause-falls : goal.returns-in-Wait-clause-falls
returns-in-Wait-clause-falls c =
    let old = c.args.self.now in
    let bytes = c.args.packet.now in
    let o = opened_is old.session.request c.requires.request in
    let does = does_heard old.session c.hear.new.self o.0 bytes session_moves.Wait o.1 c.in-Wait.ensures in
    waiting_nearer old record old { session = c.hear.new.self } o.0 (hears_bytes o.0 bytes) c.requires o.1 (heard o.0 bytes) does refl refl

pub returns-in-Answer-clause-heard : goal.returns-in-Answer-clause-heard
returns-in-Answer-clause-heard c = λ client h.
    let old = c.args.self.now in
    let bytes = c.args.packet.now in
    let does = does_heard old.session c.hear.new.self client.request bytes (session_moves.Answer c.in-Answer.answer) h.request c.in-Answer.ensures in
    let m = hears_bytes client.request bytes in
    let told = told_of c.in-Answer.answer in
    answered c.take.new.self client m told c.take.result does.move
    (c.take.ensures.took record client { request = m.request } (answered_holds old _ client m told h (heard client.request bytes).packet does.move does.session refl refl))
