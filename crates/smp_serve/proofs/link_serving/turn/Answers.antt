use Rattle.std.proofs.Common.{◌≡◌, length, take, arith, refl, ap, sym, ◌∙◌, inr}
use Rattle.smp_serve.specs.Hearing.{link_state}
use Rattle.smp_serve.specs.Sessions.{point}
use Rattle.smp_serve.proofs.Heard.{hears_packet, hears_quiet}
use Rattle.smp_serve.proofs.LinkTurns.{counted_answer, counted_drop, turn_passes, turn_quiet, turn_stops}
use Rattle.smp_serve.proofs.link_serving.turn.Goals as goal

pub returns-in-Ok-true-clause-turns : goal.returns-in-Ok-true-clause-turns
returns-in-Ok-true-clause-turns g c =
    let size : length c.hear.new.into ≡ 2049 = omega arith in
    turn_passes c.in-Ok-true.field-0 (record { answered = 1; dropped = 0 }) c.in-Ok-Packet.from (take c.in-Ok-Packet.length c.hear.new.into) (point c.args.device.now (g.F.Flash.state c.args.flash.now)) (point c.answer.new.device (g.F.Flash.state c.answer.new.flash)) (link_state (g.L.Link.script c.args.link.now) (g.L.Link.sent c.args.link.now)) (link_state (g.L.Link.script c.answer.new.link) (g.L.Link.sent c.answer.new.link)) (g.L.Link.sent c.hear.new.self) (sym (ap counted_answer c.in-Ok-true.field-0-test)) (sym (ap counted_drop c.in-Ok-true.field-0-test)) (hears_packet (g.L.Link.script c.args.link.now) (g.L.Link.script c.answer.new.link) c.hear.new.into c.in-Ok-Packet.field-0 c.in-Ok-Packet.from c.in-Ok-Packet.length size c.in-Ok-Packet.field-0-is c.in-Ok-Packet.ensures.heard (c.answer.ensures.script ∙ c.in-Ok-Packet.ensures.ok)) c.hear.ensures.sent c.in-Ok-true.ensures.answers

pub returns-in-Ok-false-clause-turns : goal.returns-in-Ok-false-clause-turns
returns-in-Ok-false-clause-turns g c =
    let size : length c.hear.new.into ≡ 2049 = omega arith in
    turn_passes c.in-Ok-false.field-0 (record { answered = 0; dropped = 1 }) c.in-Ok-Packet.from (take c.in-Ok-Packet.length c.hear.new.into) (point c.args.device.now (g.F.Flash.state c.args.flash.now)) (point c.answer.new.device (g.F.Flash.state c.answer.new.flash)) (link_state (g.L.Link.script c.args.link.now) (g.L.Link.sent c.args.link.now)) (link_state (g.L.Link.script c.answer.new.link) (g.L.Link.sent c.answer.new.link)) (g.L.Link.sent c.hear.new.self) (sym (ap counted_answer c.in-Ok-false.field-0-test)) (sym (ap counted_drop c.in-Ok-false.field-0-test)) (hears_packet (g.L.Link.script c.args.link.now) (g.L.Link.script c.answer.new.link) c.hear.new.into c.in-Ok-Packet.field-0 c.in-Ok-Packet.from c.in-Ok-Packet.length size c.in-Ok-Packet.field-0-is c.in-Ok-Packet.ensures.heard (c.answer.ensures.script ∙ c.in-Ok-Packet.ensures.ok)) c.hear.ensures.sent c.in-Ok-false.ensures.answers

pub returns-in-Err-answer-clause-turns : goal.returns-in-Err-answer-clause-turns
returns-in-Err-answer-clause-turns g c =
    let size : length c.hear.new.into ≡ 2049 = omega arith in
    inr (turn_stops c.in-Err-answer.fault c.in-Ok-Packet.from (take c.in-Ok-Packet.length c.hear.new.into) (point c.args.device.now (g.F.Flash.state c.args.flash.now)) (point c.answer.new.device (g.F.Flash.state c.answer.new.flash)) (link_state (g.L.Link.script c.args.link.now) (g.L.Link.sent c.args.link.now)) (link_state (g.L.Link.script c.answer.new.link) (g.L.Link.sent c.answer.new.link)) (g.L.Link.sent c.hear.new.self) (hears_packet (g.L.Link.script c.args.link.now) (g.L.Link.script c.answer.new.link) c.hear.new.into c.in-Ok-Packet.field-0 c.in-Ok-Packet.from c.in-Ok-Packet.length size c.in-Ok-Packet.field-0-is c.in-Ok-Packet.ensures.heard (c.answer.ensures.script ∙ c.in-Ok-Packet.ensures.ok)) c.hear.ensures.sent c.in-Err-answer.ensures.answers)

pub returns-in-Ok-Quiet-clause-turns : goal.returns-in-Ok-Quiet-clause-turns
returns-in-Ok-Quiet-clause-turns g c =
    turn_quiet (record { answered = 0; dropped = 0 }) (point c.args.device.now (g.F.Flash.state c.args.flash.now)) (link_state (g.L.Link.script c.args.link.now) (g.L.Link.sent c.args.link.now)) (link_state (g.L.Link.script c.hear.new.self) (g.L.Link.sent c.hear.new.self)) refl refl
    (hears_quiet (g.L.Link.script c.args.link.now) (g.L.Link.script c.hear.new.self) c.hear.new.into c.in-Ok-Quiet.field-0 c.in-Ok-Quiet.field-0-is c.in-Ok-Quiet.ensures.heard c.in-Ok-Quiet.ensures.ok) c.hear.ensures.sent
