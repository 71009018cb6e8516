use Rattle.std.proofs.Common.{refl, ◌∙◌}
use Rattle.smp_serve.specs.Sessions.{point}
use Rattle.smp_serve.proofs.ConsoleTurns.{not_false, piece_begins, piece_goes, piece_stops}
use Rattle.smp_serve.proofs.console_serving.serve_piece.Goals as goal

pub packets-init : goal.packets-init
packets-init g c = record {
  goes = λ text h. piece_begins text c.args.piece.now c.args.receiver.now (point c.args.device.now (g.F.Flash.state c.args.flash.now)) (g.O.Sink.written c.args.out.now) h;
  up = c.requires.up;
  places = refl;
  sizes = refl;
  says = c.requires.says;
  faults = refl;
}

pub packets-preserved : goal.packets-preserved
packets-preserved g c = record {
  goes = λ text h. piece_goes text c.args.piece.now c.packets.rest.now c.split_at.result.1.now c.packet.result.now c.packets.receiver c.feed-fed.new.self c.feed-fed.result
      (point c.args.device.now (g.F.Flash.state c.args.flash.now)) (point c.packets.device (g.F.Flash.state c.packets.flash)) (point c.answer.new.device (g.F.Flash.state c.answer.new.flash)) (g.O.Sink.written c.args.out.now) (g.O.Sink.written c.packets.out) (g.O.Sink.written c.answer.new.out)
      (c.packets.invariant.goes text h) c.feed-fed.ensures (not_false c.feed-fed.result.packet c.if-not-fed.false) c.split_at.ensures.back c.packet.ensures.packet c.in-Ok.ensures.replies;
  up = c.in-Ok.ensures.up;
  places = c.answer.ensures.places ∙ c.packets.invariant.places;
  sizes = c.answer.ensures.sizes ∙ c.packets.invariant.sizes;
  says = c.answer.ensures.says;
  faults = c.in-Ok.ensures.cause ∙ c.packets.invariant.faults;
}

pub returns-in-Err-clause-serves : goal.returns-in-Err-clause-serves
returns-in-Err-clause-serves g c = λ text h.
    piece_stops text c.args.piece.now c.packets.rest.now c.split_at.result.1.now c.packet.result.now c.packets.receiver c.feed-fed.new.self c.feed-fed.result c.in-Err.fault
    (point c.args.device.now (g.F.Flash.state c.args.flash.now)) (point c.packets.device (g.F.Flash.state c.packets.flash)) (point c.answer.new.device (g.F.Flash.state c.answer.new.flash)) (g.O.Sink.written c.args.out.now) (g.O.Sink.written c.packets.out) (g.O.Sink.written c.answer.new.out)
    (c.packets.invariant.goes text h) c.feed-fed.ensures (not_false c.feed-fed.result.packet c.if-not-fed.false) c.split_at.ensures.back c.packet.ensures.packet c.in-Err.ensures.replies
