use Rattle.std.proofs.Common.{◌+◌, refl, ◌∙◌, arith}
use Rattle.smp_serve.specs.Hearing.{link_state}
use Rattle.smp_serve.specs.Sessions.{point}
use Rattle.smp_serve.proofs.LinkTurns.{few_more, no_turns, serves_turn, turn_ends}
use Rattle.smp_serve.proofs.link_serving.serve_turns.Goals as goal

pub turns-init : goal.turns-init
turns-init g c = record {
  serves = no_turns (record { answered = 0; dropped = 0 }) (point c.args.device.now (g.F.Flash.state c.args.flash.now)) (link_state (g.L.Link.script c.args.link.now) (g.L.Link.sent c.args.link.now)) refl refl;
  few = omega arith;
  up = c.requires.up;
  places = refl;
  sizes = refl;
  says = c.requires.says;
  names = refl;
  faults = refl;
  room = c.requires.room;
}

pub turns-preserved : goal.turns-preserved
turns-preserved g c = record {
  serves = serves_turn c.turns._done (record { answered = c.turns.answered; dropped = c.turns.dropped }) c.in-Ok.served (record { answered = c.turns.answered + c.in-Ok.served.answered; dropped = c.turns.dropped + c.in-Ok.served.dropped })
      (point c.args.device.now (g.F.Flash.state c.args.flash.now)) (point c.turns.device (g.F.Flash.state c.turns.flash)) (point c.turn.new.device (g.F.Flash.state c.turn.new.flash)) (link_state (g.L.Link.script c.args.link.now) (g.L.Link.sent c.args.link.now)) (link_state (g.L.Link.script c.turns.link) (g.L.Link.sent c.turns.link)) (link_state (g.L.Link.script c.turn.new.link) (g.L.Link.sent c.turn.new.link))
      c.turns.invariant.serves c.in-Ok.ensures.turns refl refl;
  few = let all = c.in-Ok.ensures.turns.all in let one = c.in-Ok.ensures.turns.one in
      few_more c.turns.answered c.turns.dropped c.in-Ok.served.answered c.in-Ok.served.dropped c.turns._done _ c.turns.invariant.few all one;
  up = c.in-Ok.ensures.up;
  places = c.turn.ensures.places ∙ c.turns.invariant.places;
  sizes = c.turn.ensures.sizes ∙ c.turns.invariant.sizes;
  says = c.turn.ensures.says;
  names = c.turn.ensures.names ∙ c.turns.invariant.names;
  faults = c.in-Ok.ensures.cause ∙ c.turns.invariant.faults;
  room = omega arith;
}

pub returns-in-Err-clause-serves : goal.returns-in-Err-clause-serves
returns-in-Err-clause-serves g c =
    turn_ends c.args.turns c.turns._done (record { answered = c.turns.answered; dropped = c.turns.dropped }) c.in-Err.fault
    (point c.args.device.now (g.F.Flash.state c.args.flash.now)) (point c.turns.device (g.F.Flash.state c.turns.flash)) (point c.turn.new.device (g.F.Flash.state c.turn.new.flash)) (link_state (g.L.Link.script c.args.link.now) (g.L.Link.sent c.args.link.now)) (link_state (g.L.Link.script c.turns.link) (g.L.Link.sent c.turns.link)) (link_state (g.L.Link.script c.turn.new.link) (g.L.Link.sent c.turn.new.link))
    c.turns-test.true c.turns.invariant.serves c.in-Err.ensures.turns
