use Rattle.std.proofs.Common.{◌∙◌, arith}
use Rattle.smp_serve.specs.Hearing.{link_state}
use Rattle.smp_serve.proofs.ClientDrives.{begins, begins_unsent, ends_with, comes_to_end, goes_on}
use Rattle.smp_serve.proofs.driving.converse.Goals as goal

pub returns-in-Err-clause-drives : goal.returns-in-Err-clause-drives
returns-in-Err-clause-drives g c = λ c' goes stands.
    begins_unsent c' c.args.peer c.args.job.now (link_state (g.L.Link.script c.args.link.now) (g.L.Link.sent c.args.link.now))
    (link_state (g.L.Link.script c.send.new.self) (g.L.Link.sent c.send.new.self)) c.packet.result.now goes stands c.packet.ensures c.in-Err.ensures.err c.send.ensures.script

pub turns-init : goal.turns-init
turns-init g c = record {
  drives = λ c' goes stands.
      begins c' c.args.peer c.args.job.now (link_state (g.L.Link.script c.args.link.now) (g.L.Link.sent c.args.link.now))
      (link_state (g.L.Link.script c.send.new.self) (g.L.Link.sent c.send.new.self)) c.packet.result.now goes stands c.packet.ensures c.in-Ok.ensures.ok c.send.ensures.script;
  runs = c.requires.runs;
  names = c.send.ensures.names;
  faults = c.in-Ok.ensures.cause.kept;
  room = c.requires.room;
}

pub turns-preserved : goal.turns-preserved
turns-preserved g c = record {
  drives = λ c' goes stands.
      goes_on c' c.args.peer c.turns.job c.turn.new.job (link_state (g.L.Link.script c.args.link.now) (g.L.Link.sent c.args.link.now))
      (link_state (g.L.Link.script c.turns.link) (g.L.Link.sent c.turns.link)) (link_state (g.L.Link.script c.turn.new.link) (g.L.Link.sent c.turn.new.link))
      c.in-Ok-true.field-0 c.in-Ok-true.field-0-test (c.turns.invariant.drives c' goes stands) c.in-Ok-true.ensures.turns;
  runs = c.in-Ok-true.ensures.runs c.in-Ok-true.field-0-test;
  names = c.turn.ensures.names ∙ c.turns.invariant.names;
  faults = c.in-Ok-true.ensures.cause ∙ c.turns.invariant.faults;
  room = omega arith;
}

pub returns-in-Ok-false-clause-drives : goal.returns-in-Ok-false-clause-drives
returns-in-Ok-false-clause-drives g c = λ c' goes stands.
    comes_to_end c' c.args.peer c.turns.job c.turn.new.job (link_state (g.L.Link.script c.args.link.now) (g.L.Link.sent c.args.link.now))
    (link_state (g.L.Link.script c.turns.link) (g.L.Link.sent c.turns.link)) (link_state (g.L.Link.script c.turn.new.link) (g.L.Link.sent c.turn.new.link))
    c.in-Ok-false.field-0 c.in-Ok-false.field-0-test (c.turns.invariant.drives c' goes stands) c.in-Ok-false.ensures.turns

pub returns-in-Err-turn-clause-drives : goal.returns-in-Err-turn-clause-drives
returns-in-Err-turn-clause-drives g c = λ c' goes stands.
    ends_with c' c.args.peer c.turns.job c.turn.new.job (link_state (g.L.Link.script c.args.link.now) (g.L.Link.sent c.args.link.now))
    (link_state (g.L.Link.script c.turns.link) (g.L.Link.sent c.turns.link)) (link_state (g.L.Link.script c.turn.new.link) (g.L.Link.sent c.turn.new.link))
    c.in-Err-turn.fault (c.turns.invariant.drives c' goes stands) c.in-Err-turn.ensures.turns
