use Rattle.std.proofs.Common.{inr}
use Rattle.smp_serve.specs.Hearing.{LinkState, link_state}
use Rattle.smp_serve.proofs.ClientDrives.{done_turn, failed_turn, runs_on, sends_turn, unsent_turn, waits_turn}
use Rattle.smp_serve.proofs.driving.turn.Goals as goal

pub returns-in-Ok-clause-turns : goal.returns-in-Ok-clause-turns
returns-in-Ok-clause-turns g c = λ c' goes stands.
    sends_turn c' c.args.peer c.hear.new.job c.in-Ok-Send.field-0 (link_state (g.L.Link.script c.args.link.now) (g.L.Link.sent c.args.link.now))
    (link_state (g.L.Link.script c.hear.new.link) (g.L.Link.sent c.hear.new.link)) (link_state (g.L.Link.script c.send.new.self) (g.L.Link.sent c.send.new.self)) c.packet.result.now
    goes c.in-Ok-Send.field-0-is (c.in-Ok-Send.ensures.heard c' goes stands) c.hear.ensures.sent c.packet.ensures c.in-Ok.ensures.ok c.send.ensures.script

pub returns-in-Ok-clause-runs : goal.returns-in-Ok-clause-runs
returns-in-Ok-clause-runs g c = λ _.
    let n = c.requires.runs in
    let a : LinkState = link_state (g.L.Link.script c.args.link.now) (g.L.Link.sent c.args.link.now) in
    let d : LinkState = link_state (g.L.Link.script c.send.new.self) (g.L.Link.sent c.send.new.self) in
    runs_on n.client c.args.peer c.hear.new.job a d
    (sends_turn n.client c.args.peer c.hear.new.job c.in-Ok-Send.field-0 a
    (link_state (g.L.Link.script c.hear.new.link) (g.L.Link.sent c.hear.new.link)) d c.packet.result.now
    n.goes c.in-Ok-Send.field-0-is (c.in-Ok-Send.ensures.heard n.client n.goes n.stands) c.hear.ensures.sent c.packet.ensures c.in-Ok.ensures.ok c.send.ensures.script)

pub returns-in-Err-send-clause-turns : goal.returns-in-Err-send-clause-turns
returns-in-Err-send-clause-turns g c = λ c' goes stands.
    inr (unsent_turn c' c.args.peer c.hear.new.job c.in-Ok-Send.field-0 (link_state (g.L.Link.script c.args.link.now) (g.L.Link.sent c.args.link.now))
    (link_state (g.L.Link.script c.hear.new.link) (g.L.Link.sent c.hear.new.link)) (link_state (g.L.Link.script c.send.new.self) (g.L.Link.sent c.send.new.self)) c.packet.result.now
    goes c.in-Ok-Send.field-0-is (c.in-Ok-Send.ensures.heard c' goes stands) c.hear.ensures.sent c.packet.ensures c.in-Err-send.ensures.err c.send.ensures.script)

pub returns-in-Ok-Wait-clause-turns : goal.returns-in-Ok-Wait-clause-turns
returns-in-Ok-Wait-clause-turns g c = λ c' goes stands.
    waits_turn c' c.args.peer c.hear.new.job c.in-Ok-Wait.field-0 (link_state (g.L.Link.script c.args.link.now) (g.L.Link.sent c.args.link.now))
    (link_state (g.L.Link.script c.hear.new.link) (g.L.Link.sent c.hear.new.link)) c.in-Ok-Wait.field-0-is (c.in-Ok-Wait.ensures.heard c' goes stands) c.hear.ensures.sent

pub returns-in-Ok-Wait-clause-runs : goal.returns-in-Ok-Wait-clause-runs
returns-in-Ok-Wait-clause-runs g c = λ _.
    let n = c.requires.runs in
    let a : LinkState = link_state (g.L.Link.script c.args.link.now) (g.L.Link.sent c.args.link.now) in
    let b : LinkState = link_state (g.L.Link.script c.hear.new.link) (g.L.Link.sent c.hear.new.link) in
    runs_on n.client c.args.peer c.hear.new.job a b
    (waits_turn n.client c.args.peer c.hear.new.job c.in-Ok-Wait.field-0 a b c.in-Ok-Wait.field-0-is (c.in-Ok-Wait.ensures.heard n.client n.goes n.stands) c.hear.ensures.sent)

pub returns-in-Ok-Done-clause-turns : goal.returns-in-Ok-Done-clause-turns
returns-in-Ok-Done-clause-turns g c = λ c' goes stands.
    done_turn c' c.hear.new.job c.in-Ok-Done.field-0 (link_state (g.L.Link.script c.args.link.now) (g.L.Link.sent c.args.link.now))
    (link_state (g.L.Link.script c.hear.new.link) (g.L.Link.sent c.hear.new.link)) c.in-Ok-Done.field-0-is (c.in-Ok-Done.ensures.heard c' goes stands) c.hear.ensures.sent

pub returns-in-Ok-Failed-clause-turns : goal.returns-in-Ok-Failed-clause-turns
returns-in-Ok-Failed-clause-turns g c = λ c' goes stands.
    failed_turn c' c.hear.new.job c.in-Ok-Failed.field-0 c.in-Ok-Failed.end (link_state (g.L.Link.script c.args.link.now) (g.L.Link.sent c.args.link.now))
    (link_state (g.L.Link.script c.hear.new.link) (g.L.Link.sent c.hear.new.link)) c.in-Ok-Failed.field-0-is (c.in-Ok-Failed.ensures.heard c' goes stands) c.hear.ensures.sent
