use Rattle.smp_serve.specs.Hearing.{link_state}
use Rattle.smp_serve.specs.Sessions.{point}
use Rattle.smp_serve.proofs.Causes.{link_caused}
use Rattle.smp_serve.proofs.Pendings.{link_stays}
use Rattle.smp_serve.proofs.SessionEnds.{link_ends_of}
use Rattle.smp_serve.proofs.link_serving.serve_link.Goals as goal

pub returns-clause-serves : goal.returns-clause-serves
returns-clause-serves g c =
    link_ends_of c.args.turns c.serve_turns.result (point c.args.device.now (g.F.Flash.state c.args.flash.now)) (point c.serve_turns.new.device (g.F.Flash.state c.serve_turns.new.flash)) (link_state (g.L.Link.script c.args.link.now) (g.L.Link.sent c.args.link.now)) (link_state (g.L.Link.script c.serve_turns.new.link) (g.L.Link.sent c.serve_turns.new.link)) c.serve_turns.ensures.serves

pub returns-clause-flash : goal.returns-clause-flash
returns-clause-flash g c =
    link_caused c.args.turns c.serve_turns.result (point c.args.device.now (g.F.Flash.state c.args.flash.now)) (point c.serve_turns.new.device (g.F.Flash.state c.serve_turns.new.flash)) (link_state (g.L.Link.script c.args.link.now) (g.L.Link.sent c.args.link.now)) (link_state (g.L.Link.script c.serve_turns.new.link) (g.L.Link.sent c.serve_turns.new.link)) c.serve_turns.ensures.serves

pub returns-clause-pending : goal.returns-clause-pending
returns-clause-pending g c =
    link_stays c.args.turns c.serve_turns.result (point c.args.device.now (g.F.Flash.state c.args.flash.now)) (point c.serve_turns.new.device (g.F.Flash.state c.serve_turns.new.flash)) (link_state (g.L.Link.script c.args.link.now) (g.L.Link.sent c.args.link.now)) (link_state (g.L.Link.script c.serve_turns.new.link) (g.L.Link.sent c.serve_turns.new.link)) c.serve_turns.ensures.serves
