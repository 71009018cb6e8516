use Rattle.smp_serve.specs.Sessions.{point}
use Rattle.smp_serve.proofs.Causes.{console_caused}
use Rattle.smp_serve.proofs.Pendings.{console_stays}
use Rattle.smp_serve.proofs.SessionEnds.{console_ends_of}
use Rattle.smp_serve.proofs.console_serving.serve_console.Goals as goal

pub returns-clause-serves : goal.returns-clause-serves
returns-clause-serves g c =
    console_ends_of c.serve_pieces.result (point c.args.device.now (g.F.Flash.state c.args.flash.now)) (point c.serve_pieces.new.device (g.F.Flash.state c.serve_pieces.new.flash)) (g.I.Source.left c.args.input.now) (g.I.Source.left c.serve_pieces.new.input) (g.O.Sink.written c.args.out.now) (g.O.Sink.written c.serve_pieces.new.out) c.serve_pieces.ensures.serves

pub returns-clause-flash : goal.returns-clause-flash
returns-clause-flash g c =
    console_caused c.serve_pieces.result (point c.args.device.now (g.F.Flash.state c.args.flash.now)) (point c.serve_pieces.new.device (g.F.Flash.state c.serve_pieces.new.flash)) (g.I.Source.left c.args.input.now) (g.I.Source.left c.serve_pieces.new.input) (g.O.Sink.written c.args.out.now) (g.O.Sink.written c.serve_pieces.new.out) c.serve_pieces.ensures.serves

pub returns-clause-pending : goal.returns-clause-pending
returns-clause-pending g c =
    console_stays c.serve_pieces.result (point c.args.device.now (g.F.Flash.state c.args.flash.now)) (point c.serve_pieces.new.device (g.F.Flash.state c.serve_pieces.new.flash)) (g.I.Source.left c.args.input.now) (g.I.Source.left c.serve_pieces.new.input) (g.O.Sink.written c.args.out.now) (g.O.Sink.written c.serve_pieces.new.out) c.serve_pieces.ensures.serves
