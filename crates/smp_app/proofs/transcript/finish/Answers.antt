use Rattle.std.proofs.Common.{refl}
use Rattle.smp_app.proofs.Written.{last_broken, last_lost, whole}
use Rattle.smp_app.proofs.transcript.finish.Goals as goal

pub returns-in_default-clause-front : goal.returns-in_default-clause-front
returns-in_default-clause-front g c = last_lost c.args.world.now c.args.text.now.held (g.O.Sink.written c.args.out.now) (g.O.Sink.written c.args.out.now) refl

pub returns-in-Ok-put_into-clause-done : goal.returns-in-Ok-put_into-clause-done
returns-in-Ok-put_into-clause-done g c =
    whole c.args.world.now c.args.text.now.held c.finish.new.text.held (g.O.Sink.written c.args.out.now) (g.O.Sink.written c.put_into.new.out) c.in-Ok.ensures.ends c.in-Ok-put_into.ensures.all

pub returns-in-Err-clause-front : goal.returns-in-Err-clause-front
returns-in-Err-clause-front g c =
    last_broken c.args.world.now c.args.text.now.held c.finish.new.text.held (g.O.Sink.written c.args.out.now) (g.O.Sink.written c.put_into.new.out) c.in-Ok.ensures.ends c.in-Err.ensures.front
