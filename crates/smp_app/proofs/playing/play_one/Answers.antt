use Rattle.std.proofs.Common.{refl}
use Rattle.smp_app.proofs.Plays.{one_breaks, one_is_lost, one_plays}
use Rattle.smp_app.proofs.playing.play_one.Goals as goal

pub returns-in_default-clause-breaks : goal.returns-in_default-clause-breaks
returns-in_default-clause-breaks g c =
    one_is_lost c.every_schedule_runs.ensures c.args.event.now c.args.world.now (g.O.Sink.written c.args.out.now) (g.O.Sink.written c.args.out.now) c.args.text.now.held refl

pub returns-in-Ok-put_piece-clause-plays : goal.returns-in-Ok-put_piece-clause-plays
returns-in-Ok-put_piece-clause-plays g c =
    one_plays c.args.event.now c.args.world.now c.step.new.self (g.O.Sink.written c.args.out.now) (g.O.Sink.written c.put_piece.new.out) c.args.text.now.held c.step.new.text.held c.put_piece.new.text.held
    c.in-Ok.ensures.steps c.in-Ok-put_piece.ensures.ok

pub returns-in-Err-clause-breaks : goal.returns-in-Err-clause-breaks
returns-in-Err-clause-breaks g c =
    one_breaks c.args.event.now c.args.world.now c.step.new.self (g.O.Sink.written c.args.out.now) (g.O.Sink.written c.put_piece.new.out) c.args.text.now.held c.step.new.text.held
    c.in-Ok.ensures.steps c.in-Err.ensures.front
