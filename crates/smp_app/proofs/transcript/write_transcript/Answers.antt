use Rattle.std.proofs.Common.{refl}
use Rattle.smp_app.proofs.Written.{all_result, nothing_written, part_result}
use Rattle.smp_app.proofs.transcript.write_transcript.Goals as goal

pub returns-in_default-clause-front : goal.returns-in_default-clause-front
returns-in_default-clause-front g c =
    nothing_written c.every_schedule_runs.ensures c.args.events.now c.args.world.now (g.O.Sink.written c.args.out.now) (g.O.Sink.written c.args.out.now) refl

pub returns-in-Ok-play-clause-done : goal.returns-in-Ok-play-clause-done
returns-in-Ok-play-clause-done g c =
    all_result _ c.finish.result c.args.events.now c.args.world.now c.play.new.world (g.O.Sink.written c.args.out.now) (g.O.Sink.written c.play.new.out) (g.O.Sink.written c.finish.new.out) c.play.new.text.held
    c.in-Ok-play.ensures.plays c.finish.ensures.done

pub returns-in-Ok-play-clause-front : goal.returns-in-Ok-play-clause-front
returns-in-Ok-play-clause-front g c =
    part_result _ c.finish.result c.args.events.now c.args.world.now c.play.new.world (g.O.Sink.written c.args.out.now) (g.O.Sink.written c.play.new.out) (g.O.Sink.written c.finish.new.out) c.play.new.text.held
    c.in-Ok-play.ensures.plays c.finish.ensures.front
