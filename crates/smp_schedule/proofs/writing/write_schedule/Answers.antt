use Rattle.std.proofs.Common.{◌++◌, subst, List}
use Rattle.smp_edge.specs.Sink.{AppendsFront}
use Rattle.smp_schedule.specs.declared.event.Event.{Event}
use Rattle.smp_schedule.specs.Written.{flash_text, event_lines}
use Rattle.smp_schedule.proofs.Pieces.{then_put}
use Rattle.smp_schedule.proofs.writing.write_schedule.Goals as goal

pub returns-clause-front : goal.returns-clause-front
returns-clause-front g c =
    subst (λ (es : List Event). AppendsFront (g.O.Sink.written c.args.out.now) (g.O.Sink.written c.put_events.new.out) (flash_text c.args.schedule.now.flash ++ event_lines es))
    c.events.ensures
    (then_put _ _ _ _ _ _ _ _ _ _ c.in_ok-put_flash_line.was c.put_flash_line.ensures c.put_events.ensures).front
