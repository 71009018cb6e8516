use Rattle.std.proofs.Common.{subst, List}
use Rattle.std.specs.Prelude.{OnErr, OnOk}
use Rattle.smp_schedule.specs.declared.event.Event.{Event}
use Rattle.smp_app.specs.Playing.{WritesFrontOf, WritesTranscript}
use Rattle.smp_app.proofs.Replayed.{write_cause, write_due, write_prints}
use Rattle.smp_app.proofs.replay.replay_loaded.Goals as goal

pub returns-clause-due : goal.returns-clause-due
returns-clause-due g c =
    write_due _ (g.D.Files.folder c.args.files.now) c.args.schedule.now c.write_transcript.result c.in-Ok.ensures.due c.write_transcript.ensures.ends

pub returns-clause-printed : goal.returns-clause-printed
returns-clause-printed g c =
    write_prints _ (g.D.Files.folder c.args.files.now) c.args.schedule.now c.in-Ok.world c.write_transcript.result (g.O.Sink.written c.args.out.now) (g.O.Sink.written c.write_transcript.new.out)
    (λ made are. c.schedules_have_events.ensures (g.D.Files.folder c.args.files.now) c.args.schedule.now made c.requires are) c.in-Ok.ensures.ok
    (subst (λ (said : List Event). OnOk c.write_transcript.result (WritesTranscript said c.in-Ok.world (g.O.Sink.written c.args.out.now) (g.O.Sink.written c.write_transcript.new.out))) c.events.ensures c.write_transcript.ensures.done)
    (subst (λ (said : List Event). OnErr c.write_transcript.result (WritesFrontOf said c.in-Ok.world (g.O.Sink.written c.args.out.now) (g.O.Sink.written c.write_transcript.new.out))) c.events.ensures c.write_transcript.ensures.front)
    c.write_transcript.ensures.ends

pub returns-clause-write_fault : goal.returns-clause-write_fault
returns-clause-write_fault g c =
    write_cause _ c.write_transcript.result (g.O.Sink.faults c.args.out.now) (g.O.Sink.faults c.write_transcript.new.out) c.write_transcript.ensures.cause
