use Rattle.std.proofs.Common.{List, subst, ◌∙◌}
use Rattle.smp_schedule.specs.declared.event.Event.{Event as Said}
use Rattle.smp_app.specs.Playing.{CanPlay}
use Rattle.smp_app.proofs.Plays.{can_go_on, goes_on, has_played, is_broken}
use Rattle.smp_app.proofs.playing.play.Goals as goal

pub returns-in-Err-clause-breaks : goal.returns-in-Err-clause-breaks
returns-in-Err-clause-breaks g c =
    is_broken c.every_schedule_runs.ensures c.args.events.now c.events.rest.now c.in-Some.later.now c.in-Some.event.now c.args.world.now c.events.world
    (g.O.Sink.written c.args.out.now) (g.O.Sink.written c.events.out) (g.O.Sink.written c.play_one.new.out) c.events.text.held
    c.in-Some.ensures c.events.invariant.so_far c.in-Err.ensures.breaks

pub events-preserved : goal.events-preserved
events-preserved g c = record {
  can = can_go_on c.events.world c.play_one.new.world c.in-Some.event.now c.in-Some.later.now
      (subst (λ (xs : List Said). CanPlay c.events.world xs) c.in-Some.ensures c.events.invariant.can)
      c.in-Ok.ensures.count c.in-Ok.ensures.clients;
  so_far = goes_on c.args.events.now c.events.rest.now c.in-Some.later.now c.in-Some.event.now c.args.world.now c.events.world c.play_one.new.world
      (g.O.Sink.written c.args.out.now) (g.O.Sink.written c.events.out) (g.O.Sink.written c.play_one.new.out) c.events.text.held c.play_one.new.text.held
      c.in-Some.ensures c.events.invariant.so_far c.in-Ok.ensures.plays;
  faults = c.in-Ok.ensures.cause ∙ c.events.invariant.faults;
}

pub returns-clause-plays : goal.returns-clause-plays
returns-clause-plays g c =
    has_played c.args.events.now c.events.rest.now c.args.world.now c.events.world (g.O.Sink.written c.args.out.now) (g.O.Sink.written c.events.out) c.events.text.held
    c.in_default.ensures c.events.invariant.so_far
