use Rattle.std.proofs.Common.{◌≡◌, length}
use Rattle.smp_app.specs.Playing.{CanPlay, GoesOn}
use Rattle.smp_app.proofs.playing.play.Given as goal

abbrev pub invariant-events : goal.invariant-events
invariant-events g l = record {
  can : CanPlay l.world l.rest;
  so_far : GoesOn l.fn.events l.rest l.fn.world l.world (g.O.Sink.written l.fn.out) (g.O.Sink.written l.out) l.text.held;
  faults : g.O.Sink.faults l.out ≡ g.O.Sink.faults l.fn.out;
}

abbrev pub decreases-events : goal.decreases-events
decreases-events g l = length l.rest
