use Rattle.std.proofs.Common.{◌≡◌, ◌+◌, ◌≤◌, length}
use Rattle.std.specs.Prelude.{IsSome, IfSome}
use Rattle.smp_device.specs.Handling.{DeviceSays}
use Rattle.smp_serve.specs.Hearing.{link_state}
use Rattle.smp_serve.specs.Links.{LinkServes}
use Rattle.smp_serve.specs.Sessions.{point}
use Rattle.smp_serve.proofs.link_serving.serve_turns.Given as goal

abbrev pub invariant-turns : goal.invariant-turns
invariant-turns g l = record {
  serves : LinkServes l._done (record { answered = l.answered; dropped = l.dropped }) (point l.fn.device (g.F.Flash.state l.fn.flash)) (point l.device (g.F.Flash.state l.flash))
      (link_state (g.L.Link.script l.fn.link) (g.L.Link.sent l.fn.link)) (link_state (g.L.Link.script l.link) (g.L.Link.sent l.link));
  few : l.answered + l.dropped ≤ l._done;
  up : IsSome l.device.up;
  places : l.device.places ≡ l.fn.device.places;
  sizes : (g.F.Flash.state l.flash).geometry ≡ (g.F.Flash.state l.fn.flash).geometry;
  says : IfSome (g.F.Flash.state l.flash).bytes (DeviceSays l.device);
  names : g.L.Link.names l.link ≡ g.L.Link.names l.fn.link;
  faults : g.L.Link.faults l.link ≡ g.L.Link.faults l.fn.link;
  room : length l.into ≡ 2049;
}
