use Rattle.std.proofs.Common.{◌≡◌, ℕ, List, length}
use Rattle.std.specs.Prelude.{IsSome, IfSome}
use Rattle.smp_console.specs.Receiving.{HasText}
use Rattle.smp_device.specs.Handling.{DeviceSays}
use Rattle.smp_serve.specs.Sessions.{point}
use Rattle.smp_serve.proofs.ConsoleTurns.{PieceGoes}
use Rattle.smp_serve.proofs.console_serving.serve_piece.Given as goal

abbrev pub invariant-packets : goal.invariant-packets
invariant-packets g l = record {
  goes : (text : List ℕ) → HasText l.fn.receiver text → PieceGoes text l.fn.piece l.rest l.receiver (point l.fn.device (g.F.Flash.state l.fn.flash)) (point l.device (g.F.Flash.state l.flash)) (g.O.Sink.written l.fn.out) (g.O.Sink.written l.out);
  up : IsSome l.device.up;
  places : l.device.places ≡ l.fn.device.places;
  sizes : (g.F.Flash.state l.flash).geometry ≡ (g.F.Flash.state l.fn.flash).geometry;
  says : IfSome (g.F.Flash.state l.flash).bytes (DeviceSays l.device);
  faults : g.O.Sink.faults l.out ≡ g.O.Sink.faults l.fn.out;
}

abbrev pub decreases-packets : goal.decreases-packets
decreases-packets g l = length l.rest
