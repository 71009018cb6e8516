use Rattle.std.proofs.Common.{◌≡◌, length}
use Rattle.std.specs.Prelude.{IsSome, IfSome}
use Rattle.smp_device.specs.Handling.{DeviceSays}
use Rattle.smp_serve.specs.Sessions.{point}
use Rattle.smp_serve.proofs.ConsoleTurns.{PiecesGo}
use Rattle.smp_serve.proofs.console_serving.serve_pieces.Given as goal

abbrev pub invariant-pieces : goal.invariant-pieces
invariant-pieces g l = record {
  goes : PiecesGo l._count l.receiver (point l.fn.device (g.F.Flash.state l.fn.flash)) (point l.device (g.F.Flash.state l.flash)) (g.I.Source.left l.fn.input) (g.I.Source.left l.input) (g.O.Sink.written l.fn.out) (g.O.Sink.written l.out);
  up : IsSome l.device.up;
  places : l.device.places ≡ l.fn.device.places;
  sizes : (g.F.Flash.state l.flash).geometry ≡ (g.F.Flash.state l.fn.flash).geometry;
  says : IfSome (g.F.Flash.state l.flash).bytes (DeviceSays l.device);
  read : g.I.Source.faults l.input ≡ g.I.Source.faults l.fn.input;
  write : g.O.Sink.faults l.out ≡ g.O.Sink.faults l.fn.out;
  room : length l.piece ≡ 512;
}
