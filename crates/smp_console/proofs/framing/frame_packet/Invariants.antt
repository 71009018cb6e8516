use Rattle.smp_console.specs.Framing.{sent_bytes}
use Rattle.smp_console.proofs.Putting.{PutTo}
use Rattle.smp_console.proofs.framing.frame_packet.Given as goal

abbrev pub invariant-loop-i : goal.invariant-loop-i
invariant-loop-i g l =
    PutTo (g.O.Sink.written l.initial.out) (g.O.Sink.written l.out) (g.O.Sink.faults l.out) (g.O.Sink.faults l.initial.out) l.i-end (sent_bytes l.fn.packet) l.i
