use Rattle.std.proofs.Common.{List, ℕ, Some, None, Ok, Err, refl, ap, sym, ◌∙◌, subst}
use Rattle.smp_flash.specs.Layout.{geometry_of}
use Rattle.std.specs.Io.KnownBytes.{append_known}
use Rattle.smp_edge.specs.Sink.{AppendsFront}
use Rattle.smp_console.specs.Framing.{frame}
use Rattle.smp_device.specs.Places.{Places}
use Rattle.smp_device.specs.declared.answering.Handled.TheVariants as handleds
use Rattle.smp_serve.specs.Consoles.{IsAtPacket}
use Rattle.smp_serve.specs.declared.fault.ServeFault.{ServeFault}
use Rattle.smp_serve.specs.Sessions.{fell, point, unsent, unstarted}
use Rattle.smp_serve.proofs.Handlings.{after_handling, is_up_by, start_sizes}
use Rattle.smp_serve.proofs.ConsoleTurns.{downs_are_at_packets, starts_are_at_packets, writes_nothing}
use Rattle.smp_serve.proofs.Packets.{fell_at, handled_at, passes_dropped, passes_replied, passes_reset, started_at}
use Rattle.smp_serve.proofs.console_serving.answer.Goals as goal

pub returns-in-Ok-Dropped-clause-replies : goal.returns-in-Ok-Dropped-clause-replies
returns-in-Ok-Dropped-clause-replies g c =
    record { reply = None; passes = passes_dropped c.args.packet.now c.handle.new.out.items (point c.args.device.now (g.F.Flash.state c.args.flash.now)) (point c.handle.new.self (g.F.Flash.state c.handle.new.flash)) (handled_at c.args.packet.now c.handle.new.out.items c.handle.result c.in-Ok-Dropped.field-0 handleds.Dropped c.args.device.now c.handle.new.self (g.F.Flash.state c.args.flash.now) (g.F.Flash.state c.handle.new.flash) c.in-Ok-Dropped.is c.in-Ok-Dropped.field-0-is c.handle.ensures.handles c.handle.ensures.places c.handle.ensures.whole); writes = writes_nothing (g.O.Sink.written c.args.out.now) }

pub returns-in-Ok-Dropped-clause-up : goal.returns-in-Ok-Dropped-clause-up
returns-in-Ok-Dropped-clause-up g c =
    is_up_by c.handle.result c.in-Ok-Dropped.field-0 handleds.Dropped c.handle.new.self.up c.in-Ok-Dropped.is c.in-Ok-Dropped.field-0-is (after_handling c.args.packet.now c.args.device.now c.handle.new.self c.handle.new.out.items c.handle.result (g.F.Flash.state c.args.flash.now) (g.F.Flash.state c.handle.new.flash) c.handle.ensures.handles).up_is

pub returns-in-Ok-Dropped-clause-sizes : goal.returns-in-Ok-Dropped-clause-sizes
returns-in-Ok-Dropped-clause-sizes g c =
    (after_handling c.args.packet.now c.args.device.now c.handle.new.self c.handle.new.out.items c.handle.result (g.F.Flash.state c.args.flash.now) (g.F.Flash.state c.handle.new.flash) c.handle.ensures.handles).sizes

pub returns-in-Ok-clause-replies : goal.returns-in-Ok-clause-replies
returns-in-Ok-clause-replies g c =
    record { reply = Some c.handle.new.out.items; passes = passes_replied c.args.packet.now c.handle.new.out.items (point c.args.device.now (g.F.Flash.state c.args.flash.now)) (point c.handle.new.self (g.F.Flash.state c.handle.new.flash)) (handled_at c.args.packet.now c.handle.new.out.items c.handle.result c.in-Ok-Reply.field-0 handleds.Reply c.args.device.now c.handle.new.self (g.F.Flash.state c.args.flash.now) (g.F.Flash.state c.handle.new.flash) c.in-Ok-Reply.is c.in-Ok-Reply.field-0-is c.handle.ensures.handles c.handle.ensures.places c.handle.ensures.whole); writes = c.in-Ok.ensures.all ∙ ap (λ (p : List ℕ). append_known (g.O.Sink.written c.args.out.now) (frame p)) c.as_slice.ensures.value }

pub returns-in-Ok-clause-up : goal.returns-in-Ok-clause-up
returns-in-Ok-clause-up g c =
    is_up_by c.handle.result c.in-Ok-Reply.field-0 handleds.Reply c.handle.new.self.up c.in-Ok-Reply.is c.in-Ok-Reply.field-0-is (after_handling c.args.packet.now c.args.device.now c.handle.new.self c.handle.new.out.items c.handle.result (g.F.Flash.state c.args.flash.now) (g.F.Flash.state c.handle.new.flash) c.handle.ensures.handles).up_is

pub returns-in-Ok-clause-sizes : goal.returns-in-Ok-clause-sizes
returns-in-Ok-clause-sizes g c =
    (after_handling c.args.packet.now c.args.device.now c.handle.new.self c.handle.new.out.items c.handle.result (g.F.Flash.state c.args.flash.now) (g.F.Flash.state c.handle.new.flash) c.handle.ensures.handles).sizes

pub returns-in-Err-frame_packet-clause-replies : goal.returns-in-Err-frame_packet-clause-replies
returns-in-Err-frame_packet-clause-replies g c =
    record {
      stop = unsent c.args.packet.now c.handle.new.out.items;
      told = refl;
      packet_is = refl;
      stops = record { handled = handleds.Reply; out = c.handle.new.out.items; handles = handled_at c.args.packet.now c.handle.new.out.items c.handle.result c.in-Ok-Reply.field-0 handleds.Reply c.args.device.now c.handle.new.self (g.F.Flash.state c.args.flash.now) (g.F.Flash.state c.handle.new.flash) c.in-Ok-Reply.is c.in-Ok-Reply.field-0-is c.handle.ensures.handles c.handle.ensures.places c.handle.ensures.whole; reply_is = refl };
      writes = subst (λ (p : List ℕ). AppendsFront (g.O.Sink.written c.args.out.now) (g.O.Sink.written c.frame_packet.new.out) (frame p)) c.as_slice.ensures.value c.frame_packet.ensures.front;
    }

pub returns-in-Err-frame_packet-clause-sizes : goal.returns-in-Err-frame_packet-clause-sizes
returns-in-Err-frame_packet-clause-sizes g c =
    (after_handling c.args.packet.now c.args.device.now c.handle.new.self c.handle.new.out.items c.handle.result (g.F.Flash.state c.args.flash.now) (g.F.Flash.state c.handle.new.flash) c.handle.ensures.handles).sizes

pub returns-in-Err-frame_packet-2-clause-replies : goal.returns-in-Err-frame_packet-2-clause-replies
returns-in-Err-frame_packet-2-clause-replies g c =
    record {
      stop = unsent c.args.packet.now c.handle.new.out.items;
      told = refl;
      packet_is = refl;
      stops = record { handled = handleds.ReplyThenReset; out = c.handle.new.out.items; handles = handled_at c.args.packet.now c.handle.new.out.items c.handle.result c.in-Ok-ReplyThenReset.field-0 handleds.ReplyThenReset c.args.device.now c.handle.new.self (g.F.Flash.state c.args.flash.now) (g.F.Flash.state c.handle.new.flash) c.in-Ok-ReplyThenReset.is c.in-Ok-ReplyThenReset.field-0-is c.handle.ensures.handles c.handle.ensures.places c.handle.ensures.whole; reply_is = refl };
      writes = subst (λ (p : List ℕ). AppendsFront (g.O.Sink.written c.args.out.now) (g.O.Sink.written c.frame_packet-in-Ok-ReplyThenReset.new.out) (frame p)) c.as_slice-in-Ok-ReplyThenReset.ensures.value c.frame_packet-in-Ok-ReplyThenReset.ensures.front;
    }

pub returns-in-Err-frame_packet-2-clause-sizes : goal.returns-in-Err-frame_packet-2-clause-sizes
returns-in-Err-frame_packet-2-clause-sizes g c =
    (after_handling c.args.packet.now c.args.device.now c.handle.new.self c.handle.new.out.items c.handle.result (g.F.Flash.state c.args.flash.now) (g.F.Flash.state c.handle.new.flash) c.handle.ensures.handles).sizes

pub restart-requires : goal.restart-requires
restart-requires g c =
    record { sizes = ap (λ (p : Places). geometry_of p.first) c.handle.ensures.places ∙ c.requires.sizes ∙ sym (after_handling c.args.packet.now c.args.device.now c.handle.new.self c.handle.new.out.items c.handle.result (g.F.Flash.state c.args.flash.now) (g.F.Flash.state c.handle.new.flash) c.handle.ensures.handles).sizes }

pub returns-in-Ok-restart-clause-replies : goal.returns-in-Ok-restart-clause-replies
returns-in-Ok-restart-clause-replies g c =
    record { reply = Some c.handle.new.out.items; passes = passes_reset c.args.packet.now c.handle.new.out.items (point c.args.device.now (g.F.Flash.state c.args.flash.now)) (point c.handle.new.self (g.F.Flash.state c.handle.new.flash)) (point c.restart.new.self (g.F.Flash.state c.restart.new.flash)) (handled_at c.args.packet.now c.handle.new.out.items c.handle.result c.in-Ok-ReplyThenReset.field-0 handleds.ReplyThenReset c.args.device.now c.handle.new.self (g.F.Flash.state c.args.flash.now) (g.F.Flash.state c.handle.new.flash) c.in-Ok-ReplyThenReset.is c.in-Ok-ReplyThenReset.field-0-is c.handle.ensures.handles c.handle.ensures.places c.handle.ensures.whole) (started_at c.restart.result (Ok tt) c.handle.new.self c.restart.new.self (g.F.Flash.state c.handle.new.flash) (g.F.Flash.state c.restart.new.flash) c.in-Ok-restart.is c.restart.ensures.restarts c.restart.ensures.places c.restart.ensures.whole); writes = c.in-Ok-frame_packet.ensures.all ∙ ap (λ (p : List ℕ). append_known (g.O.Sink.written c.args.out.now) (frame p)) c.as_slice-in-Ok-ReplyThenReset.ensures.value }

pub returns-in-Ok-restart-clause-sizes : goal.returns-in-Ok-restart-clause-sizes
returns-in-Ok-restart-clause-sizes g c =
    start_sizes c.restart.result c.handle.new.self c.restart.new.self (g.F.Flash.state c.handle.new.flash) (g.F.Flash.state c.restart.new.flash) c.restart.ensures.restarts ∙ (after_handling c.args.packet.now c.args.device.now c.handle.new.self c.handle.new.out.items c.handle.result (g.F.Flash.state c.args.flash.now) (g.F.Flash.state c.handle.new.flash) c.handle.ensures.handles).sizes

pub returns-in-Err-restart-clause-replies : goal.returns-in-Err-restart-clause-replies
returns-in-Err-restart-clause-replies g c =
    record {
      stop = unstarted c.args.packet.now c.handle.new.out.items c.in-Err-restart.fault;
      told = c.start_fault.ensures;
      packet_is = refl;
      stops = record { middle = point c.handle.new.self (g.F.Flash.state c.handle.new.flash); handles = handled_at c.args.packet.now c.handle.new.out.items c.handle.result c.in-Ok-ReplyThenReset.field-0 handleds.ReplyThenReset c.args.device.now c.handle.new.self (g.F.Flash.state c.args.flash.now) (g.F.Flash.state c.handle.new.flash) c.in-Ok-ReplyThenReset.is c.in-Ok-ReplyThenReset.field-0-is c.handle.ensures.handles c.handle.ensures.places c.handle.ensures.whole; starts = started_at c.restart.result (Err c.in-Err-restart.fault) c.handle.new.self c.restart.new.self (g.F.Flash.state c.handle.new.flash) (g.F.Flash.state c.restart.new.flash) c.in-Err-restart.is c.restart.ensures.restarts c.restart.ensures.places c.restart.ensures.whole };
      writes = c.in-Ok-frame_packet.ensures.all ∙ ap (λ (p : List ℕ). append_known (g.O.Sink.written c.args.out.now) (frame p)) c.as_slice-in-Ok-ReplyThenReset.ensures.value;
    }

pub returns-in-Err-restart-clause-sizes : goal.returns-in-Err-restart-clause-sizes
returns-in-Err-restart-clause-sizes g c =
    start_sizes c.restart.result c.handle.new.self c.restart.new.self (g.F.Flash.state c.handle.new.flash) (g.F.Flash.state c.restart.new.flash) c.restart.ensures.restarts ∙ (after_handling c.args.packet.now c.args.device.now c.handle.new.self c.handle.new.out.items c.handle.result (g.F.Flash.state c.args.flash.now) (g.F.Flash.state c.handle.new.flash) c.handle.ensures.handles).sizes

pub returns-in-Err-clause-replies : goal.returns-in-Err-clause-replies
returns-in-Err-clause-replies g c =
    record {
      stop = fell c.args.packet.now c.in-Err.down;
      told = c.down_fault.ensures;
      packet_is = refl;
      stops = record { out = c.handle.new.out.items; handles = fell_at c.args.packet.now c.handle.new.out.items c.handle.result c.in-Err.down c.args.device.now c.handle.new.self (g.F.Flash.state c.args.flash.now) (g.F.Flash.state c.handle.new.flash) c.in-Err.is c.handle.ensures.handles c.handle.ensures.places c.handle.ensures.whole };
      writes = refl;
    }

pub returns-in-Err-clause-sizes : goal.returns-in-Err-clause-sizes
returns-in-Err-clause-sizes g c =
    (after_handling c.args.packet.now c.args.device.now c.handle.new.self c.handle.new.out.items c.handle.result (g.F.Flash.state c.args.flash.now) (g.F.Flash.state c.handle.new.flash) c.handle.ensures.handles).sizes

pub returns-in-Err-restart-clause-stopped : goal.returns-in-Err-restart-clause-stopped
returns-in-Err-restart-clause-stopped g c =
    subst (λ (f : ServeFault). IsAtPacket {T = Unit {0}} (Err f)) (sym c.start_fault.ensures) (starts_are_at_packets c.in-Err-restart.fault)

pub returns-in-Err-clause-stopped : goal.returns-in-Err-clause-stopped
returns-in-Err-clause-stopped g c =
    subst (λ (f : ServeFault). IsAtPacket {T = Unit {0}} (Err f)) (sym c.down_fault.ensures) (downs_are_at_packets c.in-Err.down)
