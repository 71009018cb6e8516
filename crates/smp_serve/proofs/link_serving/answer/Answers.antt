use Rattle.std.proofs.Common.{Some, None, Ok, Err, refl, ap, sym, ◌∙◌, inl, inr}
use Rattle.smp_flash.specs.Layout.{geometry_of}
use Rattle.smp_edge.specs.Link.{with_sent}
use Rattle.smp_device.specs.Places.{Places}
use Rattle.smp_device.specs.declared.answering.Handled.TheVariants as handleds
use Rattle.smp_serve.specs.Sessions.{fell, point, unsent, unstarted}
use Rattle.smp_serve.proofs.Handlings.{after_handling, is_up_by, start_sizes}
use Rattle.smp_serve.proofs.Heard.{sends_nothing}
use Rattle.smp_serve.proofs.Packets.{fell_at, handled_at, passes_dropped, passes_replied, passes_reset, started_at}
use Rattle.smp_serve.proofs.link_serving.answer.Goals as goal

pub returns-in-Ok-Dropped-clause-answers : goal.returns-in-Ok-Dropped-clause-answers
returns-in-Ok-Dropped-clause-answers g c =
    record { reply = None; passes = passes_dropped c.args.bytes.now c.handle.new.out.items (point c.args.device.now (g.F.Flash.state c.args.flash.now)) (point c.handle.new.self (g.F.Flash.state c.handle.new.flash)) (handled_at c.args.bytes.now c.handle.new.out.items c.handle.result c.in-Ok-Dropped.field-0 handleds.Dropped c.args.device.now c.handle.new.self (g.F.Flash.state c.args.flash.now) (g.F.Flash.state c.handle.new.flash) c.in-Ok-Dropped.is c.in-Ok-Dropped.field-0-is c.handle.ensures.handles c.handle.ensures.places c.handle.ensures.whole); sends = sends_nothing (g.L.Link.sent c.args.link.now); told = refl }

pub returns-in-Ok-Dropped-clause-up : goal.returns-in-Ok-Dropped-clause-up
returns-in-Ok-Dropped-clause-up g c =
    is_up_by c.handle.result c.in-Ok-Dropped.field-0 handleds.Dropped c.handle.new.self.up c.in-Ok-Dropped.is c.in-Ok-Dropped.field-0-is (after_handling c.args.bytes.now c.args.device.now c.handle.new.self c.handle.new.out.items c.handle.result (g.F.Flash.state c.args.flash.now) (g.F.Flash.state c.handle.new.flash) c.handle.ensures.handles).up_is

pub returns-in-Ok-Dropped-clause-sizes : goal.returns-in-Ok-Dropped-clause-sizes
returns-in-Ok-Dropped-clause-sizes g c =
    (after_handling c.args.bytes.now c.args.device.now c.handle.new.self c.handle.new.out.items c.handle.result (g.F.Flash.state c.args.flash.now) (g.F.Flash.state c.handle.new.flash) c.handle.ensures.handles).sizes

pub returns-in-Ok-clause-answers : goal.returns-in-Ok-clause-answers
returns-in-Ok-clause-answers g c =
    record { reply = Some c.handle.new.out.items; passes = passes_replied c.args.bytes.now c.handle.new.out.items (point c.args.device.now (g.F.Flash.state c.args.flash.now)) (point c.handle.new.self (g.F.Flash.state c.handle.new.flash)) (handled_at c.args.bytes.now c.handle.new.out.items c.handle.result c.in-Ok-Reply.field-0 handleds.Reply c.args.device.now c.handle.new.self (g.F.Flash.state c.args.flash.now) (g.F.Flash.state c.handle.new.flash) c.in-Ok-Reply.is c.in-Ok-Reply.field-0-is c.handle.ensures.handles c.handle.ensures.places c.handle.ensures.whole); sends = c.in-Ok.ensures.ok ∙ ap (with_sent (g.L.Link.sent c.args.link.now) c.args.from) c.as_slice.ensures.value; told = refl }

pub returns-in-Ok-clause-up : goal.returns-in-Ok-clause-up
returns-in-Ok-clause-up g c =
    is_up_by c.handle.result c.in-Ok-Reply.field-0 handleds.Reply c.handle.new.self.up c.in-Ok-Reply.is c.in-Ok-Reply.field-0-is (after_handling c.args.bytes.now c.args.device.now c.handle.new.self c.handle.new.out.items c.handle.result (g.F.Flash.state c.args.flash.now) (g.F.Flash.state c.handle.new.flash) c.handle.ensures.handles).up_is

pub returns-in-Ok-clause-sizes : goal.returns-in-Ok-clause-sizes
returns-in-Ok-clause-sizes g c =
    (after_handling c.args.bytes.now c.args.device.now c.handle.new.self c.handle.new.out.items c.handle.result (g.F.Flash.state c.args.flash.now) (g.F.Flash.state c.handle.new.flash) c.handle.ensures.handles).sizes

pub returns-in-Err-send-clause-answers : goal.returns-in-Err-send-clause-answers
returns-in-Err-send-clause-answers g c =
    record {
      stop = unsent c.args.bytes.now c.handle.new.out.items;
      told = refl;
      packet_is = refl;
      stops = record { handled = handleds.Reply; out = c.handle.new.out.items; handles = handled_at c.args.bytes.now c.handle.new.out.items c.handle.result c.in-Ok-Reply.field-0 handleds.Reply c.args.device.now c.handle.new.self (g.F.Flash.state c.args.flash.now) (g.F.Flash.state c.handle.new.flash) c.in-Ok-Reply.is c.in-Ok-Reply.field-0-is c.handle.ensures.handles c.handle.ensures.places c.handle.ensures.whole; reply_is = refl };
      sends = elim c.in-Err-send.ensures.err [ inl h ↦ inl h | inr h ↦ inr (h ∙ ap (with_sent (g.L.Link.sent c.args.link.now) c.args.from) c.as_slice.ensures.value) ];
    }

pub returns-in-Err-send-clause-sizes : goal.returns-in-Err-send-clause-sizes
returns-in-Err-send-clause-sizes g c =
    (after_handling c.args.bytes.now c.args.device.now c.handle.new.self c.handle.new.out.items c.handle.result (g.F.Flash.state c.args.flash.now) (g.F.Flash.state c.handle.new.flash) c.handle.ensures.handles).sizes

pub returns-in-Err-send-2-clause-answers : goal.returns-in-Err-send-2-clause-answers
returns-in-Err-send-2-clause-answers g c =
    record {
      stop = unsent c.args.bytes.now c.handle.new.out.items;
      told = refl;
      packet_is = refl;
      stops = record { handled = handleds.ReplyThenReset; out = c.handle.new.out.items; handles = handled_at c.args.bytes.now c.handle.new.out.items c.handle.result c.in-Ok-ReplyThenReset.field-0 handleds.ReplyThenReset c.args.device.now c.handle.new.self (g.F.Flash.state c.args.flash.now) (g.F.Flash.state c.handle.new.flash) c.in-Ok-ReplyThenReset.is c.in-Ok-ReplyThenReset.field-0-is c.handle.ensures.handles c.handle.ensures.places c.handle.ensures.whole; reply_is = refl };
      sends = elim c.in-Err-send-2.ensures.err [ inl h ↦ inl h | inr h ↦ inr (h ∙ ap (with_sent (g.L.Link.sent c.args.link.now) c.args.from) c.as_slice-in-Ok-ReplyThenReset.ensures.value) ];
    }

pub returns-in-Err-send-2-clause-sizes : goal.returns-in-Err-send-2-clause-sizes
returns-in-Err-send-2-clause-sizes g c =
    (after_handling c.args.bytes.now c.args.device.now c.handle.new.self c.handle.new.out.items c.handle.result (g.F.Flash.state c.args.flash.now) (g.F.Flash.state c.handle.new.flash) c.handle.ensures.handles).sizes

pub restart-requires : goal.restart-requires
restart-requires g c =
    record { sizes = ap (λ (p : Places). geometry_of p.first) c.handle.ensures.places ∙ c.requires.sizes ∙ sym (after_handling c.args.bytes.now c.args.device.now c.handle.new.self c.handle.new.out.items c.handle.result (g.F.Flash.state c.args.flash.now) (g.F.Flash.state c.handle.new.flash) c.handle.ensures.handles).sizes }

pub returns-in-Ok-restart-clause-answers : goal.returns-in-Ok-restart-clause-answers
returns-in-Ok-restart-clause-answers g c =
    record { reply = Some c.handle.new.out.items; passes = passes_reset c.args.bytes.now c.handle.new.out.items (point c.args.device.now (g.F.Flash.state c.args.flash.now)) (point c.handle.new.self (g.F.Flash.state c.handle.new.flash)) (point c.restart.new.self (g.F.Flash.state c.restart.new.flash)) (handled_at c.args.bytes.now c.handle.new.out.items c.handle.result c.in-Ok-ReplyThenReset.field-0 handleds.ReplyThenReset c.args.device.now c.handle.new.self (g.F.Flash.state c.args.flash.now) (g.F.Flash.state c.handle.new.flash) c.in-Ok-ReplyThenReset.is c.in-Ok-ReplyThenReset.field-0-is c.handle.ensures.handles c.handle.ensures.places c.handle.ensures.whole) (started_at c.restart.result (Ok tt) c.handle.new.self c.restart.new.self (g.F.Flash.state c.handle.new.flash) (g.F.Flash.state c.restart.new.flash) c.in-Ok-restart.is c.restart.ensures.restarts c.restart.ensures.places c.restart.ensures.whole); sends = c.in-Ok-send.ensures.ok ∙ ap (with_sent (g.L.Link.sent c.args.link.now) c.args.from) c.as_slice-in-Ok-ReplyThenReset.ensures.value; told = refl }

pub returns-in-Ok-restart-clause-sizes : goal.returns-in-Ok-restart-clause-sizes
returns-in-Ok-restart-clause-sizes g c =
    start_sizes c.restart.result c.handle.new.self c.restart.new.self (g.F.Flash.state c.handle.new.flash) (g.F.Flash.state c.restart.new.flash) c.restart.ensures.restarts ∙ (after_handling c.args.bytes.now c.args.device.now c.handle.new.self c.handle.new.out.items c.handle.result (g.F.Flash.state c.args.flash.now) (g.F.Flash.state c.handle.new.flash) c.handle.ensures.handles).sizes

pub returns-in-Err-restart-clause-answers : goal.returns-in-Err-restart-clause-answers
returns-in-Err-restart-clause-answers g c =
    record {
      stop = unstarted c.args.bytes.now c.handle.new.out.items c.in-Err-restart.fault;
      told = c.start_fault.ensures;
      packet_is = refl;
      stops = record { middle = point c.handle.new.self (g.F.Flash.state c.handle.new.flash); handles = handled_at c.args.bytes.now c.handle.new.out.items c.handle.result c.in-Ok-ReplyThenReset.field-0 handleds.ReplyThenReset c.args.device.now c.handle.new.self (g.F.Flash.state c.args.flash.now) (g.F.Flash.state c.handle.new.flash) c.in-Ok-ReplyThenReset.is c.in-Ok-ReplyThenReset.field-0-is c.handle.ensures.handles c.handle.ensures.places c.handle.ensures.whole; starts = started_at c.restart.result (Err c.in-Err-restart.fault) c.handle.new.self c.restart.new.self (g.F.Flash.state c.handle.new.flash) (g.F.Flash.state c.restart.new.flash) c.in-Err-restart.is c.restart.ensures.restarts c.restart.ensures.places c.restart.ensures.whole };
      sends = c.in-Ok-send.ensures.ok ∙ ap (with_sent (g.L.Link.sent c.args.link.now) c.args.from) c.as_slice-in-Ok-ReplyThenReset.ensures.value;
    }

pub returns-in-Err-restart-clause-sizes : goal.returns-in-Err-restart-clause-sizes
returns-in-Err-restart-clause-sizes g c =
    start_sizes c.restart.result c.handle.new.self c.restart.new.self (g.F.Flash.state c.handle.new.flash) (g.F.Flash.state c.restart.new.flash) c.restart.ensures.restarts ∙ (after_handling c.args.bytes.now c.args.device.now c.handle.new.self c.handle.new.out.items c.handle.result (g.F.Flash.state c.args.flash.now) (g.F.Flash.state c.handle.new.flash) c.handle.ensures.handles).sizes

pub returns-in-Err-clause-answers : goal.returns-in-Err-clause-answers
returns-in-Err-clause-answers g c =
    record {
      stop = fell c.args.bytes.now c.in-Err.down;
      told = c.down_fault.ensures;
      packet_is = refl;
      stops = record { out = c.handle.new.out.items; handles = fell_at c.args.bytes.now c.handle.new.out.items c.handle.result c.in-Err.down c.args.device.now c.handle.new.self (g.F.Flash.state c.args.flash.now) (g.F.Flash.state c.handle.new.flash) c.in-Err.is c.handle.ensures.handles c.handle.ensures.places c.handle.ensures.whole };
      sends = refl;
    }

pub returns-in-Err-clause-sizes : goal.returns-in-Err-clause-sizes
returns-in-Err-clause-sizes g c =
    (after_handling c.args.bytes.now c.args.device.now c.handle.new.self c.handle.new.out.items c.handle.result (g.F.Flash.state c.args.flash.now) (g.F.Flash.state c.handle.new.flash) c.handle.ensures.handles).sizes
