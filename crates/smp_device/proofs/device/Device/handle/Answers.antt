use Rattle.std.proofs.Common.{sym, ◌∙◌, subst}
use Rattle.std.specs.Prelude.{IfSome}
use Rattle.smp_groups.specs.Counters.{counters_of}
use Rattle.smp_header.specs.Message.{message_of}
use Rattle.smp_model.specs.Meaning.{meaning}
use Rattle.smp_device.specs.Handling.{DeviceSays, DeviceState}
use Rattle.smp_device.specs.Up.{up_of}
use Rattle.smp_device.proofs.Answered.{left_says, left_whole, up_says}
use Rattle.smp_device.proofs.device.Device.handle.Goals as goal

pub invariant_of-self : goal.invariant_of-self
invariant_of-self g c =
    left_whole (g.F.Flash.state c.args.flash.now).geometry (message_of c.in-Some.packet) (meaning (message_of c.in-Some.packet)) (record { first = c.self.inside.first; second = c.self.inside.second }) c.self.inside.images (up_of c.in-Some-take.images c.self.inside.settings c.self.inside.files (counters_of c.self.inside.counts))
    c.answer_packet-images.new.settings c.answer_packet-images.new.files (counters_of c.answer_packet-images.new.counts) c.answer_packet-images.new.out.items c.answer_packet-images.result.images c.answer_packet-images.result.result (g.F.Flash.state c.args.flash.now) (g.F.Flash.state c.answer_packet-images.new.flash) (sym c.take.ensures.value ∙ c.in-Some-take.is) c.self.invariant c.answer_packet-images.ensures

pub returns-in-Some-take-clause-says : goal.returns-in-Some-take-clause-says
returns-in-Some-take-clause-says g c =
    left_says (g.F.Flash.state c.args.flash.now).geometry (message_of c.in-Some.packet) (meaning (message_of c.in-Some.packet)) (up_of c.in-Some-take.images c.self.inside.settings c.self.inside.files (counters_of c.self.inside.counts))
    c.answer_packet-images.new.settings c.answer_packet-images.new.files (counters_of c.answer_packet-images.new.counts) c.answer_packet-images.new.out.items c.answer_packet-images.result.images c.answer_packet-images.result.result (g.F.Flash.state c.args.flash.now) (g.F.Flash.state c.answer_packet-images.new.flash) (up_says c.self.inside.images c.in-Some-take.images c.self.inside.settings (g.F.Flash.state c.args.flash.now).bytes (sym c.take.ensures.value ∙ c.in-Some-take.is) (subst (λ (s : DeviceState). IfSome (g.F.Flash.state c.args.flash.now).bytes (DeviceSays s)) (sym c.self.view_is) c.requires.says)) c.answer_packet-images.ensures

pub returns-in-Some-take-clause-whole : goal.returns-in-Some-take-clause-whole
returns-in-Some-take-clause-whole g c =
    left_whole (g.F.Flash.state c.args.flash.now).geometry (message_of c.in-Some.packet) (meaning (message_of c.in-Some.packet)) (record { first = c.self.inside.first; second = c.self.inside.second }) c.self.inside.images (up_of c.in-Some-take.images c.self.inside.settings c.self.inside.files (counters_of c.self.inside.counts))
    c.answer_packet-images.new.settings c.answer_packet-images.new.files (counters_of c.answer_packet-images.new.counts) c.answer_packet-images.new.out.items c.answer_packet-images.result.images c.answer_packet-images.result.result (g.F.Flash.state c.args.flash.now) (g.F.Flash.state c.answer_packet-images.new.flash) (sym c.take.ensures.value ∙ c.in-Some-take.is) c.self.invariant c.answer_packet-images.ensures
