use Rattle.smp_groups.specs.Counters.{counters_of}
use Rattle.smp_header.specs.Message.{message_of}
use Rattle.smp_model.specs.Meant.{meant_of}
use Rattle.smp_device.specs.Up.{up_of}
use Rattle.smp_device.proofs.Answered.{served_answers, told_answers}
use Rattle.smp_device.proofs.answering.answer_request.Goals as goal

pub returns-then-tell : goal.returns-then-tell
returns-then-tell g c =
    told_answers c.counters_are_answered.ensures (g.F.Flash.state c.args.flash.now).geometry (message_of c.args.packet.now) (meant_of c.args.request.now) (up_of c.args.images c.args.settings.now c.args.files.now (counters_of c.args.counts.now))
    c.tell.result c.is_reset.result (counters_of c.tell.new.counts) c.args.out.now.items c.tell.new.out.items c.told.result.images c.told.result.result (g.F.Flash.state c.args.flash.now) c.if-tell.true c.tell.ensures c.requires.says c.is_reset.ensures c.told.ensures.images c.told.ensures.result

pub returns : goal.returns
returns g c =
    served_answers (g.F.Flash.state c.args.flash.now).geometry (message_of c.args.packet.now) (meant_of c.args.request.now) (up_of c.args.images c.args.settings.now c.args.files.now (counters_of c.args.counts.now))
    c.tell.result c.tell.new.out.items (counters_of c.tell.new.counts) (counters_of c.finish.new.counts) c.serve-replied.result.images c.serve-replied.new.settings c.serve-replied.new.files c.serve-replied.result.result c.args.out.now.items c.finish.new.out.items c.finish.result.images
    c.finish.result.result (g.F.Flash.state c.args.flash.now) (g.F.Flash.state c.serve-replied.new.flash) c.if-tell.false c.tell.ensures (c.serve-replied.ensures.serves (counters_of c.args.counts.now)) c.finish.ensures
