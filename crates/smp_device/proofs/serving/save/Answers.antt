use Rattle.std.proofs.Common.{Ok}
use Rattle.smp_model.specs.Meant as meant
use Rattle.smp_device.specs.Serving.{bank_reply}
use Rattle.smp_device.specs.Up.{up_of}
use Rattle.smp_device.proofs.ServingQuietly.{served_as}
use Rattle.smp_device.proofs.ServingSettings.{save_served}
use Rattle.smp_device.proofs.serving.save.Goals as goal

pub returns-clause-serves : goal.returns-clause-serves
returns-clause-serves g c = λ files counters.
    served_as (g.F.Flash.state c.args.flash.now).geometry (Ok meant.save) (up_of c.args.images c.args.settings.now files counters) (up_of c.args.images c.save-answer.new.self files counters) (bank_reply c.save-answer.result) c.bank_reply.result (g.F.Flash.state c.args.flash.now) (g.F.Flash.state c.save-answer.new.flash) c.bank_reply.ensures
    (save_served c.device_laws.ensures (g.F.Flash.state c.args.flash.now).geometry (up_of c.args.images c.args.settings.now files counters) c.save-answer.new.self c.save-answer.result (g.F.Flash.state c.args.flash.now) (g.F.Flash.state c.save-answer.new.flash) c.requires.regions c.requires.says
    c.save-answer.ensures.calls c.save-answer.ensures.either c.save-answer.ensures.all c.save-answer.ensures.ages c.save-answer.ensures.says c.save-answer.ensures.layout c.save-answer.ensures.running c.save-answer.ensures.worn c.save-answer.ensures.formatted c.save-answer.ensures.full c.save-answer.ensures.fresh c.save-answer.ensures.pays)
