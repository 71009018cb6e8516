use Rattle.std.proofs.Common.{Ok}
use Rattle.smp_model.specs.Meant as meant
use Rattle.smp_device.specs.Serving.{bank_reply}
use Rattle.smp_device.specs.Up.{up_of}
use Rattle.smp_device.proofs.ServingQuietly.{served_as}
use Rattle.smp_device.proofs.ServingSettings.{load_served}
use Rattle.smp_device.proofs.serving.load.Goals as goal

pub returns-clause-serves : goal.returns-clause-serves
returns-clause-serves g c = λ files counters.
    served_as (g.F.Flash.state c.args.flash.now).geometry (Ok meant.load) (up_of c.args.images c.args.settings.now files counters) (up_of c.args.images c.load-answer.new.self files counters) (bank_reply c.load-answer.result) c.bank_reply.result (g.F.Flash.state c.args.flash.now) (g.F.Flash.state c.load-answer.new.flash) c.bank_reply.ensures
    (load_served c.device_laws.ensures (g.F.Flash.state c.args.flash.now).geometry (up_of c.args.images c.args.settings.now files counters) c.load-answer.new.self c.load-answer.result (g.F.Flash.state c.args.flash.now) (g.F.Flash.state c.load-answer.new.flash) c.requires.regions c.requires.says
    c.load-answer.ensures.calls c.load-answer.ensures.kept c.load-answer.ensures.says c.load-answer.ensures.layout c.load-answer.ensures.loaded c.load-answer.ensures.refused c.load-answer.ensures.formatted c.load-answer.ensures.full c.load-answer.ensures.worn)
