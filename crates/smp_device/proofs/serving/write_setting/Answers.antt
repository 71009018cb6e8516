use Rattle.std.proofs.Common.{Ok, ap}
use Rattle.smp_model.specs.Meant as meant
use Rattle.smp_model.specs.declared.reply.Reply.{Reply}
use Rattle.smp_device.specs.Serving.{setting_reply}
use Rattle.smp_device.specs.Up.{up_of}
use Rattle.smp_device.proofs.ServingQuietly.{served_as}
use Rattle.smp_device.proofs.ServingFiles.{write_served}
use Rattle.smp_device.proofs.serving.write_setting.Goals as goal

pub returns-clause-serves : goal.returns-clause-serves
returns-clause-serves c = λ sizes files counters a says.
    served_as sizes (Ok (meant.setting_write c.args.name.now c.args.val.now)) (up_of c.args.images c.args.settings.now files counters) (up_of c.args.images c.write-answer.new.self files counters) (Ok (setting_reply c.write-answer.result)) (Ok c.setting_reply.result) a a
    (ap (λ (r : Reply). Ok r) c.setting_reply.ensures.reply)
    (write_served sizes c.args.name.now c.args.val.now c.write-answer.result (up_of c.args.images c.args.settings.now files counters) c.write-answer.new.self a says c.write-answer.ensures.responded c.write-answer.ensures.written)
