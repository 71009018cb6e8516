use Rattle.smp_upload.specs.States.{known_mounted}
use Rattle.smp_device.specs.declared.sets.Act.TheVariants as acts
use Rattle.smp_device.proofs.Acting.{acted_as}
use Rattle.smp_device.proofs.sets.act_on.Goals as goal

pub returns-in-Confirm-clause-answers : goal.returns-in-Confirm-clause-answers
returns-in-Confirm-clause-answers g c =
    acted_as (known_mounted c.args.mounted).layout c.args.act (acts.Confirm c.in-Confirm.asked) c.confirm.result (g.F.Flash.state c.args.flash.now) (g.F.Flash.state c.confirm.new.flash) c.in-Confirm.is c.confirm.ensures.answers

pub returns-in-Mark-clause-answers : goal.returns-in-Mark-clause-answers
returns-in-Mark-clause-answers g c =
    acted_as (known_mounted c.args.mounted).layout c.args.act (acts.Mark c.in-Mark.asked) c.mark.result (g.F.Flash.state c.args.flash.now) (g.F.Flash.state c.mark.new.flash) c.in-Mark.is c.mark.ensures.answers
