use Rattle.std.proofs.Common.{◌∙◌, ap, refl}
use Rattle.smp_gate.specs.Bank.{BankState}
use Rattle.smp_model.specs.Settings.{stored_form}
use Rattle.smp_settings.proofs.Saving.{made_says, made_side}
use Rattle.smp_settings.proofs.settings.Settings.make.Goals as goal

pub returns-in-Ok-clause-says : goal.returns-in-Ok-clause-says
returns-in-Ok-clause-says g c =
    made_says c.args.layout.now _ c.as_slice.result.now (g.F.Flash.state c.make.new.flash).bytes c.settings.result refl c.new-saved.ensures
    (c.as_slice.ensures.value ∙ (c.write_form.ensures ∙ ap stored_form c.new-saved.ensures)) (ap (λ (b : BankState). b.place) c.in-Ok.ensures.bank) c.settings.ensures c.in-Ok.ensures.says c.in-Ok.ensures.content

pub returns-in-Ok-clause-side : goal.returns-in-Ok-clause-side
returns-in-Ok-clause-side g c =
    made_side c.args.layout.now c.settings.result c.as_slice.result.now (g.F.Flash.state c.make.new.flash).bytes c.settings.ensures
    (c.as_slice.ensures.value ∙ (c.write_form.ensures ∙ ap stored_form c.new-saved.ensures)) c.in-Ok.ensures.side
