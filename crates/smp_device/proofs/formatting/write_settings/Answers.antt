use Rattle.smp_device.proofs.FormattedBanks.{settings_first}
use Rattle.smp_device.proofs.formatting.write_settings.Goals as goal

pub returns-in-Ok-clause-generation : goal.returns-in-Ok-clause-generation
returns-in-Ok-clause-generation g c =
    settings_first c.bank_says_what_stands.ensures.generation c.args.layout.now c.in-Ok.field-0 _ c.in-Ok.ensures.settings.0 c.in-Ok.ensures.settings.1 c.in-Ok.ensures.generation c.in-Ok.ensures.says
