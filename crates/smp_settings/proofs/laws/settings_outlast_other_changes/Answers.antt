use Rattle.smp_settings.proofs.Lasting.{say_on}
use Rattle.smp_settings.proofs.laws.settings_outlast_other_changes.Goals as goal

pub returns-clause-says : goal.returns-clause-says
returns-clause-says c = λ s spots old new first second keeps says. say_on c.bank_outlasts_other_changes.ensures.says c.bank_outlasts_other_changes.ensures.content s spots old new first second keeps says
