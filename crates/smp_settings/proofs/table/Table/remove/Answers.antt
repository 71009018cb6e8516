use Rattle.std.proofs.Common.{◌∙◌, sym}
use Rattle.smp_model.specs.declared.setting.Setting.{Setting}
use Rattle.smp_settings.proofs.Naming.{without_none}
use Rattle.smp_settings.proofs.Tables.{removed_at}
use Rattle.smp_settings.proofs.table.Table.remove.Goals as goal

pub returns-in-Some-clause-removed : goal.returns-in-Some-clause-removed
returns-in-Some-clause-removed c =
    c.remove.ensures.items ∙ removed_at c.in-Some.at c.args.name.now c.self.inside.entries.items c.args.self.now c.self.view_is c.requires.sorted c.in-Some.ensures.found

pub returns-in-None-clause-removed : goal.returns-in-None-clause-removed
returns-in-None-clause-removed c = sym (without_none (λ (s : Setting). s.name) c.args.name.now c.args.self.now c.in-None.ensures.none)
