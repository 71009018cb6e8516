use Rattle.std.proofs.Common.{◌∙◌, ap}
use Rattle.smp_model.specs.Settings.{is_within_limits}
use Rattle.smp_settings.proofs.Limits.{deleted_within}
use Rattle.smp_settings.proofs.settings.Settings.delete.Goals as goal

pub invariant_of-self : goal.invariant_of-self
invariant_of-self c =
    (c.self.invariant.0, c.self.invariant.1, c.self.invariant.2, ap is_within_limits c.remove.ensures.removed ∙ deleted_within c.args.name.now c.self.inside.running c.self.invariant.3, c.self.invariant.4)
