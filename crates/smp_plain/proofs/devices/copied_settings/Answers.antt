use Rattle.std.proofs.Common.{◌∙◌}
use Rattle.smp_plain.proofs.Copies.{filter_all}
use Rattle.smp_plain.proofs.devices.copied_settings.Goals as goal

pub returns : goal.returns
returns c = c.in_ok-add_settings.ensures ∙ rw c.new-copy.ensures (filter_all c.args.settings.now)
