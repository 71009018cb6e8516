use Rattle.std.proofs.Common.{◌∙◌}
use Rattle.smp_plain.proofs.Copies.{filter_all}
use Rattle.smp_plain.proofs.devices.copied_files.Goals as goal

pub returns : goal.returns
returns c = c.in_ok-add_files.ensures ∙ rw c.new-copy.ensures (filter_all c.args.files.now)
