use Rattle.std.proofs.Common.{arith}
use Rattle.std.proofs.lemmas.Grind.{common_steps}
use Rattle.smp_plain.proofs.StoredSize.{length-stored_form}
use Rattle.smp_plain.proofs.settings.written_size.Goals as goal

pub returns : goal.returns
returns c = grind (arith, common_steps, length-stored_form c.args.name.now c.args.val.now c.args.settings.now)
