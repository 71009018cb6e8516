use Rattle.std.proofs.Common.{rules}
use Rattle.smp_flash.proofs.Heads.{other_head}
use Rattle.smp_flash.proofs.head.sizes_in.Goals as goal

pub returns-then-ne-clause-none : goal.returns-then-ne-clause-none
returns-then-ne-clause-none c = other_head c.args.head.now c.head_of.result _ c.sizes_at-geometry.ensures c.head_of.ensures (search rules)
