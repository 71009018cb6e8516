use Rattle.smp_side.proofs.Asked.{sizes_after}
use Rattle.smp_side.proofs.tests.marked.Goals as goal

pub returns-clause-sizes : goal.returns-clause-sizes
returns-clause-sizes c = sizes_after _ _ _ c.mark.result _ _ c.mark.ensures.answers c.requires.sizes
