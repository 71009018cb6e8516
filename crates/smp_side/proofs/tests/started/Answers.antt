use Rattle.smp_side.proofs.Asked.{sizes_after}
use Rattle.smp_side.proofs.tests.started.Goals as goal

pub returns-clause-sizes : goal.returns-clause-sizes
returns-clause-sizes c = sizes_after _ _ _ c.start.result _ _ c.start.ensures.answers c.requires.sizes
