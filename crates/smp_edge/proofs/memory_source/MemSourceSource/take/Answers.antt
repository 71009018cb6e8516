use Rattle.std.proofs.Common.{rules}
use Rattle.smp_edge.proofs.Listed.{contains_same}
use Rattle.smp_edge.proofs.memory_source.MemSourceSource.take.Goals as goal

pub returns-then-has-clause-unlisted : goal.returns-then-has-clause-unlisted
returns-then-has-clause-unlisted c = contains_same _ _ _ _ (c.has.ensures.0 c.if-has.true) (search) (search rules)
