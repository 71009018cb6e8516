use Rattle.std.proofs.Common.{arith}
use Rattle.smp_flash.proofs.Remains.{noise-turn}
use Rattle.smp_flash.proofs.parts.scramble.Goals as goal

pub loop-byte-preserved : goal.loop-byte-preserved
loop-byte-preserved c = noise-turn c.loop-byte.part c.loop-byte.byte-index _ _ _ (omega arith) c.next_of-x.ensures c.loop-byte.invariant
