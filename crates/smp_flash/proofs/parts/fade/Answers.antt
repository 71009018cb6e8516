use Rattle.std.proofs.Common.{arith}
use Rattle.smp_flash.proofs.Remains.{fade-turn}
use Rattle.smp_flash.proofs.parts.fade.Goals as goal

pub loop-byte-preserved : goal.loop-byte-preserved
loop-byte-preserved c = fade-turn c.loop-byte.part c.loop-byte.byte-index _ _ _ _ (omega arith) c.next_of-x.ensures c.faded_byte.ensures c.loop-byte.invariant
