use Rattle.std.specs.Prelude.{IfSome}
use Rattle.smp_flash.specs.Memory.{mem_state}
use Rattle.smp_upload.specs.States.{Says, known_mounted}
use Rattle.smp_upload.proofs.tests.run_to.Given as goal

abbrev pub invariant-loop-turn : goal.invariant-loop-turn
invariant-loop-turn l = IfSome (mem_state l.bench.flash).bytes (Says (known_mounted l.bench.state))
