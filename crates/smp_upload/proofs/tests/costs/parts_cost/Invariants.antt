use Rattle.std.specs.Prelude.{IfSome}
use Rattle.smp_flash.specs.Memory.{mem_state}
use Rattle.smp_upload.specs.States.{Says, known_mounted}
use Rattle.smp_upload.proofs.tests.costs.parts_cost.Given as goal

abbrev pub invariant-loop-row : goal.invariant-loop-row
invariant-loop-row g l = IfSome (mem_state l.bench.flash).bytes (Says (known_mounted l.bench.state))
