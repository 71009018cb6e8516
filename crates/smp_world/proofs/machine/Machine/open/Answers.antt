use Rattle.smp_flash.specs.Memory.{memory_of}
use Rattle.smp_world.proofs.Opening.{opens_formatted}
use Rattle.smp_world.proofs.machine.Machine.open.Goals as goal

pub returns-clause-formatted : goal.returns-clause-formatted
returns-clause-formatted c = opens_formatted c.device_goes.ensures c.start.result (memory_of c.args.flash) c.start.ensures
