use Rattle.smp_world.proofs.Taking.{boots_machine}
use Rattle.smp_world.proofs.machine.Machine.boot.Goals as goal

pub returns : goal.returns
returns c = boots_machine c.device_goes.ensures c.restart.result c.args.self.now c.restart.new.self c.restart.ensures
