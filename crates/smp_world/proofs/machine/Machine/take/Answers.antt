use Rattle.smp_world.proofs.Taking.{takes_bytes}
use Rattle.smp_world.proofs.machine.Machine.take.Goals as goal

pub returns : goal.returns
returns c = takes_bytes c.device_goes.ensures c.args.bytes.now c.deliver-fate.result c.boot_after-boot.result c.args.self.now c.deliver-fate.new.self c.boot_after-boot.new.self c.deliver-fate.ensures c.boot_after-boot.ensures
