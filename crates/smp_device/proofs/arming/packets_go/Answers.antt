use Rattle.smp_device.proofs.PacketsGo.{packets_go}
use Rattle.smp_device.proofs.arming.packets_go.Goals as goal

pub returns : goal.returns
returns c = packets_go c.device_laws.ensures
