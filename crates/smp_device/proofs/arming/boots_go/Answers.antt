use Rattle.smp_device.proofs.BootsGo.{boots_go}
use Rattle.smp_device.proofs.arming.boots_go.Goals as goal

pub returns : goal.returns
returns c = boots_go
