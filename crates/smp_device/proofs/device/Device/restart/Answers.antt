use Rattle.std.proofs.Common.{refl}
use Rattle.smp_device.proofs.Beginnings.{counts_none}
use Rattle.smp_device.proofs.device.Device.restart.Goals as goal

pub returns-in-Ok-clause-restarts : goal.returns-in-Ok-clause-restarts
returns-in-Ok-clause-restarts g c = record { images = c.in-Ok.begun.images; up = refl; starts = c.in-Ok.ensures.starts; counters = counts_none c.default-self-inside.result c.default-self-inside.ensures; files = c.clear.ensures }
