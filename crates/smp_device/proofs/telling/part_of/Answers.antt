use Rattle.std.proofs.Common.{[], refl}
use Rattle.smp_device.proofs.ToldReplies.{part_fits}
use Rattle.smp_device.proofs.telling.part_of.Goals as goal

pub returns-clause-fits : goal.returns-clause-fits
returns-clause-fits c = part_fits c.args.off c.args.held.now c.front.result.now c.length_at.result c.front.ensures.few (c.length_at.ensures (record { name = []; announced = 0; held = c.args.held.now }) refl)
