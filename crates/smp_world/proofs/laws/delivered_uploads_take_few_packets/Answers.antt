use Rattle.smp_world.proofs.FewPackets.{few_packets}
use Rattle.smp_world.proofs.laws.delivered_uploads_take_few_packets.Goals as goal

pub returns : goal.returns
returns c = few_packets c.laws_below.ensures
