use Rattle.smp_world.proofs.OrderlyUploads.{in_order}
use Rattle.smp_world.proofs.laws.orderly_uploads_take_few_packets.Goals as goal

pub returns : goal.returns
returns c = in_order c.laws_below.ensures
