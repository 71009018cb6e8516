use Rattle.smp_reply.proofs.Read.{answer_read}
use Rattle.smp_reply.proofs.laws.replies_are_told.Goals as goal

pub returns : goal.returns
returns c = answer_read c.shortest_is_read.ensures (record { keys = c.keys_are_texts.ensures; maps = c.plain_maps_are_written.ensures })
