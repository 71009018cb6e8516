use Rattle.smp_world.proofs.OneJob.{done_alone}
use Rattle.smp_world.proofs.laws.done_uploads_are_there.Goals as goal

pub returns : goal.returns
returns c = done_alone c.laws_below.ensures c.a_pending_slot_stays.ensures.same c.answered_offsets_are_held.ensures c.device_replies_are_sendable.ensures
