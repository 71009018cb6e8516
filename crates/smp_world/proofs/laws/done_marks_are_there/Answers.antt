use Rattle.smp_world.proofs.DoneMarked.{done_marked}
use Rattle.smp_world.proofs.laws.done_marks_are_there.Goals as goal

pub returns : goal.returns
returns c = done_marked c.laws_below.ensures c.a_pending_slot_stays.ensures.same
