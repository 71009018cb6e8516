use Rattle.smp_world.proofs.DoneSets.{done_sets_are_saved}
use Rattle.smp_world.proofs.laws.done_sets_are_saved.Goals as goal

pub returns : goal.returns
returns c = done_sets_are_saved c.laws_below.ensures c.only_a_save_saves.ensures.only
