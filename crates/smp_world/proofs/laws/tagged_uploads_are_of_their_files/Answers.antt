use Rattle.smp_world.proofs.TaggedRuns.{tagged_schedules}
use Rattle.smp_world.proofs.laws.tagged_uploads_are_of_their_files.Goals as goal

pub returns : goal.returns
returns c = tagged_schedules c.laws_below.ensures
