use Rattle.smp_world.proofs.ScheduleJobs.{uploads_are_proper, sets_are_proper}
use Rattle.smp_world.proofs.laws.jobs_of_schedules_are_proper.Goals as goal

pub returns-clause-uploads : goal.returns-clause-uploads
returns-clause-uploads c = uploads_are_proper c.images_lie_within.ensures.good

pub returns-clause-sets : goal.returns-clause-sets
returns-clause-sets c = sets_are_proper
