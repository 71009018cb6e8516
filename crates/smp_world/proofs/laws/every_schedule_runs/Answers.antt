use Rattle.smp_world.proofs.Possible.{some_run}
use Rattle.smp_world.proofs.laws.every_schedule_runs.Goals as goal

pub returns : goal.returns
returns c = some_run (record { images = c.steps_need_the_flash.ensures.images; saved = c.steps_need_the_flash.ensures.saved })
