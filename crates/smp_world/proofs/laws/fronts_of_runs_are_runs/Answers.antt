use Rattle.smp_world.proofs.RunFronts.{goes_on, parted, printed}
use Rattle.smp_world.proofs.laws.fronts_of_runs_are_runs.Goals as goal

pub returns-clause-goes_on : goal.returns-clause-goes_on
returns-clause-goes_on c = goes_on (record { images = c.steps_need_the_flash.ensures.images; saved = c.steps_need_the_flash.ensures.saved })

pub returns-clause-parted : goal.returns-clause-parted
returns-clause-parted c = parted

pub returns-clause-printed : goal.returns-clause-printed
returns-clause-printed c = printed
