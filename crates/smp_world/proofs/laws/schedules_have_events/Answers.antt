use Rattle.smp_world.proofs.ScheduleEvents.{schedule_found}
use Rattle.smp_world.proofs.laws.schedules_have_events.Goals as goal

pub returns : goal.returns
returns c = schedule_found
