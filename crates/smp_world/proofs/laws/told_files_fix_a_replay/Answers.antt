use Rattle.smp_world.proofs.ToldReplays.{one_flash, one_jobs, one_events}
use Rattle.smp_world.proofs.laws.told_files_fix_a_replay.Goals as goal

pub returns-clause-flash : goal.returns-clause-flash
returns-clause-flash c = one_flash

pub returns-clause-jobs : goal.returns-clause-jobs
returns-clause-jobs c = one_jobs

pub returns-clause-events : goal.returns-clause-events
returns-clause-events c = one_events
