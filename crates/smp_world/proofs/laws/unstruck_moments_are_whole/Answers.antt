use Rattle.smp_world.proofs.UnstruckMoments.{event_whole, event_restarts, boot_whole}
use Rattle.smp_world.proofs.laws.unstruck_moments_are_whole.Goals as goal

pub returns-clause-taken : goal.returns-clause-taken
returns-clause-taken c = event_whole

pub returns-clause-restarted : goal.returns-clause-restarted
returns-clause-restarted c = event_restarts

pub returns-clause-booted : goal.returns-clause-booted
returns-clause-booted c = boot_whole
