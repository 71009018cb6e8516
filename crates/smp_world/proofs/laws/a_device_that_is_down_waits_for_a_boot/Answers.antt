use Rattle.smp_world.proofs.Downtime.{down_stays, only_strikes}
use Rattle.smp_world.proofs.Silence.{silent_down}
use Rattle.smp_world.proofs.laws.a_device_that_is_down_waits_for_a_boot.Goals as goal

pub returns-clause-waits : goal.returns-clause-waits
returns-clause-waits c = down_stays

pub returns-clause-struck : goal.returns-clause-struck
returns-clause-struck c = only_strikes

pub returns-clause-cut : goal.returns-clause-cut
returns-clause-cut c = silent_down
