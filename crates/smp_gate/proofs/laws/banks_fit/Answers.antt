use Rattle.smp_gate.proofs.Placing.{progress_fits, settings_fits, fresh_all}
use Rattle.smp_gate.proofs.laws.banks_fit.Goals as goal

pub returns-clause-progress : goal.returns-clause-progress
returns-clause-progress c = progress_fits

pub returns-clause-settings : goal.returns-clause-settings
returns-clause-settings c = settings_fits

pub returns-clause-fresh : goal.returns-clause-fresh
returns-clause-fresh c = fresh_all
