use Rattle.smp_gate.proofs.Lasting.{says_kept, newest_kept, content_kept}
use Rattle.smp_gate.proofs.laws.bank_outlasts_other_changes.Goals as goal

pub returns-clause-says : goal.returns-clause-says
returns-clause-says c = says_kept

pub returns-clause-holds : goal.returns-clause-holds
returns-clause-holds c = newest_kept

pub returns-clause-content : goal.returns-clause-content
returns-clause-content c = content_kept
