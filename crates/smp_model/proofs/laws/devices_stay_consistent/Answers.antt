use Rattle.smp_model.proofs.Consistency.{request_consistent, settle_consistent, settle_of_consistent, start_consistent}
use Rattle.smp_model.proofs.HandledDevices.{handled_consistent, broken_consistent}
use Rattle.smp_model.proofs.laws.devices_stay_consistent.Goals as goal

pub returns-clause-requests : goal.returns-clause-requests
returns-clause-requests c = request_consistent

pub returns-clause-settled : goal.returns-clause-settled
returns-clause-settled c = settle_consistent

pub returns-clause-settled_one : goal.returns-clause-settled_one
returns-clause-settled_one c = settle_of_consistent

pub returns-clause-started : goal.returns-clause-started
returns-clause-started c = start_consistent

pub returns-clause-handled : goal.returns-clause-handled
returns-clause-handled c = handled_consistent

pub returns-clause-broken : goal.returns-clause-broken
returns-clause-broken c = broken_consistent
