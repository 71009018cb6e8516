use Rattle.std.proofs.Common.{ap}
use Rattle.smp_model.specs.Steps.{applied, settle}
use Rattle.smp_model.proofs.Requests.{settle_whole, settle_drops, settle_keeps, settled_side, settled_side_of}
use Rattle.smp_model.proofs.UploadLaws.{settled_again, settled_of}
use Rattle.smp_model.proofs.laws.settling_is_done_once.Goals as goal

pub returns-clause-steps : goal.returns-clause-steps
returns-clause-steps c = settled_again

pub returns-clause-device : goal.returns-clause-device
returns-clause-device c = λ d. ap (λ steps. applied steps (settle d)) (settled_again d)

pub returns-clause-one : goal.returns-clause-one
returns-clause-one c = settled_of

pub returns-clause-sides : goal.returns-clause-sides
returns-clause-sides c = settled_side

pub returns-clause-side : goal.returns-clause-side
returns-clause-side c = settled_side_of

pub returns-clause-whole : goal.returns-clause-whole
returns-clause-whole c = settle_whole

pub returns-clause-drops : goal.returns-clause-drops
returns-clause-drops c = settle_drops

pub returns-clause-keeps : goal.returns-clause-keeps
returns-clause-keeps c = settle_keeps
