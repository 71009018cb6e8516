use Rattle.std.proofs.Common.{sym, ◌∙◌}
use Rattle.smp_tlv.proofs.Carrying.{kept_decides, fault_is_bad, unkept_is_bad}
use Rattle.smp_tlv.proofs.carried.hashed.Goals as goal

pub returns-in-Ok-clause-image : goal.returns-in-Ok-clause-image
returns-in-Ok-clause-image c = λ added stands found.
    kept_decides c.args.covered.now c.in-Kept.kept c.in-Ok.info c.agreed.result added c.in-Kept.is
    c.agreed.ensures.some c.agreed.ensures.covered c.agreed.ensures.digest c.agreed.ensures.none stands (sym found ∙ c.in-Ok.is)

pub returns-in-Err-clause-image : goal.returns-in-Err-clause-image
returns-in-Err-clause-image c = λ added stands found. fault_is_bad added _ (sym found ∙ c.in-Err.is)

pub returns-in_default-clause-image : goal.returns-in_default-clause-image
returns-in_default-clause-image c = λ added stands found. unkept_is_bad c.args.covered.now added c.in_default.not-Kept stands
