use Rattle.smp_upload.proofs.Confirmed.{byte_Calls}
use Rattle.smp_upload.proofs.primary.is_confirmed.Goals as goal

pub returns-clause-calls : goal.returns-clause-calls
returns-clause-calls g c = byte_Calls c.args.layout.now c.slot.result _ _ _ c.slot.ensures c.confirmed.ensures.calls
