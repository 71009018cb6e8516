use Rattle.std.proofs.Common.{arith}
use Rattle.smp_tlv.proofs.Carrying.{header_states}
use Rattle.smp_tlv.proofs.carried.behind_header.Goals as goal

pub returns-in-Ok : goal.returns-in-Ok
returns-in-Ok c = λ holds.
    c.awaiting.ensures c.args.bytes.now (omega arith)
    (header_states c.args.bytes.now c.header_from.result c.covered_by.result c.in-Ok.covered (omega arith) c.header_from.ensures c.covered_by.ensures.covered c.in-Ok.is)
    (omega (arith, c.in-Ok.ensures.least)) holds
