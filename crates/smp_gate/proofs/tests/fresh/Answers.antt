use Rattle.std.proofs.Common.{ap}
use Rattle.smp_gate.proofs.Placing.{fresh_progress}
use Rattle.smp_gate.proofs.tests.fresh.Goals as goal

pub returns-clause-erased : goal.returns-clause-erased
returns-clause-erased c =
    fresh_progress c.of.result c.progress-place.result c.args.sizes _ c.progress-place.ensures c.of.ensures.geometry (ap (λ m. m.bytes) c.in_ok-flash.ensures)
