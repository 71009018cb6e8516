use Rattle.std.proofs.Common.{sym, ◌∙◌}
use Rattle.smp_side.proofs.Asked.{same_sizes}
use Rattle.smp_side.proofs.tests.put_active.Goals as goal

pub returns-in_err-put : goal.returns-in_err-put
returns-in_err-put c = record { sizes = c.requires.sizes ∙ sym c.in_ok-tail_is_clean.ensures.calls.passes.geometry ∙ sym (same_sizes _ _ _ c.in_err-put.ensures.calls.passes) }
