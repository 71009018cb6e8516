use Rattle.std.proofs.Common.{◌≡◌, sym, ◌∙◌}
use Rattle.smp_flash.specs.Calls.{Passes}
use Rattle.smp_flash.specs.State.{FlashState, End}
use Rattle.smp_flash.specs.State.End.{Went, WentOff, Failed}
use Rattle.smp_slot.proofs.tests.put_at.Goals as goal

same_sizes : (end : End) (a b : FlashState) → Passes end a b → b.geometry ≡ a.geometry
same_sizes Went a b p = p.geometry
same_sizes WentOff a b p = p.geometry
same_sizes (Failed operation) a b p = p.geometry

pub returns-in_err-put : goal.returns-in_err-put
returns-in_err-put c = record { sizes = c.requires.sizes ∙ sym c.in_ok-tail_is_clean.ensures.calls.passes.geometry ∙ sym (same_sizes _ _ _ c.in_err-put.ensures.calls.passes) }
