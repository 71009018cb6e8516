-- A call keeps the sizes of a flash.
use Rattle.std.proofs.Common.{◌≡◌, ◌∙◌, sym, ap, List, ℕ}
use Rattle.smp_flash.specs.Calls.{Calls}
use Rattle.smp_flash.specs.Layout.{geometry_of}
use Rattle.smp_flash.specs.State.{FlashState, End}
use Rattle.smp_flash.specs.State.End.{Went, WentOff, Failed}
use Rattle.smp_flash.specs.declared.layout.Layout.{Layout}

calls_sizes : (spots : List (ℕ × ℕ)) (end : End) (a b : FlashState) → Calls spots end a b → b.geometry ≡ a.geometry
calls_sizes spots Went a b f = f.passes.geometry
calls_sizes spots WentOff a b f = f.passes.geometry
calls_sizes spots (Failed operation) a b f = f.passes.geometry

-- The regions that a call hands back are still those of the flash.
pub lost_sizes : (one other : Layout) (spots : List (ℕ × ℕ)) (end : End) (a b : FlashState) → other ≡ one → Calls spots end a b → geometry_of one ≡ a.geometry → geometry_of other ≡ b.geometry
lost_sizes one other spots end a b same f sizes = ap geometry_of same ∙ (sizes ∙ sym (calls_sizes spots end a b f))
