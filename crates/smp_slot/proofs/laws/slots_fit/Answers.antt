use Rattle.std.proofs.Common.{ℕ, zero, suc, ◌≤◌, refl, arith}
use Rattle.smp_flash.specs.Layout.{geometry_of, slot_of, Arranged}
use Rattle.smp_flash.specs.declared.layout.Layout.{Layout}
use Rattle.smp_slot.specs.Slots.{IsSlot}
use Rattle.smp_slot.proofs.laws.slots_fit.Goals as goal

fit : (layout : Layout) (n : ℕ) → Arranged layout → n ≤ 1 → IsSlot (slot_of layout n) (geometry_of layout)
fit layout zero a le = record { begins = a.inside.0; long = refl; inside = a.inside.2 }
fit layout (suc zero) a le = record { begins = a.inside.3.0; long = refl; inside = a.inside.3.2 }
fit layout (suc (suc n)) a le = absurd (omega (arith, le))

pub returns : goal.returns
returns c = λ layout n le. fit layout n (c.regions_lie_apart.ensures layout) le
