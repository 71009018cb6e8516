-- Bytes of a flash that are added to the sums.
use Rattle.std.specs.Prelude.{◌++◌, ℕ, List}
use Rattle.smp_flash.specs.Area.{area}
use Rattle.smp_tlv.specs.Carried.{Carries}
use Rattle.smp_tlv.specs.declared.carried.Carried.{Carried}

-- the sums have these bytes more
abbrev pub Adds : (at n : ℕ) (old new : Carried) → List ℕ → Type 0
Adds at n old new held = (added : List ℕ) → Carries old added → Carries new (added ++ area at n held)
