-- The first state: a device that has started, with nothing pending and nothing acknowledged.
use Rattle.std.proofs.Common.{◌≡◌, ℕ, zero, suc, List, Option, Some, None, refl}
use Rattle.smp_model.specs.declared.device.Sizes.{Sizes}
use Rattle.smp_model.specs.Acknowledged.{CoversOn}
use Rattle.smp_model.specs.Laws.{EachSide, PendingIsGood}
use Rattle.smp_model.specs.Steps.{start}
use Rattle.smp_device.specs.Formatting.{formatted}
use Rattle.smp_world.specs.Runs.{first_state}

pub has_started : (sizes : Sizes) (image : List ℕ) (second : Option (List ℕ)) → start (formatted sizes image second) ≡ formatted sizes image second
has_started sizes image None = refl
has_started sizes image (Some other) = refl

pub nothing_pending : (sizes : Sizes) (image : List ℕ) (second : Option (List ℕ)) → EachSide PendingIsGood (first_state sizes image second).device
nothing_pending sizes image None = record { first = tt; second = tt }
nothing_pending sizes image (Some other) = record { first = tt; second = tt }

pub nothing_acknowledged : (sizes : Sizes) (image : List ℕ) (second : Option (List ℕ)) (n : ℕ) → CoversOn n (first_state sizes image second).device 0
nothing_acknowledged sizes image second zero = tt
nothing_acknowledged sizes image None (suc zero) = tt
nothing_acknowledged sizes image (Some other) (suc zero) = tt
nothing_acknowledged sizes image second (suc (suc n)) = tt
