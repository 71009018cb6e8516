-- What a confirmation leaves of what the bytes stand for.
use Rattle.std.specs.Prelude.{◌≡◌, ℕ, List}
use Rattle.smp_flash.specs.declared.layout.Layout.{Layout}
use Rattle.smp_model.specs.Sides.{Confirm}
use Rattle.smp_upload.specs.Moves.{Does, one_step}
use Rattle.smp_upload.specs.States.{Known, Says}

-- whatever a state of this layout said of the bytes, they show the side with its image confirmed
abbrev pub Confirms : Layout → List ℕ → List ℕ → Type 0
Confirms layout old new = (known : Known) → known.layout ≡ layout → Says known old → Does layout (one_step Confirm) old new

-- whatever a state of this layout said of the bytes, it says of them
abbrev pub SaysOn : Layout → List ℕ → List ℕ → Type 0
SaysOn layout old new = (known : Known) → known.layout ≡ layout → Says known old → Says known new
