-- The steps of a request are due, each at the device that it finds.
use Rattle.std.proofs.Common.{ℕ, List}
use Rattle.smp_model.specs.declared.device.AbstractDevice.{AbstractDevice}
use Rattle.smp_model.specs.declared.device.Sizes.{Sizes}
use Rattle.smp_model.specs.Does.{does}
use Rattle.smp_model.specs.Due.{IsStepDue}
use Rattle.smp_model.specs.Laws.{Along}
use Rattle.smp_model.specs.Meant.{Meant}
use Rattle.smp_model.specs.Steps.{Step}
use Rattle.smp_world.specs.Below.{StepsAreDue}
use Rattle.smp_world.proofs.Sides.{along_fronts}

abbrev pub AllDue : Sizes → (target : ℕ) → Meant → AbstractDevice → List Step → Type 0
AllDue sizes target m d steps = Along (IsStepDue sizes target m) d steps

pub does_due : StepsAreDue → (sizes : Sizes) (d : AbstractDevice) (m : Meant) → AllDue sizes d.target m d (does sizes d m).steps
does_due law sizes d m = along_fronts (IsStepDue sizes d.target m) (does sizes d m).steps d (λ front t rest e. law sizes d m front t rest e)
