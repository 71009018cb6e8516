-- Where an aim at the record counts.
use Rattle.std.proofs.Common.{◌≡◌, inl, inr, Option, sym, subst}
use Rattle.smp_flash.specs.Layout.{geometry_of, progress_of, CountsInBank, CountsInRegions}
use Rattle.smp_flash.specs.declared.geometry.Geometry.{Geometry}
use Rattle.smp_flash.specs.declared.layout.BankPlace.{BankPlace}
use Rattle.smp_flash.specs.declared.layout.Layout.{Layout}
use Rattle.smp_flash.specs.declared.region.Region.{Region}
use Rattle.smp_progress.specs.State.{AimsAtRecord}

pub aimed : (layout : Layout) (g : Geometry) (aim : Option Region) (place : BankPlace) → CountsInRegions layout → geometry_of layout ≡ g → place ≡ progress_of layout
    → AimsAtRecord layout aim → CountsInBank g aim place
aimed layout g aim place counts sizes at aims =
    subst (λ (h : Geometry). CountsInBank h aim place) sizes
    (subst (λ (q : BankPlace). CountsInBank (geometry_of layout) aim q) (sym at)
    (elim aims [
      | inl e ↦ subst (λ (m : Option Region). CountsInBank (geometry_of layout) m (progress_of layout)) (sym e) counts.progress
      | inr e ↦ subst (λ (m : Option Region). CountsInBank (geometry_of layout) m (progress_of layout)) (sym e) counts.progress_gate
    ]))
