use Rattle.std.proofs.Common.{List, ℕ, sym, ap, subst}
use Rattle.smp_flash.specs.Area.{blank}
use Rattle.smp_flash.specs.Geometry.{size_of}
use Rattle.smp_flash.specs.Layout.{geometry_of, progress_of}
use Rattle.smp_flash.specs.declared.geometry.Geometry.{Geometry}
use Rattle.smp_gate.specs.Newest.{Fresh}
use Rattle.smp_upload.proofs.tests.fresh.Goals as goal

pub returns-clause-erased : goal.returns-clause-erased
returns-clause-erased c =
    let place = progress_of c.regions.result in
    subst (λ (xs : List ℕ). Fresh place xs) (sym (ap (λ m. m.bytes) c.in_ok-flash.ensures))
    (subst (λ (g : Geometry). Fresh place (blank (size_of g))) c.regions.ensures
    (c.banks_fit.ensures.fresh place (geometry_of c.regions.result) (c.banks_fit.ensures.progress c.regions.result)))
