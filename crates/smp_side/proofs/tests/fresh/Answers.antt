use Rattle.std.proofs.Common.{List, ℕ, sym, ap, subst}
use Rattle.smp_flash.specs.Area.{blank}
use Rattle.smp_flash.specs.Geometry.{size_of}
use Rattle.smp_flash.specs.Layout.{geometry_of, progress_of}
use Rattle.smp_flash.specs.declared.geometry.Geometry.{Geometry}
use Rattle.smp_gate.specs.Newest.{Fresh}
use Rattle.smp_side.proofs.tests.fresh.Goals as goal

pub make-requires-clause-erased : goal.make-requires-clause-erased
make-requires-clause-erased c =
    let place = progress_of c.args.layout.now in
    subst (λ (xs : List ℕ). Fresh place xs) (sym (ap (λ m. m.bytes) c.in_ok-flash.ensures))
    (subst (λ (g : Geometry). Fresh place (blank (size_of g))) c.requires.sizes
    (c.banks_fit.ensures.fresh place (geometry_of c.args.layout.now) (c.banks_fit.ensures.progress c.args.layout.now)))
