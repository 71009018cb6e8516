use Rattle.std.proofs.Common.{ap, sym, subst}
use Rattle.smp_gate.specs.Newest.{Fits}
use Rattle.smp_gate.proofs.Lasting.{fits_kept}
use Rattle.smp_gate.proofs.tests.append_and_check.Goals as goal

pub checked-requires : goal.checked-requires
checked-requires g c =
    subst (Fits c.args.place) (sym (ap (λ m. m.geometry) c.power_on.ensures))
    (fits_kept c.args.place _ _ _ _ c.append-went.ensures.calls (subst (Fits c.args.place) (sym c.arm_with.ensures.geometry) c.requires.fits))
