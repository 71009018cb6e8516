use Rattle.std.proofs.Common.{ap, sym, subst}
use Rattle.smp_gate.specs.Newest.{Fits}
use Rattle.smp_gate.proofs.Lasting.{fits_kept}
use Rattle.smp_gate.proofs.tests.struck.Goals as goal

pub returns-clause-fits : goal.returns-clause-fits
returns-clause-fits c =
    subst (Fits c.args.bank.now.place) (sym (ap (λ m. m.geometry) c.power_on.ensures))
    (fits_kept c.args.bank.now.place _ _ _ _ c.replace-result.ensures.calls (subst (Fits c.args.bank.now.place) (sym (ap (λ m. m.geometry) c.arm.ensures)) c.requires.place))
