use Rattle.std.proofs.Common.{sym, subst}
use Rattle.smp_gate.specs.Newest.{Fits}
use Rattle.smp_gate.proofs.tests.fill_struck.Goals as goal

pub are_numbered-requires-clause-fits : goal.are_numbered-requires-clause-fits
are_numbered-requires-clause-fits g c = subst (λ place. Fits place c.loop.flash.geometry) (sym c.loop.invariant.place) c.loop.invariant.fits
