use Rattle.std.proofs.Common.{sym, subst}
use Rattle.smp_gate.specs.Newest.{Fits}
use Rattle.smp_gate.proofs.tests.cut_in_a_cell.Goals as goal

pub has_cell-requires-clause-fits : goal.has_cell-requires-clause-fits
has_cell-requires-clause-fits g c = subst (λ place. Fits place c.append_and_check-3.new.flash.geometry) (sym c.in_ok-bank-4.ensures.place) c.append_and_check-3.ensures.fits
