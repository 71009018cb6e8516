use Rattle.smp_gate.proofs.Lasting.{fits_kept}
use Rattle.smp_gate.proofs.tests.a_worn_bank_stays_as_it_is.Goals as goal

pub checked-requires-2 : goal.checked-requires-2
checked-requires-2 g c = fits_kept c.in_ok-flash.place _ _ _ _ c.replace.ensures.calls c.checked.ensures.fits
