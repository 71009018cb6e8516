use Rattle.smp_flash.specs.Layout.{settings_of}
use Rattle.smp_gate.specs.Newest.{content_of}
use Rattle.smp_settings.specs.Cells.{cell_length}
use Rattle.smp_settings.proofs.Lasting.{given_within}
use Rattle.smp_settings.proofs.laws.saved_settings_are_within_the_limits.Goals as goal

pub returns : goal.returns
returns c = λ layout saved bytes stands. given_within c.stored_settings_are_read_back.ensures.exact (content_of (settings_of layout) cell_length bytes) saved stands
