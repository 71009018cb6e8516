use Rattle.std.proofs.Common.{◌≡◌, ◌∷◌, take, length}
use Rattle.std.specs.Prelude.{flat_map}
use Rattle.smp_model.specs.Settings.{stored_setting}
use Rattle.smp_settings.proofs.form.write_form.Given as goal

abbrev pub invariant-loop-entry : goal.invariant-loop-entry
invariant-loop-entry l = l.out.items ≡ 1 ∷ length l.table ∷ flat_map stored_setting (take l.entry-index l.entry-items)
