use Rattle.std.proofs.Common.{◌≡◌, ◌∷◌, length, take}
use Rattle.std.specs.List.{flat_map}
use Rattle.smp_model.specs.Settings.{stored_setting}
use Rattle.smp_plain.proofs.settings.stored_form.Given as goal

abbrev pub invariant-loop-setting : goal.invariant-loop-setting
invariant-loop-setting l = l.form.items ≡ 1 ∷ length l.settings ∷ flat_map stored_setting (take l.setting-index l.settings)
