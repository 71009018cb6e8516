use Rattle.std.proofs.Common.{◌≡◌, ◌++◌, filter, take}
use Rattle.smp_plain.specs.Plain.{is_kept}
use Rattle.smp_plain.proofs.devices.add_settings.Given as goal

abbrev pub invariant-loop-setting : goal.invariant-loop-setting
invariant-loop-setting l = l.into ≡ l.initial.into ++ filter (λ x. is_kept l.kept x.name) (take l.setting-index l.settings)
