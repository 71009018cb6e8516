use Rattle.std.proofs.Common.{◌≡◌}
use Rattle.std.specs.Prelude.{IfSome}
use Rattle.smp_flash.specs.Memory.{mem_state}
use Rattle.smp_settings.specs.Saved.{SettingsSay}
use Rattle.smp_settings.proofs.tests.give_long.Given as goal

abbrev pub invariant-loop-i : goal.invariant-loop-i
invariant-loop-i l = record {
  layout : l.settings.layout ≡ l.fn.settings.layout;
  says : IfSome (mem_state l.flash).bytes (SettingsSay l.settings);
}
