use Rattle.std.proofs.Common.{◌≡◌}
use Rattle.std.specs.Prelude.{IfSome}
use Rattle.smp_flash.specs.Layout.{geometry_of}
use Rattle.smp_flash.specs.Memory.{mem_state}
use Rattle.smp_settings.specs.Saved.{SettingsSay}
use Rattle.smp_settings.proofs.tests.strike_thirty.Given as goal

abbrev pub invariant-loop-turn : goal.invariant-loop-turn
invariant-loop-turn g l = record {
  layout : l.settings.layout ≡ l.layout;
  sizes : geometry_of l.layout ≡ (mem_state l.flash).geometry;
  says : IfSome (mem_state l.flash).bytes (SettingsSay l.settings);
}
