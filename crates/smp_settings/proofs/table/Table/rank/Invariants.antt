use Rattle.std.proofs.Common.{◌≡◌, true, take}
use Rattle.std.specs.List.{list_all}
use Rattle.smp_model.specs.Named.{comes_before}
use Rattle.smp_settings.proofs.table.Table.rank.Given as goal

abbrev pub invariant-loop-i : goal.invariant-loop-i
invariant-loop-i l = list_all (λ s. comes_before s.name l.name) (take l.i l.entries) ≡ true
