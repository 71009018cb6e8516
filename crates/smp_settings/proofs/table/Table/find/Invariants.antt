use Rattle.std.proofs.Common.{◌≡◌, true, take, not}
use Rattle.std.specs.List.{list_all}
use Rattle.std.specs.Str.{bytes_eq}
use Rattle.smp_settings.proofs.table.Table.find.Given as goal

abbrev pub invariant-loop-i : goal.invariant-loop-i
invariant-loop-i l = list_all (λ s. not (bytes_eq s.name l.name)) (take l.i l.entries) ≡ true
