use Rattle.std.proofs.Common.{◌≡◌, true, take}
use Rattle.std.specs.List.{list_all}
use Rattle.smp_model.specs.Named.{comes_before}
use Rattle.smp_files.proofs.file.rank.Given as goal

abbrev pub invariant-loop-i : goal.invariant-loop-i
invariant-loop-i l = list_all (λ f. comes_before f.name l.name) (take l.i l.files) ≡ true
