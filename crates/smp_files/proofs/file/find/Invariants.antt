use Rattle.std.proofs.Common.{◌≡◌, true, take, not}
use Rattle.std.specs.List.{list_all}
use Rattle.std.specs.Str.{bytes_eq}
use Rattle.smp_files.proofs.file.find.Given as goal

abbrev pub invariant-loop-i : goal.invariant-loop-i
invariant-loop-i l = list_all (λ f. not (bytes_eq f.name l.name)) (take l.i l.files) ≡ true
