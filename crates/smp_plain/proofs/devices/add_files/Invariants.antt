use Rattle.std.proofs.Common.{◌≡◌, ◌++◌, filter, take}
use Rattle.smp_plain.specs.Plain.{is_kept}
use Rattle.smp_plain.proofs.devices.add_files.Given as goal

abbrev pub invariant-loop-file : goal.invariant-loop-file
invariant-loop-file l = l.into ≡ l.initial.into ++ filter (λ x. is_kept l.kept x.name) (take l.file-index l.files)
