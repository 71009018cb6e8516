use Rattle.std.proofs.Common.{◌≡◌, ◌++◌, length, flat_map}
use Rattle.smp_cbor.specs.Views.{rest_of}
use Rattle.smp_jobs.specs.Results.{value_line}
use Rattle.smp_jobs.proofs.list_text.write_images.Given as goal

abbrev pub invariant-entries : goal.invariant-entries
invariant-entries l = l.out.items ++ flat_map value_line (rest_of l.rest) ≡ l.initial.out.items ++ flat_map value_line (rest_of l.initial.rest)

abbrev pub decreases-entries : goal.decreases-entries
decreases-entries l = length (rest_of l.rest)
