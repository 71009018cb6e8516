use Rattle.std.proofs.Common.{◌≡◌, ◌-◌, ◌++◌}
use Rattle.smp_schedule.specs.Generated.{draws, number_after}
use Rattle.smp_schedule.proofs.generating.add_bytes.Given as goal

abbrev pub invariant-bytes : goal.invariant-bytes
invariant-bytes l = record {
  bytes : l.bytes.items ++ draws (l.fn.count - l._i) l.generator.number ≡ l.initial.bytes.items ++ draws l.fn.count l.initial.generator.number;
  number : number_after (l.fn.count - l._i) l.generator.number ≡ number_after l.fn.count l.initial.generator.number;
  replies : l.generator.replies ≡ l.initial.generator.replies;
}
