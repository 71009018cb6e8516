use Rattle.std.proofs.Common.{◌≡◌, ◌-◌, ◌++◌}
use Rattle.smp_schedule.specs.Generated.{generated_from}
use Rattle.smp_schedule.proofs.generating.add_events.Given as goal

abbrev pub invariant-events : goal.invariant-events
invariant-events l = l.events.items ++ generated_from (l.fn.count - l._i) l.generator ≡ l.initial.events.items ++ generated_from l.fn.count l.initial.generator
