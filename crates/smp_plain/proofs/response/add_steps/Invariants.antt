use Rattle.std.specs.Prelude.{◌≡◌, ◌++◌, take}
use Rattle.smp_plain.proofs.response.add_steps.Given as goal

abbrev pub invariant-loop-step : goal.invariant-loop-step
invariant-loop-step l = l.all.items ≡ l.initial.all.items ++ take l.step-index l.steps
