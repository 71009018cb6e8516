use Rattle.std.proofs.Common.{◌≡◌, ◌-◌}
use Rattle.smp_cbor.specs.Skipping.{skip_at}
use Rattle.smp_cbor.specs.Values.{pairs_from, value_at}
use Rattle.smp_cbor.specs.Walks.{texts_of}
use Rattle.smp_cbor.specs.Views.{entries, values_of, look_up_each, or_else_each}
use Rattle.smp_cbor.proofs.views.MapView.find_each.Given as goal

abbrev pub invariant-loop : goal.invariant-loop
invariant-loop l =
    let keys = texts_of l.keys in
    or_else_each (values_of l.found) (look_up_each keys (pairs_from l.self.until_break (skip_at l.self.depth) (value_at l.self.depth) (l.self.turns - l.counter) l.rest))
    ≡ or_else_each (values_of l.initial.found) (look_up_each keys (entries l.self))
