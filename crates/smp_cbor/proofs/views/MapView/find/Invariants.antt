use Rattle.std.proofs.Common.{◌≡◌, ◌-◌}
use Rattle.smp_cbor.specs.Skipping.{skip_at}
use Rattle.smp_cbor.specs.Values.{pairs_from, value_at}
use Rattle.smp_cbor.specs.Views.{entries, look_up, map_bytes}
use Rattle.smp_cbor.proofs.Parts.{Ends}
use Rattle.smp_cbor.proofs.views.MapView.find.Given as goal

abbrev pub invariant-loop : goal.invariant-loop
invariant-loop l = record {
  same : look_up l.key (pairs_from l.self.until_break (skip_at l.self.depth) (value_at l.self.depth) (l.self.turns - l.counter) l.rest)
      ≡ look_up l.key (entries l.self);
  ends : Ends (map_bytes l.self) l.rest;
}
