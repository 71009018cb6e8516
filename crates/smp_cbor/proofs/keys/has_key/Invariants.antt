use Rattle.std.proofs.Common.{◌≡◌, ◌-◌}
use Rattle.smp_cbor.specs.Skipping.{skip_at}
use Rattle.smp_cbor.specs.Values.{is_among, first_keys}
use Rattle.smp_cbor.proofs.keys.has_key.Given as goal

abbrev pub invariant-loop : goal.invariant-loop
invariant-loop l = is_among l.key (first_keys (skip_at l.depth) (l.pairs - l.counter) l.rest) ≡ is_among l.key (first_keys (skip_at l.depth) l.pairs l.bytes)
