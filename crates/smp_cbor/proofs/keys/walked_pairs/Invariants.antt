use Rattle.std.proofs.Common.{◌≡◌, ◌-◌, ◌++◌}
use Rattle.smp_cbor.specs.Skipping.{skip_at}
use Rattle.smp_cbor.specs.Values.{distinct_pairs, first_keys}
use Rattle.smp_cbor.specs.Walks.{texts_of}
use Rattle.smp_cbor.proofs.Steps.{LeadsTo}
use Rattle.smp_cbor.proofs.keys.walked_pairs.Given as goal

abbrev pub invariant-loop-turn : goal.invariant-loop-turn
invariant-loop-turn l = record {
  same : distinct_pairs l.until_break (skip_at l.depth) (texts_of l.seen ++ first_keys (skip_at l.depth) l.turn l.bytes) (l.turns - l.turn) l.rest
      ≡ distinct_pairs l.until_break (skip_at l.depth) (texts_of l.seen) l.turns l.bytes;
  leads : LeadsTo (skip_at l.depth) l.turn l.bytes l.rest;
}
