use Rattle.std.proofs.Common.{◌≡◌, ◌≤◌, ◌-◌, length, take}
use Rattle.smp_cbor.specs.Skipping.{skip_at}
use Rattle.smp_cbor.specs.Values.{distinct_pairs}
use Rattle.smp_cbor.specs.Walks.{texts_of}
use Rattle.smp_cbor.proofs.keys.keep_keys.Given as goal

abbrev pub invariant-loop-turn : goal.invariant-loop-turn
invariant-loop-turn l = record {
  within : l.held ≤ length l.kept;
  same : distinct_pairs l.until_break (skip_at l.depth) (take l.held (texts_of l.kept)) (l.turns - l.turn) l.rest
      ≡ distinct_pairs l.until_break (skip_at l.depth) (take l.initial.held (texts_of l.initial.kept)) l.turns l.bytes;
}
