use Rattle.std.proofs.Common.{◌≡◌, drop}
use Rattle.smp_cbor.specs.Values.{is_among}
use Rattle.smp_cbor.specs.Walks.{texts_of}
use Rattle.smp_cbor.proofs.keys.is_kept.Given as goal

abbrev pub invariant-loop-other : goal.invariant-loop-other
invariant-loop-other l = is_among l.key (texts_of (drop l.other-index l.kept)) ≡ is_among l.key (texts_of l.kept)
