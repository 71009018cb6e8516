use Rattle.std.proofs.Common.{◌≡◌, ◌++◌, take, drop}
use Rattle.smp_cbor.specs.Values.{value_at}
use Rattle.smp_cbor.specs.Walks.{texts_of}
use Rattle.smp_cbor.specs.Views.{values_of, noted}
use Rattle.smp_cbor.proofs.views.note.Given as goal

abbrev pub invariant-loop-i : goal.invariant-loop-i
invariant-loop-i l =
    let found = values_of l.found in
    let keys = texts_of l.keys in
    let value = value_at l.depth l.bytes in
    take l.i found ++ noted l.key value (drop l.i keys) (drop l.i found) ≡ noted l.key value keys (values_of l.initial.found)
