use Rattle.std.proofs.Common.{◌≡◌, take}
use Rattle.smp_cbor.proofs.keys.copy_front.Given as goal

abbrev pub invariant-loop-i : goal.invariant-loop-i
invariant-loop-i l = take l.i l.kept ≡ take l.i l.keys
