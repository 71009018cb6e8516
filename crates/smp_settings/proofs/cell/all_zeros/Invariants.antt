use Rattle.std.proofs.Common.{◌≡◌, true, take}
use Rattle.smp_settings.specs.Cells.{are_zeros}
use Rattle.smp_settings.proofs.cell.all_zeros.Given as goal

abbrev pub invariant-loop-byte : goal.invariant-loop-byte
invariant-loop-byte l = are_zeros (take l.byte-index l.bytes) ≡ true
