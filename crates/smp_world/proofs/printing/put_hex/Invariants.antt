use Rattle.std.specs.Prelude.{◌≡◌, ◌++◌, length}
use Rattle.hex.specs.Hex.{encode_lower}
use Rattle.smp_world.proofs.printing.put_hex.Given as goal

abbrev pub invariant-pieces : goal.invariant-pieces
invariant-pieces l = l.text.held ++ encode_lower l.rest ≡ l.fn.text.held ++ encode_lower l.fn.bytes

abbrev pub decreases-pieces : goal.decreases-pieces
decreases-pieces l = length l.rest
