use Rattle.std.proofs.Common.{arith}
use Rattle.std.proofs.lemmas.Bool.Decides.{nat_tests}
use Rattle.smp_world.proofs.HexPieces.{is_whole}
use Rattle.smp_world.proofs.printing.put_hex.Goals as goal

pub returns : goal.returns
returns c = is_whole c.pieces.text.held c.pieces.rest.now _ (grind (arith, nat_tests, c.is_empty.ensures, c.pieces-test.false)) c.pieces.invariant
