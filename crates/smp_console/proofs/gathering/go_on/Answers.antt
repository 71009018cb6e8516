use Rattle.std.proofs.Common.{arith}
use Rattle.std.proofs.lemmas.List.{nil_from_length}
use Rattle.smp_console.proofs.Collecting.{nothing_added}
use Rattle.smp_console.proofs.gathering.go_on.Goals as goal

pub returns-then-is_empty : goal.returns-then-is_empty
returns-then-is_empty c =
    nothing_added c.args.is_begun.now c.args.collected.now c.args.bytes.now c.args.packet.now c.if-not-is_begun.false c.requires
    (nil_from_length c.args.bytes.now (grind arith))
