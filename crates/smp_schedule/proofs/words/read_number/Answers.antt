use Rattle.std.proofs.Common.{sym, ◌∙◌, arith}
use Rattle.smp_schedule.proofs.Numbers.{found}
use Rattle.smp_schedule.proofs.words.read_number.Goals as goal

pub returns-then-is_number-clause-number : goal.returns-then-is_number-clause-number
returns-then-is_number-clause-number c =
    found c.args.low c.args.high c.in_ok-number.number c.args.bytes.now (omega arith) (sym c.is_number.ensures ∙ c.if-is_number.true)
