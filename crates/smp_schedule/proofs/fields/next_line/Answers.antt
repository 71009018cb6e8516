use Rattle.std.proofs.Common.{◌<◌, length, arith}
use Rattle.smp_schedule.proofs.Cuts.{line_found, last_line_of}
use Rattle.smp_schedule.proofs.fields.next_line.Goals as goal

pub returns-in-Some : goal.returns-in-Some
returns-in-Some c =
    let found = c.in-Some.ensures.found in (
      line_found c.args.text.now c.split_at.result.1.now c.in-Some.i found.0 found.1 c.in-Some.ensures.first c.split_at.ensures.back,
      omega (arith, c.split_at.ensures.back_len, found.0),
    )

pub returns-in-None : goal.returns-in-None
returns-in-None c =
    let some : 0 < length c.args.text.now = grind arith in
    (last_line_of c.args.text.now some c.in-None.ensures.none, some)
