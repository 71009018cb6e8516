use Rattle.smp_schedule.proofs.Cuts.{field_found, one_field}
use Rattle.smp_schedule.proofs.fields.cut_field.Goals as goal

pub returns-in-Some : goal.returns-in-Some
returns-in-Some c =
    let found = c.in-Some.ensures.found in
    field_found c.args.line.now c.split_at.result.1.now c.in-Some.i found.0 found.1 c.in-Some.ensures.first c.split_at.ensures.back

pub returns-in-None : goal.returns-in-None
returns-in-None c = one_field c.args.line.now c.in-None.ensures.none
