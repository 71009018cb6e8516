use Rattle.smp_schedule.proofs.Pieces.{more_put, put_fails, last_put, fields_left, no_fields_left}
use Rattle.smp_schedule.proofs.putting.put_rest.Goals as goal

pub returns-in_err-put_field : goal.returns-in_err-put_field
returns-in_err-put_field g c =
    put_fails _ _ _ _ _ _ _ _ _ _ _ _ _ c.loop-field.invariant c.in_err-put_field.was c.put_field.ensures
    (fields_left c.args.fields.now c.loop-field.field-index _ c.loop-field-test.true) c.from_residual.ensures.0

pub loop-field-preserved : goal.loop-field-preserved
loop-field-preserved g c =
    more_put _ _ _ _ _ _ _ _ _ _ _ c.loop-field.invariant c.in_ok-put_field.was c.put_field.ensures
    (fields_left c.args.fields.now c.loop-field.field-index _ c.loop-field-test.true)

pub returns : goal.returns
returns g c =
    last_put _ _ _ _ _ _ _ _ _ c.loop-field.invariant
    (rw (no_fields_left c.args.fields.now c.loop-field.field-index c.loop-field-test.false) c.put_bytes.ensures)
