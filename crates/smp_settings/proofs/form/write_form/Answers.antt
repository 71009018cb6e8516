use Rattle.std.proofs.Common.{ap, length, arith}
use Rattle.smp_model.specs.Settings.{stored_form}
use Rattle.smp_settings.proofs.Forms.{form_room}
use Rattle.smp_settings.proofs.form.write_form.Goals as goal

pub put_setting-requires : goal.put_setting-requires
put_setting-requires c =
    let room = form_room c.loop-entry.entry-index c.as_slice-entry-items.result.now c.entry-item.result c.loop-entry-test.true c.entry-item.is in
    let same = ap (λ s. length (stored_form s)) c.as_slice-entry-items.ensures.value in
    let held = ap length c.loop-entry.invariant in
    omega (arith, room, same, held, c.requires)
