use Rattle.smp_upload.proofs.Erased.{wipe_moved, wipe_done, wipe_told}
use Rattle.smp_upload.proofs.erasing.wipe_slot.Goals as goal

pub returns-in-Ok-clause-moved : goal.returns-in-Ok-clause-moved
returns-in-Ok-clause-moved g c = wipe_moved c.sides_are_told_apart.ensures c.args.layout c.args.progress _ _ _ c.requires.says c.in-Ok.ensures.calls c.wipe_bytes.ensures.fades

pub returns-in-Ok-clause-done : goal.returns-in-Ok-clause-done
returns-in-Ok-clause-done g c = wipe_done c.sides_are_told_apart.ensures c.args.layout c.args.progress _ _ c.requires.says c.in-Ok.ensures.calls c.wipe_bytes.ensures.fades

pub returns-in-Ok-clause-says : goal.returns-in-Ok-clause-says
returns-in-Ok-clause-says g c = wipe_told c.sides_are_told_apart.ensures c.progress_outlasts_other_changes.ensures.says c.args.layout c.args.progress _ _ c.requires.says c.wipe_bytes.ensures.fades

pub returns-in-Err-clause-moved : goal.returns-in-Err-clause-moved
returns-in-Err-clause-moved g c = wipe_moved c.sides_are_told_apart.ensures c.args.layout c.args.progress _ _ _ c.requires.says c.in-Err.ensures.calls c.wipe_bytes.ensures.fades
