use Rattle.std.proofs.Common.{subst}
use Rattle.std.proofs.lemmas.Result.{on_ok_weaker}
use Rattle.smp_flash.proofs.Passing.{Smaller-then}
use Rattle.smp_progress.specs.State.{CanTake}
use Rattle.smp_upload.specs.Erasing.{records_if}
use Rattle.smp_upload.proofs.Erased.{erase_moved, erase_done, erase_reads, erase_changes, erase_erases, first_reads, first_changes, first_erases, slot_dirty}
use Rattle.smp_upload.proofs.erasing.erase_all.Goals as goal

pub returns-in-Ok-clause-moved : goal.returns-in-Ok-clause-moved
returns-in-Ok-clause-moved g c = erase_moved c.args.layout (records_if c.args.there) _ _ _ _ c.in-Ok.ensures.done c.wipe_slot.ensures.moved

pub returns-in-Ok-clause-done : goal.returns-in-Ok-clause-done
returns-in-Ok-clause-done g c = on_ok_weaker c.wipe_slot.result (λ done. erase_done c.args.layout (records_if c.args.there) _ _ _ c.in-Ok.ensures.done done) c.wipe_slot.ensures.done

pub returns-in-Ok-clause-reads : goal.returns-in-Ok-clause-reads
returns-in-Ok-clause-reads g c = erase_reads c.args.there _ _ _ _ c.drop_upload.ensures.reads c.wipe_slot.ensures.reads

pub returns-in-Ok-clause-changes : goal.returns-in-Ok-clause-changes
returns-in-Ok-clause-changes g c = erase_changes c.args.there _ _ _ _ c.drop_upload.ensures.changes c.wipe_slot.ensures.changes

pub returns-in-Ok-clause-erases : goal.returns-in-Ok-clause-erases
returns-in-Ok-clause-erases g c = erase_erases c.args.layout c.args.there _ _ _ _ _ c.drop_upload.ensures.keeps c.drop_upload.ensures.changes c.wipe_slot.ensures.erases

pub returns-in-Ok-clause-fresh : goal.returns-in-Ok-clause-fresh
returns-in-Ok-clause-fresh g c =
    let can : CanTake c.args.progress.bank.generation c.records_for.result = c.can_take.ensures.0 c.if-not-can_take.false in
    on_ok_weaker c.wipe_slot.result (λ done. subst (CanTake c.args.progress.bank.generation) c.records_for.ensures can) c.wipe_slot.ensures.done

pub returns-in-Ok-clause-spends : goal.returns-in-Ok-clause-spends
returns-in-Ok-clause-spends g c = on_ok_weaker c.wipe_slot.result (λ done some aims. Smaller-then (g.F.Flash.state c.args.flash.now).patience (g.F.Flash.state c.drop_upload.new.flash).patience (g.F.Flash.state c.wipe_slot.new.flash).patience (c.in-Ok.ensures.pays some aims) done.calls.passes.patience) c.wipe_slot.ensures.done

pub returns-in-Err-clause-reads : goal.returns-in-Err-clause-reads
returns-in-Err-clause-reads g c = first_reads c.args.there _ _ _ c.drop_upload.ensures.reads

pub returns-in-Err-clause-changes : goal.returns-in-Err-clause-changes
returns-in-Err-clause-changes g c = first_changes c.args.there _ _ _ c.drop_upload.ensures.changes

pub returns-in-Err-clause-erases : goal.returns-in-Err-clause-erases
returns-in-Err-clause-erases g c = first_erases c.args.there (slot_dirty c.args.layout) _ _ _ c.drop_upload.ensures.changes
