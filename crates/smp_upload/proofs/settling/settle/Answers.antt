use Rattle.std.proofs.Common.{◌∙◌, refl, sym, true, false}
use Rattle.std.proofs.lemmas.Result.{on_ok_weaker}
use Rattle.smp_flash.specs.Layout.{upload_spots}
use Rattle.smp_flash.proofs.Passing.{reads_add}
use Rattle.smp_upload.proofs.Resolved.{read_moved, slot_1_Calls, moved_after, done_after, told_spoils, told_held, whole_done, told_whole, said_whole, told_carries}
use Rattle.smp_upload.proofs.settling.settle.Goals as goal

pub returns-in-Err-clause-moved : goal.returns-in-Err-clause-moved
returns-in-Err-clause-moved g c = read_moved c.args.layout (upload_spots c.args.layout) 1 _ _ _ _ (slot_1_Calls c.args.layout _ _ _ c.in-Err.ensures.calls) c.finish.ensures.kept

pub give_up-requires-clause-held : goal.give_up-requires-clause-held
give_up-requires-clause-held g c = told_held c.args.layout c.args.progress c.args.announcement _ c.args.sums _ _ c.finish.ensures.kept c.requires.filled

pub give_up-requires-clause-wrong : goal.give_up-requires-clause-wrong
give_up-requires-clause-wrong g c = told_spoils c.sides_are_told_apart.ensures c.args.layout c.args.progress c.args.announcement c.in-Ok.finished.digest true _ _ (told_held c.args.layout c.args.progress c.args.announcement _ c.args.sums _ _ refl c.requires.filled) c.in-Ok.ensures.digest (sym c.is_wrong.ensures ∙ c.if-is_wrong.true) c.finish.ensures.kept

pub returns-then-is_wrong-clause-moved : goal.returns-then-is_wrong-clause-moved
returns-then-is_wrong-clause-moved g c = moved_after c.args.layout (upload_spots c.args.layout) 1 _ _ _ _ _ (slot_1_Calls c.args.layout _ _ _ c.in-Ok.ensures.calls) c.finish.ensures.kept c.give_up.ensures.moved

pub returns-then-is_wrong-clause-done : goal.returns-then-is_wrong-clause-done
returns-then-is_wrong-clause-done g c = on_ok_weaker c.give_up.result (λ done. done_after c.args.layout (upload_spots c.args.layout) 1 _ _ _ _ (slot_1_Calls c.args.layout _ _ _ c.in-Ok.ensures.calls) c.finish.ensures.kept done) c.give_up.ensures.done

pub returns-clause-moved : goal.returns-clause-moved
returns-clause-moved g c = read_moved c.args.layout (upload_spots c.args.layout) 1 _ _ _ _ (slot_1_Calls c.args.layout _ _ _ c.in-Ok.ensures.calls) c.finish.ensures.kept

pub returns-clause-done : goal.returns-clause-done
returns-clause-done g c =
    let one = c.sides_are_told_apart.ensures in
    let right = told_spoils one c.args.layout c.args.progress c.args.announcement c.in-Ok.finished.digest false _ _ (told_held c.args.layout c.args.progress c.args.announcement _ c.args.sums _ _ refl c.requires.filled) c.in-Ok.ensures.digest (sym c.is_wrong.ensures ∙ c.if-is_wrong.false) refl in
    whole_done one c.args.layout c.args.progress c.args.announcement _ c.args.sums _ _ c.requires.filled right (slot_1_Calls c.args.layout _ _ _ c.in-Ok.ensures.calls) c.finish.ensures.kept

pub returns-clause-says : goal.returns-clause-says
returns-clause-says g c =
    let one = c.sides_are_told_apart.ensures in
    let right = told_spoils one c.args.layout c.args.progress c.args.announcement c.in-Ok.finished.digest false _ _ (told_held c.args.layout c.args.progress c.args.announcement _ c.args.sums _ _ refl c.requires.filled) c.in-Ok.ensures.digest (sym c.is_wrong.ensures ∙ c.if-is_wrong.false) refl in
    told_whole one c.args.layout c.args.progress c.args.announcement c.args.sums _ _ _ c.requires.place c.requires.filled right c.in-Ok.ensures.image c.finish.ensures.kept

pub returns-clause-said : goal.returns-clause-said
returns-clause-said g c =
    let one = c.sides_are_told_apart.ensures in
    let held = told_held c.args.layout c.args.progress c.args.announcement _ c.args.sums _ _ refl c.requires.filled in
    let right = told_spoils one c.args.layout c.args.progress c.args.announcement c.in-Ok.finished.digest false _ _ held c.in-Ok.ensures.digest (sym c.is_wrong.ensures ∙ c.if-is_wrong.false) refl in
    said_whole one c.args.layout c.args.progress c.args.announcement false _ _ held right c.matched.ensures

pub finish-requires-clause-carries : goal.finish-requires-clause-carries
finish-requires-clause-carries g c = told_carries c.args.layout c.args.progress c.args.announcement _ c.args.sums _ c.requires.filled

pub returns-then-is_wrong-clause-reads : goal.returns-then-is_wrong-clause-reads
returns-then-is_wrong-clause-reads g c = reads_add 131102 4096 _ _ _ c.finish.ensures.reads c.give_up.ensures.reads
