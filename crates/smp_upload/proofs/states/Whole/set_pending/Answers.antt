use Rattle.smp_upload.proofs.Marked.{mark_moved, mark_done, mark_told}
use Rattle.smp_upload.proofs.states.Whole.set_pending.Goals as goal

pub returns-in-Ok-clause-moved : goal.returns-in-Ok-clause-moved
returns-in-Ok-clause-moved g c =
    let s = c.args.self in
    mark_moved c.sides_are_told_apart.ensures c.good_uploads_have_images.ensures s.layout s.progress s.announcement s.image c.args.mark _ _ _ s.most c.requires.good c.requires.says c.in-Ok.ensures.calls c.put_mark.ensures.either

pub returns-in-Ok-clause-done : goal.returns-in-Ok-clause-done
returns-in-Ok-clause-done g c =
    let s = c.args.self in
    mark_done c.sides_are_told_apart.ensures c.good_uploads_have_images.ensures s.layout s.progress s.announcement s.image c.args.mark _ _ s.most c.requires.good c.requires.says c.in-Ok.ensures.calls c.in-Ok.ensures.ok c.in-Ok.ensures.pays

pub returns-in-Ok-clause-says : goal.returns-in-Ok-clause-says
returns-in-Ok-clause-says g c =
    let s = c.args.self in
    mark_told c.sides_are_told_apart.ensures c.good_uploads_have_images.ensures c.progress_outlasts_other_changes.ensures.says s.layout s.progress s.announcement s.image c.unwrap-image.result c.args.mark _ _ s.most c.unwrap-image.ensures c.requires.says c.put_mark.ensures.calls.keeps c.in-Ok.ensures.ok

pub returns-in-Err-clause-moved : goal.returns-in-Err-clause-moved
returns-in-Err-clause-moved g c =
    let s = c.args.self in
    mark_moved c.sides_are_told_apart.ensures c.good_uploads_have_images.ensures s.layout s.progress s.announcement s.image c.args.mark _ _ _ s.most c.requires.good c.requires.says c.in-Err.ensures.calls c.put_mark.ensures.either
