use Rattle.smp_upload.proofs.Erased.{drop_moved, drop_done, drop_told, none_done}
use Rattle.smp_upload.proofs.erasing.drop_upload.Goals as goal

pub returns-then-not-there-clause-done : goal.returns-then-not-there-clause-done
returns-then-not-there-clause-done g c = none_done c.sides_are_told_apart.ensures c.args.layout c.args.progress c.args.there _ c.if-not-there.true c.requires.free

pub returns-in-Ok-clause-moved : goal.returns-in-Ok-clause-moved
returns-in-Ok-clause-moved g c = drop_moved c.sides_are_told_apart.ensures c.args.layout c.args.progress c.args.there _ _ _ c.if-not-there.false c.requires.free c.in-Ok.ensures.calls c.put_record.ensures.either c.put_record.ensures.ages

pub returns-in-Ok-clause-done : goal.returns-in-Ok-clause-done
returns-in-Ok-clause-done g c = drop_done c.sides_are_told_apart.ensures c.args.layout c.args.progress c.args.there _ _ c.if-not-there.false c.requires.free c.in-Ok.ensures.calls c.in-Ok.ensures.holds c.put_record.ensures.ages c.in-Ok.ensures.pays

pub returns-in-Ok-clause-gone : goal.returns-in-Ok-clause-gone
returns-in-Ok-clause-gone g c = drop_told c.args.layout c.args.progress c.in-Ok.next c.args.there _ _ c.in-Ok.ensures.next.0 c.requires.free c.put_record.ensures.calls.keeps c.in-Ok.ensures.holds c.in-Ok.ensures.says

pub returns-in-Err-clause-moved : goal.returns-in-Err-clause-moved
returns-in-Err-clause-moved g c = drop_moved c.sides_are_told_apart.ensures c.args.layout c.args.progress c.args.there _ _ _ c.if-not-there.false c.requires.free c.in-Err.ensures.calls c.put_record.ensures.either c.put_record.ensures.ages
