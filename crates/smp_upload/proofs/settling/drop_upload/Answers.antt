use Rattle.smp_upload.proofs.Resolved.{drop_moved, drop_done, told_dropped, told_settled, told_held_says}
use Rattle.smp_upload.proofs.settling.drop_upload.Goals as goal

pub put_record-requires-clause-says : goal.put_record-requires-clause-says
put_record-requires-clause-says g c = told_held_says c.args.layout _ c.args.progress c.args.announcement c.args.announcement.length _ c.requires.held

pub returns-in-Ok-clause-moved : goal.returns-in-Ok-clause-moved
returns-in-Ok-clause-moved g c = drop_moved c.sides_are_told_apart.ensures c.args.layout c.args.progress c.args.announcement _ _ _ c.requires.held c.requires.wrong c.in-Ok.ensures.calls c.put_record.ensures.either c.put_record.ensures.ages

pub returns-in-Ok-clause-done : goal.returns-in-Ok-clause-done
returns-in-Ok-clause-done g c = drop_done c.sides_are_told_apart.ensures c.args.layout c.args.progress c.args.announcement _ _ c.requires.held c.requires.wrong c.in-Ok.ensures.calls c.in-Ok.ensures.holds c.put_record.ensures.ages c.in-Ok.ensures.pays

pub returns-in-Ok-clause-settled : goal.returns-in-Ok-clause-settled
returns-in-Ok-clause-settled g c = told_settled c.args.layout _ _ c.requires.wrong c.put_record.ensures.ages

pub returns-in-Ok-clause-says : goal.returns-in-Ok-clause-says
returns-in-Ok-clause-says g c = told_dropped c.args.layout c.args.progress c.in-Ok.next c.args.announcement _ _ c.in-Ok.ensures.next.0 c.requires.held c.put_record.ensures.calls.keeps c.in-Ok.ensures.holds c.in-Ok.ensures.says

pub returns-in-Err-clause-moved : goal.returns-in-Err-clause-moved
returns-in-Err-clause-moved g c = drop_moved c.sides_are_told_apart.ensures c.args.layout c.args.progress c.args.announcement _ _ _ c.requires.held c.requires.wrong c.in-Err.ensures.calls c.put_record.ensures.either c.put_record.ensures.ages

pub returns-in-Err-clause-settled : goal.returns-in-Err-clause-settled
returns-in-Err-clause-settled g c = told_settled c.args.layout _ _ c.requires.wrong c.put_record.ensures.ages
