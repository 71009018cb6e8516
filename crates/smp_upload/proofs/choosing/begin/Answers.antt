use Rattle.smp_upload.proofs.Begun.{choose_moved, choose_done, choose_told, free_says}
use Rattle.smp_upload.proofs.Putting.{either_of, holds_of}
use Rattle.smp_upload.proofs.choosing.begin.Goals as goal

pub put_record-requires-clause-says : goal.put_record-requires-clause-says
put_record-requires-clause-says g c = free_says c.args.layout c.args.progress _ c.requires.free

pub returns-in-Ok-clause-moved : goal.returns-in-Ok-clause-moved
returns-in-Ok-clause-moved g c = choose_moved c.sides_are_told_apart.ensures c.args.layout c.args.progress c.args.announcement.now _ _ _ c.requires.free c.in-Ok.ensures.calls (either_of c.args.layout _ _ _ _ c.record_at-entry.ensures.entry c.put_record.ensures.either) c.put_record.ensures.ages

pub returns-in-Ok-clause-done : goal.returns-in-Ok-clause-done
returns-in-Ok-clause-done g c = choose_done c.sides_are_told_apart.ensures c.args.layout c.args.progress c.args.announcement.now _ _ c.requires.least c.requires.free c.in-Ok.ensures.calls (holds_of c.args.layout _ _ _ c.record_at-entry.ensures.entry c.in-Ok.ensures.holds) c.put_record.ensures.ages c.in-Ok.ensures.pays

pub returns-in-Ok-clause-says : goal.returns-in-Ok-clause-says
returns-in-Ok-clause-says g c = choose_told c.args.layout c.args.progress c.in-Ok.next c.args.announcement.now c.new.result _ _ c.requires.least c.in-Ok.ensures.next.0 c.new.ensures c.requires.free c.in-Ok.ensures.calls.keeps (holds_of c.args.layout _ _ _ c.record_at-entry.ensures.entry c.in-Ok.ensures.holds) c.in-Ok.ensures.says

pub returns-in-Err-clause-moved : goal.returns-in-Err-clause-moved
returns-in-Err-clause-moved g c = choose_moved c.sides_are_told_apart.ensures c.args.layout c.args.progress c.args.announcement.now _ _ _ c.requires.free c.in-Err.ensures.calls (either_of c.args.layout _ _ _ _ c.record_at-entry.ensures.entry c.put_record.ensures.either) c.put_record.ensures.ages
