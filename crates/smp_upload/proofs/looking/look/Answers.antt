use Rattle.smp_flash.proofs.Passing.{Calls-after}
use Rattle.smp_upload.specs.Moves.{mount_spots}
use Rattle.smp_upload.proofs.Ends.{unformatted_end}
use Rattle.smp_upload.proofs.Looks.{bank_Calls, primary_Calls, secondary_Calls, told_no_record}
use Rattle.smp_upload.proofs.looking.look.Goals as goal

pub returns-in-Err-clause-calls : goal.returns-in-Err-clause-calls
returns-in-Err-clause-calls g c = bank_Calls c.args.layout _ _ _ c.in-Err.ensures.calls

pub returns-in-Err-clause-unformatted : goal.returns-in-Err-clause-unformatted
returns-in-Err-clause-unformatted g c = λ e. told_no_record c.args.layout _ (c.in-Err.ensures.unformatted e)

pub returns-in-Ok-false-clause-calls : goal.returns-in-Ok-false-clause-calls
returns-in-Ok-false-clause-calls g c = unformatted_end _ _ _ c.lost.result.fault c.lost.ensures.fault
    (Calls-after (mount_spots c.args.layout) _ _ _ _ (bank_Calls c.args.layout _ _ _ c.in-Ok.ensures.calls) (primary_Calls c.args.layout _ _ _ c.in-Ok-false.ensures.calls))

pub returns-in-Err-is_good-clause-calls : goal.returns-in-Err-is_good-clause-calls
returns-in-Err-is_good-clause-calls g c = Calls-after (mount_spots c.args.layout) _ _ _ _ (bank_Calls c.args.layout _ _ _ c.in-Ok.ensures.calls) (primary_Calls c.args.layout _ _ _ c.in-Err-is_good.ensures.calls)

pub returns-in-Ok-find_mark-clause-calls : goal.returns-in-Ok-find_mark-clause-calls
returns-in-Ok-find_mark-clause-calls g c =
    let first = Calls-after (mount_spots c.args.layout) _ _ _ _ (bank_Calls c.args.layout _ _ _ c.in-Ok.ensures.calls) (primary_Calls c.args.layout _ _ _ c.in-Ok-true.ensures.calls) in
    Calls-after (mount_spots c.args.layout) _ _ _ _ first (secondary_Calls c.args.layout _ _ _ c.in-Ok-find_mark.ensures.calls)

pub returns-in-Err-find_mark-clause-calls : goal.returns-in-Err-find_mark-clause-calls
returns-in-Err-find_mark-clause-calls g c =
    let first = Calls-after (mount_spots c.args.layout) _ _ _ _ (bank_Calls c.args.layout _ _ _ c.in-Ok.ensures.calls) (primary_Calls c.args.layout _ _ _ c.in-Ok-true.ensures.calls) in
    Calls-after (mount_spots c.args.layout) _ _ _ _ first (secondary_Calls c.args.layout _ _ _ c.in-Err-find_mark.ensures.calls)
