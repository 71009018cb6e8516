use Rattle.std.proofs.Common.{arith, true}
use Rattle.smp_upload.proofs.Parted.{told_partial_says}
use Rattle.smp_upload.proofs.Restored.{still_moved, back_done, told_back_filled}
use Rattle.smp_upload.proofs.restoring.end_rescue.Goals as goal

pub returns-in-Err-clause-moved : goal.returns-in-Err-clause-moved
returns-in-Err-clause-moved g c = let a = c.args in still_moved a.layout true a.progress a.announcement a.offset 1 _ _ _ (omega arith) c.requires.held c.in-Err.ensures.calls c.bring_back.ensures.moves c.bring_back.ensures.ages

pub returns-in-Ok-clause-moved : goal.returns-in-Ok-clause-moved
returns-in-Ok-clause-moved g c = let a = c.args in still_moved a.layout true a.progress a.announcement a.offset 1 _ _ _ (omega arith) c.requires.held c.in-Ok.ensures.calls c.bring_back.ensures.moves c.bring_back.ensures.ages

pub returns-in-Ok-clause-done : goal.returns-in-Ok-clause-done
returns-in-Ok-clause-done g c =
    let a = c.args in
    back_done c.sides_are_told_apart.ensures a.layout a.progress c.in-Ok.next a.announcement a.offset a.sums _ _ c.requires.below c.requires.held c.in-Ok.ensures.calls c.in-Ok.ensures.flags
    (told_back_filled a.layout a.progress c.in-Ok.next a.announcement a.offset a.sums _ _ c.requires.held c.requires.sums c.in-Ok.ensures.flags c.in-Ok.ensures.clean c.in-Ok.ensures.says) c.bring_back.ensures.ages

pub returns-in-Ok-clause-says : goal.returns-in-Ok-clause-says
returns-in-Ok-clause-says g c =
    let a = c.args in
    told_partial_says c.sides_are_told_apart.ensures a.layout c.in-Ok.next a.announcement a.offset a.sums _ c.in-Ok.ensures.next.0 c.requires.below
    (told_back_filled a.layout a.progress c.in-Ok.next a.announcement a.offset a.sums _ _ c.requires.held c.requires.sums c.in-Ok.ensures.flags c.in-Ok.ensures.clean c.in-Ok.ensures.says)
