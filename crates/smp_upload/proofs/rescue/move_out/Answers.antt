use Rattle.std.proofs.Common.{arith}
use Rattle.smp_upload.proofs.Putting.{either_of, holds_of}
use Rattle.smp_upload.proofs.Stored.{put_pays}
use Rattle.smp_upload.proofs.Rescued.{Inner, out_Calls, then_sides, told_out_ages, then_ages, more_ages, told_out_says, told_out_torn, told_out_moves, told_out_flags}
use Rattle.smp_upload.proofs.rescue.move_out.Goals as goal

pub returns-in-Err-clause-calls : goal.returns-in-Err-clause-calls
returns-in-Err-clause-calls g c =
    let a = c.args in
    let i : Inner a.layout a.offset = (record { some = c.requires.inner; inside = (let most = c.requires.most in let below = c.requires.below in omega arith) }) in
    out_Calls a.layout a.offset _ _ _ i c.in-Err.ensures.calls

pub returns-in-Err-clause-moves : goal.returns-in-Err-clause-moves
returns-in-Err-clause-moves g c =
    let a = c.args in
    let i : Inner a.layout a.offset = (record { some = c.requires.inner; inside = (let most = c.requires.most in let below = c.requires.below in omega arith) }) in
    told_out_torn c.sides_are_told_apart.ensures a.layout a.progress a.announcement a.offset _ _ i c.requires.held c.move_to_scratch.ensures.keeps

pub returns-in-Err-clause-ages : goal.returns-in-Err-clause-ages
returns-in-Err-clause-ages g c =
    let a = c.args in
    let i : Inner a.layout a.offset = (record { some = c.requires.inner; inside = (let most = c.requires.most in let below = c.requires.below in omega arith) }) in
    more_ages a.layout 0 1 _ _ (omega arith) (told_out_ages a.layout _ _ c.move_to_scratch.ensures.keeps)

pub put_record-requires-clause-says : goal.put_record-requires-clause-says
put_record-requires-clause-says g c =
    let a = c.args in
    let i : Inner a.layout a.offset = (record { some = c.requires.inner; inside = (let most = c.requires.most in let below = c.requires.below in omega arith) }) in
    told_out_says c.progress_outlasts_other_changes.ensures.says a.layout a.progress a.announcement a.offset _ _ c.requires.place c.requires.held c.move_to_scratch.ensures.keeps

pub returns-in-Ok-clause-calls : goal.returns-in-Ok-clause-calls
returns-in-Ok-clause-calls g c =
    let a = c.args in
    let i : Inner a.layout a.offset = (record { some = c.requires.inner; inside = (let most = c.requires.most in let below = c.requires.below in omega arith) }) in
    then_sides a.layout _ _ _ _ (out_Calls a.layout a.offset _ _ _ i c.in_default.ensures.calls) c.in-Ok.ensures.calls

pub returns-in-Ok-clause-moves : goal.returns-in-Ok-clause-moves
returns-in-Ok-clause-moves g c =
    let a = c.args in
    let i : Inner a.layout a.offset = (record { some = c.requires.inner; inside = (let most = c.requires.most in let below = c.requires.below in omega arith) }) in
    told_out_moves c.sides_are_told_apart.ensures a.layout a.progress a.announcement a.offset _ _ _ i c.requires.held c.in_default.ensures.ok c.put_record.ensures.calls.keeps (either_of a.layout _ _ _ _ c.rescue_record-entry.ensures.entry c.put_record.ensures.either)

pub returns-in-Ok-clause-ages : goal.returns-in-Ok-clause-ages
returns-in-Ok-clause-ages g c =
    let a = c.args in
    let i : Inner a.layout a.offset = (record { some = c.requires.inner; inside = (let most = c.requires.most in let below = c.requires.below in omega arith) }) in
    then_ages a.layout 0 1 _ _ _ (told_out_ages a.layout _ _ c.move_to_scratch.ensures.keeps) c.put_record.ensures.ages

pub returns-in-Err-put_record-clause-calls : goal.returns-in-Err-put_record-clause-calls
returns-in-Err-put_record-clause-calls g c =
    let a = c.args in
    let i : Inner a.layout a.offset = (record { some = c.requires.inner; inside = (let most = c.requires.most in let below = c.requires.below in omega arith) }) in
    then_sides a.layout _ _ _ _ (out_Calls a.layout a.offset _ _ _ i c.in_default.ensures.calls) c.in-Err-put_record.ensures.calls

pub returns-in-Err-put_record-clause-moves : goal.returns-in-Err-put_record-clause-moves
returns-in-Err-put_record-clause-moves g c =
    let a = c.args in
    let i : Inner a.layout a.offset = (record { some = c.requires.inner; inside = (let most = c.requires.most in let below = c.requires.below in omega arith) }) in
    told_out_moves c.sides_are_told_apart.ensures a.layout a.progress a.announcement a.offset _ _ _ i c.requires.held c.in_default.ensures.ok c.put_record.ensures.calls.keeps (either_of a.layout _ _ _ _ c.rescue_record-entry.ensures.entry c.put_record.ensures.either)

pub returns-in-Err-put_record-clause-ages : goal.returns-in-Err-put_record-clause-ages
returns-in-Err-put_record-clause-ages g c =
    let a = c.args in
    let i : Inner a.layout a.offset = (record { some = c.requires.inner; inside = (let most = c.requires.most in let below = c.requires.below in omega arith) }) in
    then_ages a.layout 0 1 _ _ _ (told_out_ages a.layout _ _ c.move_to_scratch.ensures.keeps) c.put_record.ensures.ages

pub returns-in-Ok-clause-flags : goal.returns-in-Ok-clause-flags
returns-in-Ok-clause-flags g c =
    let a = c.args in
    let i : Inner a.layout a.offset = (record { some = c.requires.inner; inside = (let most = c.requires.most in let below = c.requires.below in omega arith) }) in
    told_out_flags c.sides_are_told_apart.ensures a.layout a.progress a.announcement a.offset _ _ _ i c.requires.held c.in_default.ensures.ok c.put_record.ensures.calls.keeps (holds_of a.layout _ _ _ c.rescue_record-entry.ensures.entry c.in-Ok.ensures.holds)

pub returns-in-Ok-clause-pays : goal.returns-in-Ok-clause-pays
returns-in-Ok-clause-pays g c =
    let a = c.args in
    let i : Inner a.layout a.offset = (record { some = c.requires.inner; inside = (let most = c.requires.most in let below = c.requires.below in omega arith) }) in
    put_pays a.layout (g.F.Flash.state c.args.flash.now) (g.F.Flash.state c.move_to_scratch.new.flash) (g.F.Flash.state c.put_record.new.flash) c.in_default.ensures.calls.passes c.in-Ok.ensures.pays
