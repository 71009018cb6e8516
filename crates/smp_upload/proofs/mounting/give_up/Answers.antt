use Rattle.std.proofs.Common.{false, refl, arith}
use Rattle.smp_flash.proofs.Passing.{Calls-refl}
use Rattle.smp_upload.proofs.Mounts.{changed_ok, changed_lost, worn_lost, no_take}
use Rattle.smp_upload.proofs.Sights.{told_ready, told_spoiled_needs}
use Rattle.smp_upload.proofs.mounting.give_up.Goals as goal

pub returns-then-not-can_take : goal.returns-then-not-can_take
returns-then-not-can_take g c =
    let a = c.args in
    worn_lost a.layout a.progress 1 c.lost.result _ _ (Calls-refl _ _) refl c.lost.ensures.layout c.lost.ensures.fault (λ can. no_take c.can_take.result c.if-not-can_take.true (c.can_take.ensures.1 can)) (told_ready c.bank_says_what_stands.ensures.generation a.layout false a.progress a.announcement a.announcement.length 1 _ c.requires.place c.requires.held (told_spoiled_needs c.records_are_told_apart.ensures a.layout a.progress a.announcement _ c.requires.held c.requires.wrong))

pub returns-in-Ok : goal.returns-in-Ok
returns-in-Ok g c =
    let a = c.args in
    changed_ok a.layout a.progress 1 _ _ _ c.in-Ok.ensures.done (omega arith) (c.can_take.ensures.0 c.if-not-can_take.false) (λ some. c.in-Ok.ensures.pays) c.in-Ok.ensures.says c.in-Ok.ensures.layout (told_ready c.bank_says_what_stands.ensures.generation a.layout false a.progress a.announcement a.announcement.length 1 _ c.requires.place c.requires.held (told_spoiled_needs c.records_are_told_apart.ensures a.layout a.progress a.announcement _ c.requires.held c.requires.wrong))

pub returns-in-Err : goal.returns-in-Err
returns-in-Err g c =
    let a = c.args in
    changed_lost a.layout a.progress 1 c.in-Err.lost _ _ c.in-Err.ensures.moved (omega arith) c.in-Err.ensures.lost c.in-Err.ensures.formatted c.in-Err.ensures.worn (told_ready c.bank_says_what_stands.ensures.generation a.layout false a.progress a.announcement a.announcement.length 1 _ c.requires.place c.requires.held (told_spoiled_needs c.records_are_told_apart.ensures a.layout a.progress a.announcement _ c.requires.held c.requires.wrong))
