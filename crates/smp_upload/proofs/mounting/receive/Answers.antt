use Rattle.std.proofs.Common.{◌∙◌, List, ℕ, Option, sym, subst}
use Rattle.std.specs.Prelude.{IfSome}
use Rattle.smp_flash.proofs.Passing.{Calls-after}
use Rattle.smp_upload.specs.Moves.{mount_spots}
use Rattle.smp_upload.specs.Rescuing.{HeldAs, SumsHeld}
use Rattle.smp_upload.proofs.Looks.{upload_Calls}
use Rattle.smp_upload.proofs.Mounts.{read_lost, worn_lost, mounts_after, no_take}
use Rattle.smp_upload.proofs.Sights.{told_ready, told_sums}
use Rattle.smp_upload.proofs.mounting.receive.Goals as goal

pub returns-in-Err : goal.returns-in-Err
returns-in-Err g c =
    let a = c.args in
    read_lost a.layout c.in-Err.lost _ _ (upload_Calls a.layout _ _ _ c.in-Err.ensures.calls) c.records_needed.ensures.kept c.in-Err.ensures.lost c.in-Err.ensures.formatted c.in-Err.ensures.worn

pub returns-then-not-can_take : goal.returns-then-not-can_take
returns-then-not-can_take g c =
    let a = c.args in
    worn_lost a.layout a.progress c.in-Ok.needed c.lost.result _ _ (upload_Calls a.layout _ _ _ c.in-Ok.ensures.calls) c.records_needed.ensures.kept c.lost.ensures.layout c.lost.ensures.fault
    (λ can. no_take c.can_take.result c.if-not-can_take.true (c.can_take.ensures.1 can))
    (told_ready c.bank_says_what_stands.ensures.generation a.layout a.rescue a.progress a.announcement a.offset c.in-Ok.needed _ c.requires.place c.requires.held c.in-Ok.ensures.needs)

pub make_clean-requires-clause-sums : goal.make_clean-requires-clause-sums
make_clean-requires-clause-sums g c =
    let a = c.args in
    let held = subst (λ (o : Option (List ℕ)). IfSome o (HeldAs a.layout a.rescue a.progress a.announcement a.offset)) (sym c.records_needed.ensures.kept) c.requires.held in
    subst (λ (o : Option (List ℕ)). IfSome o (SumsHeld a.layout c.in-Ok-sums_of.sums)) (sym c.sums_of.ensures.kept)
    (told_sums c.sides_are_told_apart.ensures a.layout a.rescue a.progress a.announcement a.offset c.in-Ok-sums_of.sums _ held c.in-Ok-sums_of.ensures.sums)

pub returns-in-Ok-sums_of : goal.returns-in-Ok-sums_of
returns-in-Ok-sums_of g c =
    let a = c.args in
    mounts_after a.layout _ _ _ _ (Calls-after (mount_spots a.layout) _ _ _ _ (upload_Calls a.layout _ _ _ c.in-Ok.ensures.calls) (upload_Calls a.layout _ _ _ c.in-Ok-sums_of.ensures.calls)) (c.sums_of.ensures.kept ∙ c.records_needed.ensures.kept) c.make_clean.ensures

pub returns-in-Err-sums_of : goal.returns-in-Err-sums_of
returns-in-Err-sums_of g c =
    let a = c.args in
    mounts_after a.layout _ _ _ _ (upload_Calls a.layout _ _ _ c.in-Ok.ensures.calls) c.records_needed.ensures.kept
    (read_lost a.layout c.in-Err-sums_of.lost _ _ (upload_Calls a.layout _ _ _ c.in-Err-sums_of.ensures.calls) c.sums_of.ensures.kept c.in-Err-sums_of.ensures.lost c.in-Err-sums_of.ensures.formatted c.in-Err-sums_of.ensures.worn)
