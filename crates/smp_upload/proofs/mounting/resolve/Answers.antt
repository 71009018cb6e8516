use Rattle.std.proofs.Common.{◌≡◌, ◌∙◌, ℕ, List, Option, None, true, false, refl, sym, subst, arith}
use Rattle.std.specs.Prelude.{IfSome}
use Rattle.sha2.specs.Sha256.{sha256}
use Rattle.smp_flash.specs.Layout.{upload_spots}
use Rattle.smp_flash.proofs.Passing.{Calls-after}
use Rattle.smp_model.specs.Image.{good_image}
use Rattle.smp_upload.specs.Moves.{mount_spots}
use Rattle.smp_upload.specs.Rescuing.{HeldAs}
use Rattle.smp_upload.proofs.Looks.{upload_Calls, secondary_Calls}
use Rattle.smp_upload.proofs.Mounts.{shown_ok, read_lost, mounts_after}
use Rattle.smp_upload.proofs.Resolved.{slot_1_Calls, told_spoils}
use Rattle.smp_upload.proofs.Sights.{told_complete, told_held_by, front_in}
use Rattle.smp_upload.proofs.mounting.resolve.Goals as goal

pub returns-in-Err : goal.returns-in-Err
returns-in-Err g c =
    let a = c.args in
    read_lost a.layout c.in-Err.lost _ _ (upload_Calls a.layout _ _ _ c.in-Err.ensures.calls) c.sums_of.ensures.kept c.in-Err.ensures.lost c.in-Err.ensures.formatted c.in-Err.ensures.worn

pub returns-in-Err-finish : goal.returns-in-Err-finish
returns-in-Err-finish g c =
    let a = c.args in
    mounts_after a.layout _ _ _ _ (upload_Calls a.layout _ _ _ c.in-Ok.ensures.calls) c.sums_of.ensures.kept
    (read_lost a.layout c.in-Err-finish.lost _ _ (secondary_Calls a.layout _ _ _ c.in-Err-finish.ensures.calls) c.finish.ensures.kept c.in-Err-finish.ensures.lost c.in-Err-finish.ensures.formatted c.in-Err-finish.ensures.worn)

pub returns-then-is_wrong : goal.returns-then-is_wrong
returns-then-is_wrong g c =
    let a = c.args in
    mounts_after a.layout _ _ _ _ (Calls-after (mount_spots a.layout) _ _ _ _ (upload_Calls a.layout _ _ _ c.in-Ok.ensures.calls) (secondary_Calls a.layout _ _ _ c.in-Ok-finish.ensures.calls)) (c.finish.ensures.kept ∙ c.sums_of.ensures.kept) c.give_up.ensures

pub returns : goal.returns
returns g c =
    let a = c.args in
    shown_ok c.sides_are_told_apart.ensures c.bank_says_what_stands.ensures.generation a.layout a.progress _ _ _ (Calls-after (upload_spots a.layout) _ _ _ _ c.in-Ok.ensures.calls (slot_1_Calls a.layout _ _ _ c.in-Ok-finish.ensures.calls)) (c.finish.ensures.kept ∙ c.sums_of.ensures.kept) refl
    (told_complete c.records_are_told_apart.ensures a.layout a.progress None a.announcement c.in-Ok-finish.finished.digest c.in-Ok-finish.finished.image _ _ refl c.requires.entry (let most = c.requires.most in omega arith) (sym c.is_wrong.ensures ∙ c.if-is_wrong.false) (λ m. absurd (cc m)) c.requires.looked (subst (λ (o : Option (List ℕ)). IfSome o (λ held. c.in-Ok-finish.finished.digest ≡ sha256 (front_in a.layout a.announcement.length held))) c.sums_of.ensures.kept c.in-Ok-finish.ensures.digest) (subst (λ (o : Option (List ℕ)). IfSome o (λ held. c.in-Ok-finish.finished.image ≡ good_image (front_in a.layout a.announcement.length held))) c.sums_of.ensures.kept c.in-Ok-finish.ensures.image))

pub give_up-requires-clause-held : goal.give_up-requires-clause-held
give_up-requires-clause-held g c =
    let a = c.args in
    subst (λ (o : Option (List ℕ)). IfSome o (HeldAs a.layout false a.progress a.announcement a.announcement.length)) (sym (c.finish.ensures.kept ∙ c.sums_of.ensures.kept)) (told_held_by a.layout false a.progress a.announcement a.announcement.length _ c.requires.entry (let most = c.requires.most in omega arith) c.requires.looked)

pub give_up-requires-clause-wrong : goal.give_up-requires-clause-wrong
give_up-requires-clause-wrong g c =
    let a = c.args in
    told_spoils c.sides_are_told_apart.ensures a.layout a.progress a.announcement c.in-Ok-finish.finished.digest true _ _ (told_held_by a.layout false a.progress a.announcement a.announcement.length _ c.requires.entry (let most = c.requires.most in omega arith) c.requires.looked) (subst (λ (o : Option (List ℕ)). IfSome o (λ held. c.in-Ok-finish.finished.digest ≡ sha256 (front_in a.layout a.announcement.length held))) c.sums_of.ensures.kept c.in-Ok-finish.ensures.digest) (sym c.is_wrong.ensures ∙ c.if-is_wrong.true) (c.finish.ensures.kept ∙ c.sums_of.ensures.kept)
