use Rattle.std.proofs.Common.{◌≡◌, ◌∙◌, ℕ, List, Option, Some, refl, sym, subst, arith}
use Rattle.std.specs.Prelude.{IfSome}
use Rattle.sha2.specs.Sha256.{sha256}
use Rattle.smp_flash.specs.Layout.{upload_spots}
use Rattle.smp_flash.proofs.Passing.{Calls-after}
use Rattle.smp_model.specs.declared.image.ImageInfo.{ImageInfo}
use Rattle.smp_model.specs.Image.{good_image}
use Rattle.smp_upload.specs.Moves.{mount_spots}
use Rattle.smp_upload.proofs.Looks.{upload_Calls, secondary_Calls}
use Rattle.smp_upload.proofs.Mounts.{shown_ok, formless_lost, read_lost, mounts_after}
use Rattle.smp_upload.proofs.Resolved.{slot_1_Calls}
use Rattle.smp_upload.proofs.Sights.{told_complete, told_wrong, told_no_image, front_in}
use Rattle.smp_upload.proofs.mounting.find_pending.Goals as goal

pub returns-in-Err : goal.returns-in-Err
returns-in-Err g c =
    let a = c.args in
    read_lost a.layout c.in-Err.lost _ _ (upload_Calls a.layout _ _ _ c.in-Err.ensures.calls) c.sums_of.ensures.kept c.in-Err.ensures.lost c.in-Err.ensures.formatted c.in-Err.ensures.worn

pub returns-in-Err-finish : goal.returns-in-Err-finish
returns-in-Err-finish g c =
    let a = c.args in
    mounts_after a.layout _ _ _ _ (upload_Calls a.layout _ _ _ c.in-Ok.ensures.calls) c.sums_of.ensures.kept
    (read_lost a.layout c.in-Err-finish.lost _ _ (secondary_Calls a.layout _ _ _ c.in-Err-finish.ensures.calls) c.finish.ensures.kept c.in-Err-finish.ensures.lost c.in-Err-finish.ensures.formatted c.in-Err-finish.ensures.worn)

pub returns-then-is_wrong : goal.returns-then-is_wrong
returns-then-is_wrong g c =
    let a = c.args in
    formless_lost a.layout c.lost.result _ _ (Calls-after (mount_spots a.layout) _ _ _ _ (upload_Calls a.layout _ _ _ c.in-Ok.ensures.calls) (secondary_Calls a.layout _ _ _ c.in-Ok-finish.ensures.calls)) (c.finish.ensures.kept ∙ c.sums_of.ensures.kept) c.lost.ensures.layout c.lost.ensures.fault
    (told_wrong c.records_are_told_apart.ensures a.layout a.progress a.mark a.announcement a.announcement.length c.in-Ok-finish.finished.digest _ c.requires.entry (sym c.is_wrong.ensures ∙ c.if-is_wrong.true) (subst (λ (o : Option (List ℕ)). IfSome o (λ held. c.in-Ok-finish.finished.digest ≡ sha256 (front_in a.layout a.announcement.length held))) c.sums_of.ensures.kept c.in-Ok-finish.ensures.digest) c.requires.looked)

pub returns-in-None : goal.returns-in-None
returns-in-None g c =
    let a = c.args in
    formless_lost a.layout c.lost-in-None.result _ _ (Calls-after (mount_spots a.layout) _ _ _ _ (upload_Calls a.layout _ _ _ c.in-Ok.ensures.calls) (secondary_Calls a.layout _ _ _ c.in-Ok-finish.ensures.calls)) (c.finish.ensures.kept ∙ c.sums_of.ensures.kept) c.lost-in-None.ensures.layout c.lost-in-None.ensures.fault
    (told_no_image c.records_are_told_apart.ensures a.layout a.progress a.mark a.announcement a.announcement.length _ c.requires.entry (subst (λ (k : Option ImageInfo). IfSome (g.F.Flash.state c.args.flash.now).bytes (λ held. k ≡ good_image (front_in a.layout a.announcement.length held))) c.in-None.is (subst (λ (o : Option (List ℕ)). IfSome o (λ held. c.in-Ok-finish.finished.image ≡ good_image (front_in a.layout a.announcement.length held))) c.sums_of.ensures.kept c.in-Ok-finish.ensures.image)) c.requires.looked)

pub returns-in-Some : goal.returns-in-Some
returns-in-Some g c =
    let a = c.args in
    shown_ok c.sides_are_told_apart.ensures c.bank_says_what_stands.ensures.generation a.layout a.progress _ _ _ (Calls-after (upload_spots a.layout) _ _ _ _ c.in-Ok.ensures.calls (slot_1_Calls a.layout _ _ _ c.in-Ok-finish.ensures.calls)) (c.finish.ensures.kept ∙ c.sums_of.ensures.kept) refl
    (told_complete c.records_are_told_apart.ensures a.layout a.progress (Some a.mark) a.announcement c.in-Ok-finish.finished.digest (Some c.in-Some.image) _ _ refl c.requires.entry (let most = c.requires.most in omega arith) (sym c.is_wrong.ensures ∙ c.if-is_wrong.false) (λ m. refl) c.requires.looked (subst (λ (o : Option (List ℕ)). IfSome o (λ held. c.in-Ok-finish.finished.digest ≡ sha256 (front_in a.layout a.announcement.length held))) c.sums_of.ensures.kept c.in-Ok-finish.ensures.digest) (subst (λ (k : Option ImageInfo). IfSome (g.F.Flash.state c.args.flash.now).bytes (λ held. k ≡ good_image (front_in a.layout a.announcement.length held))) c.in-Some.is (subst (λ (o : Option (List ℕ)). IfSome o (λ held. c.in-Ok-finish.finished.image ≡ good_image (front_in a.layout a.announcement.length held))) c.sums_of.ensures.kept c.in-Ok-finish.ensures.image)))
