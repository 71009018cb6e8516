use Rattle.std.proofs.Common.{◌≡◌, ℕ, Bool, false, refl, subst, arith}
use Rattle.std.specs.Prelude.{IfSome}
use Rattle.smp_flash.proofs.Passing.{Calls-refl}
use Rattle.smp_progress.specs.State.{CanTake}
use Rattle.smp_upload.specs.Rescuing.{HeldAs, NeedsJust}
use Rattle.smp_upload.proofs.Mounts.{Ready, shown_ok, changed_ok, changed_lost}
use Rattle.smp_upload.proofs.Sights.{told_partial_shown, told_ready}
use Rattle.smp_upload.proofs.mounting.make_clean.Goals as goal

pub returns-then-needed-eq0 : goal.returns-then-needed-eq0
returns-then-needed-eq0 g c =
    let a = c.args in
    let plain : a.rescue ≡ false = c.requires.plain (λ e. omega (arith, e, c.if-needed-eq0.true)) in
    let held = subst (λ (b : Bool). IfSome (g.F.Flash.state c.args.flash.now).bytes (HeldAs a.layout b a.progress a.announcement a.offset)) plain c.requires.held in
    let needs = subst (λ (n : ℕ). IfSome (g.F.Flash.state c.args.flash.now).bytes (NeedsJust a.layout n)) c.if-needed-eq0.true c.requires.needs in
    shown_ok c.sides_are_told_apart.ensures c.bank_says_what_stands.ensures.generation a.layout a.progress _ _ _ (Calls-refl _ _) refl refl
    (told_partial_shown c.records_are_told_apart.ensures a.layout a.progress a.announcement a.offset a.sums _ _ refl c.requires.place c.requires.below held (c.requires.clean c.if-needed-eq0.true) c.requires.sums needs)

pub returns-in-Ok : goal.returns-in-Ok
returns-in-Ok g c =
    let a = c.args in
    let is : a.needed ≡ 1 = c.if-needed-eq1.true in
    let ready = subst (λ (k : ℕ). IfSome (g.F.Flash.state c.args.flash.now).bytes (Ready a.layout a.progress k)) is (told_ready c.bank_says_what_stands.ensures.generation a.layout a.rescue a.progress a.announcement a.offset a.needed _ c.requires.place c.requires.held c.requires.needs) in
    let can = subst (CanTake a.progress.bank.generation) is c.requires.room in
    changed_ok a.layout a.progress 1 _ _ _ c.in-Ok.ensures.done (omega arith) can (λ some. c.in-Ok.ensures.spends) c.in-Ok.ensures.says c.in-Ok.ensures.layout ready

pub returns-in-Err : goal.returns-in-Err
returns-in-Err g c =
    let a = c.args in
    let is : a.needed ≡ 1 = c.if-needed-eq1.true in
    let ready = subst (λ (k : ℕ). IfSome (g.F.Flash.state c.args.flash.now).bytes (Ready a.layout a.progress k)) is (told_ready c.bank_says_what_stands.ensures.generation a.layout a.rescue a.progress a.announcement a.offset a.needed _ c.requires.place c.requires.held c.requires.needs) in
    let can = subst (CanTake a.progress.bank.generation) is c.requires.room in
    changed_lost a.layout a.progress 1 c.in-Err.lost _ _ c.in-Err.ensures.moved (omega arith) c.in-Err.ensures.lost c.in-Err.ensures.formatted c.in-Err.ensures.worn ready

pub returns-in-Ok-restore : goal.returns-in-Ok-restore
returns-in-Ok-restore g c =
    let a = c.args in
    let is : a.needed ≡ 2 = omega (arith, c.requires.few, c.if-needed-eq0.false, c.if-needed-eq1.false) in
    let ready = subst (λ (k : ℕ). IfSome (g.F.Flash.state c.args.flash.now).bytes (Ready a.layout a.progress k)) is (told_ready c.bank_says_what_stands.ensures.generation a.layout a.rescue a.progress a.announcement a.offset a.needed _ c.requires.place c.requires.held c.requires.needs) in
    let can = subst (CanTake a.progress.bank.generation) is c.requires.room in
    changed_ok a.layout a.progress 2 _ _ _ c.in-Ok-restore.ensures.done (omega arith) can (λ some. c.in-Ok-restore.ensures.spends) c.in-Ok-restore.ensures.says c.in-Ok-restore.ensures.layout ready

pub returns-in-Err-restore : goal.returns-in-Err-restore
returns-in-Err-restore g c =
    let a = c.args in
    let is : a.needed ≡ 2 = omega (arith, c.requires.few, c.if-needed-eq0.false, c.if-needed-eq1.false) in
    let ready = subst (λ (k : ℕ). IfSome (g.F.Flash.state c.args.flash.now).bytes (Ready a.layout a.progress k)) is (told_ready c.bank_says_what_stands.ensures.generation a.layout a.rescue a.progress a.announcement a.offset a.needed _ c.requires.place c.requires.held c.requires.needs) in
    let can = subst (CanTake a.progress.bank.generation) is c.requires.room in
    changed_lost a.layout a.progress 2 c.in-Err-restore.lost _ _ c.in-Err-restore.ensures.moved (omega arith) c.in-Err-restore.ensures.lost c.in-Err-restore.ensures.formatted c.in-Err-restore.ensures.worn ready
