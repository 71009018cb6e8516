use Rattle.std.proofs.Common.{Option, refl, subst}
use Rattle.std.specs.Prelude.{IfSome}
use Rattle.smp_flash.proofs.Passing.{Calls-refl}
use Rattle.smp_model.specs.declared.upload.Mark.{Mark}
use Rattle.smp_upload.specs.Mounting.{Looked}
use Rattle.smp_upload.proofs.Mounts.{shown_ok, formless_lost}
use Rattle.smp_upload.proofs.Sights.{told_none_shown, told_none_marked}
use Rattle.smp_upload.proofs.mounting.find_none.Goals as goal

pub returns-in-None : goal.returns-in-None
returns-in-None g c =
    let a = c.args in
    let looked = subst (λ (m : Option Mark). IfSome (g.F.Flash.state c.args.flash.now).bytes (Looked a.layout a.progress m)) c.in-None.is c.requires.looked in
    shown_ok c.sides_are_told_apart.ensures c.bank_says_what_stands.ensures.generation a.layout a.progress _ _ _ (Calls-refl _ _) refl refl (told_none_shown c.records_are_told_apart.ensures a.layout a.progress _ _ refl c.requires.entry looked)

pub returns-in-Some : goal.returns-in-Some
returns-in-Some g c =
    let a = c.args in
    let looked = subst (λ (m : Option Mark). IfSome (g.F.Flash.state c.args.flash.now).bytes (Looked a.layout a.progress m)) c.in-Some.is c.requires.looked in
    formless_lost a.layout c.lost.result _ _ (Calls-refl _ _) refl c.lost.ensures.layout c.lost.ensures.fault (told_none_marked c.records_are_told_apart.ensures a.layout a.progress _ _ c.requires.entry looked)
