use Rattle.std.proofs.Common.{◌≡◌, Bool, true, false, arith, refl}
use Rattle.std.specs.Str.{is_utf8}
use Rattle.std.proofs.lemmas.Bool.Decides.{nat_tests}
use Rattle.std.proofs.lemmas.Str.{IsUtf8-from_is_utf8, is_utf8-from_IsUtf8}
use Rattle.smp_settings.proofs.Forms.{text_taken, text_refused}
use Rattle.smp_settings.proofs.form.name_text.Goals as goal

pub returns-in-Ok : goal.returns-in-Ok
returns-in-Ok c =
    text_taken c.args.name.now c.in-Ok.text.now (grind (arith, nat_tests, c.is_empty.ensures, c.if-is_empty.false)) (omega arith) c.in-Ok.ensures.cases.0
    (is_utf8-from_IsUtf8 c.args.name.now c.in-Ok.ensures.cases.1)

pub returns-in-Err : goal.returns-in-Err
returns-in-Err c = text_refused c.args.name.now (go (is_utf8 c.args.name.now) refl)
  where
    go : (b : Bool) → is_utf8 c.args.name.now ≡ b → b ≡ false
    go true e = absurd (c.in-Err.ensures.cases.0 (IsUtf8-from_is_utf8 c.args.name.now e))
    go false e = refl
