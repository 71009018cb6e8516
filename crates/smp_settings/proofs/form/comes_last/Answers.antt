use Rattle.std.proofs.Common.{◌∙◌, arith}
use Rattle.std.proofs.lemmas.Bool.Decides.{nat_tests}
use Rattle.smp_settings.proofs.Forms.{last_decides}
use Rattle.smp_settings.proofs.form.comes_last.Goals as goal

pub returns : goal.returns
returns c =
    c.comes_before.ensures
    ∙ last_decides c.as_slice-entries.result.now c.args.table.now c.index-entries-entries.result c.args.name.now c.name.result.now c.as_slice-entries.ensures.value
    (grind (arith, nat_tests, c.is_empty.ensures, c.if-is_empty.false)) c.index-entries-entries.is c.name.ensures.value c.requires.sorted
