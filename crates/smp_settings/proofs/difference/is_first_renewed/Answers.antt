use Rattle.std.proofs.Common.{◌∙◌, sym, ap, arith}
use Rattle.std.specs.Str.{bytes_eq}
use Rattle.std.proofs.lemmas.Bool.Decides.{nat_tests}
use Rattle.std.proofs.lemmas.List.{take_rest}
use Rattle.smp_settings.proofs.Differing.{renewed_by}
use Rattle.smp_settings.proofs.difference.is_first_renewed.Goals as goal

pub returns-clause-renewed : goal.returns-clause-renewed
returns-clause-renewed c = λ is.
    renewed_by c.args.one.now c.args.other.now c.index-one-0.result c.index-other-0.result (grind (arith, nat_tests, c.is_empty.ensures, c.if-is_empty.false))
    (grind (arith, nat_tests, c.is_empty-else-is_empty.ensures, c.if-is_empty-2.false)) c.index-one-0.is c.index-other-0.is
    (ap (bytes_eq c.index-one-0.result.name) (sym c.name.ensures.value) ∙ cc (c.is_named.ensures, c.if-not-is_named.ensures, c.if-not-is_named.false))
    (sym (take_rest c.args.one.now 1) ∙ (c.is_same.ensures.same is ∙ take_rest c.args.other.now 1))
