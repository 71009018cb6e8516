use Rattle.std.proofs.Common.{◌∙◌, sym, arith}
use Rattle.std.proofs.lemmas.Bool.Decides.{nat_tests}
use Rattle.smp_settings.proofs.Differing.{firsts_are}
use Rattle.smp_settings.proofs.difference.are_firsts_same.Goals as goal

pub returns-clause-same : goal.returns-clause-same
returns-clause-same c = λ is.
    firsts_are c.args.one.now c.args.other.now c.index-one-0.result c.index-other-0.result (grind (arith, nat_tests, c.is_empty.ensures, c.if-is_empty.false))
    (grind (arith, nat_tests, c.is_empty-else-is_empty.ensures, c.if-is_empty-2.false)) c.index-one-0.is c.index-other-0.is (sym c.is_same.ensures ∙ is)
