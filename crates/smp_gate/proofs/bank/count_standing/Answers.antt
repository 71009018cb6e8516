use Rattle.std.proofs.Common.{◌≡◌, ◌+◌, ◌∙◌, ap, sym, arith}
use Rattle.smp_gate.proofs.Standing.{standing_more, standing_same}
use Rattle.smp_gate.proofs.bank.count_standing.Goals.{then-gates-i, else-gates-i}
use Rattle.smp_gate.proofs.bank.count_standing.Goals as goal

pub loop-i-preserved : goal.loop-i-preserved
loop-i-preserved c = elim c.if-gates-i.branch [
  | then-gates-i w ↦ record {
    count = w.count-is ∙ ap (λ n. n + 1) c.loop-i.invariant.count ∙ sym (standing_more c.args.gates.now c.loop-i.i c.loop-i-test.true w.if-gates-i.true);
    most = omega (arith, w.count-is, c.loop-i.invariant.most);
  }
  | else-gates-i w ↦ record {
    count = w.count-is ∙ c.loop-i.invariant.count ∙ sym (standing_same c.args.gates.now c.loop-i.i c.loop-i-test.true w.if-gates-i.false);
    most = omega (arith, w.count-is, c.loop-i.invariant.most);
  }
]
