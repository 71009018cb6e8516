use Rattle.std.proofs.Common.{◌≡◌, ◌+◌, ◌∙◌, sym, ap, arith}
use Rattle.smp_gate.proofs.Standing.{standing_more, standing_same, place_found}
use Rattle.smp_gate.proofs.bank.index_of.Goals.{then-gates-i+else-before-n, else-gates-i}
use Rattle.smp_gate.proofs.bank.index_of.Goals as goal

pub returns-then-before-n-clause-place : goal.returns-then-before-n-clause-place
returns-then-before-n-clause-place c =
    sym (place_found c.args.gates.now c.args.n c.loop-i.i c.loop-i-test.true c.if-gates-i.true (sym c.loop-i.invariant.before ∙ c.if-before-n.true))

pub loop-i-preserved : goal.loop-i-preserved
loop-i-preserved c = elim c.if-gates-i.branch [
  | then-gates-i+else-before-n w ↦ record {
    before = w.before-is ∙ ap (λ n. n + 1) c.loop-i.invariant.before ∙ sym (standing_more c.args.gates.now c.loop-i.i c.loop-i-test.true w.if-gates-i.true);
    most = (let low = c.loop-i.invariant.most in let other = w.if-before-n.false in let is = w.before-is in omega arith);
    least = omega (arith, w.before-is, c.loop-i.invariant.least);
  }
  | else-gates-i w ↦ record {
    before = w.before-is ∙ c.loop-i.invariant.before ∙ sym (standing_same c.args.gates.now c.loop-i.i c.loop-i-test.true w.if-gates-i.false);
    most = omega (arith, w.before-is, c.loop-i.invariant.most);
    least = omega (arith, w.before-is, c.loop-i.invariant.least);
  }
]
