use Rattle.std.proofs.Common.{arith}
use Rattle.std.proofs.lemmas.List.{take_rest}
use Rattle.smp_settings.proofs.Differing.{front_more, front_ends, front_whole}
use Rattle.smp_settings.proofs.difference.common_front.Goals as goal

pub returns-then-not-are_firsts_same : goal.returns-then-not-are_firsts_same
returns-then-not-are_firsts_same c =
    front_ends c.loop-i.i c.args.one.now c.args.other.now c.loop-i.invariant.0 (omega (arith, c.loop-i-test.true))
    (rw (take_rest c.args.one.now c.loop-i.i, take_rest c.args.other.now c.loop-i.i) at (c.are_firsts_same.ensures.differ (cc c.if-not-are_firsts_same.true)))

pub loop-i-preserved : goal.loop-i-preserved
loop-i-preserved c =
    front_more c.loop-i.i c.args.one.now c.args.other.now c.loop-i.invariant.0 c.loop-i.invariant.1
    (rw (take_rest c.args.one.now c.loop-i.i, take_rest c.args.other.now c.loop-i.i) at (c.are_firsts_same.ensures.same (cc c.if-not-are_firsts_same.false)))

pub returns : goal.returns
returns c = front_whole c.loop-i.i c.args.one.now c.args.other.now c.loop-i-test.false c.loop-i.auto.i-end c.loop-i.invariant.0
