use Rattle.std.proofs.Common.{arith}
use Rattle.smp_settings.proofs.Differing.{more_same}
use Rattle.smp_settings.proofs.difference.is_same.Goals as goal

pub loop-i-preserved : goal.loop-i-preserved
loop-i-preserved c =
    more_same c.loop-i.i c.args.one.now c.args.other.now c.index-one-i.result c.index-other-i.result c.loop-i-test.true (omega (arith, c.loop-i-test.true, c.if-one-other.false)) c.index-one-i.is c.index-other-i.is
    (cc (c.is_same.ensures, c.if-not-is_same.ensures, c.if-not-is_same.false)) c.loop-i.invariant
