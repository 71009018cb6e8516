use Rattle.smp_files.proofs.Places.{ranked_here, ranked_last}
use Rattle.smp_files.proofs.file.rank.Goals as goal

pub returns-then-not-comes_before : goal.returns-then-not-comes_before
returns-then-not-comes_before c =
    ranked_here c.loop-i.i c.args.name.now c.name.result.now c.args.files.now c.index-files-i.result c.loop-i-test.true c.index-files-i.is
    c.name.ensures c.loop-i.invariant (cc c.if-not-comes_before.ensures) c.requires.sorted c.requires.new

pub returns : goal.returns
returns c = ranked_last c.loop-i.i c.args.name.now c.args.files.now c.loop-i-test.false c.loop-i.invariant
