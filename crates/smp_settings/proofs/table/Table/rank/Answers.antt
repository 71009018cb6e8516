use Rattle.smp_settings.proofs.Tables.{ranked_here, ranked_last}
use Rattle.smp_settings.proofs.table.Table.rank.Goals as goal

pub returns-then-not-comes_before : goal.returns-then-not-comes_before
returns-then-not-comes_before c =
    ranked_here c.loop-i.i c.args.name.now c.name.result.now c.as_slice-entries.result.now c.args.self.now c.index-entries-i.result c.as_slice-entries.ensures.value c.loop-i-test.true c.index-entries-i.is
    c.name.ensures.value c.loop-i.invariant (cc c.if-not-comes_before.ensures) c.requires.sorted c.requires.new

pub returns : goal.returns
returns c = ranked_last c.loop-i.i c.args.name.now c.as_slice-entries.result.now c.args.self.now c.as_slice-entries.ensures.value c.loop-i-test.false c.loop-i.invariant
