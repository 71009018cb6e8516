use Rattle.smp_settings.proofs.Tables.{stands_at, named_nowhere}
use Rattle.smp_settings.proofs.table.Table.find.Goals as goal

pub returns-then-is_named-clause-found : goal.returns-then-is_named-clause-found
returns-then-is_named-clause-found c =
    stands_at c.loop-i.i c.args.name.now c.as_slice-entries.result.now c.args.self.now c.index-entries-i.result c.as_slice-entries.ensures.value c.loop-i-test.true c.index-entries-i.is c.loop-i.invariant
    (cc c.if-is_named.ensures)

pub returns-clause-none : goal.returns-clause-none
returns-clause-none c = named_nowhere c.loop-i.i c.args.name.now c.as_slice-entries.result.now c.args.self.now c.as_slice-entries.ensures.value c.loop-i-test.false c.loop-i.invariant
