use Rattle.smp_files.proofs.Places.{file_here, named_nowhere}
use Rattle.smp_files.proofs.file.find.Goals as goal

pub returns-then-is_named-clause-found : goal.returns-then-is_named-clause-found
returns-then-is_named-clause-found c =
    file_here c.loop-i.i c.args.name.now c.args.files.now c.index-files-i.result c.loop-i-test.true c.index-files-i.is c.loop-i.invariant (cc c.if-is_named.ensures)

pub returns-clause-none : goal.returns-clause-none
returns-clause-none c = named_nowhere c.loop-i.i c.args.name.now c.args.files.now c.loop-i-test.false c.loop-i.invariant
