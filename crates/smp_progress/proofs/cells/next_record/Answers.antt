use Rattle.smp_progress.proofs.Fronts.{cell_held}
use Rattle.smp_progress.proofs.cells.next_record.Goals as goal

pub returns-in-Some-clause-gives : goal.returns-in-Some-clause-gives
returns-in-Some-clause-gives g c =
    cell_held c.args.layout.now c.args.last.now c.in-Some.next c.args.n c.args.bank.now.place c.args.bank.now.cell c.read_cell.new.into _ _ c.requires.place c.requires.cell
    c.read_cell.ensures.kept c.in-Ok.ensures.cell (c.record_after.ensures.some c.in-Some.next c.in-Some.is)
