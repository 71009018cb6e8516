use Rattle.std.proofs.Common.{◌≡◌, ◌<◌, length, ap, subst, arith, ◌∙◌}
use Rattle.smp_gate.specs.Cells.{place_of}
use Rattle.smp_gate.specs.Newest.{sides}
use Rattle.smp_gate.proofs.Renewing.{passed_Calls}
use Rattle.smp_gate.proofs.Appending.{told_cell, cell_short, appended_Calls}
use Rattle.smp_gate.proofs.bank.Bank.read_cell.Goals as goal

pub returns-in-Ok-clause-cell : goal.returns-in-Ok-clause-cell
returns-in-Ok-clause-cell g c =
    told_cell _ c.args.self.now c.args.n c.cell_at-at.result _ c.index_of-index.result _ c.read_part.new.into _ _ c.self.view_is c.current_side-side.ensures
    (c.index_of-index.ensures.place ∙ ap (place_of c.args.n) c.as_slice.ensures.value) (subst (λ gates. c.index_of-index.result < length gates) c.as_slice.ensures.value c.index_of-index.ensures.low)
    c.cell_at-at.ensures.at c.requires.room c.requires.some
    c.self.invariant.2 c.in-Ok.ensures.kept c.requires.says c.in-Ok.ensures.bytes

pub returns-in-Err-clause-calls : goal.returns-in-Err-clause-calls
returns-in-Err-clause-calls g c =
    passed_Calls (sides c.args.self.now.place) _ _ c.in-Err.fault _ c.passed_on.ensures
    (appended_Calls _ c.args.self.now c.cell_at-at.result _ _ _ _ _ c.self.view_is c.current_side-side.ensures (omega (arith, c.cell_at-at.ensures.at))
    (cell_short _ c.args.self.now _ _ _ c.self.view_is c.requires.room c.cell_at-at.ensures.inside) c.in-Err.ensures.calls)
