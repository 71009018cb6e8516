use Rattle.std.proofs.Common.{◌≡◌, ◌+◌, ◌*◌, ◌%◌, ap, ◌∙◌}
use Rattle.smp_gate.proofs.Ranges.{cell_eights}
use Rattle.smp_gate.proofs.cells.cell_at.Goals as goal

pub returns-clause-eights : goal.returns-clause-eights
returns-clause-eights c = λ z. (λ i. (c.args.side + (c.cells_at.ensures.at i + c.args.index * c.span.ensures i)) % 8) ∙ cell_eights c.args.side c.args.cell c.args.size c.args.index z
