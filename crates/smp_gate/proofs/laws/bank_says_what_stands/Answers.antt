use Rattle.smp_gate.proofs.Lasting.{says_generation}
use Rattle.smp_gate.proofs.Contents.{says_content}
use Rattle.std.proofs.Common.{length, ap, ◌∙◌}
use Rattle.smp_flash.specs.Area.{area}
use Rattle.smp_gate.specs.Bank.{current}
use Rattle.smp_gate.specs.Cells.{cells_at}
use Rattle.smp_gate.proofs.Ranges.{cells_used}
use Rattle.smp_gate.proofs.Standing.{cells_count}
use Rattle.smp_gate.proofs.laws.bank_says_what_stands.Goals as goal

pub returns-clause-generation : goal.returns-clause-generation
returns-clause-generation c = says_generation

pub returns-clause-content : goal.returns-clause-content
returns-clause-content c = says_content

pub returns-clause-cells : goal.returns-clause-cells
returns-clause-cells c = λ bank bytes says.
    let side = area (current bank.place bank.second) 4096 bytes in
    ap length (cells_used bank.cell bank.size bank.gates side says.used) ∙ cells_count bank.cell (cells_at bank.size) bank.gates side says.used.stand
