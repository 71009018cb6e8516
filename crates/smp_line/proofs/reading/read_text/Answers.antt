use Rattle.std.proofs.Common.{arith}
use Rattle.smp_line.proofs.Spelling.{spelled_not_in_fours, spelled_empty}
use Rattle.smp_line.proofs.reading.read_text.Goals as goal

pub returns-then-symbols-ne0 : goal.returns-then-symbols-ne0
returns-then-symbols-ne0 c =
    spelled_not_in_fours c.args.text.now c.without_return-symbols.result.now (λ i. let h = c.type_inv.text i in omega (arith, h)) c.without_return-symbols.ensures
    (omega arith) c.if-symbols-ne0.true

pub returns-then-symbols-eq0 : goal.returns-then-symbols-eq0
returns-then-symbols-eq0 c = (spelled_empty c.args.text.now c.without_return-symbols.result.now c.without_return-symbols.ensures (omega arith), omega arith)
