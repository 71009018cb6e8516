use Rattle.std.proofs.Common.{◌≡◌, ◌+◌, ℕ, subst, sym, arith, length}
use Rattle.std.specs.Prelude.{IfSome}
use Rattle.std.proofs.lemmas.Result.{err_from_is_err_and}
use Rattle.smp_flash.specs.Area.{area, blank, spot, Keeps, Told}
use Rattle.smp_flash.specs.State.{ended}
use Rattle.smp_flash.specs.Calls.{Calls}
use Rattle.smp_flash.proofs.Passing.{Calls-after, Calls-wider, Covers-within}
use Rattle.smp_gate.specs.Cells.{filled, span}
use Rattle.smp_gate.proofs.Adding.{told_shut, told_still_free, told_cell_kept}
use Rattle.smp_gate.proofs.cells.add_cell.Goals as goal

pub returns-in_err-write_cell-clause-calls : goal.returns-in_err-write_cell-clause-calls
returns-in_err-write_cell-clause-calls g c =
    let n = length c.args.cell.now in
    let p = err_from_is_err_and c.from_residual.result c.from_residual.ensures.1 in
    rw (p.1, p.2) (Calls-wider (spot c.args.at (span n)) (spot c.args.at (filled n)) _ _ _ (Covers-within c.args.at (filled n) c.args.at (span n) (omega arith) (omega arith)) c.in_err-write_cell.ensures.calls)

pub returns-in_err-write_cell-clause-whole : goal.returns-in_err-write_cell-clause-whole
returns-in_err-write_cell-clause-whole g c = told_shut c.args.at c.args.cell.now _ _ c.requires.free c.write_cell.ensures.calls.keeps

pub write_part-requires-clause-erased : goal.write_part-requires-clause-erased
write_part-requires-clause-erased g c =
    let n = length c.args.cell.now in
    subst (λ (k : ℕ). IfSome (g.F.Flash.state c.write_cell.new.flash).bytes (λ held. area (c.args.at + k) 8 held ≡ blank 8)) (sym c.filled-size.ensures)
    (told_still_free c.args.at n _ _ c.requires.free c.in_ok-write_cell.ensures.calls.keeps)

pub returns-clause-calls : goal.returns-clause-calls
returns-clause-calls g c =
    let n = length c.args.cell.now in
    Calls-after _ _ _ _ _
    (Calls-wider (spot c.args.at (span n)) (spot c.args.at (filled n)) _ _ _ (Covers-within c.args.at (filled n) c.args.at (span n) (omega arith) (omega arith)) c.in_ok-write_cell.ensures.calls)
    (Calls-wider (spot c.args.at (span n)) (spot (c.args.at + filled n) 8) _ _ _ (Covers-within (c.args.at + filled n) 8 c.args.at (span n) (omega arith) (omega arith))
    (subst (λ (k : ℕ). Calls (spot (c.args.at + k) 8) (ended c.write_part.result) (g.F.Flash.state c.write_cell.new.flash) (g.F.Flash.state c.write_part.new.flash)) c.filled-size.ensures c.write_part.ensures.calls))

pub returns-clause-whole : goal.returns-clause-whole
returns-clause-whole g c =
    let n = length c.args.cell.now in
    told_cell_kept c.args.at c.args.cell.now _ _ c.in_ok-write_cell.ensures.stands
    (subst (λ (k : ℕ). Told (Keeps (spot (c.args.at + k) 8)) (g.F.Flash.state c.write_cell.new.flash).bytes (g.F.Flash.state c.write_part.new.flash).bytes) c.filled-size.ensures c.write_part.ensures.calls.keeps)
