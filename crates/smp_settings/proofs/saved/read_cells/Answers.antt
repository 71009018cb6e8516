use Rattle.std.proofs.Common.{◌≡◌, ◌+◌, ◌*◌, ◌∙◌, arith}
use Rattle.smp_flash.proofs.Passing.{Calls-after, reads_add, changes_add}
use Rattle.smp_settings.proofs.Saving.{first_told, refused_told, all_told}
use Rattle.smp_settings.proofs.saved.read_cells.Goals as goal

pub returns-then-not-apply_cell-clause-read : goal.returns-then-not-apply_cell-clause-read
returns-then-not-apply_cell-clause-read g c =
    refused_told c.args.bank.now c.loop-n.n c.args.table.now c.loop-n.table c.apply_cell.new.table c.read_cell.new.into (g.F.Flash.state c.args.flash.now).bytes (g.F.Flash.state c.read_cell.new.flash).bytes
    (c.read_cell.ensures.kept ∙ c.loop-n.invariant.kept) c.loop-n.invariant.give c.in_default.ensures.cell c.if-not-apply_cell.ensures.changed

pub loop-n-preserved : goal.loop-n-preserved
loop-n-preserved g c = record {
  calls = Calls-after _ _ _ _ _ c.loop-n.invariant.calls c.in_default.ensures.calls;
  kept = c.read_cell.ensures.kept ∙ c.loop-n.invariant.kept;
  reads = (let e : 168 * (c.loop-n.n + 1) ≡ 168 * c.loop-n.n + 168 = omega arith in
      rw e (reads_add (168 * c.loop-n.n) 168 _ _ _ c.loop-n.invariant.reads (rw c.requires.long at c.read_cell.ensures.reads)));
  changes = changes_add 0 0 0 0 _ _ _ c.loop-n.invariant.changes c.read_cell.ensures.changes;
  within = c.apply_cell.ensures.within;
  give = first_told c.args.bank.now c.loop-n.n c.args.table.now c.loop-n.table c.apply_cell.new.table c.read_cell.new.into (g.F.Flash.state c.args.flash.now).bytes (g.F.Flash.state c.read_cell.new.flash).bytes
      (c.read_cell.ensures.kept ∙ c.loop-n.invariant.kept) c.loop-n.invariant.give c.in_default.ensures.cell c.if-not-apply_cell.ensures.changed;
}

pub returns-clause-read : goal.returns-clause-read
returns-clause-read g c =
    all_told c.args.bank.now c.loop-n.n c.args.table.now c.loop-n.table (g.F.Flash.state c.args.flash.now).bytes (g.F.Flash.state c.loop-n.flash).bytes c.bank_says_what_stands.ensures.content
    c.loop-n.invariant.kept c.requires.says (omega (arith, c.cells-n-end.ensures, c.loop-n-test.false)) c.loop-n.invariant.give
