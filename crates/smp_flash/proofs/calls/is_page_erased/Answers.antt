use Rattle.std.proofs.Common.{◌≡◌, ◌*◌, ◌+◌, ◌≤◌, arith, ◌∙◌}
use Rattle.std.proofs.lemmas.Result.{err_from_is_err_and}
use Rattle.smp_flash.specs.Area.{spot}
use Rattle.smp_flash.proofs.Passing.{Calls-after, Calls-wider, Covers-within, reads_add, changes_add}
use Rattle.smp_flash.proofs.Pieces.{piece_fits, pieces_end, not_erased, more_erased, all_erased}
use Rattle.smp_flash.proofs.calls.is_page_erased.Goals as goal

pub returns-in_err-reads_erased-clause-calls : goal.returns-in_err-reads_erased-clause-calls
returns-in_err-reads_erased-clause-calls g c =
    let le : c.loop-i.i * 512 + 512 ≤ c.args.size = piece_fits c.args.size c.loop-i.i c.requires.page c.loop-i-test.true in
    let p = err_from_is_err_and c.from_residual.result c.from_residual.ensures.1 in
    rw (p.1, p.2) (Calls-after _ _ _ _ _ c.loop-i.invariant.calls
    (Calls-wider (spot c.args.at c.args.size) (spot (c.args.at + c.loop-i.i * 512) 512) _ _ _
    (Covers-within (c.args.at + c.loop-i.i * 512) 512 c.args.at c.args.size (omega arith) (omega arith)) c.in_err-reads_erased.ensures.calls))

pub returns-then-not-branch-clause-erased : goal.returns-then-not-branch-clause-erased
returns-then-not-branch-clause-erased g c =
    not_erased c.args.at (c.loop-i.i * 512) 512 c.args.size _ _ _ c.loop-i.invariant.kept (piece_fits c.args.size c.loop-i.i c.requires.page c.loop-i-test.true) c.if-not-branch.true c.in_ok-reads_erased.ensures.erased

pub loop-i-preserved : goal.loop-i-preserved
loop-i-preserved g c =
    let le : c.loop-i.i * 512 + 512 ≤ c.args.size = piece_fits c.args.size c.loop-i.i c.requires.page c.loop-i-test.true in
    let e : (c.loop-i.i + 1) * 512 ≡ c.loop-i.i * 512 + 512 = omega arith in
    record {
      calls = Calls-after _ _ _ _ _ c.loop-i.invariant.calls
          (Calls-wider (spot c.args.at c.args.size) (spot (c.args.at + c.loop-i.i * 512) 512) _ _ _
          (Covers-within (c.args.at + c.loop-i.i * 512) 512 c.args.at c.args.size (omega arith) (omega arith)) c.in_ok-reads_erased.ensures.calls);
      kept = c.in_ok-reads_erased.ensures.kept ∙ c.loop-i.invariant.kept;
      reads = rw e (reads_add (c.loop-i.i * 512) 512 _ _ _ c.loop-i.invariant.reads c.in_ok-reads_erased.ensures.reads);
      changes = changes_add 0 0 0 0 _ _ _ c.loop-i.invariant.changes c.in_ok-reads_erased.ensures.changes;
      unspent = c.in_ok-reads_erased.ensures.unspent ∙ c.loop-i.invariant.unspent;
      erased = more_erased c.args.at c.loop-i.i _ _ _ c.loop-i.invariant.kept c.if-not-branch.false c.loop-i.invariant.erased c.in_ok-reads_erased.ensures.erased;
    }

pub returns-clause-erased : goal.returns-clause-erased
returns-clause-erased g c = all_erased c.args.at (c.loop-i.i * 512) c.args.size _ (pieces_end c.args.size c.loop-i.i c.requires.page (omega arith)) c.loop-i.invariant.erased
