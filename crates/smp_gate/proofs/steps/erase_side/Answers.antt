use Rattle.std.proofs.Common.{◌≡◌, ◌*◌, ◌+◌, ◌/◌, ◌≤◌, arith}
use Rattle.std.proofs.lemmas.Result.{err_from_is_err_and}
use Rattle.std.proofs.Math.Nat.{zero-mul}
use Rattle.smp_flash.specs.Area.{spot}
use Rattle.smp_flash.proofs.Passing.{Calls-refl, Calls-after, Calls-wider, Covers-within, reads_none, reads_add, reads_more, changes_none, changes_add, changes_more}
use Rattle.smp_gate.proofs.Clearing.{told_none, told_more, told_quiet, told_order, told_all_order, told_erased, told_all_quiet, erases_none, erases_more, erases_less, page_fits, pages_end}
use Rattle.smp_gate.proofs.steps.erase_side.Goals as goal

pub loop-i-init : goal.loop-i-init
loop-i-init g c = record {
  calls = Calls-refl (spot c.args.at 4096) (g.F.Flash.state c.args.flash.now);
  reads = rw zero-mul (reads_none (g.F.Flash.state c.args.flash.now).bytes_read);
  changes = changes_none (g.F.Flash.state c.args.flash.now).changes;
  erases = erases_none c.args.at c.args.page (g.F.Flash.state c.args.flash.now).bytes (g.F.Flash.state c.args.flash.now).changes;
  partly = rw zero-mul (told_none c.args.at (g.F.Flash.state c.args.flash.now).bytes);
}

pub returns-in_err-clear_page-clause-calls : goal.returns-in_err-clear_page-clause-calls
returns-in_err-clear_page-clause-calls g c =
    let le : c.loop-i.i * c.args.page + c.args.page ≤ 4096 = page_fits c.loop-i.i c.args.page c.requires.some c.loop-i-test.true in
    let p = err_from_is_err_and c.from_residual.result c.from_residual.ensures.1 in
    rw (p.1, p.2) (Calls-after _ _ _ _ _ c.loop-i.invariant.calls
    (Calls-wider (spot c.args.at 4096) (spot (c.args.at + c.loop-i.i * c.args.page) c.args.page) _ _ _
    (Covers-within (c.args.at + c.loop-i.i * c.args.page) c.args.page c.args.at 4096 (omega arith) (omega arith)) c.in_err-clear_page.ensures.calls))

pub returns-in_err-clear_page-clause-quiet : goal.returns-in_err-clear_page-clause-quiet
returns-in_err-clear_page-clause-quiet g c =
    told_quiet c.args.at (c.loop-i.i * c.args.page) c.args.page _ _ _ (page_fits c.loop-i.i c.args.page c.requires.some c.loop-i-test.true)
    c.loop-i.invariant.partly c.clear_page.ensures.fades

pub loop-i-preserved : goal.loop-i-preserved
loop-i-preserved g c =
    let le : c.loop-i.i * c.args.page + c.args.page ≤ 4096 = page_fits c.loop-i.i c.args.page c.requires.some c.loop-i-test.true in
    record {
      calls = Calls-after _ _ _ _ _ c.loop-i.invariant.calls
          (Calls-wider (spot c.args.at 4096) (spot (c.args.at + c.loop-i.i * c.args.page) c.args.page) _ _ _
          (Covers-within (c.args.at + c.loop-i.i * c.args.page) c.args.page c.args.at 4096 (omega arith) (omega arith)) c.in_ok-clear_page.ensures.calls);
      reads = (let e : (c.loop-i.i + 1) * c.args.page ≡ c.loop-i.i * c.args.page + c.args.page = omega arith in rw e (reads_add (c.loop-i.i * c.args.page) c.args.page _ _ _ c.loop-i.invariant.reads c.in_ok-clear_page.ensures.reads));
      changes = changes_add 0 0 c.loop-i.i 1 _ _ _ c.loop-i.invariant.changes c.in_ok-clear_page.ensures.changes;
      erases = erases_more c.args.at c.args.page c.loop-i.i _ _ _ _ _ le c.loop-i.invariant.partly c.loop-i.invariant.erases c.in_ok-clear_page.ensures.erases;
      partly = (let e : (c.loop-i.i + 1) * c.args.page ≡ c.loop-i.i * c.args.page + c.args.page = omega arith in rw e (told_more c.args.at (c.loop-i.i * c.args.page) c.args.page _ _ _ le c.loop-i.invariant.partly c.in_ok-clear_page.ensures.erased));
    }

pub returns-clause-quiet : goal.returns-clause-quiet
returns-clause-quiet g c =
    let all : c.loop-i.i * c.args.page ≡ 4096 = pages_end c.loop-i.i c.args.page c.requires.some c.requires.divides (omega arith) in
    told_all_quiet c.args.at _ _ (rw all at c.loop-i.invariant.partly)

pub returns-clause-erased : goal.returns-clause-erased
returns-clause-erased g c =
    let all : c.loop-i.i * c.args.page ≡ 4096 = pages_end c.loop-i.i c.args.page c.requires.some c.requires.divides (omega arith) in
    told_erased c.args.at _ _ (rw all at c.loop-i.invariant.partly)

pub returns-in_err-clear_page-clause-reads : goal.returns-in_err-clear_page-clause-reads
returns-in_err-clear_page-clause-reads g c =
    reads_more (c.loop-i.i * c.args.page + c.args.page) 4096 _ _ (page_fits c.loop-i.i c.args.page c.requires.some c.loop-i-test.true)
    (reads_add (c.loop-i.i * c.args.page) c.args.page _ _ _ c.loop-i.invariant.reads c.in_err-clear_page.ensures.reads)

pub returns-clause-reads : goal.returns-clause-reads
returns-clause-reads g c =
    let all : c.loop-i.i * c.args.page ≡ 4096 = pages_end c.loop-i.i c.args.page c.requires.some c.requires.divides (omega arith) in
    rw all at c.loop-i.invariant.reads

pub returns-in_err-clear_page-clause-changes : goal.returns-in_err-clear_page-clause-changes
returns-in_err-clear_page-clause-changes g c =
    changes_more 0 0 (c.loop-i.i + 1) (4096 / c.args.page) _ _ (omega arith) (let low = c.loop-i-test.true in omega arith) (changes_add 0 0 c.loop-i.i 1 _ _ _ c.loop-i.invariant.changes c.in_err-clear_page.ensures.changes)

pub returns-in_err-clear_page-clause-erases : goal.returns-in_err-clear_page-clause-erases
returns-in_err-clear_page-clause-erases g c =
    erases_less c.args.at c.args.page (c.loop-i.i + 1) (4096 / c.args.page) _ _ _ (let low = c.loop-i-test.true in omega arith)
    (erases_more c.args.at c.args.page c.loop-i.i _ _ _ _ _ (page_fits c.loop-i.i c.args.page c.requires.some c.loop-i-test.true) c.loop-i.invariant.partly c.loop-i.invariant.erases c.in_err-clear_page.ensures.erases)

pub returns-in_err-clear_page-clause-order : goal.returns-in_err-clear_page-clause-order
returns-in_err-clear_page-clause-order g c =
    told_order c.args.at (c.loop-i.i * c.args.page) c.args.page _ _ _ (page_fits c.loop-i.i c.args.page c.requires.some c.loop-i-test.true) c.loop-i.invariant.partly c.clear_page.ensures.fades

pub returns-clause-order : goal.returns-clause-order
returns-clause-order g c =
    let all : c.loop-i.i * c.args.page ≡ 4096 = pages_end c.loop-i.i c.args.page c.requires.some c.requires.divides (omega arith) in
    told_all_order c.args.at c.args.page _ _ (rw all at c.loop-i.invariant.partly)

pub returns-clause-changes : goal.returns-clause-changes
returns-clause-changes g c = changes_more 0 0 c.loop-i.i (4096 / c.args.page) _ _ (omega arith) (omega arith) c.loop-i.invariant.changes

pub returns-clause-erases : goal.returns-clause-erases
returns-clause-erases g c = erases_less c.args.at c.args.page c.loop-i.i (4096 / c.args.page) _ _ _ (omega arith) c.loop-i.invariant.erases
