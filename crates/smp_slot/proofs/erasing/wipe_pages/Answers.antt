use Rattle.std.proofs.Common.{◌≡◌, ℕ, ◌+◌, ◌/◌, ◌<◌, ◌≤◌, length, arith, subst}
use Rattle.smp_flash.specs.Area.{spot}
use Rattle.smp_flash.specs.Calls.{ChangesAtMost}
use Rattle.smp_flash.proofs.Passing.{Calls-refl, reads_add, reads_none, changes_add, changes_none}
use Rattle.smp_slot.proofs.Wiping.{page_fits, page_whole, page_more, page_Calls, told_none, told_more, told_fades, none_whole, none_more, pages_most, erases_none, erases_page, erases_all, told_order, told_all_order}
use Rattle.smp_slot.proofs.erasing.wipe_pages.Goals as goal

pub loop-done-init : goal.loop-done-init
loop-done-init g c =
    let x = (g.F.Flash.state c.args.flash.now) in
    record {
      most = omega arith;
      whole = none_whole c.args.page c.requires.is_page;
      calls = Calls-refl (spot c.args.at c.args.size) x;
      reads = reads_none x.bytes_read;
      changes = subst (λ (n : ℕ). ChangesAtMost 0 n x.changes x.changes) (none_more c.args.page c.requires.is_page) (changes_none x.changes);
      erases = erases_none c.args.at c.args.page x.bytes x.changes c.requires.is_page;
      partly = told_none c.args.at c.args.size x.bytes;
      buffer = c.requires.buffer;
    }

pub loop-done-preserved : goal.loop-done-preserved
loop-done-preserved g c =
    let x = (g.F.Flash.state c.args.flash.now) in
    let y = (g.F.Flash.state c.clear_page.new.flash) in
    let le : c.loop-done.done + c.args.page ≤ c.args.size = page_fits c.args.page c.loop-done.done c.args.size c.requires.is_page c.loop-done.invariant.whole c.requires.whole c.loop-done-test.true in
    record {
      most = le;
      whole = page_whole c.args.page c.loop-done.done c.requires.is_page c.loop-done.invariant.whole;
      calls = page_Calls c.args.at c.args.size c.loop-done.done c.args.page _ _ _ _ le c.loop-done.invariant.calls c.in-Ok.ensures.calls;
      reads = reads_add c.loop-done.done c.args.page _ _ _ c.loop-done.invariant.reads c.in-Ok.ensures.reads;
      changes = subst (λ (n : ℕ). ChangesAtMost 0 n x.changes y.changes) (page_more c.args.page c.loop-done.done c.requires.is_page)
          (changes_add 0 0 _ 1 _ _ _ c.loop-done.invariant.changes c.in-Ok.ensures.changes);
      erases = erases_page c.args.at c.args.size c.loop-done.done c.args.page _ _ _ _ _ c.requires.is_page c.loop-done.invariant.whole le c.loop-done.invariant.partly c.loop-done.invariant.erases c.in-Ok.ensures.erases;
      partly = told_more c.args.at c.args.size c.loop-done.done c.args.page _ _ _ le c.loop-done.invariant.partly c.in-Ok.ensures.erased;
      buffer = omega (arith, c.loop-done.invariant.buffer);
    }

pub returns-in-Err-clause-fades : goal.returns-in-Err-clause-fades
returns-in-Err-clause-fades g c =
    told_fades c.args.at c.args.size c.loop-done.done c.args.page _ _ _
    (page_fits c.args.page c.loop-done.done c.args.size c.requires.is_page c.loop-done.invariant.whole c.requires.whole c.loop-done-test.true) c.loop-done.invariant.partly c.clear_page.ensures.fades

pub returns-in-Err-clause-erases : goal.returns-in-Err-clause-erases
returns-in-Err-clause-erases g c =
    let le = page_fits c.args.page c.loop-done.done c.args.size c.requires.is_page c.loop-done.invariant.whole c.requires.whole c.loop-done-test.true in
    erases_all c.args.at c.args.page ((c.loop-done.done + c.args.page) / c.args.page) (c.args.size / c.args.page) _ _ _ (pages_most c.args.page (c.loop-done.done + c.args.page) c.args.size c.requires.is_page le)
    (erases_page c.args.at c.args.size c.loop-done.done c.args.page _ _ _ _ _ c.requires.is_page c.loop-done.invariant.whole le c.loop-done.invariant.partly c.loop-done.invariant.erases c.clear_page.ensures.erases)

pub returns-clause-erases : goal.returns-clause-erases
returns-clause-erases g c =
    erases_all c.args.at c.args.page (c.loop-done.done / c.args.page) (c.args.size / c.args.page) _ _ _ (pages_most c.args.page c.loop-done.done c.args.size c.requires.is_page c.loop-done.invariant.most) c.loop-done.invariant.erases

pub returns-in-Err-clause-order : goal.returns-in-Err-clause-order
returns-in-Err-clause-order g c =
    told_order c.args.at c.args.size c.loop-done.done c.args.page _ _ _ c.loop-done.invariant.whole c.loop-done.invariant.partly c.clear_page.ensures.fades

pub returns-clause-order : goal.returns-clause-order
returns-clause-order g c = told_all_order c.args.at c.args.size c.loop-done.done c.args.page _ _ c.loop-done.invariant.whole c.loop-done.invariant.partly
