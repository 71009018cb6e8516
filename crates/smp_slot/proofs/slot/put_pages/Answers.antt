use Rattle.std.proofs.Common.{◌≡◌, ◌+◌, ◌-◌, ◌*◌, ◌<◌, ◌≤◌, ◌%◌, ◌∙◌, inl, inr, [], sym, List, arith, length, take, drop, refl, subst, ℕ, ap}
use Rattle.std.proofs.lemmas.Result.{err_from_is_err_and}
use Rattle.smp_flash.specs.Area.{spot, Told}
use Rattle.smp_flash.specs.Geometry.{tail}
use Rattle.smp_flash.proofs.Passing.{Calls-refl, reads_more, reads_none, changes_more, changes_none}
use Rattle.smp_slot.specs.Costs.{begun}
use Rattle.smp_slot.specs.Laid.{Laid}
use Rattle.smp_slot.proofs.Counting.{next_turn, turn_changes, turn_reads, all_changes, all_reads}
use Rattle.smp_slot.proofs.Laying.{next_place, page_Calls, page_laid, told_none}
use Rattle.smp_slot.proofs.Paying.{paying}
use Rattle.smp_slot.proofs.Turning.{turn_erases, all_erases, no_erases, told_order, told_all_order}
use Rattle.smp_slot.proofs.slot.put_pages.Goals as goal

pub returns-in_err-put_in_page-clause-calls : goal.returns-in_err-put_in_page-clause-calls
returns-in_err-put_in_page-clause-calls g c =
    let p = err_from_is_err_and c.from_residual.result c.from_residual.ensures.1 in
    rw (p.1, p.2) (page_Calls c.args.page c.args.at c.loop-done.done (length c.args.bytes.now) c.room_of-room.result _ _ _ _ c.requires.is_page c.room_of-room.ensures.room c.loop-done-test.true c.loop-done.invariant.calls
    c.in_err-put_in_page.ensures.calls)

pub loop-done-preserved : goal.loop-done-preserved
loop-done-preserved g c = record {
  most = omega arith;
  place = next_place c.args.unit c.args.page c.args.at c.loop-done.done c.least-count.result (length c.args.bytes.now) c.room_of-room.result c.requires.is_unit c.requires.is_page c.room_of-room.ensures.room c.least-count.ensures.either (omega arith);
  turn = next_turn c.args.page c.args.at c.loop-done.done c.least-count.result (length c.args.bytes.now) c.room_of-room.result c.requires.is_page c.room_of-room.ensures.room c.least-count.ensures.either c.loop-done.invariant.most;
  reads = turn_reads c.args.page c.args.at c.loop-done.done c.least-count.result c.room_of-room.result (length c.args.bytes.now) _ _ _ c.requires.is_page c.loop-done-test.true c.loop-done.invariant.turn c.room_of-room.ensures.room
      (let p = c.least-count.ensures.some c.room_of-room.ensures.some in omega (arith, c.loop-done-test.true, p)) c.least-count.ensures.room
      c.loop-done.invariant.reads c.in_ok-put_in_page.ensures.reads c.in_ok-put_in_page.ensures.inner_reads;
  changes = turn_changes c.args.page c.args.at c.loop-done.done c.least-count.result c.room_of-room.result (length c.args.bytes.now) _ _ _ c.requires.is_page c.loop-done-test.true c.loop-done.invariant.turn c.room_of-room.ensures.room
      (let p = c.least-count.ensures.some c.room_of-room.ensures.some in omega (arith, c.loop-done-test.true, p)) c.least-count.ensures.room
      c.loop-done.invariant.changes c.in_ok-put_in_page.ensures.changes c.in_ok-put_in_page.ensures.inner;
  erases = turn_erases c.args.page c.args.at c.loop-done.done c.least-count.result c.room_of-room.result c.args.bytes.now _ _ _ _ _ c.requires.is_page c.loop-done-test.true c.loop-done.invariant.turn c.room_of-room.ensures.room
      (let p = c.least-count.ensures.some c.room_of-room.ensures.some in omega (arith, c.loop-done-test.true, p)) c.least-count.ensures.room
      c.loop-done.invariant.laid c.loop-done.invariant.erases c.in_ok-put_in_page.ensures.erases c.in_ok-put_in_page.ensures.inner;
  calls = page_Calls c.args.page c.args.at c.loop-done.done (length c.args.bytes.now) c.room_of-room.result _ _ _ _ c.requires.is_page c.room_of-room.ensures.room c.loop-done-test.true c.loop-done.invariant.calls c.in_ok-put_in_page.ensures.calls;
  laid = page_laid c.args.page c.args.at c.loop-done.done c.least-count.result c.room_of-room.result c.args.bytes.now _ _ _ _ c.requires.is_page c.room_of-room.ensures.room
      (let p = c.least-count.ensures.some c.room_of-room.ensures.some in omega arith) c.least-count.ensures.room (omega arith)
      (ap (λ (k : ℕ). take k (drop c.loop-done.done c.args.bytes.now)) (let e : c.loop-done.done + c.least-count.result - c.loop-done.done ≡ c.least-count.result = omega arith in e))
      c.loop-done.invariant.laid c.in_ok-put_in_page.ensures.ok;
  pays = paying c.loop-done.done c.least-count.result c.args.at (g.F.Flash.state c.args.flash.now) (g.F.Flash.state c.loop-done.flash) (g.F.Flash.state c.put_in_page.new.flash) c.loop-done.invariant.calls.passes c.in_ok-put_in_page.ensures.calls.passes c.loop-done.invariant.pays c.in_ok-put_in_page.ensures.pays;
}

pub returns-clause-pays : goal.returns-clause-pays
returns-clause-pays g c = λ some. c.loop-done.invariant.pays (omega (arith, c.loop-done-test.false))

pub loop-done-init : goal.loop-done-init
loop-done-init g c =
    let x = (g.F.Flash.state c.args.flash.now) in
    let here : c.args.at + 0 ≡ c.args.at = omega arith in
    record {
      most = omega arith;
      place = inr (ap (λ (k : ℕ). k % c.args.unit) here ∙ c.requires.place);
      turn = inr (inl refl);
      reads = reads_more 0 (begun c.args.page c.args.at 0 * c.args.page) x.bytes_read x.bytes_read (omega arith) (reads_none x.bytes_read);
      changes = changes_more 0 0 0 (begun c.args.page c.args.at 0) x.changes x.changes (omega arith) (omega arith) (changes_none x.changes);
      erases = no_erases c.args.page c.args.at x.bytes x.changes;
      calls = Calls-refl (spot c.args.at (length c.args.bytes.now + tail c.args.page (c.args.at + length c.args.bytes.now))) x;
      laid = subst (λ (n : ℕ). Told (Laid c.args.at (tail c.args.page n) []) x.bytes x.bytes) (sym here) (told_none c.args.at (tail c.args.page c.args.at) x.bytes c.requires.clean);
      pays = λ none. absurd (omega (arith, none));
    }

pub returns-clause-changes : goal.returns-clause-changes
returns-clause-changes g c = all_changes c.args.page c.args.at c.loop-done.done (length c.args.bytes.now) _ _ c.requires.is_page c.loop-done.invariant.most c.loop-done.invariant.changes

pub returns-clause-reads : goal.returns-clause-reads
returns-clause-reads g c = all_reads c.args.page c.args.at c.loop-done.done (length c.args.bytes.now) _ _ c.requires.is_page c.loop-done.invariant.most c.loop-done.invariant.reads

pub returns-in_err-put_in_page-clause-changes : goal.returns-in_err-put_in_page-clause-changes
returns-in_err-put_in_page-clause-changes g c =
    all_changes c.args.page c.args.at (c.loop-done.done + c.least-count.result) (length c.args.bytes.now) _ _ c.requires.is_page (omega (arith, c.least-count.ensures.left, c.loop-done-test.true))
    (turn_changes c.args.page c.args.at c.loop-done.done c.least-count.result c.room_of-room.result (length c.args.bytes.now) _ _ _ c.requires.is_page c.loop-done-test.true c.loop-done.invariant.turn c.room_of-room.ensures.room
    (let p = c.least-count.ensures.some c.room_of-room.ensures.some in omega (arith, c.loop-done-test.true, p)) c.least-count.ensures.room
    c.loop-done.invariant.changes c.put_in_page.ensures.changes c.put_in_page.ensures.inner)

pub returns-in_err-put_in_page-clause-reads : goal.returns-in_err-put_in_page-clause-reads
returns-in_err-put_in_page-clause-reads g c =
    all_reads c.args.page c.args.at (c.loop-done.done + c.least-count.result) (length c.args.bytes.now) _ _ c.requires.is_page (omega (arith, c.least-count.ensures.left, c.loop-done-test.true))
    (turn_reads c.args.page c.args.at c.loop-done.done c.least-count.result c.room_of-room.result (length c.args.bytes.now) _ _ _ c.requires.is_page c.loop-done-test.true c.loop-done.invariant.turn c.room_of-room.ensures.room
    (let p = c.least-count.ensures.some c.room_of-room.ensures.some in omega (arith, c.loop-done-test.true, p)) c.least-count.ensures.room
    c.loop-done.invariant.reads c.put_in_page.ensures.reads c.put_in_page.ensures.inner_reads)

pub returns-clause-erases : goal.returns-clause-erases
returns-clause-erases g c = all_erases c.args.page c.args.at c.loop-done.done (length c.args.bytes.now) _ _ _ c.requires.is_page c.loop-done.invariant.most c.loop-done.invariant.erases

pub returns-in_err-put_in_page-clause-erases : goal.returns-in_err-put_in_page-clause-erases
returns-in_err-put_in_page-clause-erases g c =
    all_erases c.args.page c.args.at (c.loop-done.done + c.least-count.result) (length c.args.bytes.now) _ _ _ c.requires.is_page (omega (arith, c.least-count.ensures.left, c.loop-done-test.true))
    (turn_erases c.args.page c.args.at c.loop-done.done c.least-count.result c.room_of-room.result c.args.bytes.now _ _ _ _ _ c.requires.is_page c.loop-done-test.true c.loop-done.invariant.turn c.room_of-room.ensures.room
    (let p = c.least-count.ensures.some c.room_of-room.ensures.some in omega (arith, c.loop-done-test.true, p)) c.least-count.ensures.room
    c.loop-done.invariant.laid c.loop-done.invariant.erases c.put_in_page.ensures.erases c.put_in_page.ensures.inner)

pub returns-clause-order : goal.returns-clause-order
returns-clause-order g c =
    told_all_order c.args.page c.args.at c.loop-done.done c.args.bytes.now _ _ c.requires.is_page (omega (arith, c.loop-done.invariant.most, c.loop-done-test.false)) c.loop-done.invariant.laid

pub returns-in_err-put_in_page-clause-order : goal.returns-in_err-put_in_page-clause-order
returns-in_err-put_in_page-clause-order g c =
    told_order c.args.page c.args.at c.loop-done.done c.room_of-room.result c.args.bytes.now _ _ _ c.requires.is_page c.room_of-room.ensures.room c.loop-done.invariant.most c.loop-done.invariant.turn
    c.loop-done.invariant.laid c.put_in_page.ensures.calls.keeps
