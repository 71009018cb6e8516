use Rattle.std.proofs.Common.{◌≡◌, ◌∙◌, ◌+◌, ◌*◌, ◌<◌, ◌≤◌, ℕ, sym, subst, arith}
use Rattle.smp_flash.specs.Calls.{ReadsAtMost}
use Rattle.smp_flash.specs.Layout.{geometry_of}
use Rattle.smp_flash.proofs.Passing.{Calls-after, reads_add, changes_add}
use Rattle.smp_flash.proofs.Sizes.{regular}
use Rattle.smp_flash.proofs.Telling.{IfSome-same}
use Rattle.smp_gate.specs.Cells.{standing}
use Rattle.smp_progress.specs.Cells.{CellHeld, NoCellHeld}
use Rattle.smp_progress.proofs.Fronts.{front_more, front_all, front_stops}
use Rattle.smp_progress.proofs.cells.after_cells.Goals as goal

pub loop-n-preserved : goal.loop-n-preserved
loop-n-preserved g c =
    let x = (g.F.Flash.state c.args.flash.now) in
    record {
      lawful = c.in-Ok.ensures.lawful;
      calls = Calls-after _ _ _ _ _ c.loop-n.invariant.calls c.in-Ok.ensures.calls;
      kept = c.in-Ok.ensures.kept ∙ c.loop-n.invariant.kept;
      reads = (let e : 8 * c.loop-n.n + 8 ≡ 8 * (c.loop-n.n + 1) = omega arith in
          subst (λ (n : ℕ). ReadsAtMost n x.bytes_read (g.F.Flash.state c.next_record.new.flash).bytes_read) e
          (reads_add (8 * c.loop-n.n) 8 _ _ _ c.loop-n.invariant.reads c.in-Ok.ensures.reads));
      changes = changes_add 0 0 0 0 _ _ _ c.loop-n.invariant.changes c.in-Ok.ensures.changes;
      gives = front_more c.args.layout.now c.args.first.now c.loop-n.last c.in-Ok.next c.loop-n.n x.bytes c.loop-n.invariant.gives
          (IfSome-same (CellHeld c.args.layout.now c.loop-n.last c.loop-n.n c.in-Ok.next) (g.F.Flash.state c.loop-n.flash).bytes x.bytes (sym c.loop-n.invariant.kept) c.in-Ok.ensures.gives);
    }

pub returns-in-Err-clause-unformatted : goal.returns-in-Err-clause-unformatted
returns-in-Err-clause-unformatted g c = λ is.
    let x = (g.F.Flash.state c.args.flash.now) in
    let layout = c.args.layout.now in
    front_stops layout c.args.bank.now c.args.first.now c.loop-n.last c.loop-n.n x.bytes (regular (geometry_of layout) layout.lawful).slot_most
    c.bank_says_what_stands.ensures.content c.bank_says_what_stands.ensures.cells c.requires.place c.requires.cell
    (omega (arith, c.loop-n-test.true, c.cells-count.ensures)) c.requires.says c.loop-n.invariant.gives
    (IfSome-same (NoCellHeld layout c.loop-n.last c.loop-n.n) (g.F.Flash.state c.loop-n.flash).bytes x.bytes (sym c.loop-n.invariant.kept) (c.in-Err.ensures.unformatted is))

pub returns-clause-gives : goal.returns-clause-gives
returns-clause-gives g c =
    let x = (g.F.Flash.state c.args.flash.now) in
    front_all c.args.layout.now c.args.bank.now c.args.first.now c.loop-n.last c.loop-n.n x.bytes
    c.bank_says_what_stands.ensures.content c.bank_says_what_stands.ensures.cells c.requires.place c.requires.cell
    (omega (arith, c.loop-n-test.false, c.loop-n.auto.n-end, c.cells-count.ensures)) c.requires.says c.loop-n.invariant.gives
