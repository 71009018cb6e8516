use Rattle.std.proofs.Common.{◌≡◌, ◌∙◌, ◌+◌, ◌-◌, ◌*◌, ◌<◌, ◌≤◌, ℕ, subst, sym, ap, arith, refl, Some}
use Rattle.smp_flash.specs.Area.{spot}
use Rattle.smp_flash.specs.Calls.{ReadsAtMost}
use Rattle.smp_flash.proofs.Passing.{Calls-after, Calls-wider, Covers-within, reads_add, reads_more, changes_add}
use Rattle.smp_gate.specs.Cells.{span, cells_at, places}
use Rattle.smp_gate.proofs.Found.{one_behind, last_found}
use Rattle.std.specs.Prelude.{IfSome}
use Rattle.smp_gate.specs.Opening.{PlaceIs}
use Rattle.smp_gate.specs.declared.opening.Place.{Place}
use Rattle.smp_gate.specs.declared.opening.Last.{Last}
use Rattle.smp_gate.proofs.Ranges.{turns}
use Rattle.smp_gate.proofs.opening.find_last.Goals as goal

pub returns-in_err-look_at-clause-all : goal.returns-in_err-look_at-clause-all
returns-in_err-look_at-clause-all g c =
    reads_more (c.loop-i.i * span c.args.cell + span c.args.cell) (places c.args.cell c.args.size * span c.args.cell) _ _ (turns c.loop-i.i (places c.args.cell c.args.size) (span c.args.cell) (let low = c.loop-i-test.true in let is = c.places-count.ensures in omega arith))
    (reads_add (c.loop-i.i * span c.args.cell) (span c.args.cell) _ _ _ c.loop-i.invariant.reads c.in_err-look_at.ensures.reads)

pub returns-in-Begun-clause-calls : goal.returns-in-Begun-clause-calls
returns-in-Begun-clause-calls g c =
    Calls-after _ _ _ _ _ c.loop-i.invariant.calls
    (Calls-wider (spot c.args.side 4096) (spot c.cell_at-at.result (span c.args.cell)) _ _ _ (Covers-within c.cell_at-at.result (span c.args.cell) c.args.side 4096 (omega (arith, c.cell_at-at.ensures.at)) (omega (arith, c.cell_at-at.ensures.inside))) c.in_ok-look_at.ensures.calls)

pub returns-in-Begun-clause-all : goal.returns-in-Begun-clause-all
returns-in-Begun-clause-all g c =
    reads_more (c.loop-i.i * span c.args.cell + span c.args.cell) (places c.args.cell c.args.size * span c.args.cell) _ _ (turns c.loop-i.i (places c.args.cell c.args.size) (span c.args.cell) (let low = c.loop-i-test.true in let is = c.places-count.ensures in omega arith))
    (reads_add (c.loop-i.i * span c.args.cell) (span c.args.cell) _ _ _ c.loop-i.invariant.reads c.in_ok-look_at.ensures.reads)

pub returns-in-Begun-clause-reads : goal.returns-in-Begun-clause-reads
returns-in-Begun-clause-reads g c = λ l is.
    let index : l.index ≡ c.places-count.result - 1 - c.loop-i.i = (let e : l ≡ record { index = c.places-count.result - 1 - c.loop-i.i; stands = c.in-Begun.stands } = cc (sym is) in ap (λ (x : Last). x.index) e) in
    let low : c.loop-i.i < places c.args.cell c.args.size = (let t = c.loop-i-test.true in let n = c.places-count.ensures in omega arith) in
    let n : places c.args.cell c.args.size - l.index ≡ c.loop-i.i + 1 = (let k = c.places-count.ensures in omega (arith, index, k, low)) in
    let e : (c.loop-i.i + 1) * span c.args.cell ≡ c.loop-i.i * span c.args.cell + span c.args.cell = omega arith in
    subst (λ (k : ℕ). ReadsAtMost (k * span c.args.cell) (g.F.Flash.state c.args.flash.now).bytes_read (g.F.Flash.state c.look_at.new.flash).bytes_read) (sym n)
    (rw e (reads_add (c.loop-i.i * span c.args.cell) (span c.args.cell) _ _ _ c.loop-i.invariant.reads c.in_ok-look_at.ensures.reads))

pub returns-in-Begun-clause-last : goal.returns-in-Begun-clause-last
returns-in-Begun-clause-last g c =
    let low : c.loop-i.i < places c.args.cell c.args.size = (let t = c.loop-i-test.true in let n = c.places-count.ensures in omega arith) in
    last_found c.args.cell (c.args.side + cells_at c.args.size) (places c.args.cell c.args.size) c.loop-i.i _ _ c.cell_at-at.result _ _ c.loop-i.invariant.kept low (let n = c.places-count.ensures in omega arith)
    (let at = c.cell_at-at.ensures.at in omega (arith, at)) c.loop-i.invariant.free
    (subst (λ (p : Place). IfSome (g.F.Flash.state c.loop-i.flash).bytes (PlaceIs c.args.cell c.cell_at-at.result p)) c.in-Begun.is c.in_ok-look_at.ensures.place)

pub loop-i-preserved : goal.loop-i-preserved
loop-i-preserved g c = record {
  calls = Calls-after _ _ _ _ _ c.loop-i.invariant.calls
      (Calls-wider (spot c.args.side 4096) (spot c.cell_at-at.result (span c.args.cell)) _ _ _ (Covers-within c.cell_at-at.result (span c.args.cell) c.args.side 4096 (omega (arith, c.cell_at-at.ensures.at)) (omega (arith, c.cell_at-at.ensures.inside))) c.in_ok-look_at.ensures.calls);
  kept = c.in_ok-look_at.ensures.kept ∙ c.loop-i.invariant.kept;
  reads = (let e : (c.loop-i.i + 1) * span c.args.cell ≡ c.loop-i.i * span c.args.cell + span c.args.cell = omega arith in
      rw e (reads_add (c.loop-i.i * span c.args.cell) (span c.args.cell) _ _ _ c.loop-i.invariant.reads c.in_ok-look_at.ensures.reads));
  changes = changes_add 0 0 0 0 _ _ _ c.loop-i.invariant.changes c.in_ok-look_at.ensures.changes;
  free = (let low : c.loop-i.i < places c.args.cell c.args.size = (let t = c.loop-i-test.true in let n = c.places-count.ensures in omega arith) in
      one_behind c.args.cell (c.args.side + cells_at c.args.size) (places c.args.cell c.args.size) c.loop-i.i 0 c.cell_at-at.result _ _ c.loop-i.invariant.kept low
      (let at = c.cell_at-at.ensures.at in let n = c.places-count.ensures in omega (arith, at, ap (λ (k : ℕ). (k - 1 - c.loop-i.i) * span c.args.cell) n)) c.loop-i.invariant.free
      (subst (λ (p : Place). IfSome (g.F.Flash.state c.loop-i.flash).bytes (PlaceIs c.args.cell c.cell_at-at.result p)) c.in-Free.is c.in_ok-look_at.ensures.place));
}
