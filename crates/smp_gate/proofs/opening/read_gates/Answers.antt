use Rattle.std.proofs.Common.{◌≡◌, ◌∙◌, ◌+◌, ◌*◌, ◌≤◌, arith, length, ap, ◌∷◌, [], length-append}
use Rattle.smp_flash.specs.Area.{spot}
use Rattle.smp_flash.proofs.Passing.{Calls-after, Calls-wider, Covers-within, reads_add, changes_add}
use Rattle.smp_gate.specs.Cells.{filled, span, cells_at}
use Rattle.smp_gate.proofs.Found.{gates_next}
use Rattle.smp_gate.proofs.opening.read_gates.Goals as goal

pub loop-i-preserved : goal.loop-i-preserved
loop-i-preserved g c =
    let at = c.cell_at-at.ensures.at in
    let in_ = c.cell_at-at.ensures.inside in
    let f = c.filled-behind.ensures in
    record {
      calls = Calls-after _ _ _ _ _ c.loop-i.invariant.calls
          (Calls-wider (spot c.args.side 4096) (spot (c.cell_at-at.result + c.filled-behind.result) 8) _ _ _
          (Covers-within (c.cell_at-at.result + c.filled-behind.result) 8 c.args.side 4096 (omega (arith, at)) (omega (arith, in_, f))) c.in_ok-stands.ensures.calls);
      kept = c.in_ok-stands.ensures.kept ∙ c.loop-i.invariant.kept;
      reads = (let e : (c.loop-i.i + 1) * 8 ≡ c.loop-i.i * 8 + 8 = omega arith in rw e (reads_add (c.loop-i.i * 8) 8 _ _ _ c.loop-i.invariant.reads c.in_ok-stands.ensures.reads));
      changes = changes_add 0 0 0 0 _ _ _ c.loop-i.invariant.changes c.in_ok-stands.ensures.changes;
      long = ap length c.push.ensures.items ∙ length-append c.loop-i.gates.items (c.in_ok-stands.stands ∷ []) ∙ omega (arith, c.loop-i.invariant.long);
      gates = gates_next c.args.cell (c.args.side + cells_at c.args.size) c.loop-i.i (c.cell_at-at.result + c.filled-behind.result) c.loop-i.gates.items _ c.in_ok-stands.stands _ _
          c.loop-i.invariant.kept (omega (arith, at, f)) c.push.ensures.items c.loop-i.invariant.gates c.in_ok-stands.ensures.stands;
    }
