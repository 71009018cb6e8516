use Rattle.std.proofs.Common.{◌≡◌, ◌∙◌, ◌+◌, ◌-◌, ◌*◌, ◌≤◌, ◌<◌, arith, length, subst, sym, ℕ, Option}
use Rattle.std.specs.Prelude.{IfSome}
use Rattle.smp_flash.specs.Calls.{ReadsAtMost}
use Rattle.smp_flash.proofs.Passing.{Calls-after, reads_add, reads_more}
use Rattle.smp_gate.specs.Cells.{span, cells_at, places, gate_reads}
use Rattle.smp_gate.specs.Opening.{LastIs}
use Rattle.smp_gate.specs.declared.opening.Last.{Last}
use Rattle.smp_gate.proofs.Found.{used_by_none, used_by_some, reads_all, reads_counted}
use Rattle.smp_gate.proofs.opening.find_cells.Goals as goal

pub returns-in_default-clause-used : goal.returns-in_default-clause-used
returns-in_default-clause-used g c =
    used_by_none c.args.cell c.args.side c.args.size _ _ c.requires.size c.requires.none
    (subst (λ (o : Option Last). IfSome (g.F.Flash.state c.args.flash.now).bytes (LastIs c.args.cell (c.args.side + cells_at c.args.size) (places c.args.cell c.args.size) o)) c.in_default.is c.in_ok-last.ensures.last)

pub returns-in_err-read_gates-clause-all : goal.returns-in_err-read_gates-clause-all
returns-in_err-read_gates-clause-all g c =
    let low : c.in-Some.last.index < places c.args.cell c.args.size = c.in_ok-last.ensures.index c.in-Some.last c.in-Some.is in
    reads_more ((places c.args.cell c.args.size - c.in-Some.last.index) * span c.args.cell + c.in-Some.last.index * 8) (places c.args.cell c.args.size * span c.args.cell) _ _
    (reads_all (places c.args.cell c.args.size) c.in-Some.last.index (span c.args.cell) low (omega arith))
    (reads_add ((places c.args.cell c.args.size - c.in-Some.last.index) * span c.args.cell) (c.in-Some.last.index * 8) _ _ _ (c.in_ok-last.ensures.reads c.in-Some.last c.in-Some.is) c.in_err-read_gates.ensures.reads)

pub returns-clause-calls : goal.returns-clause-calls
returns-clause-calls g c = Calls-after _ _ _ _ _ c.in_ok-last.ensures.calls c.in_ok-read_gates.ensures.calls

pub returns-clause-all : goal.returns-clause-all
returns-clause-all g c =
    let low : c.in-Some.last.index < places c.args.cell c.args.size = c.in_ok-last.ensures.index c.in-Some.last c.in-Some.is in
    reads_more ((places c.args.cell c.args.size - c.in-Some.last.index) * span c.args.cell + c.in-Some.last.index * 8) (places c.args.cell c.args.size * span c.args.cell) _ _
    (reads_all (places c.args.cell c.args.size) c.in-Some.last.index (span c.args.cell) low (omega arith))
    (reads_add ((places c.args.cell c.args.size - c.in-Some.last.index) * span c.args.cell) (c.in-Some.last.index * 8) _ _ _ (c.in_ok-last.ensures.reads c.in-Some.last c.in-Some.is) c.in_ok-read_gates.ensures.reads)

pub returns-clause-reads : goal.returns-clause-reads
returns-clause-reads g c =
    let low : c.in-Some.last.index < places c.args.cell c.args.size = c.in_ok-last.ensures.index c.in-Some.last c.in-Some.is in
    let n : (places c.args.cell c.args.size - c.in-Some.last.index) * span c.args.cell + c.in-Some.last.index * 8 ≡ gate_reads c.args.cell (places c.args.cell c.args.size) (length c.push.new.self.items) =
    reads_counted c.args.cell (places c.args.cell c.args.size) c.in-Some.last.index c.read_gates.new.gates.items c.in-Some.last.stands c.push.new.self.items c.in_ok-read_gates.ensures.long c.push.ensures.items low in
    subst (λ (k : ℕ). ReadsAtMost k (g.F.Flash.state c.args.flash.now).bytes_read (g.F.Flash.state c.read_gates.new.flash).bytes_read) n
    (reads_add ((places c.args.cell c.args.size - c.in-Some.last.index) * span c.args.cell) (c.in-Some.last.index * 8) _ _ _ (c.in_ok-last.ensures.reads c.in-Some.last c.in-Some.is) c.in_ok-read_gates.ensures.reads)

pub returns-clause-used : goal.returns-clause-used
returns-clause-used g c =
    let low : c.in-Some.last.index < places c.args.cell c.args.size = c.in_ok-last.ensures.index c.in-Some.last c.in-Some.is in
    used_by_some c.args.cell c.args.side c.args.size c.in-Some.last c.read_gates.new.gates.items c.push.new.self.items _ _ c.requires.size c.in_ok-last.ensures.kept low c.in_ok-read_gates.ensures.long c.push.ensures.items
    (subst (λ (o : Option Last). IfSome (g.F.Flash.state c.args.flash.now).bytes (LastIs c.args.cell (c.args.side + cells_at c.args.size) (places c.args.cell c.args.size) o)) c.in-Some.is c.in_ok-last.ensures.last)
    c.in_ok-read_gates.ensures.gates
