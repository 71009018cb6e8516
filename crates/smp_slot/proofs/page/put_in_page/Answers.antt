use Rattle.std.proofs.Common.{◌+◌, ◌≤◌, arith}
use Rattle.std.proofs.lemmas.Result.{on_ok_weaker}
use Rattle.smp_slot.proofs.Counting.{erases_then, erases_more}
use Rattle.smp_slot.proofs.Paying.{then_pays}
use Rattle.smp_flash.proofs.Passing.{Calls-after, changes_add, reads_add, reads_more}
use Rattle.smp_slot.proofs.page.put_in_page.Goals as goal

pub returns-clause-calls : goal.returns-clause-calls
returns-clause-calls g c = Calls-after _ _ _ _ _ c.in_ok-ready_page.ensures.calls c.write_bytes.ensures.calls

pub returns-clause-pays : goal.returns-clause-pays
returns-clause-pays g c = on_ok_weaker c.write_bytes.result (λ pays counted. then_pays c.args.at (g.F.Flash.state c.args.flash.now) (g.F.Flash.state c.ready_page.new.flash) (g.F.Flash.state c.write_bytes.new.flash) c.in_ok-ready_page.ensures.calls.passes pays counted) c.write_bytes.ensures.pays

pub returns-clause-changes : goal.returns-clause-changes
returns-clause-changes g c = changes_add 0 1 1 0 _ _ _ c.in_ok-ready_page.ensures.changes c.write_bytes.ensures.changes

pub returns-clause-inner : goal.returns-clause-inner
returns-clause-inner g c = λ inner. changes_add 0 1 0 0 _ _ _ (c.in_ok-ready_page.ensures.inner inner) c.write_bytes.ensures.changes

pub returns-clause-reads : goal.returns-clause-reads
returns-clause-reads g c = reads_more (c.args.page + 0) c.args.page _ _ (omega arith) (reads_add c.args.page 0 _ _ _ c.in_ok-ready_page.ensures.reads c.write_bytes.ensures.reads)

pub returns-clause-inner_reads : goal.returns-clause-inner_reads
returns-clause-inner_reads g c = λ inner. reads_add 0 0 _ _ _ (c.in_ok-ready_page.ensures.inner_reads inner) c.write_bytes.ensures.reads

pub returns-clause-erases : goal.returns-clause-erases
returns-clause-erases g c = erases_then (g.F.Flash.state c.args.flash.now).bytes 1 _ _ _ _ c.in_ok-ready_page.ensures.erases c.write_bytes.ensures.changes

pub returns-in_err-ready_page-clause-erases : goal.returns-in_err-ready_page-clause-erases
returns-in_err-ready_page-clause-erases g c = erases_more (g.F.Flash.state c.args.flash.now).bytes 0 1 _ _ _ (omega arith) c.in_err-ready_page.ensures.erases
