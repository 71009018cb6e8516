use Rattle.std.proofs.Common.{◌≡◌, ◌+◌, ◌<◌, ◌≤◌, inl, inr, arith}
use Rattle.std.proofs.lemmas.Result.{on_ok_weaker}
use Rattle.smp_slot.proofs.Moving.{after_Calls, told_after, told_keeps, told_Erased}
use Rattle.smp_slot.proofs.Counting.{erases_then, erases_more}
use Rattle.smp_slot.proofs.scratch.copy_out.Goals as goal

pub returns-clause-calls : goal.returns-clause-calls
returns-clause-calls g c = after_Calls c.args.from c.args.scratch c.args.page _ _ _ _ c.in_ok-clear_page.ensures.calls c.copy_part.ensures.calls

pub returns-clause-keeps : goal.returns-clause-keeps
returns-clause-keeps g c = told_keeps c.args.scratch c.args.page _ _ _ c.in_ok-clear_page.ensures.calls.keeps c.copy_part.ensures.keeps

pub returns-clause-ok : goal.returns-clause-ok
returns-clause-ok g c =
    on_ok_weaker c.copy_part.result (λ told. told_after c.args.from c.args.scratch c.args.count c.args.page _ _ _ (omega arith) (inl c.requires.apart) c.in_ok-clear_page.ensures.calls.keeps told) c.copy_part.ensures.ok

pub returns-clause-erases : goal.returns-clause-erases
returns-clause-erases g c = erases_then (g.F.Flash.state c.args.flash.now).bytes 1 _ _ _ _ c.in_ok-clear_page.ensures.erases c.copy_part.ensures.changes

pub returns-in_err-clear_page-clause-erases : goal.returns-in_err-clear_page-clause-erases
returns-in_err-clear_page-clause-erases g c = erases_more (g.F.Flash.state c.args.flash.now).bytes 0 1 _ _ _ (omega arith) c.in_err-clear_page.ensures.erases
