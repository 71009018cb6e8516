use Rattle.std.proofs.Common.{◌≡◌, ◌+◌, ◌<◌, ◌≤◌, inl, inr, arith}
use Rattle.std.proofs.lemmas.Result.{on_ok_weaker}
use Rattle.smp_slot.proofs.Moving.{after_Calls, told_after, told_keeps, told_Erased}
use Rattle.smp_slot.proofs.scratch.copy_back.Goals as goal

pub returns-clause-calls : goal.returns-clause-calls
returns-clause-calls g c = after_Calls c.args.scratch c.args.to c.args.page _ _ _ _ c.in_ok-erase_page.ensures.calls c.copy_part.ensures.calls

pub returns-clause-keeps : goal.returns-clause-keeps
returns-clause-keeps g c = told_keeps c.args.to c.args.page _ _ _ c.in_ok-erase_page.ensures.calls.keeps c.copy_part.ensures.keeps

pub returns-clause-ok : goal.returns-clause-ok
returns-clause-ok g c =
    on_ok_weaker c.copy_part.result (λ told. told_after c.args.scratch c.args.to c.args.count c.args.page _ _ _ (omega arith) (inr c.requires.apart) c.in_ok-erase_page.ensures.calls.keeps told) c.copy_part.ensures.ok
