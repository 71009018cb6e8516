use Rattle.std.proofs.lemmas.Result.{on_ok_weaker}
use Rattle.smp_flash.specs.Region.{gate}
use Rattle.std.proofs.Common.{◌/◌, ◌+◌, arith}
use Rattle.smp_flash.proofs.Passing.{Calls-after, changes_add, changes_more}
use Rattle.smp_gate.proofs.Renewing.{told_erases}
use Rattle.smp_gate.proofs.Renewing.{told_blank, told_Quiet, told_then, told_Renewed, pays-after}
use Rattle.smp_gate.proofs.steps.renew.Goals as goal

pub fill-requires-clause-erased : goal.fill-requires-clause-erased
fill-requires-clause-erased g c = told_blank c.args.at _ _ c.in_ok-erase_side.ensures.erased

pub returns-in_err-erase_side-clause-either : goal.returns-in_err-erase_side-clause-either
returns-in_err-erase_side-clause-either g c = told_Quiet c.args.at _ _ _ c.erase_side.ensures.quiet

pub returns-clause-calls : goal.returns-clause-calls
returns-clause-calls g c = Calls-after _ _ _ _ _ c.in_ok-erase_side.ensures.calls c.fill.ensures.calls

pub returns-clause-either : goal.returns-clause-either
returns-clause-either g c = told_then c.args.at _ _ _ _ c.erase_side.ensures.quiet c.fill.ensures.either

pub returns-clause-renewed : goal.returns-clause-renewed
returns-clause-renewed g c =
    on_ok_weaker c.fill.result (λ told. told_Renewed c.args.at _ _ _ _ c.erase_side.ensures.quiet told) c.fill.ensures.renewed

pub returns-clause-pays : goal.returns-clause-pays
returns-clause-pays g c =
    on_ok_weaker c.fill.result (λ pays. pays-after (g.F.Flash.state c.args.flash.now) (g.F.Flash.state c.erase_side.new.flash) (g.F.Flash.state c.fill.new.flash) c.args.at gate c.in_ok-erase_side.ensures.calls.passes pays) c.fill.ensures.pays

pub returns-clause-changes : goal.returns-clause-changes
returns-clause-changes g c =
    changes_more 2 2 (4096 / c.args.page + 0) (4096 / c.args.page) _ _ (omega arith) (omega arith) (changes_add 0 2 (4096 / c.args.page) 0 _ _ _ c.in_ok-erase_side.ensures.changes c.fill.ensures.changes)

pub returns-clause-erases : goal.returns-clause-erases
returns-clause-erases g c = told_erases c.args.page c.args.at (4096 / c.args.page) _ _ _ _ c.in_ok-erase_side.ensures.erases c.fill.ensures.changes
