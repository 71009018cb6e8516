use Rattle.std.proofs.lemmas.Result.{on_ok_weaker}
use Rattle.smp_flash.specs.Region.{gate}
use Rattle.smp_flash.proofs.Passing.{Calls-after, changes_add}
use Rattle.smp_gate.proofs.Renewing.{told_Quiet, told_then, told_Renewed, pays-after}
use Rattle.smp_gate.proofs.steps.fill.Goals as goal

pub returns-in_err-write_body-clause-either : goal.returns-in_err-write_body-clause-either
returns-in_err-write_body-clause-either g c = told_Quiet c.args.at _ _ _ c.write_body.ensures.quiet

pub returns-clause-calls : goal.returns-clause-calls
returns-clause-calls g c = Calls-after _ _ _ _ _ c.in_ok-write_body.ensures.calls c.write_gate.ensures.calls

pub returns-clause-either : goal.returns-clause-either
returns-clause-either g c = told_then c.args.at _ _ _ _ c.write_body.ensures.quiet c.write_gate.ensures.either

pub returns-clause-renewed : goal.returns-clause-renewed
returns-clause-renewed g c =
    on_ok_weaker c.write_gate.result (λ told. told_Renewed c.args.at _ _ _ _ c.write_body.ensures.quiet told) c.write_gate.ensures.renewed

pub returns-clause-pays : goal.returns-clause-pays
returns-clause-pays g c =
    on_ok_weaker c.write_gate.result (λ pays. pays-after (g.F.Flash.state c.args.flash.now) (g.F.Flash.state c.write_body.new.flash) (g.F.Flash.state c.write_gate.new.flash) c.args.at gate c.in_ok-write_body.ensures.calls.passes pays) c.write_gate.ensures.pays

pub returns-clause-changes : goal.returns-clause-changes
returns-clause-changes g c = changes_add 1 1 0 0 _ _ _ c.in_ok-write_body.ensures.changes c.write_gate.ensures.changes
