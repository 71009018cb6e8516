use Rattle.std.proofs.Common.{◌+◌, ◌-◌, ◌∙◌, subst}
use Rattle.smp_flash.specs.Area.{spot}
use Rattle.smp_flash.specs.Calls.{Calls}
use Rattle.smp_flash.specs.declared.layout.Area.{Area}
use Rattle.smp_upload.specs.Faults.{upload_fault_end}
use Rattle.smp_upload.proofs.Ends.{call_lost}
use Rattle.smp_upload.proofs.Looks.{end_Calls}
use Rattle.smp_upload.proofs.looking.find_mark.Goals as goal

pub returns-in-Err-clause-calls : goal.returns-in-Err-clause-calls
returns-in-Err-clause-calls g c =
    let calls = call_lost _ _ _ c.in-Err.fault c.lost.result.fault (c.lost.ensures.fault ∙ c.from_call.ensures) c.in-Err.ensures.calls in
    end_Calls c.args.layout _ _ _ (subst (λ (a : Area). Calls (spot (a.at + a.length - 24) 24) (upload_fault_end c.lost.result.fault) (g.F.Flash.state c.args.flash.now) (g.F.Flash.state c.marked.new.flash)) c.slot.ensures calls)
