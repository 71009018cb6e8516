use Rattle.std.proofs.Common.{◌-◌, ◌≤◌, ◌∙◌, ap, arith}
use Rattle.smp_flash.specs.Geometry.{slot_size}
use Rattle.smp_flash.specs.Layout.{geometry_of, upload_spots}
use Rattle.smp_flash.specs.declared.layout.Area.{Area}
use Rattle.smp_flash.proofs.Passing.{Calls-after}
use Rattle.smp_upload.proofs.Ends.{call_lost}
use Rattle.smp_upload.proofs.Summed.{told_summed, slot_part_Calls, scratch_part_Calls}
use Rattle.smp_upload.proofs.summing.sums_of.Goals as goal

pub returns-in-Err-clause-calls : goal.returns-in-Err-clause-calls
returns-in-Err-clause-calls g c =
    let le : c.front_size-front.result ≤ slot_size (geometry_of c.args.layout) = (let a = c.front_size-front.ensures.most in let b = c.requires.inside in omega arith) in
    call_lost _ _ _ c.in-Err.fault _ (c.lost.ensures.fault ∙ c.from_call.ensures) (slot_part_Calls c.args.layout c.slot.result.at c.front_size-front.result _ _ _ (ap (λ (a : Area). a.at) c.slot.ensures) le c.in-Err.ensures.calls)

pub returns-in-Err-add_part-clause-calls : goal.returns-in-Err-add_part-clause-calls
returns-in-Err-add_part-clause-calls g c =
    let le : c.front_size-front.result ≤ slot_size (geometry_of c.args.layout) = (let a = c.front_size-front.ensures.most in let b = c.requires.inside in omega arith) in
    call_lost _ _ _ c.in-Err-add_part.fault _ (c.lost-in-Err-add_part.ensures.fault ∙ c.from_call-in-Err-add_part.ensures)
    (Calls-after (upload_spots c.args.layout) _ _ _ _ (slot_part_Calls c.args.layout c.slot.result.at c.front_size-front.result _ _ _ (ap (λ (a : Area). a.at) c.slot.ensures) le c.in_default.ensures.calls)
    (scratch_part_Calls c.args.layout c.scratch.result.at (c.args.offset - c.front_size-front.result) _ _ _ (ap (λ (a : Area). a.at) c.scratch.ensures) c.front_size-front.ensures.few c.in-Err-add_part.ensures.calls))

pub returns-clause-calls : goal.returns-clause-calls
returns-clause-calls g c =
    let le : c.front_size-front.result ≤ slot_size (geometry_of c.args.layout) = (let a = c.front_size-front.ensures.most in let b = c.requires.inside in omega arith) in
    Calls-after (upload_spots c.args.layout) _ _ _ _ (slot_part_Calls c.args.layout c.slot.result.at c.front_size-front.result _ _ _ (ap (λ (a : Area). a.at) c.slot.ensures) le c.in_default.ensures.calls)
    (scratch_part_Calls c.args.layout c.scratch.result.at (c.args.offset - c.front_size-front.result) _ _ _ (ap (λ (a : Area). a.at) c.scratch.ensures) c.front_size-front.ensures.few c.in_default-add_part.ensures.calls)

pub returns-clause-sums : goal.returns-clause-sums
returns-clause-sums g c = told_summed c.args.layout c.args.rescue c.args.offset c.front_size-front.result c.slot.result.at c.scratch.result.at _ _ _ _ _ (ap (λ (a : Area). a.at) c.slot.ensures) (ap (λ (a : Area). a.at) c.scratch.ensures)
    c.front_size-front.ensures.plain c.front_size-front.ensures.moved c.new-sums.ensures c.add_part.ensures.kept c.in_default.ensures.sums c.in_default-add_part.ensures.sums
