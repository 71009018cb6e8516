use Rattle.std.proofs.Common.{◌+◌, ◌-◌, ◌≤◌, arith}
use Rattle.smp_flash.proofs.Sizes.{regular}
use Rattle.smp_slot.proofs.Ending.{end_placed, told_blank, told_free, end_Calls}
use Rattle.smp_slot.specs.Marks.{writes_of, mark_size}
use Rattle.std.proofs.lemmas.Result.{on_ok_weaker}
use Rattle.smp_slot.proofs.Counting.{erases_then, erases_more}
use Rattle.smp_slot.proofs.Paying.{then_pays}
use Rattle.smp_slot.proofs.LastPage.{mark_size_most, told_written, told_faded, told_marked}
use Rattle.smp_slot.specs.Slots.{last_page}
use Rattle.smp_slot.proofs.marks.mark.Goals as goal

pub write_mark-requires-clause-flag : goal.write_mark-requires-clause-flag
write_mark-requires-clause-flag g c =
    let sizes = (g.F.Flash.state c.args.flash.now).geometry in
    let p = end_placed c.args.slot sizes (regular sizes (g.met.F.Flash.lawful c.args.flash.now)) c.requires.slot in
    told_blank c.args.slot sizes 24 8 _ _ p (omega arith) (omega arith) c.in-Ok.ensures.erased

pub write_mark-requires-clause-magic : goal.write_mark-requires-clause-magic
write_mark-requires-clause-magic g c =
    let sizes = (g.F.Flash.state c.args.flash.now).geometry in
    let p = end_placed c.args.slot sizes (regular sizes (g.met.F.Flash.lawful c.args.flash.now)) c.requires.slot in
    told_blank c.args.slot sizes 16 16 _ _ p (omega arith) (omega arith) c.in-Ok.ensures.erased

pub returns-in-Ok-clause-calls : goal.returns-in-Ok-clause-calls
returns-in-Ok-clause-calls g c =
    let sizes = (g.F.Flash.state c.args.flash.now).geometry in
    let p = end_placed c.args.slot sizes (regular sizes (g.met.F.Flash.lawful c.args.flash.now)) c.requires.slot in
    end_Calls c.args.slot sizes 24 24 _ _ _ _ p (omega arith) (omega arith) c.in-Ok.ensures.calls c.write_mark.ensures.calls

pub returns-in-Err-clause-either : goal.returns-in-Err-clause-either
returns-in-Err-clause-either g c = told_free c.args.slot (g.F.Flash.state c.args.flash.now).geometry c.args.mark _ _ c.requires.free c.clear_end.ensures.fades

pub returns-in-Ok-clause-erases : goal.returns-in-Ok-clause-erases
returns-in-Ok-clause-erases g c = erases_then (g.F.Flash.state c.args.flash.now).bytes (writes_of c.args.mark) _ _ _ _ c.in-Ok.ensures.erases c.write_mark.ensures.changes

pub returns-in-Err-clause-erases : goal.returns-in-Err-clause-erases
returns-in-Err-clause-erases g c = erases_more (g.F.Flash.state c.args.flash.now).bytes 0 (writes_of c.args.mark) _ _ _ (omega arith) c.clear_end.ensures.erases

pub returns-in-Ok-clause-pays : goal.returns-in-Ok-clause-pays
returns-in-Ok-clause-pays g c =
    on_ok_weaker c.write_mark.result
    (λ pays counted. then_pays (c.args.slot.at + c.args.slot.length - 16) (g.F.Flash.state c.args.flash.now) (g.F.Flash.state c.clear_end.new.flash) (g.F.Flash.state c.write_mark.new.flash) c.in-Ok.ensures.calls.passes pays counted) c.write_mark.ensures.pays

pub returns-in-Ok-clause-left : goal.returns-in-Ok-clause-left
returns-in-Ok-clause-left g c =
    let sizes = (g.F.Flash.state c.args.flash.now).geometry in
    let p = end_placed c.args.slot sizes (regular sizes (g.met.F.Flash.lawful c.args.flash.now)) c.requires.slot in
    let most = mark_size_most c.args.mark in
    told_written (last_page c.args.slot sizes) sizes.page (c.args.slot.at + c.args.slot.length - mark_size c.args.mark) (mark_size c.args.mark) _ _ _
    (omega (arith, p.page_some, p.fits, most)) (omega (arith, p.page_some, p.fits, most)) c.in-Ok.ensures.erased c.write_mark.ensures.keeps

pub returns-in-Err-clause-left : goal.returns-in-Err-clause-left
returns-in-Err-clause-left g c =
    let sizes = (g.F.Flash.state c.args.flash.now).geometry in
    told_faded (last_page c.args.slot sizes) sizes.page (c.args.slot.at + c.args.slot.length - mark_size c.args.mark) (mark_size c.args.mark) _ _ c.clear_end.ensures.fades

pub returns-in-Ok-clause-whole : goal.returns-in-Ok-clause-whole
returns-in-Ok-clause-whole g c =
    let sizes = (g.F.Flash.state c.args.flash.now).geometry in
    let p = end_placed c.args.slot sizes (regular sizes (g.met.F.Flash.lawful c.args.flash.now)) c.requires.slot in
    on_ok_weaker c.write_mark.result (λ holds. told_marked c.args.slot sizes c.args.mark _ _ _ p c.in-Ok.ensures.erased c.write_mark.ensures.keeps holds) c.write_mark.ensures.holds
