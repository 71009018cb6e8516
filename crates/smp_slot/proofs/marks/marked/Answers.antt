use Rattle.std.proofs.Common.{◌≡◌, ◌+◌, ◌≤◌, arith}
use Rattle.smp_flash.proofs.Sizes.{regular}
use Rattle.smp_slot.proofs.Ending.{end_placed, mark_read}
use Rattle.smp_slot.proofs.marks.marked.Goals as goal

pub returns-in-Ok-clause-mark : goal.returns-in-Ok-clause-mark
returns-in-Ok-clause-mark g c =
    let sizes = (g.F.Flash.state c.args.flash.now).geometry in
    let p = end_placed c.args.slot sizes (regular sizes (g.met.F.Flash.lawful c.args.flash.now)) c.requires in
    let long : 24 ≤ c.args.slot.at + c.args.slot.length = omega (arith, p.page_some, p.fits) in
    mark_read c.args.slot c.read_part.new.into c.mark_of.result (g.F.Flash.state c.args.flash.now).bytes long c.mark_of.ensures c.in-Ok.ensures.bytes
