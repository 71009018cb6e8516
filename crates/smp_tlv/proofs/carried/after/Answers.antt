use Rattle.std.proofs.Common.{◌++◌, arith, length-append}
use Rattle.smp_tlv.proofs.Carrying.{awaited_more, kept_more, nothing_more}
use Rattle.smp_tlv.proofs.carried.after.Goals as goal

pub returns-in-Awaited : goal.returns-in-Awaited
returns-in-Awaited c = λ added stands holds.
    let fits = rw c.in-Awaited.is at c.requires in
    let more = awaited_more c.args.covered c.in-Awaited.awaited added c.args.piece.now c.in-Awaited.is stands in
    c.awaiting.ensures (added ++ c.args.piece.now) more.0 more.1 (omega (arith, length-append added c.args.piece.now, more.2, fits)) holds

pub returns-in-Kept : goal.returns-in-Kept
returns-in-Kept c = λ added stands holds. kept_more c.args.covered c.in-Kept.kept added c.args.piece.now c.in-Kept.is stands

pub returns-in-Nothing : goal.returns-in-Nothing
returns-in-Nothing c = λ added stands holds. nothing_more c.args.covered added c.args.piece.now c.in-Nothing.is stands
