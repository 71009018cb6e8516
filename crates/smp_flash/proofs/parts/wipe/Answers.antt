use Rattle.std.proofs.Common.{arith, ap, ◌+◌, ◌-◌, ◌∙◌}
use Rattle.smp_flash.specs.Area.{blank}
use Rattle.smp_flash.proofs.Areas.{Erased-part, length-area}
use Rattle.smp_flash.proofs.parts.wipe.Goals as goal

pub returns-clause-erased : goal.returns-clause-erased
returns-clause-erased c =
    let k = c.args.at + c.args.size - c.args.at in
    Erased-part c.args.at k c.args.size c.args.held.now c.clear.new.part (omega arith) (omega arith)
    (c.clear.ensures ∙ ap blank (length-area c.args.at k c.args.held.now (omega arith)))
