use Rattle.std.proofs.Common.{[], ap, sym, append-nil}
use Rattle.std.specs.Prelude.{map as each}
use Rattle.smp_model.specs.Response.{responds}
use Rattle.smp_model.specs.Said.{said_of}
use Rattle.smp_model.specs.Sides.{side_settle_steps}
use Rattle.smp_model.specs.Steps.{on_side}
use Rattle.smp_plain.specs.Plain.{step_of}
use Rattle.smp_plain.proofs.Lifting.{joined}
use Rattle.smp_plain.proofs.response.goes_on.Goals as goal

pub returns : goal.returns
returns c =
    let settled = c.add_settling.new.all.items in
    ap (responds (said_of c.args.response.reply))
    (joined c.args.image (on_side c.args.image (side_settle_steps c.args.side.now)) [] c.new-steps.result.items settled settled c.add_on_side.new.all.items
    c.as_slice.result.now c.args.response.steps.items c.new-steps.ensures c.add_settling.ensures.value (sym (append-nil (each step_of settled))) c.add_on_side.ensures c.as_slice.ensures.value)
