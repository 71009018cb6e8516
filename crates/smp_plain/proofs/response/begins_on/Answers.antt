use Rattle.std.proofs.Common.{ap}
use Rattle.smp_model.specs.ImageGroup.{aims}
use Rattle.smp_model.specs.Response.{responds}
use Rattle.smp_model.specs.Said.{said_of}
use Rattle.smp_model.specs.Sides.{side_settle_steps}
use Rattle.smp_model.specs.Steps.{on_side}
use Rattle.smp_plain.proofs.Lifting.{joined}
use Rattle.smp_plain.proofs.response.begins_on.Goals as goal

pub returns : goal.returns
returns c =
    let reply = said_of c.args.response.reply in
    ap (responds reply)
    (joined c.args.image (on_side c.args.image (side_settle_steps c.args.side.now)) (aims c.args.image reply) c.new-steps.result.items c.add_settling.new.all.items c.add_aim.new.all.items c.add_on_side.new.all.items
    c.as_slice.result.now c.args.response.steps.items c.new-steps.ensures c.add_settling.ensures.value c.add_aim.ensures.value c.add_on_side.ensures c.as_slice.ensures.value)
