use Rattle.smp_side.specs.Held.{held_layout}
use Rattle.smp_upload.specs.States.{known_mounted}
use Rattle.smp_device.proofs.Asking.{asked_done, asked_lost}
use Rattle.smp_device.proofs.side_requests.ask_held.Goals as goal

pub returns-in-Err-clause-asked : goal.returns-in-Err-clause-asked
returns-in-Err-clause-asked g c =
    asked_lost c.side_laws.ensures c.args.held c.args.image c.args.target c.args.request.now c.in-Err.fault c.lost-handed.result (g.F.Flash.state c.args.flash.now) (g.F.Flash.state c.mounted.new.flash) c.in-Err.ensures.lost c.requires.says c.lost-handed.ensures c.in-Err.ensures.moved c.in-Err.ensures.caused

pub returns-in-Ok-clause-asked : goal.returns-in-Ok-clause-asked
returns-in-Ok-clause-asked g c =
    asked_done c.side_laws.ensures (held_layout c.args.held) (known_mounted c.in-Ok.side).layout c.args.image c.args.target c.target_after-target.result c.args.request.now c.ask_side-handed.result (g.F.Flash.state c.args.flash.now) (g.F.Flash.state c.mounted.new.flash) (g.F.Flash.state c.ask_side-handed.new.flash)
    c.requires.layout c.in-Ok.ensures.layout c.target_after-target.ensures c.in-Ok.ensures.done c.ask_side-handed.ensures.answers c.ask_side-handed.ensures.erased
