use Rattle.std.proofs.Common.{arith}
use Rattle.smp_upload.specs.States.{known_mounted}
use Rattle.smp_device.proofs.Asking.{as_asked}
use Rattle.smp_device.proofs.Erasing.{erases_as}
use Rattle.smp_device.proofs.side_requests.ask_side.Goals as goal

pub returns-in-Start-clause-answers : goal.returns-in-Start-clause-answers
returns-in-Start-clause-answers g c =
    as_asked (known_mounted c.args.mounted).layout 3 c.args.request.now _ c.start.result (g.F.Flash.state c.args.flash.now) (g.F.Flash.state c.start.new.flash) c.in-Start.is (omega arith) c.start.ensures.answers

pub returns-in-Part-clause-answers : goal.returns-in-Part-clause-answers
returns-in-Part-clause-answers g c =
    as_asked (known_mounted c.args.mounted).layout 2 c.args.request.now _ c.part_at.result (g.F.Flash.state c.args.flash.now) (g.F.Flash.state c.part_at.new.flash) c.in-Part.is (omega arith) c.part_at.ensures.answers

pub returns-in-Erase-clause-answers : goal.returns-in-Erase-clause-answers
returns-in-Erase-clause-answers g c =
    as_asked (known_mounted c.args.mounted).layout 1 c.args.request.now _ c.erase.result (g.F.Flash.state c.args.flash.now) (g.F.Flash.state c.erase.new.flash) c.in-Erase.is (omega arith) c.erase.ensures.answers

pub returns-in-Start-clause-erased : goal.returns-in-Start-clause-erased
returns-in-Start-clause-erased g c = erases_as (known_mounted c.args.mounted).layout c.args.request.now _ c.start.result.result _ c.in-Start.is tt

pub returns-in-Part-clause-erased : goal.returns-in-Part-clause-erased
returns-in-Part-clause-erased g c = erases_as (known_mounted c.args.mounted).layout c.args.request.now _ c.part_at.result.result _ c.in-Part.is tt

pub returns-in-Erase-clause-erased : goal.returns-in-Erase-clause-erased
returns-in-Erase-clause-erased g c = erases_as (known_mounted c.args.mounted).layout c.args.request.now _ c.erase.result.result _ c.in-Erase.is c.erase.ensures.erased
