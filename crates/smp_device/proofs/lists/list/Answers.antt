use Rattle.std.proofs.Common.{[], arith}
use Rattle.smp_model.specs.ImageGroup.{lists_after}
use Rattle.smp_device.specs.Places.{places_of}
use Rattle.smp_device.specs.Settling.{settled_places}
use Rattle.smp_device.proofs.Listings.{settled_then}
use Rattle.smp_model.specs.Response.{settling}
use Rattle.smp_device.proofs.Mounting.{mounts_answer, mounts_broken}
use Rattle.smp_device.proofs.lists.list.Goals as goal

pub returns-in-Ok-clause-answers : goal.returns-in-Ok-clause-answers
returns-in-Ok-clause-answers g c =
    settled_then c.side_laws.ensures (places_of c.args.images) (settled_places c.in-Ok.settled) c.args.images.target c.in-Ok.settled.target 0 (lists_after []) c.list_settled.result (g.F.Flash.state c.args.flash.now) (g.F.Flash.state c.settle_all.new.flash) (g.F.Flash.state c.list_settled.new.flash) (omega arith) c.in-Ok.ensures.places c.in-Ok.ensures.target c.in-Ok.ensures.settles c.list_settled.ensures.answers

pub returns-in-Err-clause-answers : goal.returns-in-Err-clause-answers
returns-in-Err-clause-answers g c =
    c.in-Err.ensures.unsettled (lists_after [])

pub returns-in-Ok-clause-mounts : goal.returns-in-Ok-clause-mounts
returns-in-Ok-clause-mounts g c =
    mounts_answer c.args.images.target (λ d. settling d (lists_after [])) c.args.images c.list_settled.result (g.F.Flash.state c.args.flash.now) (g.F.Flash.state c.list_settled.new.flash) c.list_settled.ensures.mounts
    (settled_then c.side_laws.ensures (places_of c.args.images) (settled_places c.in-Ok.settled) c.args.images.target c.in-Ok.settled.target 0 (lists_after []) c.list_settled.result (g.F.Flash.state c.args.flash.now) (g.F.Flash.state c.settle_all.new.flash) (g.F.Flash.state c.list_settled.new.flash) (omega arith) c.in-Ok.ensures.places c.in-Ok.ensures.target c.in-Ok.ensures.settles c.list_settled.ensures.answers)

pub returns-in-Err-clause-mounts : goal.returns-in-Err-clause-mounts
returns-in-Err-clause-mounts g c =
    mounts_broken c.args.images.target c.args.images c.in-Err.replied (g.F.Flash.state c.args.flash.now) (g.F.Flash.state c.settle_all.new.flash) c.in-Err.ensures.failed c.in-Err.ensures.kept c.in-Err.ensures.unsettled
