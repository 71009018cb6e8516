use Rattle.std.proofs.Common.{true, arith}
use Rattle.smp_model.specs.declared.reply.Reply.TheVariants as replied
use Rattle.smp_model.specs.ImageGroup.{sets_no_hash}
use Rattle.smp_model.specs.Response.{settling}
use Rattle.smp_device.specs.Places.{places_of}
use Rattle.smp_device.specs.Setting.{acts_on}
use Rattle.smp_device.specs.Settling.{settled_places}
use Rattle.smp_device.specs.declared.sets.Act.TheVariants as acts
use Rattle.smp_device.proofs.Fields.{images_as, plain_here}
use Rattle.smp_device.proofs.Hashing.{running_refused, running_confirmed}
use Rattle.smp_device.proofs.Listings.{settled_then}
use Rattle.std.proofs.Common.{refl}
use Rattle.smp_device.proofs.Mounting.{answered_untouched, clash, mounts_answer, mounts_broken}
use Rattle.smp_device.proofs.hashes.set_running.Goals as goal

pub returns-then-not-confirm-clause-answers : goal.returns-then-not-confirm-clause-answers
returns-then-not-confirm-clause-answers g c =
    plain_here c.args.images 5 (λ d. sets_no_hash d c.args.confirm) (replied.SmpError 3) (g.F.Flash.state c.args.flash.now) (running_refused (places_of c.args.images) c.args.images.target c.args.confirm c.if-not-confirm.true) c.requires.says

pub returns-in-Ok-clause-answers : goal.returns-in-Ok-clause-answers
returns-in-Ok-clause-answers g c =
    images_as (places_of c.args.images) 5 c.args.images.target (λ d. settling d (acts_on (acts.Confirm true) 0)) (λ d. sets_no_hash d c.args.confirm) c.act_first.result.images c.act_first.result.result (g.F.Flash.state c.args.flash.now) (g.F.Flash.state c.act_first.new.flash) (running_confirmed (places_of c.args.images) c.args.images.target c.args.confirm c.if-not-confirm.false)
    (settled_then c.side_laws.ensures (places_of c.args.images) (settled_places c.in-Ok.settled) c.args.images.target c.in-Ok.settled.target 0 (acts_on (acts.Confirm true) 0) c.act_first.result (g.F.Flash.state c.args.flash.now) (g.F.Flash.state c.settle_all.new.flash) (g.F.Flash.state c.act_first.new.flash) (omega arith) c.in-Ok.ensures.places c.in-Ok.ensures.target c.in-Ok.ensures.settles c.act_first.ensures.answers)

pub returns-in-Err-clause-answers : goal.returns-in-Err-clause-answers
returns-in-Err-clause-answers g c =
    images_as (places_of c.args.images) 5 c.args.images.target (λ d. settling d (acts_on (acts.Confirm true) 0)) (λ d. sets_no_hash d c.args.confirm) c.in-Err.replied.images c.in-Err.replied.result (g.F.Flash.state c.args.flash.now) (g.F.Flash.state c.settle_all.new.flash) (running_confirmed (places_of c.args.images) c.args.images.target c.args.confirm c.if-not-confirm.false) (c.in-Err.ensures.unsettled (acts_on (acts.Confirm true) 0))

pub returns-then-not-confirm-clause-untouched : goal.returns-then-not-confirm-clause-untouched
returns-then-not-confirm-clause-untouched g c = λ taken. answered_untouched c.args.images (replied.SmpError 3) _ (g.F.Flash.state c.args.flash.now) refl

pub returns-then-not-confirm-clause-mounts : goal.returns-then-not-confirm-clause-mounts
returns-then-not-confirm-clause-mounts g c = clash _ c.args.confirm c.if-not-confirm.true

pub returns-in-Ok-clause-untouched : goal.returns-in-Ok-clause-untouched
returns-in-Ok-clause-untouched g c = λ refused. clash _ c.args.confirm refused c.if-not-confirm.false

pub returns-in-Ok-clause-mounts : goal.returns-in-Ok-clause-mounts
returns-in-Ok-clause-mounts g c = λ taken.
    mounts_answer c.args.images.target (λ d. settling d (acts_on (acts.Confirm true) 0)) c.args.images c.act_first.result (g.F.Flash.state c.args.flash.now) (g.F.Flash.state c.act_first.new.flash) c.act_first.ensures.mounts
    (settled_then c.side_laws.ensures (places_of c.args.images) (settled_places c.in-Ok.settled) c.args.images.target c.in-Ok.settled.target 0 (acts_on (acts.Confirm true) 0) c.act_first.result (g.F.Flash.state c.args.flash.now) (g.F.Flash.state c.settle_all.new.flash) (g.F.Flash.state c.act_first.new.flash) (omega arith) c.in-Ok.ensures.places c.in-Ok.ensures.target c.in-Ok.ensures.settles c.act_first.ensures.answers)

pub returns-in-Err-clause-untouched : goal.returns-in-Err-clause-untouched
returns-in-Err-clause-untouched g c = λ refused. clash _ c.args.confirm refused c.if-not-confirm.false

pub returns-in-Err-clause-mounts : goal.returns-in-Err-clause-mounts
returns-in-Err-clause-mounts g c = λ taken.
    mounts_broken c.args.images.target c.args.images c.in-Err.replied (g.F.Flash.state c.args.flash.now) (g.F.Flash.state c.settle_all.new.flash) c.in-Err.ensures.failed c.in-Err.ensures.kept c.in-Err.ensures.unsettled
