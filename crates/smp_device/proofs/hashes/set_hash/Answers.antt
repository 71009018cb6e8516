use Rattle.std.proofs.Common.{Some, arith}
use Rattle.smp_model.specs.ImageGroup.{sets_hash, sets_image, sets_no_hash}
use Rattle.smp_model.specs.Response.{settling}
use Rattle.smp_device.specs.Places.{places_of}
use Rattle.smp_device.specs.Settling.{settled_places}
use Rattle.smp_device.proofs.Fields.{images_as, refused_here}
use Rattle.smp_device.proofs.Hashing.{hash_empty, hash_wrong, hash_right}
use Rattle.smp_device.proofs.Listings.{settled_then}
use Rattle.smp_model.specs.declared.reply.Reply.TheVariants as replied
use Rattle.smp_device.proofs.Mounting.{answered_untouched, hash_empty_mounts, hash_empty_untouched, hash_right_untouched, hash_wrong_mounts, mounts_answer, mounts_broken}
use Rattle.smp_device.proofs.hashes.set_hash.Goals as goal

pub returns-then-hash-eq0-clause-answers : goal.returns-then-hash-eq0-clause-answers
returns-then-hash-eq0-clause-answers g c =
    images_as (places_of c.args.images) 5 c.args.images.target (λ d. sets_no_hash d c.args.confirm) (λ d. sets_image d (Some c.args.hash.now) c.args.confirm) c.set_running.result.images c.set_running.result.result (g.F.Flash.state c.args.flash.now) (g.F.Flash.state c.set_running.new.flash) (hash_empty (places_of c.args.images) c.args.images.target c.args.hash.now c.args.confirm c.if-hash-eq0.true) c.set_running.ensures.answers

pub returns-then-hash-ne32-clause-answers : goal.returns-then-hash-ne32-clause-answers
returns-then-hash-ne32-clause-answers g c =
    refused_here c.args.images 5 24 (λ d. sets_image d (Some c.args.hash.now) c.args.confirm) c.refused.result (g.F.Flash.state c.args.flash.now) (hash_wrong (places_of c.args.images) c.args.images.target c.args.hash.now c.args.confirm c.if-hash-eq0.false c.if-hash-ne32.true) c.requires.says c.refused.ensures

pub returns-in-Ok-clause-answers : goal.returns-in-Ok-clause-answers
returns-in-Ok-clause-answers g c =
    images_as (places_of c.args.images) 5 c.args.images.target (λ d. settling d (sets_hash c.args.hash.now c.args.confirm)) (λ d. sets_image d (Some c.args.hash.now) c.args.confirm) c.set_settled.result.images c.set_settled.result.result (g.F.Flash.state c.args.flash.now) (g.F.Flash.state c.set_settled.new.flash) (hash_right (places_of c.args.images) c.args.images.target c.args.hash.now c.args.confirm c.if-hash-ne32.false)
    (settled_then c.side_laws.ensures (places_of c.args.images) (settled_places c.in-Ok.settled) c.args.images.target c.in-Ok.settled.target 0 (sets_hash c.args.hash.now c.args.confirm) c.set_settled.result (g.F.Flash.state c.args.flash.now) (g.F.Flash.state c.settle_all.new.flash) (g.F.Flash.state c.set_settled.new.flash) (omega arith) c.in-Ok.ensures.places c.in-Ok.ensures.target c.in-Ok.ensures.settles c.set_settled.ensures.answers)

pub returns-in-Err-clause-answers : goal.returns-in-Err-clause-answers
returns-in-Err-clause-answers g c =
    images_as (places_of c.args.images) 5 c.args.images.target (λ d. settling d (sets_hash c.args.hash.now c.args.confirm)) (λ d. sets_image d (Some c.args.hash.now) c.args.confirm) c.in-Err.replied.images c.in-Err.replied.result (g.F.Flash.state c.args.flash.now) (g.F.Flash.state c.settle_all.new.flash) (hash_right (places_of c.args.images) c.args.images.target c.args.hash.now c.args.confirm c.if-hash-ne32.false) (c.in-Err.ensures.unsettled (sets_hash c.args.hash.now c.args.confirm))

pub returns-then-hash-eq0-clause-untouched : goal.returns-then-hash-eq0-clause-untouched
returns-then-hash-eq0-clause-untouched g c =
    hash_empty_untouched c.args.hash.now c.args.confirm c.args.images c.set_running.result (g.F.Flash.state c.args.flash.now) (g.F.Flash.state c.set_running.new.flash) c.if-hash-eq0.true c.set_running.ensures.untouched

pub returns-then-hash-eq0-clause-mounts : goal.returns-then-hash-eq0-clause-mounts
returns-then-hash-eq0-clause-mounts g c =
    hash_empty_mounts c.args.hash.now c.args.confirm c.args.images c.set_running.result (g.F.Flash.state c.args.flash.now) (g.F.Flash.state c.set_running.new.flash) c.if-hash-eq0.true c.set_running.ensures.mounts

pub returns-then-hash-ne32-clause-untouched : goal.returns-then-hash-ne32-clause-untouched
returns-then-hash-ne32-clause-untouched g c = λ taken. answered_untouched c.args.images (replied.GroupError 1 24) c.refused.result (g.F.Flash.state c.args.flash.now) c.refused.ensures

pub returns-then-hash-ne32-clause-mounts : goal.returns-then-hash-ne32-clause-mounts
returns-then-hash-ne32-clause-mounts g c = hash_wrong_mounts c.args.hash.now c.args.confirm c.args.images c.refused.result (g.F.Flash.state c.args.flash.now) (g.F.Flash.state c.args.flash.now) c.if-hash-eq0.false c.if-hash-ne32.true

pub returns-in-Ok-clause-untouched : goal.returns-in-Ok-clause-untouched
returns-in-Ok-clause-untouched g c = hash_right_untouched c.args.hash.now c.args.confirm c.args.images _ _ _ c.if-hash-eq0.false c.if-hash-ne32.false

pub returns-in-Ok-clause-mounts : goal.returns-in-Ok-clause-mounts
returns-in-Ok-clause-mounts g c = λ taken.
    mounts_answer c.args.images.target (λ d. settling d (sets_hash c.args.hash.now c.args.confirm)) c.args.images c.set_settled.result (g.F.Flash.state c.args.flash.now) (g.F.Flash.state c.set_settled.new.flash) c.set_settled.ensures.mounts
    (settled_then c.side_laws.ensures (places_of c.args.images) (settled_places c.in-Ok.settled) c.args.images.target c.in-Ok.settled.target 0 (sets_hash c.args.hash.now c.args.confirm) c.set_settled.result (g.F.Flash.state c.args.flash.now) (g.F.Flash.state c.settle_all.new.flash) (g.F.Flash.state c.set_settled.new.flash) (omega arith) c.in-Ok.ensures.places c.in-Ok.ensures.target c.in-Ok.ensures.settles c.set_settled.ensures.answers)

pub returns-in-Err-clause-untouched : goal.returns-in-Err-clause-untouched
returns-in-Err-clause-untouched g c = hash_right_untouched c.args.hash.now c.args.confirm c.args.images _ _ _ c.if-hash-eq0.false c.if-hash-ne32.false

pub returns-in-Err-clause-mounts : goal.returns-in-Err-clause-mounts
returns-in-Err-clause-mounts g c = λ taken.
    mounts_broken c.args.images.target c.args.images c.in-Err.replied (g.F.Flash.state c.args.flash.now) (g.F.Flash.state c.settle_all.new.flash) c.in-Err.ensures.failed c.in-Err.ensures.kept c.in-Err.ensures.unsettled
