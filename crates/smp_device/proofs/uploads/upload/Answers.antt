use Rattle.std.specs.Prelude.{option_map}
use Rattle.smp_model.specs.declared.reply.Reply.TheVariants as replied
use Rattle.smp_model.specs.Does.{does}
use Rattle.smp_model.specs.Meant as meant
use Rattle.smp_device.specs.Places.{places_of}
use Rattle.smp_device.specs.Uploads.{sizes_of}
use Rattle.smp_device.proofs.Fields.{refused_here, upload_elsewhere}
use Rattle.smp_device.proofs.Mounting.{answered_untouched, nowhere_mounts, start_untouches, start_mounts, part_untouches, part_mounts}
use Rattle.smp_device.proofs.uploads.upload.Goals as goal

pub returns-then-not-has_image-clause-answers : goal.returns-then-not-has_image-clause-answers
returns-then-not-has_image-clause-answers g c =
    refused_here c.args.images 5 14 (λ d. does (sizes_of (g.F.Flash.state c.args.flash.now).geometry) d (meant.upload c.args.part.now.image c.args.part.now.len c.args.part.now.off (option_map (λ s. s.now) c.args.part.now.sha) c.args.part.now.bytes.now)) c.refused.result (g.F.Flash.state c.args.flash.now)
    (upload_elsewhere (g.F.Flash.state c.args.flash.now).geometry (places_of c.args.images) c.args.images.target c.image_of-image.result c.args.part.now.image c.args.part.now.len c.args.part.now.off (option_map (λ s. s.now) c.args.part.now.sha) c.args.part.now.bytes.now c.image_of-image.ensures (c.has_image.ensures.not c.if-not-has_image.true)) c.requires.says c.refused.ensures

pub returns-then-not-has_image-clause-untouched : goal.returns-then-not-has_image-clause-untouched
returns-then-not-has_image-clause-untouched g c = λ d has uses.
    answered_untouched c.args.images (replied.GroupError 1 14) c.refused.result (g.F.Flash.state c.args.flash.now) c.refused.ensures

pub returns-then-not-has_image-clause-mounts : goal.returns-then-not-has_image-clause-mounts
returns-then-not-has_image-clause-mounts g c =
    nowhere_mounts (g.F.Flash.state c.args.flash.now).geometry c.image_of-image.result c.args.part.now.image c.args.part.now.len c.args.part.now.off (option_map (λ s. s.now) c.args.part.now.sha) c.args.part.now.bytes.now c.args.images c.refused.result (g.F.Flash.state c.args.flash.now) (g.F.Flash.state c.args.flash.now) c.image_of-image.ensures (c.has_image.ensures.not c.if-not-has_image.true)

pub returns-then-part-eq0-clause-untouched : goal.returns-then-part-eq0-clause-untouched
returns-then-part-eq0-clause-untouched g c =
    start_untouches (g.F.Flash.state c.args.flash.now).geometry c.image_of-image.result c.args.part.now.image c.args.part.now.len c.args.part.now.off (option_map (λ s. s.now) c.args.part.now.sha) c.args.part.now.bytes.now c.args.images c.upload_start.result (g.F.Flash.state c.args.flash.now) (g.F.Flash.state c.upload_start.new.flash) c.image_of-image.ensures (c.has_image.ensures.yes c.if-not-has_image.false) c.if-part-eq0.true c.upload_start.ensures.untouched

pub returns-then-part-eq0-clause-mounts : goal.returns-then-part-eq0-clause-mounts
returns-then-part-eq0-clause-mounts g c =
    start_mounts (g.F.Flash.state c.args.flash.now).geometry c.image_of-image.result c.args.part.now.image c.args.part.now.len c.args.part.now.off (option_map (λ s. s.now) c.args.part.now.sha) c.args.part.now.bytes.now c.args.images c.upload_start.result (g.F.Flash.state c.args.flash.now) (g.F.Flash.state c.upload_start.new.flash) c.image_of-image.ensures (c.has_image.ensures.yes c.if-not-has_image.false) c.if-part-eq0.true c.upload_start.ensures.mounts

pub returns-clause-untouched : goal.returns-clause-untouched
returns-clause-untouched g c =
    part_untouches (g.F.Flash.state c.args.flash.now).geometry c.image_of-image.result c.args.part.now.image c.args.part.now.len c.args.part.now.off (option_map (λ s. s.now) c.args.part.now.sha) c.args.part.now.bytes.now c.args.images c.upload_part.result (g.F.Flash.state c.args.flash.now) (g.F.Flash.state c.upload_part.new.flash) c.image_of-image.ensures (c.has_image.ensures.yes c.if-not-has_image.false) c.if-part-eq0.false c.upload_part.ensures.untouched

pub returns-clause-mounts : goal.returns-clause-mounts
returns-clause-mounts g c =
    part_mounts (g.F.Flash.state c.args.flash.now).geometry c.image_of-image.result c.args.part.now.image c.args.part.now.len c.args.part.now.off (option_map (λ s. s.now) c.args.part.now.sha) c.args.part.now.bytes.now c.args.images c.upload_part.result (g.F.Flash.state c.args.flash.now) (g.F.Flash.state c.upload_part.new.flash) c.image_of-image.ensures (c.has_image.ensures.yes c.if-not-has_image.false) c.if-part-eq0.false c.upload_part.ensures.mounts
