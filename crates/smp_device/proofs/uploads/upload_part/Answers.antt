use Rattle.std.proofs.Common.{refl}
use Rattle.std.specs.Prelude.{option_map}
use Rattle.smp_model.specs.declared.reply.Reply.TheVariants as replied
use Rattle.smp_model.specs.ImageGroup.{has_wrong_size}
use Rattle.smp_model.specs.Does.{does}
use Rattle.smp_model.specs.Meant as meant
use Rattle.smp_device.specs.Places.{places_of}
use Rattle.smp_device.specs.Requests.{responds_on}
use Rattle.smp_device.specs.Uploads.{sizes_of}
use Rattle.smp_device.specs.declared.images.SideRequest.TheVariants as asks
use Rattle.smp_device.proofs.Fields.{images_as, refused_here, part_fit, part_unfit, as_number}
use Rattle.smp_device.proofs.Mounting.{answered_untouched, clash, mounts_one}
use Rattle.smp_device.proofs.uploads.upload_part.Goals as goal

pub returns-in-Ok-clause-answers : goal.returns-in-Ok-clause-answers
returns-in-Ok-clause-answers g c =
    images_as (places_of c.args.images) 5 c.args.images.target (responds_on (g.F.Flash.state c.args.flash.now).geometry.unit (asks.Part c.args.part.now.off c.args.part.now.sha c.args.part.now.bytes) c.args.image) (λ d. does (sizes_of (g.F.Flash.state c.args.flash.now).geometry) d (meant.upload c.args.part.now.image c.args.part.now.len c.args.part.now.off (option_map (λ s. s.now) c.args.part.now.sha) c.args.part.now.bytes.now)) c.ask_image.result.images c.ask_image.result.result (g.F.Flash.state c.args.flash.now) (g.F.Flash.state c.ask_image.new.flash)
    (part_fit (g.F.Flash.state c.args.flash.now).geometry (places_of c.args.images) c.args.images.target c.args.image c.args.part.now.image c.args.part.now.len c.args.part.now.off (option_map (λ s. s.now) c.args.part.now.sha) c.args.part.now.bytes.now (asks.Part c.args.part.now.off c.args.part.now.sha c.args.part.now.bytes) c.requires.meant c.requires.there c.requires.further c.in-Ok.ensures.ok.0 (λ s. refl)) c.ask_image.ensures.answers

pub returns-in-Err-clause-answers : goal.returns-in-Err-clause-answers
returns-in-Err-clause-answers g c =
    refused_here c.args.images 5 24 (λ d. does (sizes_of (g.F.Flash.state c.args.flash.now).geometry) d (meant.upload c.args.part.now.image c.args.part.now.len c.args.part.now.off (option_map (λ s. s.now) c.args.part.now.sha) c.args.part.now.bytes.now)) c.refused.result (g.F.Flash.state c.args.flash.now)
    (part_unfit (g.F.Flash.state c.args.flash.now).geometry (places_of c.args.images) c.args.images.target c.args.image c.args.part.now.image c.args.part.now.len c.args.part.now.off (option_map (λ s. s.now) c.args.part.now.sha) c.args.part.now.bytes.now c.requires.meant c.requires.there c.requires.further c.in-Err.ensures.err.0) c.requires.says (as_number c.args.images c.refused.result c.in-Err.number 24 c.in-Err.ensures.err.1 c.refused.ensures)

pub returns-in-Ok-clause-untouched : goal.returns-in-Ok-clause-untouched
returns-in-Ok-clause-untouched g c =
    clash _ (has_wrong_size (option_map (λ s. s.now) c.args.part.now.sha)) c.in-Ok.ensures.ok.0

pub returns-in-Ok-clause-mounts : goal.returns-in-Ok-clause-mounts
returns-in-Ok-clause-mounts g c = λ right.
    mounts_one c.args.images c.ask_image.result (g.F.Flash.state c.args.flash.now) (g.F.Flash.state c.ask_image.new.flash) c.args.image c.requires.there c.ask_image.ensures.answers.places_kept c.ask_image.ensures.mounts c.ask_image.ensures.fell

pub returns-in-Err-clause-untouched : goal.returns-in-Err-clause-untouched
returns-in-Err-clause-untouched g c = λ wrong.
    answered_untouched c.args.images (replied.GroupError 1 c.in-Err.number) c.refused.result (g.F.Flash.state c.args.flash.now) c.refused.ensures

pub returns-in-Err-clause-mounts : goal.returns-in-Err-clause-mounts
returns-in-Err-clause-mounts g c =
    λ right. clash _ (has_wrong_size (option_map (λ s. s.now) c.args.part.now.sha)) right c.in-Err.ensures.err.0
