use Rattle.std.proofs.Common.{Err, Ok, refl, ◌∙◌}
use Rattle.std.specs.Prelude.{option_map}
use Rattle.smp_model.specs.declared.reply.Reply.TheVariants as replied
use Rattle.smp_model.specs.Does.{does}
use Rattle.smp_model.specs.Meant as meant
use Rattle.smp_device.specs.Places.{places_of}
use Rattle.smp_device.specs.Requests.{responds_on}
use Rattle.smp_device.specs.Uploads.{sizes_of}
use Rattle.smp_device.specs.declared.images.SideRequest.TheVariants as asks
use Rattle.smp_device.proofs.Fields.{images_as, refused_here, room_is, start_fit, start_unfit}
use Rattle.smp_device.proofs.Mounting.{answered_untouched, mounts_one, refused_mounts, taken_untouched}
use Rattle.smp_device.proofs.Fields.{refused_answer}
use Rattle.smp_device.proofs.uploads.upload_start.Goals as goal

pub returns-in-Ok-clause-answers : goal.returns-in-Ok-clause-answers
returns-in-Ok-clause-answers g c =
    images_as (places_of c.args.images) 5 c.args.images.target (responds_on (g.F.Flash.state c.args.flash.now).geometry.unit (asks.Start c.in-Ok.announcement c.args.part.now.bytes) c.args.image) (λ d. does (sizes_of (g.F.Flash.state c.args.flash.now).geometry) d (meant.upload c.args.part.now.image c.args.part.now.len c.args.part.now.off (option_map (λ s. s.now) c.args.part.now.sha) c.args.part.now.bytes.now)) c.ask_image.result.images c.ask_image.result.result (g.F.Flash.state c.args.flash.now) (g.F.Flash.state c.ask_image.new.flash)
    (start_fit (g.F.Flash.state c.args.flash.now).geometry (places_of c.args.images) c.args.images.target c.args.image c.args.part.now.image c.args.part.now.len c.args.part.now.off (option_map (λ s. s.now) c.args.part.now.sha) c.args.part.now.bytes.now c.in-Ok.announcement (asks.Start c.in-Ok.announcement c.args.part.now.bytes) c.requires.meant c.requires.there c.requires.first (room_is (g.F.Flash.state c.args.flash.now).geometry c.sizes-geometry.result c.slot_size.result c.args.part.now.len (option_map (λ s. s.now) c.args.part.now.sha) c.args.part.now.bytes.now (Ok c.in-Ok.announcement) (c.sizes-geometry.ensures.same ∙ c.requires.places.first.0) c.slot_size.ensures.size c.in-Ok.ensures.announces) (λ s. refl)) c.ask_image.ensures.answers

pub returns-in-Err-clause-answers : goal.returns-in-Err-clause-answers
returns-in-Err-clause-answers g c =
    refused_here c.args.images 5 c.in-Err.number (λ d. does (sizes_of (g.F.Flash.state c.args.flash.now).geometry) d (meant.upload c.args.part.now.image c.args.part.now.len c.args.part.now.off (option_map (λ s. s.now) c.args.part.now.sha) c.args.part.now.bytes.now)) c.refused.result (g.F.Flash.state c.args.flash.now)
    (start_unfit (g.F.Flash.state c.args.flash.now).geometry (places_of c.args.images) c.args.images.target c.args.image c.in-Err.number c.args.part.now.image c.args.part.now.len c.args.part.now.off (option_map (λ s. s.now) c.args.part.now.sha) c.args.part.now.bytes.now c.requires.meant c.requires.there c.requires.first (room_is (g.F.Flash.state c.args.flash.now).geometry c.sizes-geometry.result c.slot_size.result c.args.part.now.len (option_map (λ s. s.now) c.args.part.now.sha) c.args.part.now.bytes.now (Err c.in-Err.number) (c.sizes-geometry.ensures.same ∙ c.requires.places.first.0) c.slot_size.ensures.size c.in-Err.ensures.announces)) c.requires.says c.refused.ensures

pub returns-in-Ok-clause-untouched : goal.returns-in-Ok-clause-untouched
returns-in-Ok-clause-untouched g c =
    taken_untouched (g.F.Flash.state c.args.flash.now).geometry c.args.part.now.len (option_map (λ s. s.now) c.args.part.now.sha) c.args.part.now.bytes.now c.in-Ok.announcement c.args.images c.ask_image.result (g.F.Flash.state c.args.flash.now) (g.F.Flash.state c.ask_image.new.flash)
    (room_is (g.F.Flash.state c.args.flash.now).geometry c.sizes-geometry.result c.slot_size.result c.args.part.now.len (option_map (λ s. s.now) c.args.part.now.sha) c.args.part.now.bytes.now (Ok c.in-Ok.announcement) (c.sizes-geometry.ensures.same ∙ c.requires.places.first.0) c.slot_size.ensures.size c.in-Ok.ensures.announces)

pub returns-in-Ok-clause-mounts : goal.returns-in-Ok-clause-mounts
returns-in-Ok-clause-mounts g c = λ taken.
    mounts_one c.args.images c.ask_image.result (g.F.Flash.state c.args.flash.now) (g.F.Flash.state c.ask_image.new.flash) c.args.image c.requires.there c.ask_image.ensures.answers.places_kept c.ask_image.ensures.mounts c.ask_image.ensures.fell

pub returns-in-Err-clause-untouched : goal.returns-in-Err-clause-untouched
returns-in-Err-clause-untouched g c = λ taken.
    answered_untouched c.args.images (replied.GroupError 1 c.in-Err.number) c.refused.result (g.F.Flash.state c.args.flash.now) c.refused.ensures

pub returns-in-Err-clause-mounts : goal.returns-in-Err-clause-mounts
returns-in-Err-clause-mounts g c =
    refused_mounts (g.F.Flash.state c.args.flash.now).geometry c.args.part.now.len (option_map (λ s. s.now) c.args.part.now.sha) c.args.part.now.bytes.now c.in-Err.number (places_of c.args.images) c.args.image c.args.images c.refused.result (g.F.Flash.state c.args.flash.now) (g.F.Flash.state c.args.flash.now)
    (room_is (g.F.Flash.state c.args.flash.now).geometry c.sizes-geometry.result c.slot_size.result c.args.part.now.len (option_map (λ s. s.now) c.args.part.now.sha) c.args.part.now.bytes.now (Err c.in-Err.number) (c.sizes-geometry.ensures.same ∙ c.requires.places.first.0) c.slot_size.ensures.size c.in-Err.ensures.announces)

pub returns-in-Err-clause-answer : goal.returns-in-Err-clause-answer
returns-in-Err-clause-answer g c = refused_answer c.args.images c.in-Err.number c.refused.result c.refused.ensures c.in-Err.ensures.known
