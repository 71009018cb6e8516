use Rattle.std.proofs.Common.{refl}
use Rattle.smp_model.specs.declared.reply.Reply.TheVariants as replied
use Rattle.smp_model.specs.Does.{does}
use Rattle.smp_model.specs.Meant as meant
use Rattle.smp_device.specs.Places.{places_of}
use Rattle.smp_device.specs.Requests.{responds_on}
use Rattle.smp_device.specs.Uploads.{sizes_of}
use Rattle.smp_device.specs.declared.images.SideRequest.TheVariants as asks
use Rattle.smp_device.proofs.Fields.{images_as, refused_here, erase_zero, erase_one, erase_other}
use Rattle.smp_device.proofs.Mounting.{answered_untouched, mounts_one, erase_zero_untouches, erase_zero_mounts, erase_one_untouches, erase_one_mounts, erase_other_mounts}
use Rattle.smp_device.proofs.Erasing.{erase_zero_erases, erase_one_erases, erase_other_erases}
use Rattle.smp_device.proofs.uploads.erase.Goals as goal

pub returns-then-slot-eq1-clause-answers : goal.returns-then-slot-eq1-clause-answers
returns-then-slot-eq1-clause-answers g c =
    images_as (places_of c.args.images) 5 c.args.images.target (responds_on (g.F.Flash.state c.args.flash.now).geometry.unit asks.Erase 0) (λ d. does (sizes_of (g.F.Flash.state c.args.flash.now).geometry) d (meant.erase c.args.slot)) c.ask_image.result.images c.ask_image.result.result (g.F.Flash.state c.args.flash.now) (g.F.Flash.state c.ask_image.new.flash) (erase_zero (g.F.Flash.state c.args.flash.now).geometry (places_of c.args.images) c.args.images.target c.args.slot c.if-slot-eq1.true) c.ask_image.ensures.answers

pub returns-then-slot-eq3-clause-answers : goal.returns-then-slot-eq3-clause-answers
returns-then-slot-eq3-clause-answers g c =
    images_as (places_of c.args.images) 5 c.args.images.target (responds_on (g.F.Flash.state c.args.flash.now).geometry.unit asks.Erase 1) (λ d. does (sizes_of (g.F.Flash.state c.args.flash.now).geometry) d (meant.erase c.args.slot)) c.ask_image-then-slot-eq3.result.images c.ask_image-then-slot-eq3.result.result (g.F.Flash.state c.args.flash.now) (g.F.Flash.state c.ask_image-then-slot-eq3.new.flash) (erase_one (g.F.Flash.state c.args.flash.now).geometry (places_of c.args.images) c.args.images.target c.args.slot c.if-slot-eq3.true) c.ask_image-then-slot-eq3.ensures.answers

pub returns-clause-answers : goal.returns-clause-answers
returns-clause-answers g c =
    refused_here c.args.images 5 14 (λ d. does (sizes_of (g.F.Flash.state c.args.flash.now).geometry) d (meant.erase c.args.slot)) c.refused.result (g.F.Flash.state c.args.flash.now) (erase_other (g.F.Flash.state c.args.flash.now).geometry (places_of c.args.images) c.args.images.target c.args.slot c.if-slot-eq1.false c.if-slot-eq3.false) c.requires.says c.refused.ensures

pub returns-then-slot-eq1-clause-untouched : goal.returns-then-slot-eq1-clause-untouched
returns-then-slot-eq1-clause-untouched g c =
    erase_zero_untouches (sizes_of (g.F.Flash.state c.args.flash.now).geometry) c.args.slot c.args.images c.ask_image.result (g.F.Flash.state c.args.flash.now) (g.F.Flash.state c.ask_image.new.flash) c.if-slot-eq1.true

pub returns-then-slot-eq1-clause-mounts : goal.returns-then-slot-eq1-clause-mounts
returns-then-slot-eq1-clause-mounts g c =
    erase_zero_mounts (sizes_of (g.F.Flash.state c.args.flash.now).geometry) c.args.slot c.args.images c.ask_image.result (g.F.Flash.state c.args.flash.now) (g.F.Flash.state c.ask_image.new.flash) c.if-slot-eq1.true
    (mounts_one c.args.images c.ask_image.result (g.F.Flash.state c.args.flash.now) (g.F.Flash.state c.ask_image.new.flash) 0 refl c.ask_image.ensures.answers.places_kept c.ask_image.ensures.mounts c.ask_image.ensures.fell)

pub returns-then-slot-eq3-clause-untouched : goal.returns-then-slot-eq3-clause-untouched
returns-then-slot-eq3-clause-untouched g c =
    erase_one_untouches (sizes_of (g.F.Flash.state c.args.flash.now).geometry) c.args.slot c.args.images c.ask_image-then-slot-eq3.result (g.F.Flash.state c.args.flash.now) (g.F.Flash.state c.ask_image-then-slot-eq3.new.flash) c.if-slot-eq3.true c.ask_image-then-slot-eq3.ensures.absent

pub returns-then-slot-eq3-clause-mounts : goal.returns-then-slot-eq3-clause-mounts
returns-then-slot-eq3-clause-mounts g c =
    erase_one_mounts (sizes_of (g.F.Flash.state c.args.flash.now).geometry) c.args.slot c.args.images c.ask_image-then-slot-eq3.result (g.F.Flash.state c.args.flash.now) (g.F.Flash.state c.ask_image-then-slot-eq3.new.flash) c.if-slot-eq3.true
    (λ there. mounts_one c.args.images c.ask_image-then-slot-eq3.result (g.F.Flash.state c.args.flash.now) (g.F.Flash.state c.ask_image-then-slot-eq3.new.flash) 1 there c.ask_image-then-slot-eq3.ensures.answers.places_kept c.ask_image-then-slot-eq3.ensures.mounts c.ask_image-then-slot-eq3.ensures.fell)

pub returns-clause-untouched : goal.returns-clause-untouched
returns-clause-untouched g c = λ d has uses.
    answered_untouched c.args.images (replied.GroupError 1 14) c.refused.result (g.F.Flash.state c.args.flash.now) c.refused.ensures

pub returns-clause-mounts : goal.returns-clause-mounts
returns-clause-mounts g c =
    erase_other_mounts (sizes_of (g.F.Flash.state c.args.flash.now).geometry) c.args.slot c.args.images c.refused.result (g.F.Flash.state c.args.flash.now) (g.F.Flash.state c.args.flash.now) c.if-slot-eq1.false c.if-slot-eq3.false

pub returns-then-slot-eq1-clause-erased : goal.returns-then-slot-eq1-clause-erased
returns-then-slot-eq1-clause-erased g c = erase_zero_erases (places_of c.args.images) c.args.images.target c.args.slot c.ask_image.result.result (g.F.Flash.state c.ask_image.new.flash).bytes c.if-slot-eq1.true c.ask_image.ensures.erased

pub returns-then-slot-eq3-clause-erased : goal.returns-then-slot-eq3-clause-erased
returns-then-slot-eq3-clause-erased g c = erase_one_erases (places_of c.args.images) c.args.images.target c.args.slot c.ask_image-then-slot-eq3.result.result (g.F.Flash.state c.ask_image-then-slot-eq3.new.flash).bytes c.if-slot-eq3.true c.ask_image-then-slot-eq3.ensures.erased

pub returns-clause-erased : goal.returns-clause-erased
returns-clause-erased g c = erase_other_erases (places_of c.args.images) c.args.images.target c.args.slot c.refused.result.result _ c.if-slot-eq1.false c.if-slot-eq3.false
