use Rattle.smp_model.specs.declared.reply.Reply.TheVariants as replied
use Rattle.smp_device.proofs.Asking.{no_image_here, place_above, of_image}
use Rattle.smp_device.proofs.Falling.{fell_at, fell_nowhere}
use Rattle.smp_device.proofs.Mounting.{untouched_zero, untouched_one, answered_untouched}
use Rattle.smp_device.specs.Places.{places_of}
use Rattle.smp_device.proofs.Erasing.{erases_nowhere, erases_of}
use Rattle.smp_device.proofs.side_requests.ask_image.Goals as goal

pub returns-then-image-eq0-clause-answers : goal.returns-then-image-eq0-clause-answers
returns-then-image-eq0-clause-answers g c =
    of_image c.args.images c.args.image 0 c.args.request.now c.ask_zero.result (g.F.Flash.state c.args.flash.now) (g.F.Flash.state c.ask_zero.new.flash) c.if-image-eq0.true c.ask_zero.ensures.answers

pub returns-then-image-eq1-clause-answers : goal.returns-then-image-eq1-clause-answers
returns-then-image-eq1-clause-answers g c =
    of_image c.args.images c.args.image 1 c.args.request.now c.ask_one.result (g.F.Flash.state c.args.flash.now) (g.F.Flash.state c.ask_one.new.flash) c.if-image-eq1.true c.ask_one.ensures.answers

pub returns-clause-answers : goal.returns-clause-answers
returns-clause-answers g c =
    no_image_here c.args.images (g.F.Flash.state c.args.flash.now).geometry.unit c.args.request.now c.args.image c.no_image.result (g.F.Flash.state c.args.flash.now) (place_above (places_of c.args.images) c.args.image c.if-image-eq0.false c.if-image-eq1.false) c.requires.says c.no_image.ensures

pub returns-then-image-eq0-clause-fell : goal.returns-then-image-eq0-clause-fell
returns-then-image-eq0-clause-fell g c =
    fell_at (places_of c.args.images) c.args.image 0 c.ask_zero.result.result (g.F.Flash.state c.args.flash.now) (g.F.Flash.state c.ask_zero.new.flash) c.if-image-eq0.true c.ask_zero.ensures.fell

pub returns-then-image-eq1-clause-fell : goal.returns-then-image-eq1-clause-fell
returns-then-image-eq1-clause-fell g c =
    fell_at (places_of c.args.images) c.args.image 1 c.ask_one.result.result (g.F.Flash.state c.args.flash.now) (g.F.Flash.state c.ask_one.new.flash) c.if-image-eq1.true c.ask_one.ensures.fell

pub returns-clause-fell : goal.returns-clause-fell
returns-clause-fell g c =
    fell_nowhere (places_of c.args.images) c.args.image c.args.images (replied.GroupError 1 14) c.no_image.result (g.F.Flash.state c.args.flash.now) (g.F.Flash.state c.args.flash.now) c.no_image.ensures

pub returns-then-image-eq0-clause-absent : goal.returns-then-image-eq0-clause-absent
returns-then-image-eq0-clause-absent g c =
    untouched_zero (places_of c.args.images) c.args.images c.args.image c.ask_zero.result (g.F.Flash.state c.args.flash.now) (g.F.Flash.state c.ask_zero.new.flash) c.if-image-eq0.true

pub returns-then-image-eq1-clause-absent : goal.returns-then-image-eq1-clause-absent
returns-then-image-eq1-clause-absent g c =
    untouched_one (places_of c.args.images) c.args.images c.args.image c.ask_one.result (g.F.Flash.state c.args.flash.now) (g.F.Flash.state c.ask_one.new.flash) c.if-image-eq1.true c.ask_one.ensures.absent

pub returns-clause-absent : goal.returns-clause-absent
returns-clause-absent g c = λ none.
    answered_untouched c.args.images (replied.GroupError 1 14) c.no_image.result (g.F.Flash.state c.args.flash.now) c.no_image.ensures

pub returns-then-image-eq0-clause-erased : goal.returns-then-image-eq0-clause-erased
returns-then-image-eq0-clause-erased g c = erases_of (places_of c.args.images) c.args.image 0 c.args.request.now c.ask_zero.result.result (g.F.Flash.state c.ask_zero.new.flash).bytes c.if-image-eq0.true c.ask_zero.ensures.erased

pub returns-then-image-eq1-clause-erased : goal.returns-then-image-eq1-clause-erased
returns-then-image-eq1-clause-erased g c = erases_of (places_of c.args.images) c.args.image 1 c.args.request.now c.ask_one.result.result (g.F.Flash.state c.ask_one.new.flash).bytes c.if-image-eq1.true c.ask_one.ensures.erased

pub returns-clause-erased : goal.returns-clause-erased
returns-clause-erased g c = erases_nowhere (places_of c.args.images) c.args.image c.args.request.now c.no_image.result.result _ (place_above (places_of c.args.images) c.args.image c.if-image-eq0.false c.if-image-eq1.false)
