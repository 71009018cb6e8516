use Rattle.std.proofs.Common.{ap, refl}
use Rattle.std.specs.Prelude.{option_map}
use Rattle.smp_model.specs.declared.reply.Reply.TheVariants as replied
use Rattle.smp_side.specs.Held.{held_layout}
use Rattle.smp_device.specs.Places.{places_of}
use Rattle.smp_device.proofs.Asking.{answer_one, no_image_one, second_held, second_says}
use Rattle.smp_device.proofs.Erasing.{erases_at, erases_nowhere}
use Rattle.smp_device.proofs.Falling.{fell_nowhere}
use Rattle.smp_device.proofs.Mounting.{held_untouched, one_untouched}
use Rattle.smp_device.proofs.side_requests.ask_one.Goals as goal

pub returns-in-None-clause-answers : goal.returns-in-None-clause-answers
returns-in-None-clause-answers g c =
    no_image_one c.args.images (g.F.Flash.state c.args.flash.now).geometry.unit c.args.request.now c.no_image.result (g.F.Flash.state c.args.flash.now) c.in-None.is c.requires.says c.no_image.ensures

pub returns-in-None-clause-fell : goal.returns-in-None-clause-fell
returns-in-None-clause-fell g c =
    fell_nowhere (places_of c.args.images) 1 _ _ c.no_image.result (g.F.Flash.state c.args.flash.now) (g.F.Flash.state c.args.flash.now) c.no_image.ensures

pub returns-in-None-clause-absent : goal.returns-in-None-clause-absent
returns-in-None-clause-absent g c = λ none.
    one_untouched c.args.images (replied.GroupError 1 14) c.no_image.result (g.F.Flash.state c.args.flash.now) c.in-None.is c.no_image.ensures

pub returns-in-None-clause-erased : goal.returns-in-None-clause-erased
returns-in-None-clause-erased g c = erases_nowhere (places_of c.args.images) 1 c.args.request.now c.no_image.result.result _ (ap (option_map held_layout) c.in-None.is)

pub ask_held-asked-requires-clause-layout : goal.ask_held-asked-requires-clause-layout
ask_held-asked-requires-clause-layout g c = second_held (g.F.Flash.state c.args.flash.now).geometry c.args.images c.in-Some.held c.requires.places c.in-Some.is

pub ask_held-asked-requires-clause-says : goal.ask_held-asked-requires-clause-says
ask_held-asked-requires-clause-says g c = second_says c.args.images c.in-Some.held (g.F.Flash.state c.args.flash.now).bytes c.in-Some.is c.requires.says

pub returns-in-Some-clause-answers : goal.returns-in-Some-clause-answers
returns-in-Some-clause-answers g c =
    answer_one c.side_laws.ensures c.args.images c.in-Some.held c.in-Some.is c.args.request.now c.ask_held-asked.result (g.F.Flash.state c.args.flash.now) (g.F.Flash.state c.ask_held-asked.new.flash) c.requires.places c.requires.says c.ask_held-asked.ensures.asked

pub returns-in-Some-clause-mounts : goal.returns-in-Some-clause-mounts
returns-in-Some-clause-mounts g c = (refl, c.ask_held-asked.ensures.asked.mounted)

pub returns-in-Some-clause-fell : goal.returns-in-Some-clause-fell
returns-in-Some-clause-fell g c = (c.ask_held-asked.ensures.asked.answers (places_of c.args.images) c.requires.places (ap (option_map held_layout) c.in-Some.is)).fell

pub returns-in-Some-clause-absent : goal.returns-in-Some-clause-absent
returns-in-Some-clause-absent g c = λ none. held_untouched c.args.images c.in-Some.held _ _ _ c.in-Some.is none

pub returns-in-Some-clause-erased : goal.returns-in-Some-clause-erased
returns-in-Some-clause-erased g c =
    erases_at (places_of c.args.images) 1 (held_layout c.in-Some.held) (held_layout c.in-Some.held) c.args.request.now c.ask_held-asked.result.result (g.F.Flash.state c.ask_held-asked.new.flash).bytes (ap (option_map held_layout) c.in-Some.is) refl c.ask_held-asked.ensures.asked.erased
