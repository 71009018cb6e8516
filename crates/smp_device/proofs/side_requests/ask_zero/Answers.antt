use Rattle.std.proofs.Common.{refl}
use Rattle.smp_side.specs.Held.{held_layout}
use Rattle.smp_device.specs.Places.{places_of}
use Rattle.smp_device.proofs.Asking.{answer_zero}
use Rattle.smp_device.proofs.Erasing.{erases_at}
use Rattle.smp_device.proofs.side_requests.ask_zero.Goals as goal

pub returns-clause-answers : goal.returns-clause-answers
returns-clause-answers g c =
    answer_zero c.side_laws.ensures c.args.images c.args.request.now c.ask_held-asked.result (g.F.Flash.state c.args.flash.now) (g.F.Flash.state c.ask_held-asked.new.flash) c.requires.places c.requires.says c.ask_held-asked.ensures.asked

pub returns-clause-mounts : goal.returns-clause-mounts
returns-clause-mounts g c = (c.ask_held-asked.ensures.asked.mounted, refl)

pub returns-clause-fell : goal.returns-clause-fell
returns-clause-fell g c = (c.ask_held-asked.ensures.asked.answers (places_of c.args.images) c.requires.places refl).fell

pub returns-clause-erased : goal.returns-clause-erased
returns-clause-erased g c =
    erases_at (places_of c.args.images) 0 (held_layout c.args.images.zero) (held_layout c.args.images.zero) c.args.request.now c.ask_held-asked.result.result (g.F.Flash.state c.ask_held-asked.new.flash).bytes refl refl c.ask_held-asked.ensures.asked.erased
