use Rattle.std.proofs.Common.{ap}
use Rattle.std.specs.Prelude.{option_map}
use Rattle.smp_side.specs.Held.{held_layout}
use Rattle.smp_device.specs.Places.{places_of}
use Rattle.smp_device.proofs.Listings.{unsettled_zero, unsettled_one, second_still, both_say}
use Rattle.smp_device.proofs.Settlements.{settles_alone, settles_both}
use Rattle.smp_device.proofs.settled.settle_all.Goals as goal

pub returns-in-Err-clause-unsettled : goal.returns-in-Err-clause-unsettled
returns-in-Err-clause-unsettled g c =
    unsettled_zero c.side_laws.ensures c.args.images c.in-Err.fault c.lost-handed.result (g.F.Flash.state c.args.flash.now) (g.F.Flash.state c.mounted.new.flash) c.requires.places c.in-Err.ensures.lost c.requires.says c.lost-handed.ensures c.in-Err.ensures.moved c.in-Err.ensures.caused

pub mounted-requires-in-Some-clause-says : goal.mounted-requires-in-Some-clause-says
mounted-requires-in-Some-clause-says g c =
    second_still c.side_laws.ensures (g.F.Flash.state c.args.flash.now).geometry c.args.images c.requires.places c.in-Some.held c.in-Some.is (g.F.Flash.state c.args.flash.now).bytes (g.F.Flash.state c.mounted.new.flash).bytes c.requires.says c.in-Ok.ensures.done.calls.keeps

pub returns-in-None-clause-settles : goal.returns-in-None-clause-settles
returns-in-None-clause-settles g c =
    settles_alone c.side_laws.ensures (g.F.Flash.state c.args.flash.now).geometry (places_of c.args.images) c.requires.places c.args.images.target (g.F.Flash.state c.args.flash.now) (g.F.Flash.state c.mounted.new.flash) (ap (option_map held_layout) c.in-None.is) c.in-Ok.ensures.done

pub returns-in-Ok-mounted-clause-settles : goal.returns-in-Ok-mounted-clause-settles
returns-in-Ok-mounted-clause-settles g c =
    settles_both c.side_laws.ensures (g.F.Flash.state c.args.flash.now).geometry (places_of c.args.images) c.requires.places (held_layout c.in-Some.held) (ap (option_map held_layout) c.in-Some.is) c.args.images.target (g.F.Flash.state c.args.flash.now) (g.F.Flash.state c.mounted.new.flash) (g.F.Flash.state c.mounted-in-Some.new.flash) c.in-Ok.ensures.done c.in-Ok-mounted.ensures.done

pub returns-in-Ok-mounted-clause-says : goal.returns-in-Ok-mounted-clause-says
returns-in-Ok-mounted-clause-says g c =
    both_say c.side_laws.ensures (g.F.Flash.state c.args.flash.now).geometry c.args.images c.requires.places c.in-Some.held c.in-Some.is c.in-Ok.zero c.in-Ok-mounted.side c.args.images.target c.in-Ok.ensures.layout (g.F.Flash.state c.mounted.new.flash).bytes (g.F.Flash.state c.mounted-in-Some.new.flash).bytes c.in-Ok.ensures.says c.in-Ok-mounted.ensures.done.calls.keeps c.in-Ok-mounted.ensures.says

pub returns-in-Err-mounted-clause-unsettled : goal.returns-in-Err-mounted-clause-unsettled
returns-in-Err-mounted-clause-unsettled g c =
    unsettled_one c.side_laws.ensures c.args.images c.in-Some.held c.in-Some.is c.in-Ok.zero c.in-Err-mounted.fault c.lost-handed-in-Err-mounted.result (g.F.Flash.state c.args.flash.now) (g.F.Flash.state c.mounted.new.flash) (g.F.Flash.state c.mounted-in-Some.new.flash) c.requires.places c.in-Ok.ensures.layout c.in-Err-mounted.ensures.lost c.in-Ok.ensures.done c.in-Ok.ensures.says
    (second_still c.side_laws.ensures (g.F.Flash.state c.args.flash.now).geometry c.args.images c.requires.places c.in-Some.held c.in-Some.is (g.F.Flash.state c.args.flash.now).bytes (g.F.Flash.state c.mounted.new.flash).bytes c.requires.says c.in-Ok.ensures.done.calls.keeps) c.lost-handed-in-Err-mounted.ensures c.in-Err-mounted.ensures.moved c.in-Err-mounted.ensures.caused
