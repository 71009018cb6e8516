use Rattle.smp_device.proofs.Listings.{list_both_done, list_both_first, list_both_second}
use Rattle.smp_device.proofs.lists.list_both.Goals as goal

pub returns-in-Err-clause-answers : goal.returns-in-Err-clause-answers
returns-in-Err-clause-answers g c =
    list_both_first c.args.zero c.args.one c.args.target c.layout_of.result c.unknown.result c.in-Err.fault c.passed_on.result (g.F.Flash.state c.args.flash.now) (g.F.Flash.state c.pair.new.flash) c.requires.says c.in-Err.ensures.calls c.in-Err.ensures.kept c.unknown.ensures c.layout_of.ensures c.passed_on.ensures

pub returns-in-Ok-pair-clause-answers : goal.returns-in-Ok-pair-clause-answers
returns-in-Ok-pair-clause-answers g c =
    list_both_done c.args.zero c.args.one c.args.target c.in-Ok.first c.in-Ok-pair.second (g.F.Flash.state c.args.flash.now) (g.F.Flash.state c.pair.new.flash) (g.F.Flash.state c.pair-2.new.flash) c.requires.says c.in-Ok.ensures.calls c.in-Ok.ensures.kept c.in-Ok.ensures.pair c.in-Ok-pair.ensures.calls c.in-Ok-pair.ensures.kept c.in-Ok-pair.ensures.pair

pub returns-in-Err-pair-clause-answers : goal.returns-in-Err-pair-clause-answers
returns-in-Err-pair-clause-answers g c =
    list_both_second c.args.zero c.args.one c.args.target c.layout_of-in-Err-pair.result c.unknown-in-Err-pair.result c.in-Err-pair.fault c.passed_on-in-Err-pair.result (g.F.Flash.state c.args.flash.now) (g.F.Flash.state c.pair.new.flash) (g.F.Flash.state c.pair-2.new.flash) c.requires.says c.in-Ok.ensures.calls c.in-Ok.ensures.kept c.in-Err-pair.ensures.calls c.in-Err-pair.ensures.kept c.unknown-in-Err-pair.ensures c.layout_of-in-Err-pair.ensures c.passed_on-in-Err-pair.ensures
