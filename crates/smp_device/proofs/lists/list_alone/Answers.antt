use Rattle.smp_device.proofs.Listings.{list_alone_done, list_alone_broken}
use Rattle.smp_device.proofs.lists.list_alone.Goals as goal

pub returns-in-Ok-clause-answers : goal.returns-in-Ok-clause-answers
returns-in-Ok-clause-answers g c =
    list_alone_done c.args.zero c.args.target c.in-Ok.first (g.F.Flash.state c.args.flash.now) (g.F.Flash.state c.pair.new.flash) c.requires.says c.in-Ok.ensures.calls c.in-Ok.ensures.kept c.in-Ok.ensures.pair

pub returns-in-Err-clause-answers : goal.returns-in-Err-clause-answers
returns-in-Err-clause-answers g c =
    list_alone_broken c.args.zero c.args.target c.layout_of.result c.unknown.result c.in-Err.fault c.passed_on.result (g.F.Flash.state c.args.flash.now) (g.F.Flash.state c.pair.new.flash) c.requires.says c.in-Err.ensures.calls c.in-Err.ensures.kept c.unknown.ensures c.layout_of.ensures c.passed_on.ensures
