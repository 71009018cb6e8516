use Rattle.smp_model.specs.ImageGroup.{sets_hash}
use Rattle.smp_device.specs.Setting.{acts_on}
use Rattle.smp_device.specs.Settling.{alone_settled}
use Rattle.smp_device.specs.declared.sets.Act.TheVariants as acts
use Rattle.smp_device.proofs.Hashing.{alone_failed, alone_acts, alone_runs, alone_holds, alone_none, as_settled}
use Rattle.smp_device.proofs.hashes.set_alone.Goals as goal

pub returns-in-Err-clause-answers : goal.returns-in-Err-clause-answers
returns-in-Err-clause-answers g c =
    alone_failed c.args.zero c.args.target c.layout_of.result c.unknown.result (sets_hash c.args.hash.now c.args.confirm) c.in-Err.fault c.passed_on.result (g.F.Flash.state c.args.flash.now) (g.F.Flash.state c.runs_at.new.flash) c.requires.says c.in-Err.ensures.calls c.in-Err.ensures.kept c.unknown.ensures c.layout_of.ensures c.passed_on.ensures

pub returns-then-runs-clause-answers : goal.returns-then-runs-clause-answers
returns-then-runs-clause-answers g c =
    alone_acts c.args.zero c.args.target (acts.Confirm c.args.confirm) c.args.hash.now c.args.confirm c.act_first.result (g.F.Flash.state c.args.flash.now) (g.F.Flash.state c.runs_at.new.flash) (g.F.Flash.state c.act_first.new.flash) c.in-Ok.ensures.calls c.in-Ok.ensures.kept (alone_runs c.args.zero c.args.target c.args.hash.now c.args.confirm c.in-Ok.runs (g.F.Flash.state c.args.flash.now).bytes c.if-runs.true c.in-Ok.ensures.runs) (as_settled (acts_on (acts.Confirm c.args.confirm) 0) c.alone-settled.result (alone_settled c.args.zero c.args.target) c.act_first.result (g.F.Flash.state c.runs_at.new.flash) (g.F.Flash.state c.act_first.new.flash) c.alone-settled.ensures c.act_first.ensures.answers)

pub returns-then-holds_at-clause-answers : goal.returns-then-holds_at-clause-answers
returns-then-holds_at-clause-answers g c =
    alone_acts c.args.zero c.args.target (acts.Mark c.mark_of.result) c.args.hash.now c.args.confirm c.act_first-then-holds_at.result (g.F.Flash.state c.args.flash.now) (g.F.Flash.state c.runs_at.new.flash) (g.F.Flash.state c.act_first-then-holds_at.new.flash) c.in-Ok.ensures.calls c.in-Ok.ensures.kept
    (alone_holds c.sides_are_told_apart.ensures c.args.zero c.args.target c.args.hash.now c.args.confirm c.in-Ok.runs c.holds_at.result c.mark_of.result (g.F.Flash.state c.args.flash.now).bytes c.if-runs.false c.if-holds_at.true c.mark_of.ensures c.holds_at.ensures c.in-Ok.ensures.runs c.requires.says) (as_settled (acts_on (acts.Mark c.mark_of.result) 0) c.alone-settled-then-holds_at.result (alone_settled c.args.zero c.args.target) c.act_first-then-holds_at.result (g.F.Flash.state c.runs_at.new.flash) (g.F.Flash.state c.act_first-then-holds_at.new.flash) c.alone-settled-then-holds_at.ensures c.act_first-then-holds_at.ensures.answers)

pub returns-clause-answers : goal.returns-clause-answers
returns-clause-answers g c =
    alone_none c.sides_are_told_apart.ensures c.args.zero c.args.target c.args.hash.now c.args.confirm c.in-Ok.runs c.holds_at.result c.refused.result (g.F.Flash.state c.args.flash.now) (g.F.Flash.state c.runs_at.new.flash) c.if-runs.false c.if-holds_at.false c.holds_at.ensures c.in-Ok.ensures.calls c.in-Ok.ensures.kept c.in-Ok.ensures.runs c.requires.says c.refused.ensures
