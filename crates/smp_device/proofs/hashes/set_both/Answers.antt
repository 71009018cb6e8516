use Rattle.std.proofs.Common.{refl}
use Rattle.smp_model.specs.ImageGroup.{has_hash, sets_hash}
use Rattle.smp_upload.specs.States.{known_mounted}
use Rattle.smp_device.specs.Setting.{acts_on}
use Rattle.smp_device.specs.Settling.{both_places, both_settled}
use Rattle.smp_device.specs.declared.sets.Act.TheVariants as acts
use Rattle.smp_device.proofs.Hashing.{both_failed_0, both_failed_1, both_runs_0, both_runs_1, both_holds_0, both_holds_1, both_acts, both_acts_then, both_none, four_known, as_settled}
use Rattle.smp_device.proofs.hashes.set_both.Goals as goal

pub returns-in-Err-clause-answers : goal.returns-in-Err-clause-answers
returns-in-Err-clause-answers g c =
    both_failed_0 c.args.settled.zero c.args.one c.args.settled.target c.layout_of.result c.unknown-lost.result c.with_second.result c.failed.result (sets_hash c.args.hash.now c.args.confirm) c.in-Err.fault (g.F.Flash.state c.args.flash.now) (g.F.Flash.state c.runs_at.new.flash) c.requires.says c.in-Err.ensures.calls c.in-Err.ensures.kept c.unknown-lost.ensures c.layout_of.ensures c.with_second.ensures c.failed.ensures

pub returns-then-first-clause-answers : goal.returns-then-first-clause-answers
returns-then-first-clause-answers g c =
    both_acts c.args.settled.zero c.args.one c.args.settled.target 0 (acts.Confirm c.args.confirm) c.args.hash.now c.args.confirm c.act_first.result (g.F.Flash.state c.args.flash.now) (g.F.Flash.state c.runs_at.new.flash) (g.F.Flash.state c.act_first.new.flash) c.in-Ok.ensures.calls c.in-Ok.ensures.kept (both_runs_0 c.args.settled.zero c.args.one c.args.settled.target c.args.hash.now c.args.confirm c.in-Ok.runs (g.F.Flash.state c.args.flash.now).bytes c.if-first.true c.in-Ok.ensures.runs) (as_settled (acts_on (acts.Confirm c.args.confirm) 0) c.both-settled.result (both_settled c.args.settled.zero c.args.one c.args.settled.target) c.act_first.result (g.F.Flash.state c.runs_at.new.flash) (g.F.Flash.state c.act_first.new.flash) c.both-settled.ensures c.act_first.ensures.answers)

pub returns-in-Err-runs_at-clause-answers : goal.returns-in-Err-runs_at-clause-answers
returns-in-Err-runs_at-clause-answers g c =
    both_failed_1 c.args.settled.zero c.args.one c.args.settled.target c.layout_of-in-Err-runs_at.result c.unknown-lost-in-Err-runs_at.result c.with_second-in-Err-runs_at.result c.failed-in-Err-runs_at.result (sets_hash c.args.hash.now c.args.confirm) c.in-Err-runs_at.fault (g.F.Flash.state c.args.flash.now) (g.F.Flash.state c.runs_at.new.flash) (g.F.Flash.state c.runs_at-2.new.flash) c.requires.says c.in-Ok.ensures.calls c.in-Ok.ensures.kept c.in-Err-runs_at.ensures.calls c.in-Err-runs_at.ensures.kept c.unknown-lost-in-Err-runs_at.ensures c.layout_of-in-Err-runs_at.ensures c.with_second-in-Err-runs_at.ensures c.failed-in-Err-runs_at.ensures

pub returns-then-second-clause-answers : goal.returns-then-second-clause-answers
returns-then-second-clause-answers g c =
    both_acts_then c.args.settled.zero c.args.one c.args.settled.target 1 (acts.Confirm c.args.confirm) c.args.hash.now c.args.confirm c.act_second.result (g.F.Flash.state c.args.flash.now) (g.F.Flash.state c.runs_at.new.flash) (g.F.Flash.state c.runs_at-2.new.flash) (g.F.Flash.state c.act_second.new.flash) c.in-Ok.ensures.calls c.in-Ok.ensures.kept c.in-Ok-runs_at.ensures.calls c.in-Ok-runs_at.ensures.kept (both_runs_1 c.args.settled.zero c.args.one c.args.settled.target c.args.hash.now c.args.confirm c.in-Ok.runs c.in-Ok-runs_at.runs (g.F.Flash.state c.args.flash.now).bytes (g.F.Flash.state c.runs_at.new.flash).bytes c.in-Ok.ensures.kept c.if-first.false c.if-second.true c.in-Ok.ensures.runs c.in-Ok-runs_at.ensures.runs) c.act_second.ensures.answers

pub returns-then-holds_at-clause-answers : goal.returns-then-holds_at-clause-answers
returns-then-holds_at-clause-answers g c =
    both_acts_then c.args.settled.zero c.args.one c.args.settled.target 0 (acts.Mark c.mark_of.result) c.args.hash.now c.args.confirm c.act_first-then-holds_at.result (g.F.Flash.state c.args.flash.now) (g.F.Flash.state c.runs_at.new.flash) (g.F.Flash.state c.runs_at-2.new.flash) (g.F.Flash.state c.act_first-then-holds_at.new.flash) c.in-Ok.ensures.calls c.in-Ok.ensures.kept c.in-Ok-runs_at.ensures.calls c.in-Ok-runs_at.ensures.kept
    (both_holds_0 (both_places c.args.settled.zero c.args.one) c.args.settled.target c.args.hash.now c.args.confirm c.in-Ok.runs c.in-Ok-runs_at.runs c.holds_at.result (has_hash c.args.hash.now (known_mounted c.args.one).image) c.mark_of.result (g.F.Flash.state c.args.flash.now).bytes c.mark_of.ensures c.if-first.false c.if-second.false c.if-holds_at.true
    (four_known c.sides_are_told_apart.ensures c.args.settled.zero c.args.one c.args.settled.target c.args.hash.now c.in-Ok.runs c.in-Ok-runs_at.runs c.holds_at.result (has_hash c.args.hash.now (known_mounted c.args.one).image) (g.F.Flash.state c.args.flash.now).bytes (g.F.Flash.state c.runs_at.new.flash).bytes c.in-Ok.ensures.kept c.holds_at.ensures refl c.in-Ok.ensures.runs c.in-Ok-runs_at.ensures.runs c.requires.says)) (as_settled (acts_on (acts.Mark c.mark_of.result) 0) c.both-settled-then-holds_at.result (both_settled c.args.settled.zero c.args.one c.args.settled.target) c.act_first-then-holds_at.result (g.F.Flash.state c.runs_at-2.new.flash) (g.F.Flash.state c.act_first-then-holds_at.new.flash) c.both-settled-then-holds_at.ensures c.act_first-then-holds_at.ensures.answers)

pub returns-then-holds_at-2-clause-answers : goal.returns-then-holds_at-2-clause-answers
returns-then-holds_at-2-clause-answers g c =
    both_acts_then c.args.settled.zero c.args.one c.args.settled.target 1 (acts.Mark c.mark_of-then-holds_at-2.result) c.args.hash.now c.args.confirm c.act_second-then-holds_at-2.result (g.F.Flash.state c.args.flash.now) (g.F.Flash.state c.runs_at.new.flash) (g.F.Flash.state c.runs_at-2.new.flash) (g.F.Flash.state c.act_second-then-holds_at-2.new.flash) c.in-Ok.ensures.calls c.in-Ok.ensures.kept c.in-Ok-runs_at.ensures.calls c.in-Ok-runs_at.ensures.kept
    (both_holds_1 (both_places c.args.settled.zero c.args.one) c.args.settled.target c.args.hash.now c.args.confirm c.in-Ok.runs c.in-Ok-runs_at.runs c.holds_at.result c.holds_at-2.result c.mark_of-then-holds_at-2.result (g.F.Flash.state c.args.flash.now).bytes c.mark_of-then-holds_at-2.ensures c.if-first.false c.if-second.false c.if-holds_at.false c.if-holds_at-2.true
    (four_known c.sides_are_told_apart.ensures c.args.settled.zero c.args.one c.args.settled.target c.args.hash.now c.in-Ok.runs c.in-Ok-runs_at.runs c.holds_at.result c.holds_at-2.result (g.F.Flash.state c.args.flash.now).bytes (g.F.Flash.state c.runs_at.new.flash).bytes c.in-Ok.ensures.kept c.holds_at.ensures c.holds_at-2.ensures c.in-Ok.ensures.runs c.in-Ok-runs_at.ensures.runs c.requires.says)) c.act_second-then-holds_at-2.ensures.answers

pub returns-clause-answers : goal.returns-clause-answers
returns-clause-answers g c =
    both_none c.args.settled.zero c.args.one c.args.settled.target c.args.hash.now c.args.confirm c.in-Ok.runs c.in-Ok-runs_at.runs c.holds_at.result c.holds_at-2.result c.with_second-images.result c.refused.result (g.F.Flash.state c.args.flash.now) (g.F.Flash.state c.runs_at.new.flash) (g.F.Flash.state c.runs_at-2.new.flash) c.if-first.false c.if-second.false c.if-holds_at.false c.if-holds_at-2.false
    (four_known c.sides_are_told_apart.ensures c.args.settled.zero c.args.one c.args.settled.target c.args.hash.now c.in-Ok.runs c.in-Ok-runs_at.runs c.holds_at.result c.holds_at-2.result (g.F.Flash.state c.args.flash.now).bytes (g.F.Flash.state c.runs_at.new.flash).bytes c.in-Ok.ensures.kept c.holds_at.ensures c.holds_at-2.ensures c.in-Ok.ensures.runs c.in-Ok-runs_at.ensures.runs c.requires.says) c.in-Ok.ensures.calls c.in-Ok.ensures.kept c.in-Ok-runs_at.ensures.calls c.in-Ok-runs_at.ensures.kept c.requires.says c.with_second-images.ensures c.refused.ensures
