use Rattle.std.proofs.Common.{sym, ◌∙◌}
use Rattle.smp_side.specs.Held.{is_mounted, is_ok}
use Rattle.smp_device.proofs.Acting.{done_mounted, first_listed, first_mounts, first_settled, first_stopped}
use Rattle.smp_device.proofs.sets.act_first.Goals as goal

pub returns-then-not-is_done-clause-answers : goal.returns-then-not-is_done-clause-answers
returns-then-not-is_done-clause-answers g c =
    first_stopped c.side_laws.ensures c.args.settled c.args.act c.act_on-handed.result c.held_of.result (g.F.Flash.state c.args.flash.now) (g.F.Flash.state c.act_on-handed.new.flash) c.requires.places c.requires.says (sym c.is_done.ensures ∙ c.if-not-is_done.true) c.held_of.ensures c.act_on-handed.ensures.answers

pub returns-then-not-is_done-clause-mounts : goal.returns-then-not-is_done-clause-mounts
returns-then-not-is_done-clause-mounts g c =
    first_mounts c.act_on-handed.result.held c.args.settled.one c.held_of.result (is_ok c.act_on-handed.result.result) c.held_of.ensures c.act_on-handed.ensures.answers.mounted

pub mounted_of-requires : goal.mounted_of-requires
mounted_of-requires g c =
    done_mounted c.act_on-handed.result.result (is_mounted c.act_on-handed.result.held) c.act_on-handed.ensures.answers.mounted (sym c.is_done.ensures ∙ c.if-not-is_done.false)

pub list_settled-requires-clause-says : goal.list_settled-requires-clause-says
list_settled-requires-clause-says g c =
    first_settled c.side_laws.ensures c.args.settled c.mounted_of.result c.args.act c.act_on-handed.result (g.F.Flash.state c.args.flash.now) (g.F.Flash.state c.act_on-handed.new.flash) c.requires.places c.requires.says c.mounted_of.ensures c.act_on-handed.ensures.answers

pub returns-clause-answers : goal.returns-clause-answers
returns-clause-answers g c =
    first_listed c.side_laws.ensures c.args.settled c.mounted_of.result c.args.act c.act_on-handed.result c.list_settled.result (g.F.Flash.state c.args.flash.now) (g.F.Flash.state c.act_on-handed.new.flash) (g.F.Flash.state c.list_settled.new.flash) c.requires.places c.mounted_of.ensures (sym c.is_done.ensures ∙ c.if-not-is_done.false) c.act_on-handed.ensures.answers c.list_settled.ensures.answers
