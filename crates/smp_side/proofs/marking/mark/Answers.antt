use Rattle.std.proofs.Common.{refl, sym, ap, ◌∙◌}
use Rattle.smp_upload.specs.States.{known_mounted, known_whole}
use Rattle.smp_upload.specs.declared.states.Mounted.TheVariants as mounts
use Rattle.smp_side.proofs.Setting.{never_worn}
use Rattle.smp_side.proofs.Parting.{says_for}
use Rattle.smp_side.proofs.Setting.{mark_done, mark_lost, mark_already, mark_refused}
use Rattle.smp_side.proofs.marking.mark.Goals as goal

pub returns-in-Ok-clause-answers : goal.returns-in-Ok-clause-answers
returns-in-Ok-clause-answers g c =
    mark_done c.sides_are_told_apart.ensures (known_whole c.in-Whole.state) c.args.mounted c.in-Ok.pending c.args.mark c.said-in-Ok.result (g.F.Flash.state c.args.flash.now) (g.F.Flash.state c.set_pending.new.flash) (sym (ap known_mounted c.in-Whole.is)) refl c.said-in-Ok.ensures (c.in-Ok.ensures.pending).0
    (says_for c.args.mounted (mounts.Whole c.in-Whole.state) (g.F.Flash.state c.args.flash.now).bytes c.in-Whole.is c.requires.says) c.in-Ok.ensures.done c.in-Ok.ensures.says

pub returns-in-Err-clause-answers : goal.returns-in-Err-clause-answers
returns-in-Err-clause-answers g c =
    mark_lost c.sides_are_told_apart.ensures (known_whole c.in-Whole.state) c.args.mounted c.args.mark c.in-Err.fault c.lost.result (g.F.Flash.state c.args.flash.now) (g.F.Flash.state c.set_pending.new.flash) (sym (ap known_mounted c.in-Whole.is)) refl c.in-Err.ensures.lost c.lost.ensures c.in-Err.ensures.moved
    (says_for c.args.mounted (mounts.Whole c.in-Whole.state) (g.F.Flash.state c.args.flash.now).bytes c.in-Whole.is c.requires.says)
    (never_worn (known_whole c.in-Whole.state) c.in-Err.fault.fault (g.F.Flash.state c.args.flash.now).bytes c.in-Err.ensures.formatted c.in-Err.ensures.worn)

pub returns-then-same_mark-clause-answers : goal.returns-then-same_mark-clause-answers
returns-then-same_mark-clause-answers g c =
    mark_already c.sides_are_told_apart.ensures c.args.mounted (mounts.Pending c.in-Pending.state) c.in-Pending.state.mark c.args.mark c.said-then-same_mark.result (g.F.Flash.state c.args.flash.now) c.in-Pending.is refl (sym c.same_mark.ensures ∙ c.if-same_mark.true) c.said-then-same_mark.ensures c.requires.says

pub returns-else-same_mark-clause-answers : goal.returns-else-same_mark-clause-answers
returns-else-same_mark-clause-answers g c =
    mark_refused c.sides_are_told_apart.ensures c.args.mounted (mounts.Pending c.in-Pending.state) c.in-Pending.state.mark c.args.mark c.refuses.result (g.F.Flash.state c.args.flash.now) c.in-Pending.is refl (sym c.same_mark.ensures ∙ c.if-same_mark.false) c.refuses.ensures c.requires.says
