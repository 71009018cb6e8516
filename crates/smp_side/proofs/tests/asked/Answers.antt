use Rattle.std.proofs.Common.{sym, ap, ◌∙◌}
use Rattle.smp_flash.specs.Layout.{geometry_of}
use Rattle.smp_side.proofs.Asked.{sizes_after, lost_says}
use Rattle.smp_side.proofs.tests.asked.Goals as goal

pub returns-in-Err-clause-says : goal.returns-in-Err-clause-says
returns-in-Err-clause-says c = lost_says c.args.held _ _ c.lost.result _ _ _ _ c.lost.ensures c.in-Err.ensures.lost c.in-Err.ensures.moved c.requires.says

pub returns-in-Part-clause-sizes : goal.returns-in-Part-clause-sizes
returns-in-Part-clause-sizes c =
    sizes_after _ _ _ c.part_at.result _ _ c.part_at.ensures.answers (ap geometry_of c.in-Ok.ensures.layout ∙ c.requires.sizes ∙ sym c.in-Ok.ensures.moved.calls.passes.geometry)

pub returns-in-Erase-clause-sizes : goal.returns-in-Erase-clause-sizes
returns-in-Erase-clause-sizes c =
    sizes_after _ _ _ c.erase.result _ _ c.erase.ensures.answers (ap geometry_of c.in-Ok.ensures.layout ∙ c.requires.sizes ∙ sym c.in-Ok.ensures.moved.calls.passes.geometry)

pub returns-in-Confirm-clause-sizes : goal.returns-in-Confirm-clause-sizes
returns-in-Confirm-clause-sizes c =
    sizes_after _ _ _ c.confirm.result _ _ c.confirm.ensures.answers (ap geometry_of c.in-Ok.ensures.layout ∙ c.requires.sizes ∙ sym c.in-Ok.ensures.moved.calls.passes.geometry)
