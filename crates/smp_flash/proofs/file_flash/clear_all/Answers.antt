use Rattle.std.proofs.Common.{◌*◌, ◌∙◌, refl, arith}
use Rattle.smp_flash.proofs.Behind.{none_blanked, blanked_more, blanked_partly}
use Rattle.smp_flash.proofs.file_flash.clear_all.Goals as goal

pub pages-init : goal.pages-init
pages-init g c = (none_blanked (0 * c.args.geometry.page) _ (omega arith), refl)

pub pages-preserved : goal.pages-preserved
pages-preserved g c =
    (blanked_more c.args.geometry.page c.pages.n _ _ _ c.pages.invariant.0 c.in-Ok.ensures.ok c.in-Ok.ensures.size, c.in-Ok.ensures.cause.went ∙ c.pages.invariant.1)

pub returns-in-Err-clause-err : goal.returns-in-Err-clause-err
returns-in-Err-clause-err g c =
    blanked_partly (c.pages.n * c.args.geometry.page) (c.pages.n * c.args.geometry.page) c.args.geometry.page _ _ _ c.pages.invariant.0 c.in-Err.ensures.err c.in-Err.ensures.size
