use Rattle.std.specs.Prelude.{◌≡◌, ◌↔◌, IsTrue}
use Rattle.smp_flash.specs.Area.{area, blank, Fades}
use Rattle.smp_flash.proofs.Areas.{Fades-refl}
use Rattle.smp_flash.proofs.Telling.{Told-same, Erased-found, IfSome-map}
use Rattle.std.proofs.Common.{arith, ◌+◌}
use Rattle.smp_flash.proofs.Passing.{Calls-after, reads_add, reads_more, changes_add, changes_more}
use Rattle.smp_flash.specs.Area.{dirty}
use Rattle.smp_flash.proofs.Pieces.{no_erase, one_erase}
use Rattle.smp_flash.proofs.calls.clear_page.Goals as goal

pub returns-in_err-is_page_erased-clause-fades : goal.returns-in_err-is_page_erased-clause-fades
returns-in_err-is_page_erased-clause-fades g c = Told-same (Fades c.args.at c.args.size) _ _ (λ u. Fades-refl c.args.at c.args.size u) c.is_page_erased.ensures.kept

pub returns-then-branch-clause-fades : goal.returns-then-branch-clause-fades
returns-then-branch-clause-fades g c = Told-same (Fades c.args.at c.args.size) _ _ (λ u. Fades-refl c.args.at c.args.size u) c.is_page_erased.ensures.kept

pub returns-then-branch-clause-erased : goal.returns-then-branch-clause-erased
returns-then-branch-clause-erased g c =
    Erased-found c.args.at c.args.size _ _ c.is_page_erased.ensures.kept
    (IfSome-map (λ held. IsTrue c.in_ok-is_page_erased.field-0 ↔ (area c.args.at c.args.size held ≡ blank c.args.size)) (λ held. area c.args.at c.args.size held ≡ blank c.args.size) _
    (λ held both. both.0 c.if-branch.true) c.in_ok-is_page_erased.ensures.erased)

pub returns-clause-calls : goal.returns-clause-calls
returns-clause-calls g c = Calls-after _ _ _ _ _ c.in_ok-is_page_erased.ensures.calls c.erase_page.ensures.calls

pub returns-then-branch-clause-erases : goal.returns-then-branch-clause-erases
returns-then-branch-clause-erases g c = no_erase (λ held. dirty c.args.size (area c.args.at c.args.size held)) _ _ _ c.in_ok-is_page_erased.ensures.changes

pub returns-clause-erases : goal.returns-clause-erases
returns-clause-erases g c =
    one_erase c.args.at c.args.size _ _ _ _ _ c.if-branch.false c.in_ok-is_page_erased.ensures.erased c.in_ok-is_page_erased.ensures.changes c.erase_page.ensures.changes

pub returns-in_err-is_page_erased-clause-erases : goal.returns-in_err-is_page_erased-clause-erases
returns-in_err-is_page_erased-clause-erases g c = no_erase (λ held. dirty c.args.size (area c.args.at c.args.size held)) _ _ _ c.is_page_erased.ensures.changes

pub returns-then-branch-clause-changes : goal.returns-then-branch-clause-changes
returns-then-branch-clause-changes g c = changes_more 0 0 0 1 _ _ (omega arith) (omega arith) c.in_ok-is_page_erased.ensures.changes

pub returns-clause-reads : goal.returns-clause-reads
returns-clause-reads g c = reads_more (c.args.size + 0) c.args.size _ _ (omega arith) (reads_add c.args.size 0 _ _ _ c.in_ok-is_page_erased.ensures.reads c.erase_page.ensures.reads)

pub returns-clause-changes : goal.returns-clause-changes
returns-clause-changes g c = changes_add 0 0 0 1 _ _ _ c.in_ok-is_page_erased.ensures.changes c.erase_page.ensures.changes
