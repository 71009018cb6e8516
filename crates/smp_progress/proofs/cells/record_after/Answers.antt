use Rattle.std.proofs.Common.{[], ◌∷◌, sym, subst}
use Rattle.smp_flash.specs.Layout.{geometry_of}
use Rattle.smp_progress.specs.Cells.{After}
use Rattle.smp_progress.specs.declared.record.Record.{Record}
use Rattle.smp_progress.proofs.cells.record_after.Goals as goal

pub returns-in-Upload-clause-some : goal.returns-in-Upload-clause-some
returns-in-Upload-clause-some c = λ x e.
    subst (λ (r : Record). After (geometry_of c.args.layout.now) r (c.args.cell.now ∷ []) x) (sym c.in-Upload.is) (c.upload_after.ensures.some x e)
