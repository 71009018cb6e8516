use Rattle.std.proofs.Common.{◌≡◌, sym, nat_eq, slice_index_or, Some}
use Rattle.smp_progress.specs.declared.record.Record.TheVariants as records
use Rattle.smp_progress.proofs.cells.upload_after.Goals as goal

pub returns-clause-some : goal.returns-clause-some
returns-clause-some c = λ x e.
    let same : records.Upload c.args.announcement c.number_at-offset.result (nat_eq (slice_index_or c.args.cell.now 0 0) 2) ≡ x = cc e in (
      record { offset = c.number_at-offset.result; rescue = nat_eq (slice_index_or c.args.cell.now 0 0) 2; bytes = c.is_cell.ensures.0 c.if-not-is_cell.false; lawful = c.may_stand.ensures.0 c.if-not-may_stand.false },
      sym same,
    )
