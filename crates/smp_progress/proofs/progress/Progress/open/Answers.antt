use Rattle.std.proofs.Common.{◌∙◌, ◌≤◌, ap, sym, arith}
use Rattle.smp_flash.specs.Calls.{ReadsAtMost}
use Rattle.smp_flash.specs.Layout.{geometry_of}
use Rattle.smp_flash.proofs.Sizes.{regular}
use Rattle.smp_flash.proofs.Telling.{IfSome-same}
use Rattle.smp_gate.specs.Bank.{BankState, BankSays}
use Rattle.smp_gate.specs.declared.fault.BankFault.TheVariants.{Unformatted}
use Rattle.smp_progress.proofs.Lasting.{says_all}
use Rattle.smp_progress.proofs.Opening.{opened, none_opened, none_read, not_some, err_again}
use Rattle.smp_progress.proofs.Counting.{opening_reads, few_reads}
use Rattle.smp_progress.proofs.progress.Progress.open.Goals as goal

pub returns-in-Ok-after_cells-clause-says : goal.returns-in-Ok-after_cells-clause-says
returns-in-Ok-after_cells-clause-says g c =
    let x = (g.F.Flash.state c.open.new.flash).bytes in
    let y = (g.F.Flash.state c.after_cells.new.flash).bytes in
    let read = c.read_record.ensures.some c.in-Some.first c.in-Some.is in
    says_all (record { layout = c.args.layout.now; bank = c.in-Ok.bank; entry = c.in-Ok-after_cells.entry }) y
    (ap (λ (b : BankState). b.place) c.in-Ok.ensures.bank ∙ c.progress.ensures)
    (IfSome-same (BankSays c.in-Ok.bank) x y c.after_cells.ensures.kept c.in-Ok.ensures.says)
    (opened c.args.layout.now c.in-Some.first c.in-Ok-after_cells.entry c.as_slice.result.now c.open.new.body.items c.progress.result x y c.progress.ensures c.as_slice.ensures.value
    read.0 read.1 c.in-Ok.ensures.content c.in-Ok-after_cells.ensures.gives c.after_cells.ensures.kept)

pub returns-in-Err-after_cells-clause-unformatted : goal.returns-in-Err-after_cells-clause-unformatted
returns-in-Err-after_cells-clause-unformatted g c = λ is.
    let x = (g.F.Flash.state c.open.new.flash).bytes in
    let y = (g.F.Flash.state c.after_cells.new.flash).bytes in
    let layout = c.args.layout.now in
    let read = c.read_record.ensures.some c.in-Some.first c.in-Some.is in
    none_opened layout c.in-Some.first c.as_slice.result.now c.open.new.body.items c.progress.result x y (regular (geometry_of layout) layout.lawful).slot_most c.progress.ensures c.as_slice.ensures.value
    read.0 read.1 c.in-Ok.ensures.content (c.in-Err-after_cells.ensures.unformatted (err_again c.in-Err-after_cells.fault Unformatted is)) c.after_cells.ensures.kept

pub returns-in_default-clause-unformatted : goal.returns-in_default-clause-unformatted
returns-in_default-clause-unformatted g c = λ is.
    none_read c.args.layout.now c.as_slice.result.now c.open.new.body.items c.progress.result _ c.progress.ensures c.as_slice.ensures.value (c.read_record.ensures.none (not_some c.read_record.result c.in_default.not-Some)) c.in-Ok.ensures.content

pub returns-in_default-clause-reads_most : goal.returns-in_default-clause-reads_most
returns-in_default-clause-reads_most g c = few_reads 4112 (g.F.Flash.state c.args.flash.now).bytes _ _ (omega arith) c.open.ensures.reads

pub returns-in-Ok-after_cells-clause-reads_most : goal.returns-in-Ok-after_cells-clause-reads_most
returns-in-Ok-after_cells-clause-reads_most g c =
    let p = (g.F.Flash.state c.args.flash.now).bytes_read in
    let r = (g.F.Flash.state c.after_cells.new.flash).bytes_read in
    IfSome-same (λ held. ReadsAtMost 4120 p r) (g.F.Flash.state c.open.new.flash).bytes (g.F.Flash.state c.args.flash.now).bytes (sym c.open.ensures.kept)
    (opening_reads c.in-Ok.bank _ _ _ _ _ (ap (λ (b : BankState). b.cell) c.in-Ok.ensures.bank) (ap (λ (b : BankState). b.size) c.in-Ok.ensures.bank) c.in-Ok.ensures.fits c.in-Ok.ensures.says
    c.in-Ok.ensures.reads_once c.after_cells.ensures.reads)

pub returns-in-Err-after_cells-clause-reads_most : goal.returns-in-Err-after_cells-clause-reads_most
returns-in-Err-after_cells-clause-reads_most g c =
    let p = (g.F.Flash.state c.args.flash.now).bytes_read in
    let r = (g.F.Flash.state c.after_cells.new.flash).bytes_read in
    IfSome-same (λ held. ReadsAtMost 4120 p r) (g.F.Flash.state c.open.new.flash).bytes (g.F.Flash.state c.args.flash.now).bytes (sym c.open.ensures.kept)
    (opening_reads c.in-Ok.bank _ _ _ _ _ (ap (λ (b : BankState). b.cell) c.in-Ok.ensures.bank) (ap (λ (b : BankState). b.size) c.in-Ok.ensures.bank) c.in-Ok.ensures.fits c.in-Ok.ensures.says
    c.in-Ok.ensures.reads_once c.after_cells.ensures.reads)
