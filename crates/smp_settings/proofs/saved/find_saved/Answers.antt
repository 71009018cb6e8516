use Rattle.std.proofs.Common.{◌∙◌, ap, subst, refl, Bool, arith}
use Rattle.std.specs.Prelude.{IfSome}
use Rattle.smp_settings.specs.Found.{CellsGive}
use Rattle.smp_flash.proofs.Passing.{Calls-after}
use Rattle.smp_gate.specs.Bank.{BankState}
use Rattle.smp_settings.proofs.Opening.{opening_most, fewer_read}
use Rattle.smp_settings.proofs.Saving.{sides_are, holds_bank, refused_body_told, refused_cells_told, found_saved_told}
use Rattle.smp_settings.proofs.saved.find_saved.Goals as goal

pub returns-then-not-read_form-clause-unformatted : goal.returns-then-not-read_form-clause-unformatted
returns-then-not-read_form-clause-unformatted g c =
    λ e. refused_body_told c.args.layout.now c.settings.result c.open.new.body.items c.as_slice.result.now (g.F.Flash.state c.open.new.flash).bytes c.settings.ensures c.as_slice.ensures.value
    c.if-not-read_form.ensures c.in-Ok.ensures.content

pub returns-in-Ok-true-clause-calls : goal.returns-in-Ok-true-clause-calls
returns-in-Ok-true-clause-calls g c =
    Calls-after _ _ _ _ _ (sides_are c.args.layout.now c.settings.result _ _ _ c.settings.ensures c.in-Ok.ensures.calls)
    (sides_are c.args.layout.now c.in-Ok.bank.place _ _ _ (ap (λ (b : BankState). b.place) c.in-Ok.ensures.bank ∙ c.settings.ensures) c.in-Ok-true.ensures.calls)

pub returns-in-Ok-true-clause-saved : goal.returns-in-Ok-true-clause-saved
returns-in-Ok-true-clause-saved g c =
    found_saved_told c.args.layout.now c.settings.result c.in-Ok.bank c.read_form.new.table c.read_cells.new.table c.open.new.body.items c.as_slice.result.now
    (g.F.Flash.state c.open.new.flash).bytes (g.F.Flash.state c.read_cells.new.flash).bytes c.settings.ensures c.as_slice.ensures.value c.if-not-read_form.ensures
    (holds_bank c.in-Ok.bank _ c.args.layout.now c.settings.result c.in-Ok.ensures.bank refl refl refl c.settings.ensures) c.read_cells.ensures.kept c.in-Ok.ensures.content
    (subst (λ (b : Bool). IfSome (g.F.Flash.state c.read_cells.new.flash).bytes (CellsGive c.in-Ok.bank b c.read_form.new.table c.read_cells.new.table)) c.in-Ok-true.field-0-test c.in-Ok-true.ensures.read)

pub returns-in-Ok-false-clause-calls : goal.returns-in-Ok-false-clause-calls
returns-in-Ok-false-clause-calls g c =
    Calls-after _ _ _ _ _ (sides_are c.args.layout.now c.settings.result _ _ _ c.settings.ensures c.in-Ok.ensures.calls)
    (sides_are c.args.layout.now c.in-Ok.bank.place _ _ _ (ap (λ (b : BankState). b.place) c.in-Ok.ensures.bank ∙ c.settings.ensures) c.in-Ok-false.ensures.calls)

pub returns-in-Ok-false-clause-unformatted : goal.returns-in-Ok-false-clause-unformatted
returns-in-Ok-false-clause-unformatted g c =
    λ e. refused_cells_told c.args.layout.now c.settings.result c.in-Ok.bank c.read_form.new.table c.read_cells.new.table c.open.new.body.items c.as_slice.result.now
    (g.F.Flash.state c.open.new.flash).bytes (g.F.Flash.state c.read_cells.new.flash).bytes c.settings.ensures c.as_slice.ensures.value c.if-not-read_form.ensures
    (holds_bank c.in-Ok.bank _ c.args.layout.now c.settings.result c.in-Ok.ensures.bank refl refl refl c.settings.ensures) c.read_cells.ensures.kept c.in-Ok.ensures.content
    (subst (λ (b : Bool). IfSome (g.F.Flash.state c.read_cells.new.flash).bytes (CellsGive c.in-Ok.bank b c.read_form.new.table c.read_cells.new.table)) c.in-Ok-false.field-0-test c.in-Ok-false.ensures.read)

pub returns-in-Err-read_cells-clause-calls : goal.returns-in-Err-read_cells-clause-calls
returns-in-Err-read_cells-clause-calls g c =
    Calls-after _ _ _ _ _ (sides_are c.args.layout.now c.settings.result _ _ _ c.settings.ensures c.in-Ok.ensures.calls)
    (sides_are c.args.layout.now c.in-Ok.bank.place _ _ _ (ap (λ (b : BankState). b.place) c.in-Ok.ensures.bank ∙ c.settings.ensures) c.in-Err-read_cells.ensures.calls)

pub returns-then-not-read_form-clause-most_read : goal.returns-then-not-read_form-clause-most_read
returns-then-not-read_form-clause-most_read g c = fewer_read 4112 8208 _ _ _ (omega arith) c.open.ensures.reads

pub returns-in-Ok-true-clause-most_read : goal.returns-in-Ok-true-clause-most_read
returns-in-Ok-true-clause-most_read g c =
    opening_most c.in-Ok.bank _ _ _ _ _ c.open.ensures.kept (ap (λ (b : BankState). b.cell) c.in-Ok.ensures.bank) c.in-Ok.ensures.says c.open.ensures.reads c.read_cells.ensures.reads

pub returns-in-Ok-false-clause-most_read : goal.returns-in-Ok-false-clause-most_read
returns-in-Ok-false-clause-most_read g c =
    opening_most c.in-Ok.bank _ _ _ _ _ c.open.ensures.kept (ap (λ (b : BankState). b.cell) c.in-Ok.ensures.bank) c.in-Ok.ensures.says c.open.ensures.reads c.read_cells.ensures.reads

pub returns-in-Err-read_cells-clause-most_read : goal.returns-in-Err-read_cells-clause-most_read
returns-in-Err-read_cells-clause-most_read g c =
    opening_most c.in-Ok.bank _ _ _ _ _ c.open.ensures.kept (ap (λ (b : BankState). b.cell) c.in-Ok.ensures.bank) c.in-Ok.ensures.says c.open.ensures.reads c.read_cells.ensures.reads
