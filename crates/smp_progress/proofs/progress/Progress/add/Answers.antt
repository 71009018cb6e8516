use Rattle.std.proofs.Common.{◌≡◌, ◌∙◌, refl, sym, ap, subst, Option, List, ℕ}
use Rattle.std.specs.Prelude.{IfSome}
use Rattle.smp_flash.specs.Layout.{image_of, progress_of}
use Rattle.smp_flash.specs.declared.layout.Layout.{Layout}
use Rattle.smp_gate.specs.Bank.{BankState}
use Rattle.smp_progress.specs.Cells.{HasRecord}
use Rattle.smp_progress.specs.Record.{record_bytes}
use Rattle.smp_progress.specs.State.{ProgressState}
use Rattle.smp_progress.specs.contracts.progress.Progress.{the_view}
use Rattle.smp_progress.proofs.Lasting.{says_all}
use Rattle.smp_progress.proofs.Paying.{aimed}
use Rattle.smp_progress.proofs.Putting.{told_added, told_added_holds}
use Rattle.smp_progress.proofs.progress.Progress.add.Goals as goal

pub returns-in-Ok-clause-either : goal.returns-in-Ok-clause-either
returns-in-Ok-clause-either g c =
    let layout : c.self.inside.layout ≡ c.args.self.now.layout = ap (λ (p : ProgressState). p.layout) c.self.view_is in
    let at : c.self.inside.bank.place ≡ progress_of c.args.self.now.layout = c.self.invariant.0 ∙ ap progress_of layout in
    told_added c.args.self.now c.args.entry.now c.args.cell.now c.self.inside.bank.place c.self.inside.bank.cell _ _ at c.self.invariant.1
    c.requires.continues c.requires.cell c.requires.lawful c.requires.says c.append.ensures.same_or_added

pub returns-after-fault-clause-either : goal.returns-after-fault-clause-either
returns-after-fault-clause-either g c =
    let layout : c.self.inside.layout ≡ c.args.self.now.layout = ap (λ (p : ProgressState). p.layout) c.self.view_is in
    let at : c.self.inside.bank.place ≡ progress_of c.args.self.now.layout = c.self.invariant.0 ∙ ap progress_of layout in
    told_added c.args.self.now c.args.entry.now c.args.cell.now c.self.inside.bank.place c.self.inside.bank.cell _ _ at c.self.invariant.1
    c.requires.continues c.requires.cell c.requires.lawful c.requires.says c.append.ensures.same_or_added

pub returns-in-Ok-clause-says : goal.returns-in-Ok-clause-says
returns-in-Ok-clause-says g c =
    let layout : c.self.inside.layout ≡ c.args.self.now.layout = ap (λ (p : ProgressState). p.layout) c.self.view_is in
    let at : c.self.inside.bank.place ≡ progress_of c.args.self.now.layout = c.self.invariant.0 ∙ ap progress_of layout in
    says_all (record { layout = c.self.inside.layout; bank = c.append.new.self; entry = c.args.entry.now }) _ (ap (λ (b : BankState). b.place) c.in-Ok.ensures.bank ∙ c.self.invariant.0) c.in-Ok.ensures.says
    (subst (λ (l : Layout). IfSome (g.F.Flash.state c.append.new.flash).bytes (HasRecord l c.args.entry.now)) (sym layout)
    (told_added_holds c.args.self.now c.args.entry.now c.args.cell.now c.self.inside.bank.place c.self.inside.bank.cell _ _ at c.self.invariant.1
    c.requires.continues c.requires.cell c.requires.lawful c.requires.says c.in-Ok.ensures.added))

pub returns-in-Ok-clause-pays : goal.returns-in-Ok-clause-pays
returns-in-Ok-clause-pays g c = λ added aims.
    let layout : c.self.inside.layout ≡ c.args.self.now.layout = ap (λ (p : ProgressState). p.layout) c.self.view_is in
    let at : c.self.inside.bank.place ≡ progress_of c.args.self.now.layout = c.self.invariant.0 ∙ ap progress_of layout in
    c.in-Ok.ensures.pays (aimed c.args.self.now.layout (g.F.Flash.state c.args.flash.now).geometry (g.F.Flash.state c.args.flash.now).aim c.self.inside.bank.place
    (c.regions_count_what_begins_there.ensures c.args.self.now.layout) c.requires.sizes at aims)
