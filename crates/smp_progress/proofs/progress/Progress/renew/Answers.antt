use Rattle.std.proofs.Common.{◌≡◌, ◌∙◌, refl, sym, ap, subst, Option, List, ℕ}
use Rattle.std.specs.Prelude.{IfSome}
use Rattle.smp_flash.specs.Layout.{image_of, progress_of}
use Rattle.smp_flash.specs.declared.layout.Layout.{Layout}
use Rattle.smp_gate.specs.Bank.{BankState}
use Rattle.smp_progress.specs.Cells.{HasRecord}
use Rattle.smp_progress.specs.Record.{record_bytes}
use Rattle.smp_progress.specs.State.{ProgressState}
use Rattle.smp_progress.specs.contracts.progress.Progress.{the_view}
use Rattle.smp_progress.proofs.Lasting.{says_all}
use Rattle.smp_progress.proofs.Paying.{aimed}
use Rattle.smp_progress.proofs.Putting.{told_this, some_body_holds, told_body}
use Rattle.smp_progress.proofs.progress.Progress.renew.Goals as goal

pub returns-in-Ok-clause-either : goal.returns-in-Ok-clause-either
returns-in-Ok-clause-either g c =
    let layout : c.self.inside.layout ≡ c.args.self.now.layout = ap (λ (p : ProgressState). p.layout) c.self.view_is in
    let at : c.self.inside.bank.place ≡ progress_of c.args.self.now.layout = c.self.invariant.0 ∙ ap progress_of layout in
    let body : c.as_slice.result.now ≡ record_bytes 2 (image_of c.args.self.now.layout) c.args.entry.now =
    c.as_slice.ensures.value ∙ c.put_record.ensures ∙ ap (λ (n : ℕ). record_bytes 2 n c.args.entry.now) (c.image_byte.ensures ∙ ap image_of layout) in
    told_this c.args.self.now.layout c.args.entry.now c.as_slice.result.now c.self.inside.bank.place c.self.inside.bank.cell _ _ at c.self.invariant.1 body c.requires.lawful c.replace.ensures.same_or_this

pub returns-in-Err-clause-either : goal.returns-in-Err-clause-either
returns-in-Err-clause-either g c =
    let layout : c.self.inside.layout ≡ c.args.self.now.layout = ap (λ (p : ProgressState). p.layout) c.self.view_is in
    let at : c.self.inside.bank.place ≡ progress_of c.args.self.now.layout = c.self.invariant.0 ∙ ap progress_of layout in
    let body : c.as_slice.result.now ≡ record_bytes 2 (image_of c.args.self.now.layout) c.args.entry.now =
    c.as_slice.ensures.value ∙ c.put_record.ensures ∙ ap (λ (n : ℕ). record_bytes 2 n c.args.entry.now) (c.image_byte.ensures ∙ ap image_of layout) in
    told_this c.args.self.now.layout c.args.entry.now c.as_slice.result.now c.self.inside.bank.place c.self.inside.bank.cell _ _ at c.self.invariant.1 body c.requires.lawful c.replace.ensures.same_or_this

pub returns-in-Ok-clause-says : goal.returns-in-Ok-clause-says
returns-in-Ok-clause-says g c =
    let layout : c.self.inside.layout ≡ c.args.self.now.layout = ap (λ (p : ProgressState). p.layout) c.self.view_is in
    let at : c.self.inside.bank.place ≡ progress_of c.args.self.now.layout = c.self.invariant.0 ∙ ap progress_of layout in
    let body : c.as_slice.result.now ≡ record_bytes 2 (image_of c.args.self.now.layout) c.args.entry.now =
    c.as_slice.ensures.value ∙ c.put_record.ensures ∙ ap (λ (n : ℕ). record_bytes 2 n c.args.entry.now) (c.image_byte.ensures ∙ ap image_of layout) in
    says_all (record { layout = c.self.inside.layout; bank = c.replace.new.self; entry = c.args.entry.now }) _ (ap (λ (b : BankState). b.place) c.in-Ok.ensures.bank ∙ c.self.invariant.0) c.in-Ok.ensures.says
    (subst (λ (l : Layout). IfSome (g.F.Flash.state c.replace.new.flash).bytes (HasRecord l c.args.entry.now)) (sym layout)
    (some_body_holds c.args.self.now.layout c.args.entry.now c.as_slice.result.now c.self.inside.bank.place c.self.inside.bank.cell _ at c.self.invariant.1 body c.requires.lawful c.in-Ok.ensures.content))

pub returns-in-Ok-clause-pays : goal.returns-in-Ok-clause-pays
returns-in-Ok-clause-pays g c = λ aims.
    let layout : c.self.inside.layout ≡ c.args.self.now.layout = ap (λ (p : ProgressState). p.layout) c.self.view_is in
    let at : c.self.inside.bank.place ≡ progress_of c.args.self.now.layout = c.self.invariant.0 ∙ ap progress_of layout in
    c.in-Ok.ensures.pays (aimed c.args.self.now.layout (g.F.Flash.state c.args.flash.now).geometry (g.F.Flash.state c.args.flash.now).aim c.self.inside.bank.place
    (c.regions_count_what_begins_there.ensures c.args.self.now.layout) c.requires.sizes at aims)

pub returns-in-Ok-clause-written : goal.returns-in-Ok-clause-written
returns-in-Ok-clause-written g c =
    let layout : c.self.inside.layout ≡ c.args.self.now.layout = ap (λ (p : ProgressState). p.layout) c.self.view_is in
    let at : c.self.inside.bank.place ≡ progress_of c.args.self.now.layout = c.self.invariant.0 ∙ ap progress_of layout in
    let age : c.self.inside.bank.generation ≡ c.args.self.now.bank.generation = ap (λ (p : ProgressState). p.bank.generation) c.self.view_is in
    let body : c.as_slice.result.now ≡ record_bytes 2 (image_of c.args.self.now.layout) c.args.entry.now =
    c.as_slice.ensures.value ∙ c.put_record.ensures ∙ ap (λ (n : ℕ). record_bytes 2 n c.args.entry.now) (c.image_byte.ensures ∙ ap image_of layout) in
    told_body _ _ _ _ _ _ _ _ at age body c.replace.ensures.old_or_new

pub returns-in-Err-clause-written : goal.returns-in-Err-clause-written
returns-in-Err-clause-written g c =
    let layout : c.self.inside.layout ≡ c.args.self.now.layout = ap (λ (p : ProgressState). p.layout) c.self.view_is in
    let at : c.self.inside.bank.place ≡ progress_of c.args.self.now.layout = c.self.invariant.0 ∙ ap progress_of layout in
    let age : c.self.inside.bank.generation ≡ c.args.self.now.bank.generation = ap (λ (p : ProgressState). p.bank.generation) c.self.view_is in
    let body : c.as_slice.result.now ≡ record_bytes 2 (image_of c.args.self.now.layout) c.args.entry.now =
    c.as_slice.ensures.value ∙ c.put_record.ensures ∙ ap (λ (n : ℕ). record_bytes 2 n c.args.entry.now) (c.image_byte.ensures ∙ ap image_of layout) in
    told_body _ _ _ _ _ _ _ _ at age body c.replace.ensures.old_or_new
