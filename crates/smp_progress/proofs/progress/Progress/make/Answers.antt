use Rattle.std.proofs.Common.{◌≡◌, ◌∙◌, refl, sym, ap, subst, Option, List, ℕ}
use Rattle.std.specs.Prelude.{IfSome}
use Rattle.smp_flash.specs.Layout.{image_of, progress_of}
use Rattle.smp_flash.specs.declared.layout.Layout.{Layout}
use Rattle.smp_gate.specs.Bank.{BankState}
use Rattle.smp_progress.specs.Cells.{HasRecord}
use Rattle.smp_progress.specs.Record.{record_bytes}
use Rattle.smp_progress.specs.State.{ProgressState}
use Rattle.smp_progress.specs.contracts.progress.Progress.{the_view}
use Rattle.smp_progress.specs.declared.record.Record.TheVariants as records
use Rattle.smp_progress.proofs.Lasting.{says_all}
use Rattle.smp_progress.proofs.Paying.{aimed}
use Rattle.smp_progress.proofs.Putting.{some_body_holds}
use Rattle.smp_progress.proofs.progress.Progress.make.Goals as goal

pub returns-in-Ok-clause-says : goal.returns-in-Ok-clause-says
returns-in-Ok-clause-says g c =
    let body : c.as_slice.result.now ≡ record_bytes 2 (image_of c.args.layout.now) records.None =
    c.as_slice.ensures.value ∙ c.put_record.ensures ∙ ap (λ (n : ℕ). record_bytes 2 n records.None) c.image_byte.ensures in
    says_all (record { layout = c.args.layout.now; bank = c.in-Ok.bank; entry = records.None }) _ (ap (λ (b : BankState). b.place) c.in-Ok.ensures.bank ∙ c.progress.ensures) c.in-Ok.ensures.says
    (some_body_holds c.args.layout.now records.None c.as_slice.result.now c.progress.result 8 _ c.progress.ensures refl body tt c.in-Ok.ensures.content)

pub returns-in-Ok-clause-pays : goal.returns-in-Ok-clause-pays
returns-in-Ok-clause-pays g c = λ aims.
    c.in-Ok.ensures.pays (aimed c.args.layout.now (g.F.Flash.state c.args.flash.now).geometry (g.F.Flash.state c.args.flash.now).aim c.progress.result
    (c.regions_count_what_begins_there.ensures c.args.layout.now) c.requires.sizes c.progress.ensures aims)
