use Rattle.std.proofs.Common.{◌∙◌, subst, ap}
use Rattle.std.specs.Prelude.{IfSome}
use Rattle.smp_flash.specs.Calls.{Calls, ReadsAtMost}
use Rattle.smp_flash.specs.Layout.{settings_of, bank_spots}
use Rattle.smp_flash.specs.State.{FlashState}
use Rattle.smp_flash.specs.declared.layout.Layout.{Layout}
use Rattle.smp_flash.proofs.Passing.{Calls-after, changes_add}
use Rattle.smp_gate.specs.Fault.{bank_end}
use Rattle.smp_settings.specs.Saved.{SettingsState, KeepsSide}
use Rattle.smp_settings.proofs.Opening.{then_read}
use Rattle.smp_settings.proofs.Storing.{cheap_after, last_told, worn_before, pays_before, ok_weaker, ok_fresh, err_weaker, refused_after}
use Rattle.smp_settings.proofs.settings.Settings.save.Goals as goal

pub returns-in-Ok-clause-calls : goal.returns-in-Ok-clause-calls
returns-in-Ok-clause-calls g c =
    Calls-after _ _ _ _ _ c.in-Ok.ensures.calls
    (subst (λ (l : Layout). Calls (bank_spots (settings_of l)) (bank_end c.store.result) (g.F.Flash.state c.make_sure.new.flash) (g.F.Flash.state c.store.new.flash)) c.make_sure.ensures.layout c.store.ensures.calls)

pub returns-in-Ok-clause-changes : goal.returns-in-Ok-clause-changes
returns-in-Ok-clause-changes g c = changes_add 0 2 0 8 _ _ _ c.make_sure.ensures.changes c.store.ensures.changes

pub returns-in-Ok-clause-cheap : goal.returns-in-Ok-clause-cheap
returns-in-Ok-clause-cheap g c =
    cheap_after c.args.self.now.layout _ c.args.self.now.running _ _ _ _ _ _ _ c.make_sure.ensures.layout c.make_sure.ensures.running c.make_sure.ensures.kept c.make_sure.ensures.changes c.store.ensures.cheap

pub returns-in-Ok-clause-worn : goal.returns-in-Ok-clause-worn
returns-in-Ok-clause-worn g c = λ worn.
    worn_before c.make_sure.new.self c.args.self.now.layout _ _ c.bank_says_what_stands.ensures.generation c.make_sure.ensures.layout c.make_sure.ensures.kept c.in-Ok.ensures.sure c.make_sure.ensures.says
    (c.store.ensures.worn.0 worn)

pub returns-in-Ok-clause-fresh : goal.returns-in-Ok-clause-fresh
returns-in-Ok-clause-fresh g c =
    ok_fresh c.store.result _ _ c.store.ensures.worn
    (λ less. last_told c.make_sure.new.self c.args.self.now.layout _ _ _ c.bank_says_what_stands.ensures.generation c.make_sure.ensures.layout c.make_sure.ensures.kept c.in-Ok.ensures.sure c.make_sure.ensures.says less)

pub returns-in-Ok-clause-idle : goal.returns-in-Ok-clause-idle
returns-in-Ok-clause-idle g c =
    last_told c.make_sure.new.self c.args.self.now.layout _ _ _ c.bank_says_what_stands.ensures.generation c.make_sure.ensures.layout c.make_sure.ensures.kept c.in-Ok.ensures.sure c.make_sure.ensures.says
    (λ last. let same = (c.store.ensures.idle last).0 in (ap (λ (f : FlashState). f.bytes) same ∙ c.make_sure.ensures.kept, (rw same c.make_sure.ensures.changes)))

pub returns-in-Ok-clause-pays : goal.returns-in-Ok-clause-pays
returns-in-Ok-clause-pays g c =
    ok_weaker c.store.result _ _
    (pays_before c.args.self.now.layout _ c.args.self.now.running _ (g.F.Flash.state c.args.flash.now) (g.F.Flash.state c.make_sure.new.flash) (g.F.Flash.state c.store.new.flash) _ _ c.make_sure.ensures.layout c.make_sure.ensures.running c.make_sure.ensures.kept
    c.in-Ok.ensures.calls.passes.aim c.in-Ok.ensures.calls.passes.patience) c.store.ensures.pays

pub returns-in-Ok-clause-refused : goal.returns-in-Ok-clause-refused
returns-in-Ok-clause-refused g c =
    err_weaker c.store.result _ _
    (refused_after c.args.self.now.layout c.make_sure.new.self _ _ _ _ c.make_sure.ensures.layout c.make_sure.ensures.kept c.in-Ok.ensures.sure c.make_sure.ensures.says) c.store.ensures.refused

pub returns-in-Ok-clause-spared : goal.returns-in-Ok-clause-spared
returns-in-Ok-clause-spared g c = λ sure.
    let same = c.make_sure.ensures.same sure in
    let after = (g.F.Flash.state c.store.new.flash).bytes_read in
    subst (λ (f : FlashState). IfSome f.bytes (λ held. KeepsSide c.args.self.now.layout c.args.self.now.running held → ReadsAtMost 0 f.bytes_read after)) same.2
    (subst (λ (s : SettingsState). IfSome (g.F.Flash.state c.make_sure.new.flash).bytes (λ held. KeepsSide s.layout s.running held → ReadsAtMost 0 (g.F.Flash.state c.make_sure.new.flash).bytes_read after)) same.1 c.store.ensures.spared)

pub returns-in-Ok-clause-most_read : goal.returns-in-Ok-clause-most_read
returns-in-Ok-clause-most_read g c = then_read 8208 4096 _ _ _ _ c.make_sure.ensures.most_read c.store.ensures.reads
