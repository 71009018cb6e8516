use Rattle.std.proofs.Common.{◌∙◌, inl, inr, sym, ap, subst, List}
use Rattle.std.specs.Prelude.{IfSome, Err}
use Rattle.smp_flash.specs.Area.{Told}
use Rattle.smp_flash.specs.Calls.{ChangesAtMost}
use Rattle.smp_flash.specs.Layout.{settings_of}
use Rattle.smp_flash.specs.State.{FlashState}
use Rattle.smp_gate.specs.Bank.{BankState}
use Rattle.smp_gate.specs.Fault.{after_fault}
use Rattle.smp_model.specs.declared.setting.Setting.{Setting}
use Rattle.smp_model.specs.Settings.{stored_form}
use Rattle.smp_settings.specs.Saved.{SettingsState, SavedOrThis, SavedStand, erases_needed}
use Rattle.smp_settings.proofs.Saving.{either_told, all_saved, says_after}
use Rattle.smp_settings.proofs.Storing.{aimed, anew_told, says_refused}
use Rattle.smp_settings.proofs.settings.Settings.replace.Goals as goal

pub returns-in-Ok-clause-either : goal.returns-in-Ok-clause-either
returns-in-Ok-clause-either g c =
    subst (λ (s : SettingsState). Told (SavedOrThis s.layout s.running) (g.F.Flash.state c.args.flash.now).bytes (g.F.Flash.state c.replace.new.flash).bytes) c.self.view_is
    (either_told c.self.inside.layout c.self.inside.bank.place c.self.inside.bank.cell c.self.inside.running c.as_slice.result.now (g.F.Flash.state c.args.flash.now).bytes (g.F.Flash.state c.replace.new.flash).bytes c.self.invariant.0 c.self.invariant.1
    (c.as_slice.ensures.value ∙ c.write_form.ensures) (c.stored_settings_are_read_back.ensures.back c.self.inside.running c.self.invariant.3) c.replace.ensures.same_or_this)

pub returns-in-Ok-clause-all : goal.returns-in-Ok-clause-all
returns-in-Ok-clause-all g c =
    subst (λ (s : SettingsState). IfSome (g.F.Flash.state c.replace.new.flash).bytes (SavedStand s.layout s.running)) c.self.view_is
    (all_saved c.self.inside.layout c.self.inside.bank.place c.self.inside.bank.cell c.self.inside.running c.as_slice.result.now (g.F.Flash.state c.replace.new.flash).bytes c.self.invariant.0 c.self.invariant.1
    (c.as_slice.ensures.value ∙ c.write_form.ensures) (c.stored_settings_are_read_back.ensures.back c.self.inside.running c.self.invariant.3) c.in-Ok.ensures.content)

pub returns-in-Err-clause-either : goal.returns-in-Err-clause-either
returns-in-Err-clause-either g c =
    subst (λ (s : SettingsState). Told (SavedOrThis s.layout s.running) (g.F.Flash.state c.args.flash.now).bytes (g.F.Flash.state c.replace.new.flash).bytes) c.self.view_is
    (either_told c.self.inside.layout c.self.inside.bank.place c.self.inside.bank.cell c.self.inside.running c.as_slice.result.now (g.F.Flash.state c.args.flash.now).bytes (g.F.Flash.state c.replace.new.flash).bytes c.self.invariant.0 c.self.invariant.1
    (c.as_slice.ensures.value ∙ c.write_form.ensures) (c.stored_settings_are_read_back.ensures.back c.self.inside.running c.self.invariant.3) c.replace.ensures.same_or_this)

pub returns-in-Ok-clause-anew : goal.returns-in-Ok-clause-anew
returns-in-Ok-clause-anew g c =
    let view = c.self.view_is in
    anew_told c.args.self.now c.self.inside.bank c.as_slice.result.now _ _ c.bank_says_what_stands.ensures.generation (ap (λ (s : SettingsState). s.bank) view)
    (c.self.invariant.0 ∙ ap (λ (s : SettingsState). settings_of s.layout) view) c.self.invariant.1
    (c.as_slice.ensures.value ∙ (c.write_form.ensures ∙ ap (λ (s : SettingsState). stored_form s.running) view)) c.requires.sure c.requires.says c.replace.ensures.ages
    c.in-Ok.ensures.content c.in-Ok.ensures.newest

pub returns-in-Ok-clause-says : goal.returns-in-Ok-clause-says
returns-in-Ok-clause-says g c =
    let view = c.self.view_is in
    let y = (g.F.Flash.state c.replace.new.flash).bytes in
    says_after c.args.self.now
    (record { layout = c.self.inside.layout; bank = c.replace.new.self; saved = c.copy-self-inside.result; running = c.self.inside.running; form = c.write_form.new.out.items }) _ y c.requires.says
    (subst (λ (s : SettingsState). Told (SavedOrThis s.layout s.running) (g.F.Flash.state c.args.flash.now).bytes y) view
    (either_told c.self.inside.layout c.self.inside.bank.place c.self.inside.bank.cell c.self.inside.running c.as_slice.result.now (g.F.Flash.state c.args.flash.now).bytes y c.self.invariant.0 c.self.invariant.1
    (c.as_slice.ensures.value ∙ c.write_form.ensures) (c.stored_settings_are_read_back.ensures.back c.self.inside.running c.self.invariant.3) c.replace.ensures.same_or_this))
    (ap (λ (s : SettingsState). s.layout) view) (ap (λ (b : BankState). b.place) c.in-Ok.ensures.bank ∙ ap (λ (s : SettingsState). s.bank.place) view)
    (λ sure. (
      c.in-Ok.ensures.says,
      subst (λ (xs : List Setting). IfSome y (SavedStand c.self.inside.layout xs)) (sym c.copy-self-inside.ensures)
          (all_saved c.self.inside.layout c.self.inside.bank.place c.self.inside.bank.cell c.self.inside.running c.as_slice.result.now y c.self.invariant.0 c.self.invariant.1
          (c.as_slice.ensures.value ∙ c.write_form.ensures) (c.stored_settings_are_read_back.ensures.back c.self.inside.running c.self.invariant.3) c.in-Ok.ensures.content),
    ))

pub returns-in-Ok-clause-pays : goal.returns-in-Ok-clause-pays
returns-in-Ok-clause-pays g c = λ aims.
    let view = c.self.view_is in
    c.in-Ok.ensures.pays (aimed c.args.self.now.layout (g.F.Flash.state c.args.flash.now).geometry (g.F.Flash.state c.args.flash.now).aim c.self.inside.bank.place
    (c.regions_count_what_begins_there.ensures c.args.self.now.layout) c.requires.layout (c.self.invariant.0 ∙ ap (λ (s : SettingsState). settings_of s.layout) view) aims)

pub returns-in-Err-clause-says : goal.returns-in-Err-clause-says
returns-in-Err-clause-says g c =
    let view = c.self.view_is in
    let y = (g.F.Flash.state c.replace.new.flash).bytes in
    says_refused c.args.self.now (record { layout = c.self.inside.layout; bank = c.replace.new.self; saved = c.self.inside.saved; running = c.self.inside.running; form = c.self.inside.form.items }) c.in-Err.fault _ y c.requires.says
    (subst (λ (s : SettingsState). Told (SavedOrThis s.layout s.running) (g.F.Flash.state c.args.flash.now).bytes y) view
    (either_told c.self.inside.layout c.self.inside.bank.place c.self.inside.bank.cell c.self.inside.running c.as_slice.result.now (g.F.Flash.state c.args.flash.now).bytes y c.self.invariant.0 c.self.invariant.1
    (c.as_slice.ensures.value ∙ c.write_form.ensures) (c.stored_settings_are_read_back.ensures.back c.self.inside.running c.self.invariant.3) c.replace.ensures.same_or_this))
    (ap (λ (s : SettingsState). s.layout) view) (ap (λ (s : SettingsState). s.saved) view) (c.in-Err.ensures.bank ∙ ap (λ (s : SettingsState). after_fault c.in-Err.fault s.bank) view)
    (λ e. c.in-Err.ensures.formatted (ap Err e))
    (λ why. elim why [
      | inl e ↦ ap (λ (f : FlashState). f.bytes) (c.replace.ensures.idle (c.in-Err.ensures.worn.0 (ap Err e)))
      | inr e ↦ absurd (c.in-Err.ensures.full (ap Err e))
    ])

pub returns-in-Ok-clause-erases : goal.returns-in-Ok-clause-erases
returns-in-Ok-clause-erases g c =
    subst (λ (s : SettingsState). IfSome (g.F.Flash.state c.args.flash.now).bytes
    (λ held. ChangesAtMost 2 (erases_needed (g.F.Flash.state c.args.flash.now).geometry.page s.bank held) (g.F.Flash.state c.args.flash.now).changes (g.F.Flash.state c.replace.new.flash).changes))
    c.self.view_is c.in-Ok.ensures.erases
