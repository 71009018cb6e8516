use Rattle.std.proofs.Common.{◌∙◌, inl, inr, sym, ap, subst, List, length}
use Rattle.std.specs.Prelude.{IfSome, Err}
use Rattle.smp_flash.specs.Layout.{settings_of}
use Rattle.smp_flash.specs.State.{FlashState}
use Rattle.smp_gate.specs.Bank.{BankState}
use Rattle.smp_gate.specs.Fault.{after_fault}
use Rattle.smp_model.specs.declared.setting.Setting.{Setting}
use Rattle.smp_model.specs.Settings.{is_within_limits}
use Rattle.smp_settings.specs.Saved.{SettingsState, SavedStand}
use Rattle.smp_settings.proofs.Differing.{cell_long}
use Rattle.smp_settings.proofs.Saving.{says_after}
use Rattle.smp_settings.proofs.Storing.{aimed, says_refused, cell_either_told, cell_saved_told, free_told, ok_not}
use Rattle.smp_settings.proofs.settings.Settings.append.Goals as goal

pub append-requires-clause-long : goal.append-requires-clause-long
append-requires-clause-long g c = ap length c.requires.cell.bytes ∙ (cell_long c.requires.cell.change c.requires.cell.lawful ∙ sym c.self.invariant.1)

pub returns-in-Ok-clause-either : goal.returns-in-Ok-clause-either
returns-in-Ok-clause-either g c =
    let view = c.self.view_is in
    cell_either_told c.args.self.now c.args.cell.now c.self.inside.bank.place c.self.inside.bank.cell _ _ (c.self.invariant.0 ∙ ap (λ (s : SettingsState). settings_of s.layout) view) c.self.invariant.1
    c.requires.sure (ap (λ (s : SettingsState). is_within_limits s.running) (sym view) ∙ c.self.invariant.3) c.requires.cell c.requires.says c.append.ensures.same_or_added

pub returns-in-Ok-clause-says : goal.returns-in-Ok-clause-says
returns-in-Ok-clause-says g c =
    let view = c.self.view_is in
    let y = (g.F.Flash.state c.append.new.flash).bytes in
    let at = c.self.invariant.0 ∙ ap (λ (s : SettingsState). settings_of s.layout) view in
    let within = ap (λ (s : SettingsState). is_within_limits s.running) (sym view) ∙ c.self.invariant.3 in
    says_after c.args.self.now
    (record { layout = c.self.inside.layout; bank = c.append.new.self; saved = c.copy-self-inside.result; running = c.self.inside.running; form = c.write_form.new.out.items }) _ y c.requires.says
    (cell_either_told c.args.self.now c.args.cell.now c.self.inside.bank.place c.self.inside.bank.cell _ _ at c.self.invariant.1 c.requires.sure within c.requires.cell c.requires.says c.append.ensures.same_or_added)
    (ap (λ (s : SettingsState). s.layout) view) (ap (λ (b : BankState). b.place) c.in-Ok.ensures.bank ∙ ap (λ (s : SettingsState). s.bank.place) view)
    (λ sure. (
      c.in-Ok.ensures.says,
      subst (λ (xs : List Setting). IfSome y (SavedStand c.self.inside.layout xs)) (sym c.copy-self-inside.ensures)
          (subst (λ (s : SettingsState). IfSome y (SavedStand s.layout s.running)) (sym view)
          (cell_saved_told c.args.self.now c.args.cell.now c.self.inside.bank.place c.self.inside.bank.cell _ _ at c.self.invariant.1 c.requires.sure within c.requires.cell c.requires.says c.in-Ok.ensures.added)),
    ))

pub returns-in-Ok-clause-all : goal.returns-in-Ok-clause-all
returns-in-Ok-clause-all g c = λ added.
    let view = c.self.view_is in
    cell_saved_told c.args.self.now c.args.cell.now c.self.inside.bank.place c.self.inside.bank.cell _ _ (c.self.invariant.0 ∙ ap (λ (s : SettingsState). settings_of s.layout) view) c.self.invariant.1
    c.requires.sure (ap (λ (s : SettingsState). is_within_limits s.running) (sym view) ∙ c.self.invariant.3) c.requires.cell c.requires.says c.in-Ok.ensures.added

pub returns-in-Ok-clause-free : goal.returns-in-Ok-clause-free
returns-in-Ok-clause-free g c = λ added.
    free_told c.args.self.now.layout c.self.inside.bank.place c.self.inside.bank.cell _ _ (c.self.invariant.0 ∙ ap (λ (s : SettingsState). settings_of s.layout) c.self.view_is) c.self.invariant.1
    (ok_not _ _) c.in-Ok.ensures.full_side

pub returns-in-Ok-clause-pays : goal.returns-in-Ok-clause-pays
returns-in-Ok-clause-pays g c = λ added aims.
    c.in-Ok.ensures.pays (aimed c.args.self.now.layout (g.F.Flash.state c.args.flash.now).geometry (g.F.Flash.state c.args.flash.now).aim c.self.inside.bank.place
    (c.regions_count_what_begins_there.ensures c.args.self.now.layout) c.requires.layout (c.self.invariant.0 ∙ ap (λ (s : SettingsState). settings_of s.layout) c.self.view_is) aims)

pub returns-after-fault-clause-either : goal.returns-after-fault-clause-either
returns-after-fault-clause-either g c =
    let view = c.self.view_is in
    cell_either_told c.args.self.now c.args.cell.now c.self.inside.bank.place c.self.inside.bank.cell _ _ (c.self.invariant.0 ∙ ap (λ (s : SettingsState). settings_of s.layout) view) c.self.invariant.1
    c.requires.sure (ap (λ (s : SettingsState). is_within_limits s.running) (sym view) ∙ c.self.invariant.3) c.requires.cell c.requires.says c.append.ensures.same_or_added

pub returns-after-fault-clause-says : goal.returns-after-fault-clause-says
returns-after-fault-clause-says g c =
    let view = c.self.view_is in
    says_refused c.args.self.now (record { layout = c.self.inside.layout; bank = c.append.new.self; saved = c.self.inside.saved; running = c.self.inside.running; form = c.self.inside.form.items }) c.in-Err.fault _ _ c.requires.says
    (cell_either_told c.args.self.now c.args.cell.now c.self.inside.bank.place c.self.inside.bank.cell _ _ (c.self.invariant.0 ∙ ap (λ (s : SettingsState). settings_of s.layout) view) c.self.invariant.1
    c.requires.sure (ap (λ (s : SettingsState). is_within_limits s.running) (sym view) ∙ c.self.invariant.3) c.requires.cell c.requires.says c.append.ensures.same_or_added)
    (ap (λ (s : SettingsState). s.layout) view) (ap (λ (s : SettingsState). s.saved) view) (c.in-Err.ensures.bank ∙ ap (λ (s : SettingsState). after_fault c.in-Err.fault s.bank) view)
    (λ e. c.in-Err.ensures.formatted (ap Err e))
    (λ why. elim why [
      | inl e ↦ absurd (c.in-Err.ensures.worn (ap Err e))
      | inr e ↦ ap (λ (f : FlashState). f.bytes) (c.in-Err.ensures.idle (ap Err e))
    ])
