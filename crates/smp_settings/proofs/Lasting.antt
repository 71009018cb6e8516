-- What holds of saved settings, and what other changes leave of them.
use Rattle.std.proofs.Common.{◌≡◌, ℕ, List, [], ◌∷◌, Bool, true, false, Option, Some, None, refl, sym, ap, subst, ◌∙◌, if◌then◌else◌}
use Rattle.std.specs.Prelude.{is_some}
use Rattle.smp_flash.specs.Area.{Clear, Keeps}
use Rattle.smp_flash.specs.Layout.{settings_of}
use Rattle.smp_flash.specs.declared.layout.BankPlace.{BankPlace}
use Rattle.smp_gate.specs.Bank.{BankState, BankSays}
use Rattle.smp_gate.specs.Newest.{Content, content_of}
use Rattle.smp_model.specs.declared.setting.Setting.{Setting}
use Rattle.smp_model.specs.Settings.{IsStoredForm, is_within_limits, settings_in}
use Rattle.smp_settings.specs.Cells.{CellChange, cell_length, with_change, change_in, changed_by, after_cell, after_cells, settings_given}
use Rattle.smp_settings.specs.Saved.{saved_in, SettingsState, SettingsSay}

if_within : (b : Bool) (xs ys : List Setting) → is_within_limits xs ≡ b → (if b then Some xs else None) ≡ Some ys → is_within_limits ys ≡ true
if_within true xs ys h e = subst (λ zs. is_within_limits zs ≡ true) (same xs ys e) h
  where
    same : (zs ws : List Setting) → Some zs ≡ Some ws → zs ≡ ws
    same zs ws k = cc
if_within false xs ys h e = cc

changed_within : (settings new : List Setting) (o : Option CellChange) → changed_by settings o ≡ Some new → is_within_limits new ≡ true
changed_within settings new None e = cc
changed_within settings new (Some change) e = if_within (is_within_limits (with_change change settings)) (with_change change settings) new refl e

cell_within : (cell : List ℕ) (o : Option (List Setting)) (new : List Setting) → after_cell cell o ≡ Some new → is_within_limits new ≡ true
cell_within cell None new e = cc
cell_within cell (Some settings) new e = changed_within settings new (change_in cell) e

cells_within : (cells : List (List ℕ)) (o : Option (List Setting)) (new : List Setting) → ((first : List Setting) → o ≡ Some first → is_within_limits first ≡ true) → after_cells cells o ≡ Some new
    → is_within_limits new ≡ true
cells_within [] o new f e = f new e
cells_within (cell ∷ cells) o new f e = cells_within cells (after_cell cell o) new (λ first k. cell_within cell o first k) e

pub given_within : ((bytes : List ℕ) (settings : List Setting) → settings_in bytes ≡ Some settings → IsStoredForm bytes settings) → (o : Option Content) (saved : List Setting)
    → settings_given o ≡ Some saved → is_within_limits saved ≡ true
given_within exact None saved e = cc
given_within exact (Some content) saved e = cells_within content.cells (settings_in content.body) saved (λ first k. (exact content.body first k).limits) e

-- what a change elsewhere keeps
abbrev pub SaysLaw : Type 0
SaysLaw = (bank : BankState) (spots : List (ℕ × ℕ)) (old new : List ℕ) → Clear spots bank.place.first.at 4096 → Clear spots bank.place.second.at 4096
    → Keeps spots old new → BankSays bank old → BankSays bank new

abbrev pub ContentLaw : Type 0
ContentLaw = (place : BankPlace) (cell : ℕ) (spots : List (ℕ × ℕ)) (old new : List ℕ) → Clear spots place.first.at 4096 → Clear spots place.second.at 4096
    → Keeps spots old new → content_of place cell new ≡ content_of place cell old

pub say_on : SaysLaw → ContentLaw → (s : SettingsState) (spots : List (ℕ × ℕ)) (old new : List ℕ) → Clear spots (settings_of s.layout).first.at 4096 → Clear spots (settings_of s.layout).second.at 4096
    → Keeps spots old new → SettingsSay s old → SettingsSay s new
say_on says content s spots old new first second keeps h =
    let same : saved_in s.layout new ≡ saved_in s.layout old = ap settings_given (content (settings_of s.layout) cell_length spots old new first second keeps) in
    record {
      readable = ap is_some same ∙ h.readable;
      place = h.place;
      bank = λ sure. says s.bank spots old new (subst (λ (p : BankPlace). Clear spots p.first.at 4096) (sym h.place) first) (subst (λ (p : BankPlace). Clear spots p.second.at 4096) (sym h.place) second) keeps (h.bank sure);
      saved = λ sure. same ∙ h.saved sure;
    }
