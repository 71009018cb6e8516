-- What the parts of a stored form are read as.
use Rattle.std.specs.Prelude.{◌≡◌, ◌≤◌, ℕ, List, [], ◌∷◌, ◌++◌, length, Bool, true, false, ◌&&◌, nat_lt, Some, None, if◌then◌else◌}
use Rattle.std.specs.List.{list_all}
use Rattle.smp_model.specs.declared.setting.Setting.{Setting}
use Rattle.smp_model.specs.Named.{comes_before, is_ascending}
use Rattle.smp_model.specs.Settings.{setting, is_setting, settings_from, if_within_limits}
use Rattle.smp_settings.specs.declared.form.Counted.{Counted}
use Rattle.smp_settings.specs.declared.form.NextSetting.{NextSetting}

abbrev pub counted_read : Counted → List ℕ × List ℕ
counted_read c = (c.bytes.now, c.rest.now)

abbrev pub next_read : NextSetting → Setting × List ℕ
next_read n = (setting n.name.now n.val.now, n.rest.now)

-- each setting is lawful, and they are in order
pub record LawfulSoFar (settings : List Setting) : Type 0 where
  pub each : list_all is_setting settings ≡ true
  pub ascending : is_ascending (λ s. s.name) settings ≡ true

-- the setting may stand behind these
abbrev pub may_follow : Setting → List Setting → Bool
may_follow s settings = is_setting s && (nat_lt (length settings) 32 && list_all (λ t. comes_before t.name s.name) settings)

-- It was put behind them, where it may stand there.
pub record TakenWhere (result : Bool) (s : Setting) (old new : List Setting) : Type 0 where
  pub may : may_follow s old ≡ result
  pub after : new ≡ (if result then old ++ s ∷ [] else old)
  pub lawful : LawfulSoFar new

abbrev pub Takes : Bool → Setting → List Setting → List Setting → Type 0
Takes result s old new = TakenWhere result s old new

-- So many settings were read, which are lawful so far; or none that is within the limits can be read.
pub record WereRead (count : ℕ) (bytes : List ℕ) (settings : List Setting) : Type 0 where
  pub read : settings_from count bytes ≡ Some settings
  pub lawful : LawfulSoFar settings
  pub few : length settings ≤ 32

abbrev pub Reads : Bool → ℕ → List ℕ → List Setting → Type 0
Reads true count bytes settings = WereRead count bytes settings
Reads false count bytes settings = if_within_limits (settings_from count bytes) ≡ None
