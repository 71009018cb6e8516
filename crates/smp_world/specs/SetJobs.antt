-- What a job that writes settings tells of the device when it is done, and what others must leave alone.
use Rattle.std.specs.Prelude.{◌≡◌, ◌≢◌, ◌<◌, ◌≤◌, ◌^◌, ℕ, List, [], ◌∷◌, length, false, Some}
use Rattle.smp_cbor.specs.Shortest.{IsText}
use Rattle.smp_model.specs.declared.setting.Setting.{Setting}
use Rattle.smp_model.specs.Settings.{value_of}
use Rattle.smp_jobs.specs.Jobs.{uploads, lists, sets, puts, gets, echoes}
use Rattle.smp_world.specs.Runs.{Event, begins, raw, up, down, quiet, arms, boot, Moment}

-- Set jobs. The name is none of these settings'.
abbrev pub LacksName : List ℕ → List Setting → Type 0
LacksName name [] = Unit {0}
LacksName name (s ∷ settings) = (s.name ≢ name) × LacksName name settings

-- no two have one name
abbrev pub NamesDiffer : List Setting → Type 0
NamesDiffer [] = Unit {0}
NamesDiffer (s ∷ settings) = LacksName s.name settings × NamesDiffer settings

-- none of the others has a name of these settings
abbrev pub AreApart : List Setting → List Setting → Type 0
AreApart settings [] = Unit {0}
AreApart settings (o ∷ others) = LacksName o.name settings × AreApart settings others

-- names are texts, and both name and value can be written
abbrev pub AreTexts : List Setting → Type 0
AreTexts [] = Unit {0}
AreTexts (s ∷ settings) = IsText s.name × (length s.val < 2 ^ 64) × AreTexts settings

-- A set job: texts with names that differ, few enough that no two of its requests have one sequence number.
pub record IsSetJob (settings : List Setting) : Type 0 where
  pub texts : AreTexts settings
  pub names : NamesDiffer settings
  pub few : length settings ≤ 254

-- each of these settings is among those
abbrev pub HasAll : List Setting → List Setting → Type 0
HasAll [] among = Unit {0}
HasAll (s ∷ settings) among = (value_of s.name among ≡ Some s.val) × HasAll settings among

-- no raw bytes come, and no job that begins sets one of the names
abbrev pub SparesNames : List Setting → Event → Type 0
SparesNames settings (begins (sets others)) = AreTexts others × AreApart settings others
SparesNames settings (begins (uploads j)) = Unit {0}
SparesNames settings (begins lists) = Unit {0}
SparesNames settings (begins (puts name file)) = Unit {0}
SparesNames settings (begins (gets name)) = Unit {0}
SparesNames settings (begins (echoes text)) = Unit {0}
SparesNames settings (raw bytes) = ⊥
SparesNames settings (up which) = Unit {0}
SparesNames settings (down which) = Unit {0}
SparesNames settings (quiet client) = Unit {0}
SparesNames settings (arms arm) = Unit {0}
SparesNames settings boot = Unit {0}

abbrev pub IsNoBoot : Event → Type 0
IsNoBoot (begins job) = Unit {0}
IsNoBoot (raw bytes) = Unit {0}
IsNoBoot (up which) = Unit {0}
IsNoBoot (down which) = Unit {0}
IsNoBoot (quiet client) = Unit {0}
IsNoBoot (arms arm) = Unit {0}
IsNoBoot boot = ⊥

-- no cut and no failing flash operation came
abbrev pub NothingStruck : List Moment → Type 0
NothingStruck [] = Unit {0}
NothingStruck (m ∷ moments) = (m.struck ≡ false) × NothingStruck moments
