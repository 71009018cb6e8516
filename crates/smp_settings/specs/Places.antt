-- Where a name stands among settings, and how two lists of settings differ.
use Rattle.std.specs.Prelude.{◌≡◌, ◌≢◌, ◌⊎◌, ℕ, List, [], ◌∷◌, ◌++◌, length, true, Some}
use Rattle.smp_model.specs.declared.setting.Setting.{Setting}
use Rattle.smp_model.specs.Named.{named}
use Rattle.smp_model.specs.Settings.{setting}
use Rattle.smp_settings.specs.Cells.{CellChange, Gives, Removes, with_change, is_change, cell_of}

-- the setting of this name is the one at this place, and the first of its name
pub record StandsAt (at : ℕ) (name : List ℕ) (settings : List Setting) : Type 0 where
  pub front : List Setting
  pub val : List ℕ
  pub rest : List Setting
  pub split : settings ≡ front ++ setting name val ∷ rest
  pub index : at ≡ length front
  pub found : named (λ s. s.name) name settings ≡ Some (setting name val)

-- these stand apart, those before a name and those behind it
pub record PartedAt (at : ℕ) (before behind settings : List Setting) : Type 0 where
  pub split : settings ≡ before ++ behind
  pub index : at ≡ length before

-- one change leads from the first to the second, which are not the same
pub record IsOneChange (change : CellChange) (one other : List Setting) : Type 0 where
  pub leads : other ≡ with_change change one
  pub differ : other ≢ one

-- the first setting of one is not the first of the other, where both have one
abbrev pub HeadsDiffer : List Setting → List Setting → Type 0
HeadsDiffer [] ys = Unit {0}
HeadsDiffer (x ∷ xs) [] = Unit {0}
HeadsDiffer (x ∷ xs) (y ∷ ys) = y ≢ x

-- so many settings at the front are the same, and those behind them are not
pub record CommonFront (at : ℕ) (one other : List Setting) : Type 0 where
  pub front : List Setting
  pub rest : List Setting
  pub other_rest : List Setting
  pub split : one ≡ front ++ rest
  pub other_split : other ≡ front ++ other_rest
  pub index : at ≡ length front
  pub heads : HeadsDiffer rest other_rest

-- both have a first setting, which is the same
pub record FirstsSame (one other : List Setting) : Type 0 where
  pub first : Setting
  pub rest : List Setting
  pub other_rest : List Setting
  pub split : one ≡ first ∷ rest
  pub other_split : other ≡ first ∷ other_rest

-- the first ones have the same name, and all others are the same
pub record Renewed (one other : List Setting) : Type 0 where
  pub name : List ℕ
  pub before : List ℕ
  pub after : List ℕ
  pub rest : List Setting
  pub split : one ≡ setting name before ∷ rest
  pub other_split : other ≡ setting name after ∷ rest

-- the longer one is the shorter one with a setting before it
pub record OneAhead (longer shorter : List Setting) : Type 0 where
  pub first : Setting
  pub split : longer ≡ first ∷ shorter

-- a setting was given before all others, or to the name of the first of them
abbrev pub FirstGiven : List Setting → List Setting → Type 0
FirstGiven one other = OneAhead other one ⊎ Renewed one other

-- this setting stands before the others, or in place of the first of them, which has its name
pub record Gave (name val : List ℕ) (one other : List Setting) : Type 0 where
  pub rest : List Setting
  pub split : other ≡ setting name val ∷ rest
  pub before : (one ≡ rest) ⊎ Renewed one other

-- the first setting, of this name, is gone
pub record Gone (name : List ℕ) (one other : List Setting) : Type 0 where
  pub val : List ℕ
  pub split : one ≡ setting name val ∷ other

-- the change is of the first setting, and all others are the same
abbrev pub Differs : CellChange → List Setting → List Setting → Type 0
Differs (Gives name val) one other = Gave name val one other
Differs (Removes name) one other = Gone name one other

-- These are the bytes of the cell of the one change that leads from the saved settings to the running ones.
pub record CellSaves (saved running : List Setting) (cell : List ℕ) : Type 0 where
  pub change : CellChange
  pub one : IsOneChange change saved running
  pub lawful : is_change change ≡ true
  pub bytes : cell ≡ cell_of change
