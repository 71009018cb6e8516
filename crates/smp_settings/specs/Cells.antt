-- What a cell of the settings bank says: one setting that was written, or one that was deleted. And what the content of the
-- bank gives by its body and its cells.
use Rattle.std.specs.Prelude.{◌-◌, ℕ, List, [], ◌∷◌, ◌++◌, length, replicate, Bool, ◌&&◌, ◌==◌, Option, Some, None, if◌then◌else◌}
use Rattle.std.specs.List.{list_all}
use Rattle.std.specs.Str.{is_utf8}
use Rattle.smp_gate.specs.Newest.{Content}
use Rattle.smp_model.specs.declared.setting.Setting.{Setting}
use Rattle.smp_model.specs.Settings.{setting, stored_setting, written_setting, deleted_setting, is_setting, is_setting_name, if_within_limits, counted_in, next_setting, settings_in}

-- the bytes of a cell
abbrev pub cell_length : ℕ
cell_length = 168

-- a change of one name: it is given a value, or it goes
pub data CellChange : Type 0 where
  Gives : (name val : List ℕ) → CellChange
  Removes : (name : List ℕ) → CellChange

-- the settings with the change
abbrev pub with_change : CellChange → List Setting → List Setting
with_change (Gives name val) settings = written_setting name val settings
with_change (Removes name) settings = deleted_setting name settings

-- 01 and the stored setting, or 02 and the length of the name in a byte and the name
abbrev pub change_bytes : CellChange → List ℕ
change_bytes (Gives name val) = 1 ∷ stored_setting (setting name val)
change_bytes (Removes name) = 2 ∷ length name ∷ name

-- the cell of a change, filled with zeros
abbrev pub cell_of : CellChange → List ℕ
cell_of change = change_bytes change ++ replicate (cell_length - length (change_bytes change)) 0

-- a change that a cell may say: the name and the value are within the limits
abbrev pub is_change : CellChange → Bool
is_change (Gives name val) = is_setting (setting name val)
is_change (Removes name) = is_setting_name name && is_utf8 name

abbrev pub are_zeros : List ℕ → Bool
are_zeros bytes = list_all (λ b. b == 0) bytes

abbrev pub gives_by : Option (Setting × List ℕ) → Option CellChange
gives_by None = None
gives_by (Some (s, rest)) = if are_zeros rest then Some (Gives s.name s.val) else None

abbrev pub removes_by : Option (List ℕ × List ℕ) → Option CellChange
removes_by None = None
removes_by (Some (name, rest)) = if are_zeros rest then Some (Removes name) else None

abbrev pub lawful_only : Option CellChange → Option CellChange
lawful_only None = None
lawful_only (Some change) = if is_change change then Some change else None

-- the change that a cell says, if it is lawful
abbrev pub change_in : List ℕ → Option CellChange
change_in [] = None
change_in (kind ∷ bytes) =
    if kind == 1 then lawful_only (gives_by (next_setting bytes))
    else if kind == 2 then lawful_only (removes_by (counted_in bytes)) else None

abbrev pub changed_by : List Setting → Option CellChange → Option (List Setting)
changed_by settings None = None
changed_by settings (Some change) = if_within_limits (Some (with_change change settings))

-- the settings after a cell; none where the cell isn't lawful, or leads past the limits
abbrev pub after_cell : List ℕ → Option (List Setting) → Option (List Setting)
after_cell cell None = None
after_cell cell (Some settings) = changed_by settings (change_in cell)

-- after cells, from the first on
abbrev pub after_cells : List (List ℕ) → Option (List Setting) → Option (List Setting)
after_cells [] settings = settings
after_cells (cell ∷ cells) settings = after_cells cells (after_cell cell settings)

-- the settings that the content of the bank gives: those of the body, with the changes of the cells
abbrev pub settings_given : Option Content → Option (List Setting)
settings_given None = None
settings_given (Some content) = after_cells content.cells (settings_in content.body)
