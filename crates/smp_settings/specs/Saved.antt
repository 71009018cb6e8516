-- What the bytes of a flash stand for as far as the saved settings go, and what the value that holds the settings says.
use Rattle.std.specs.Prelude.{◌≡◌, ◌⊎◌, ◌+◌, ◌-◌, ◌*◌, ◌/◌, ◌^◌, ℕ, length, Bool, true, false, List, [], ◌∷◌, Option, Some, IsSome, Result, Ok, Err}
use Rattle.smp_flash.specs.Area.{dirty_pages}
use Rattle.smp_flash.specs.Calls.{ChangesAtMost}
use Rattle.smp_flash.specs.Layout.{settings_of}
use Rattle.smp_flash.specs.State.{Changes}
use Rattle.smp_flash.specs.declared.layout.Layout.{Layout}
use Rattle.smp_flash.specs.declared.region.Region.{Region}
use Rattle.smp_flash.specs.declared.region.Region.TheVariants.{Settings, SettingsGate}
use Rattle.smp_gate.specs.Bank.{BankState, BankSays, other}
use Rattle.smp_gate.specs.Cells.{places, standing, gate_reads}
use Rattle.smp_gate.specs.Newest.{just, content_of, newest_side, newest_generation, SameNewest, IsFull}
use Rattle.smp_model.specs.declared.error.TheConstants.{SETTING_NAME_LENGTH, NO_SUCH_SETTING, SETTING_VALUE_LENGTH, SETTINGS_FULL}
use Rattle.smp_model.specs.declared.setting.Setting.{Setting}
use Rattle.smp_model.specs.Response.{Response, responds}
use Rattle.smp_model.specs.Said as said
use Rattle.smp_model.specs.Settings.{stored_form, written_setting}
use Rattle.smp_model.specs.SettingsGroup.{refuses_setting}
use Rattle.smp_model.specs.Steps.{Run, write_setting, delete_setting}
use Rattle.smp_settings.specs.Cells.{CellChange, cell_length, settings_given}
use Rattle.smp_settings.specs.Places.{IsOneChange}
use Rattle.smp_settings.specs.declared.fault.SettingFault.{SettingFault}
use Rattle.smp_settings.specs.declared.fault.SettingFault.TheVariants.{NameLength, ValueLength, Full}

-- the saved settings by the bytes: what the content of the settings bank gives, none where it gives none
abbrev pub saved_in : Layout → List ℕ → Option (List Setting)
saved_in layout bytes = settings_given (content_of (settings_of layout) cell_length bytes)

-- the bytes stand for these saved settings
abbrev pub SavedStand : Layout → List Setting → List ℕ → Type 0
SavedStand layout saved bytes = saved_in layout bytes ≡ Some saved

-- they stand for some
abbrev pub SavedReadable : Layout → List ℕ → Type 0
SavedReadable layout bytes = IsSome (saved_in layout bytes)

-- What the value says: the layout of its flash, its bank, the saved settings that were found or written last, the running
-- ones, and the stored form of the saved ones.
pub record SettingsState : Type 0 where
  pub layout : Layout
  pub bank : BankState
  pub saved : List Setting
  pub running : List Setting
  pub form : List ℕ

-- how many erases a replacement needs: one for each page of the bank's other side that isn't all FF
abbrev pub erases_needed : ℕ → BankState → List ℕ → ℕ
erases_needed page bank bytes = dirty_pages page (other bank.place bank.second) (4096 / page) bytes

-- The bytes that are read where a bank is opened: both heads, the newest body, what tells which cells are used, and each cell
-- that counts.
abbrev pub opening_reads : BankState → ℕ
opening_reads bank = (32 + bank.size + gate_reads cell_length (places cell_length bank.size) (length bank.gates)) + cell_length * standing bank.gates

-- The bytes are as the value says. A bank that isn't sure is opened again, so nothing is said of it.
pub record SettingsSay (settings : SettingsState) (bytes : List ℕ) : Type 0 where
  pub readable : SavedReadable settings.layout bytes
  pub place : settings.bank.place ≡ settings_of settings.layout
  pub bank : settings.bank.sure ≡ true → BankSays settings.bank bytes
  pub saved : settings.bank.sure ≡ true → SavedStand settings.layout settings.saved bytes

-- The value says that these are saved, in a bank that is sure.
pub record SaysSaved (running : List Setting) (settings : SettingsState) : Type 0 where
  pub saved : settings.saved ≡ running
  pub form : settings.form ≡ stored_form running
  pub sure : settings.bank.sure ≡ true

-- what is saved is as it was, or these
abbrev pub SavedOrThis : Layout → List Setting → List ℕ → List ℕ → Type 0
SavedOrThis layout running old new = (saved_in layout new ≡ saved_in layout old) ⊎ (saved_in layout new ≡ Some running)

-- nothing differs from what is saved
abbrev pub SavedAlready : Layout → List Setting → List ℕ → Type 0
SavedAlready layout running bytes = SavedStand layout running bytes

-- one setting differs from what is saved, and a cell is free
pub record OneCellSaves (layout : Layout) (running : List Setting) (bytes : List ℕ) : Type 0 where
  pub saved : List Setting
  pub stands : SavedStand layout saved bytes
  pub change : CellChange
  pub one : IsOneChange change saved running
  pub free : IsFull (settings_of layout) cell_length bytes → ⊥

-- where one cell is enough, the newest side stays, and there are two writes at most
abbrev pub OneCellIsEnough : Layout → List Setting → Option Changes → Option Changes → List ℕ → List ℕ → Type 0
OneCellIsEnough layout running before now old new = OneCellSaves layout running old → SameNewest (settings_of layout) old new × ChangesAtMost 2 0 before now

-- A save does no more than it has to: nothing where nothing differs, and one cell where that is enough, with which the newest
-- side stays.
pub record SavesCheaply (layout : Layout) (running : List Setting) (before now : Option Changes) (old new : List ℕ) : Type 0 where
  pub nothing : SavedAlready layout running old → (new ≡ old) × ChangesAtMost 0 0 before now
  pub cell : OneCellIsEnough layout running before now old new

-- the side stays: nothing differs, or one cell is enough
abbrev pub KeepsSide : Layout → List Setting → List ℕ → Type 0
KeepsSide layout running bytes = SavedAlready layout running bytes ⊎ OneCellSaves layout running bytes

-- the bank's other side is the newest now, with the stored form of these settings and no cells
pub record SavedAnew (layout : Layout) (running : List Setting) (old new : List ℕ) : Type 0 where
  pub content : content_of (settings_of layout) cell_length new ≡ Some (just (stored_form running))
  pub side : newest_side (settings_of layout) new ≡ Some (record { generation = newest_generation (settings_of layout) old + 1; body = stored_form running })

-- where one cell isn't enough, the side was replaced by the stored form
abbrev pub ElseAnew : Layout → List Setting → List ℕ → List ℕ → Type 0
ElseAnew layout running old new = (SavedAlready layout running old → ⊥) → (OneCellSaves layout running old → ⊥) → SavedAnew layout running old new

-- the generation of the settings bank is the last one, so that its side can't be replaced
abbrev pub IsWorn : Layout → List ℕ → Type 0
IsWorn layout bytes = newest_generation (settings_of layout) bytes ≡ 2 ^ 32 - 1

-- the next trouble falls in the settings bank
abbrev pub AimsAtSettings : Option Region → Type 0
AimsAtSettings aim = (aim ≡ Some Settings) ⊎ (aim ≡ Some SettingsGate)

-- the response to a write that ended so
abbrev pub written_response : Result (Unit {0}) SettingFault → (name val : List ℕ) → Response
written_response (Ok x) name val = responds said.empty (Run (write_setting name val) ∷ [])
written_response (Err NameLength) name val = refuses_setting SETTING_NAME_LENGTH
written_response (Err ValueLength) name val = refuses_setting SETTING_VALUE_LENGTH
written_response (Err Full) name val = refuses_setting SETTINGS_FULL

-- what a write makes of the running settings
abbrev pub after_write : Result (Unit {0}) SettingFault → (name val : List ℕ) → List Setting → List Setting
after_write (Ok x) name val running = written_setting name val running
after_write (Err fault) name val running = running

-- the response to a delete that ended so
abbrev pub deleted_response : Bool → (name : List ℕ) → Response
deleted_response true name = responds said.empty (Run (delete_setting name) ∷ [])
deleted_response false name = refuses_setting NO_SUCH_SETTING
