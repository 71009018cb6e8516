-- What is found of the saved settings on a flash.
use Rattle.std.specs.Prelude.{◌≡◌, ℕ, List, Bool, true, Some, None, if◌then◌else◌}
use Rattle.smp_flash.specs.Layout.{settings_of}
use Rattle.smp_flash.specs.declared.layout.Layout.{Layout}
use Rattle.smp_gate.specs.Bank.{BankState}
use Rattle.smp_gate.specs.Newest.{Content, content_of}
use Rattle.smp_model.specs.declared.setting.Setting.{Setting}
use Rattle.smp_settings.specs.Cells.{after_cells, cell_length}

-- the cells of the bank lead from the old settings to the new ones; or one of them isn't lawful
abbrev pub CellsGive : BankState → Bool → List Setting → List Setting → List ℕ → Type 0
CellsGive bank lawful old new held = (c : Content) → content_of bank.place bank.cell held ≡ Some c
    → after_cells c.cells (Some old) ≡ (if lawful then Some new else None)

-- a sure bank of the settings
pub record HoldsBank (bank : BankState) (layout : Layout) : Type 0 where
  pub place : bank.place ≡ settings_of layout
  pub cell : bank.cell ≡ cell_length
  pub sure : bank.sure ≡ true
