-- The value that stands for the record of an upload, what the bytes have to be for it, and what a call makes of it.
use Rattle.std.specs.Prelude.{◌≡◌, ◌⊎◌, ◌+◌, ◌<◌, ◌^◌, ℕ, Bool, true, false, ◌&&◌, ◌==◌, not, List, [], ◌∷◌, ◌++◌, length, Option, Some, Result, Ok, Err}
use Rattle.smp_flash.specs.Layout.{image_of, progress_of}
use Rattle.smp_flash.specs.Region.{progress_region, progress_gate_region}
use Rattle.smp_flash.specs.declared.layout.Layout.{Layout}
use Rattle.smp_flash.specs.declared.region.Region.{Region}
use Rattle.smp_gate.specs.Bank.{BankState, BankSays}
use Rattle.smp_gate.specs.Cells.{places}
use Rattle.smp_gate.specs.Fault.{after_fault}
use Rattle.smp_gate.specs.declared.fault.BankFault.{BankFault}
use Rattle.smp_progress.specs.Cells.{cell_length, continues, HasRecord}
use Rattle.smp_progress.specs.declared.record.Record.{Record}

-- The regions that the record is of, the bank that it stands in, and the record itself.
pub record ProgressState : Type 0 where
  pub layout : Layout
  pub bank : BankState
  pub entry : Record

-- What the value says holds on these bytes.
pub record ProgressSays (p : ProgressState) (bytes : List ℕ) : Type 0 where
  pub place : p.bank.place ≡ progress_of p.layout
  pub bank : BankSays p.bank bytes
  pub holds : HasRecord p.layout p.entry bytes

-- the bank that is made: its first side, of generation 1, with a body of 48 bytes and no cells
abbrev pub first_bank : Layout → BankState
first_bank layout = record { place = progress_of layout; cell = cell_length; second = false; generation = 1; size = 48; gates = []; sure = true }

-- every cell of the newest side was begun
abbrev pub is_full : BankState → Bool
is_full bank = length bank.gates == places cell_length bank.size

-- the record goes into a cell: it has the announcement of the one that stands, and a cell is free
abbrev pub appends : ProgressState → Record → Bool
appends p entry = continues p.entry entry && not (is_full p.bank)

-- the bank with one cell more, or with a body of 48 bytes on its other side
abbrev pub bank_after : Bool → BankState → BankState
bank_after true bank = record bank { gates = bank.gates ++ (true ∷ []) }
bank_after false bank = record bank { second = not bank.second; generation = bank.generation + 1; size = 48; gates = [] }

-- the value after a record was put
abbrev pub after_put : {T : Type 0} → Result T BankFault → Record → ProgressState → ProgressState
after_put (Ok x) entry p = record p { bank = bank_after (appends p entry) p.bank; entry = entry }
after_put (Err fault) entry p = record p { bank = after_fault fault p.bank }

-- the next trouble falls in the progress bank of the image
abbrev pub AimsAtRecord : Layout → Option Region → Type 0
AimsAtRecord layout aim = (aim ≡ Some (progress_region (image_of layout))) ⊎ (aim ≡ Some (progress_gate_region (image_of layout)))

-- so many records can be put on a bank of this generation
abbrev pub CanTake : (generation records : ℕ) → Type 0
CanTake generation records = generation + records < 2 ^ 32

-- the value after a cell was put, or found that none is free
abbrev pub after_add : Result Bool BankFault → Record → ProgressState → ProgressState
after_add (Ok true) entry p = record p { bank = bank_after true p.bank; entry = entry }
after_add (Ok false) entry p = p
after_add (Err fault) entry p = record p { bank = after_fault fault p.bank }

-- the value after the side was replaced
abbrev pub after_renew : {T : Type 0} → Result T BankFault → Record → ProgressState → ProgressState
after_renew (Ok x) entry p = record p { bank = bank_after false p.bank; entry = entry }
after_renew (Err fault) entry p = record p { bank = after_fault fault p.bank }
