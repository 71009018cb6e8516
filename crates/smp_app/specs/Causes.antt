-- When the counts of the files and of the sink rise.
use Rattle.std.specs.Prelude.{◌≡◌, ◌≢◌, ◌≤◌, ℕ, Result, Ok, Err}
use Rattle.smp_edge.specs.Faults.{Rose}
use Rattle.smp_app.specs.declared.status.Status.{Status}
use Rattle.smp_app.specs.declared.status.Status.TheVariants.{FileFault, WriteFault}

-- The count never falls, rose where the status is that fault, and is the same where it is another.
abbrev pub RisesWith : Status → Status → ℕ → ℕ → Type 0
RisesWith fault status before now = (before ≤ now) × (status ≡ fault → Rose before now) × (status ≢ fault → now ≡ before)

-- The files' count.
abbrev pub FileCause : Status → ℕ → ℕ → Type 0
FileCause = RisesWith FileFault

-- The sink's count.
abbrev pub WriteCause : Status → ℕ → ℕ → Type 0
WriteCause = RisesWith WriteFault

-- The same of what may be answered in place of a status.
abbrev pub LoadEnds : {T : Type 0} → Result T Status → ℕ → ℕ → Type 0
LoadEnds (Ok x) before now = now ≡ before
LoadEnds (Err status) before now = FileCause status before now

abbrev pub WriteEnds : {T : Type 0} → Result T Status → ℕ → ℕ → Type 0
WriteEnds (Ok x) before now = now ≡ before
WriteEnds (Err status) before now = WriteCause status before now
