-- What the flashes in memory hold, and what they tell.
use Rattle.std.specs.Prelude.{◌+◌, ◌*◌, ◌-◌, ◌^◌, min, ℕ, List, Bool, true, Option, Some, None}
use Rattle.smp_flash.specs.Area.{blank}
use Rattle.smp_flash.specs.Arm.{troubles_of, aim_of, patience_of}
use Rattle.smp_flash.specs.Geometry.{size_of}
use Rattle.smp_flash.specs.Region.{counts, counts_write}
use Rattle.smp_flash.specs.State.{Faults, FlashState, End}
use Rattle.smp_flash.specs.State.End.{Went, WentOff, Failed}
use Rattle.smp_flash.specs.declared.flash.Operation.TheVariants.{Read, Write, Erase}
use Rattle.smp_flash.specs.declared.arm.Arm.{Arm}
use Rattle.smp_flash.specs.declared.geometry.Geometry.{Geometry}
use Rattle.smp_flash.specs.declared.memory.MemFlash.{MemFlash}
use Rattle.smp_flash.specs.declared.steady.SteadyFlash.{SteadyFlash}

-- What a flash in memory holds: its bytes, its counts, which stay at the greatest u64, and what is armed.
pub record Memory : Type 0 where
  pub geometry : Geometry
  pub bytes : List ℕ
  pub on : Bool
  pub faults : Faults
  pub writes : ℕ
  pub erases : ℕ
  pub bytes_read : ℕ
  pub arm : Option Arm

abbrev pub memory_of : MemFlash → Memory
memory_of m = record {
  geometry = m.geometry;
  bytes = m.held.items;
  on = m.on;
  faults = record { reads = m.failed_reads; writes = m.failed_writes; erases = m.failed_erases };
  writes = m.writes;
  erases = m.erases;
  bytes_read = m.bytes_read;
  arm = m.arm;
}

-- one that never fails is always on and has nothing armed
abbrev pub steady_memory : SteadyFlash → Memory
steady_memory s = record {
  geometry = s.geometry;
  bytes = s.held.items;
  on = true;
  faults = record { reads = 0; writes = s.failed_creates; erases = 0 };
  writes = s.writes;
  erases = s.erases;
  bytes_read = s.bytes_read;
  arm = None;
}

-- what it tells as a flash
abbrev pub told_by : Memory → FlashState
told_by m = record {
  bytes = Some m.bytes;
  on = m.on;
  geometry = m.geometry;
  faults = m.faults;
  troubles = Some (troubles_of m.arm);
  aim = aim_of m.arm;
  patience = patience_of m.arm;
  bytes_read = Some m.bytes_read;
  changes = Some (record { writes = m.writes; erases = m.erases });
}

-- a new one: all erased, on, nothing counted, nothing armed
abbrev pub fresh : Geometry → Memory
fresh g = record {
  geometry = g;
  bytes = blank (size_of g);
  on = true;
  faults = record { reads = 0; writes = 0; erases = 0 };
  writes = 0;
  erases = 0;
  bytes_read = 0;
  arm = None;
}

-- a count that is raised by n stays at the greatest u64
abbrev pub raised : ℕ → ℕ → ℕ
raised n count = min (count + n) (2 ^ 64 - 1)

-- writes and erases together, which stay at the greatest u64 too
abbrev pub changes_of : Memory → ℕ
changes_of m = min (m.writes + m.erases) (2 ^ 64 - 1)

-- the failures after an operation that ended so
abbrev pub faults_after : End → Faults → Faults
faults_after Went a = a
faults_after WentOff a = a
faults_after (Failed Read) a = record a { reads = raised 1 a.reads }
faults_after (Failed Write) a = record a { writes = raised 1 a.writes }
faults_after (Failed Erase) a = record a { erases = raised 1 a.erases }

abbrev pub mem_state : MemFlash → FlashState
mem_state m = told_by (memory_of m)

abbrev pub steady_state : SteadyFlash → FlashState
steady_state s = told_by (steady_memory s)

-- whether an operation counts in the armed region: a read, a write of these bytes, an erase of the page of this number
abbrev pub read_counts : Memory → ℕ → Bool
read_counts m at = counts m.geometry (aim_of m.arm) at

abbrev pub write_counts : Memory → ℕ → List ℕ → Bool
write_counts m at bytes = counts_write m.geometry (aim_of m.arm) at bytes

abbrev pub erase_counts : Memory → ℕ → Bool
erase_counts m page = counts m.geometry (aim_of m.arm) (page * m.geometry.page)
