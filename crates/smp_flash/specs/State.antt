-- What a flash tells of itself, and how a call may end.
use Rattle.std.specs.Prelude.{ℕ, Bool, List, Option, Result, Ok, Err}
use Rattle.smp_flash.specs.declared.geometry.Geometry.{Geometry}
use Rattle.smp_flash.specs.declared.region.Region.{Region}
use Rattle.smp_flash.specs.declared.flash.FlashFault.{FlashFault}
use Rattle.smp_flash.specs.declared.flash.FlashFault.TheVariants.{Fault, Off}
use Rattle.smp_flash.specs.declared.flash.Operation.{Operation}
use Rattle.smp_flash.specs.declared.flash.CallFault.{CallFault}
use Rattle.smp_flash.specs.declared.flash.CallFault.TheVariants.{Fault as Faulty, Off as Gone}

-- how often reads, writes and erases have failed; a failing attach counts as a read, a failing create as a write
pub record Faults : Type 0 where
  pub reads : ℕ
  pub writes : ℕ
  pub erases : ℕ

-- how many cuts, failing writes and erases, and failing reads may still come
pub record Troubles : Type 0 where
  pub cuts : ℕ
  pub changes : ℕ
  pub reads : ℕ

-- how many writes and erases were made
pub record Changes : Type 0 where
  pub writes : ℕ
  pub erases : ℕ

-- What a flash tells: its bytes, whether it is on, its sizes, its failures so far, the troubles that may still come, the
-- region in which the next one falls, how many writes and erases counted there can still go through before it, how many
-- bytes were asked of it by reads, and how many writes and erases it made.
pub record FlashState : Type 0 where
  pub bytes : Option (List ℕ)
  pub on : Bool
  pub geometry : Geometry
  pub faults : Faults
  pub troubles : Option Troubles
  pub aim : Option Region
  pub patience : Option ℕ
  pub bytes_read : Option ℕ
  pub changes : Option Changes

-- a call went through, met an off flash, or met an operation that failed
pub data End : Type 0 where
  Went : End
  WentOff : End
  Failed : (operation : Operation) → End

-- how a call of the flash itself ended
abbrev pub end_of : {T : Type 0} → Operation → Result T FlashFault → End
end_of operation (Ok x) = Went
end_of operation (Err Fault) = Failed operation
end_of operation (Err Off) = WentOff

-- how a call of a layer ended that was not Ok
abbrev pub fault_end : CallFault → End
fault_end (Faulty operation) = Failed operation
fault_end Gone = WentOff

-- how a call of a layer ended
abbrev pub ended : {T : Type 0} → Result T CallFault → End
ended (Ok x) = Went
ended (Err fault) = fault_end fault

-- the fault of an operation, as a layer passes it on
abbrev pub call_fault : Operation → FlashFault → CallFault
call_fault operation Fault = Faulty operation
call_fault operation Off = Gone
