-- What is armed in a flash in memory: what it tells, which operation it strikes, and what that leaves.
use Rattle.std.specs.Prelude.{◌-◌, ℕ, Bool, true, false, ◌&&◌, ◌==◌, not, if◌then◌else◌, Option, Some, None, List, length}
use Rattle.smp_flash.specs.Remains.{noise, faded_by}
use Rattle.smp_flash.specs.Area.{blank}
use Rattle.smp_flash.specs.State.{Troubles, End}
use Rattle.smp_flash.specs.State.End.{Went, WentOff, Failed}
use Rattle.smp_flash.specs.declared.flash.Operation.{Operation}
use Rattle.smp_flash.specs.declared.region.Region.{Region}
use Rattle.smp_flash.specs.declared.arm.Arm.{Arm}
use Rattle.smp_flash.specs.declared.arm.ArmKind.{ArmKind}
use Rattle.smp_flash.specs.declared.arm.ArmKind.TheVariants.{Cut, Fail, Read}
use Rattle.smp_flash.specs.declared.arm.Left.{Left}
use Rattle.smp_flash.specs.declared.arm.Left.TheVariants.{Nothing, Whole, Seed}

-- one trouble of the armed kind
abbrev pub troubles_of : Option Arm → Troubles
troubles_of None = record { cuts = 0; changes = 0; reads = 0 }
troubles_of (Some arm) = elim arm.kind [
  | Cut ↦ record { cuts = 1; changes = 0; reads = 0 }
  | Fail ↦ record { cuts = 0; changes = 1; reads = 0 }
  | Read ↦ record { cuts = 0; changes = 0; reads = 1 }
]

-- the armed region
abbrev pub aim_of : Option Arm → Option Region
aim_of None = None
aim_of (Some arm) = Some arm.region

-- the writes and erases that count there and can still go through
abbrev pub patience_of : Option Arm → Option ℕ
patience_of None = None
patience_of (Some arm) = elim arm.kind [ Cut ↦ Some (arm.after - 1) | Fail ↦ Some (arm.after - 1) | Read ↦ None ]

-- the arm counts reads, and no writes and erases
abbrev pub is_for_reads : ArmKind → Bool
is_for_reads Cut = false
is_for_reads Fail = false
is_for_reads Read = true

-- the arm counts this operation: it begins in the region, and is of the armed kind
abbrev pub is_due : Bool → Bool → Arm → Bool
is_due counted reading arm = counted && (if reading then is_for_reads arm.kind else not (is_for_reads arm.kind))

-- the arm, where it strikes this operation: the one whose count reaches `after`
abbrev pub struck_by : Bool → Bool → Option Arm → Option Arm
struck_by counted reading None = None
struck_by counted reading (Some arm) = if is_due counted reading arm && (arm.after == 1) then Some arm else None

-- what is armed after it: nothing where it struck, and all as before where the operation doesn't count
abbrev pub rest_of : Bool → Bool → Option Arm → Option Arm
rest_of counted reading None = None
rest_of counted reading (Some arm) = if is_due counted reading arm then (if arm.after == 1 then None else Some (record arm { after = arm.after - 1 })) else Some arm

-- how an operation of a flash in memory ends: by whether the flash is on, and the arm that strikes
abbrev pub end_by : Operation → Bool → Option Arm → End
end_by operation false struck = WentOff
end_by operation true None = Went
end_by operation true (Some arm) = elim arm.kind [ Cut ↦ WentOff | Fail ↦ Failed operation | Read ↦ Failed operation ]

-- what a write that is struck leaves in its range
abbrev pub left_written : Left → List ℕ → List ℕ → List ℕ
left_written Nothing old bytes = old
left_written Whole old bytes = bytes
left_written (Seed x) old bytes = noise x (length bytes)

-- what an erase that is struck leaves in its page
abbrev pub left_erased : Left → List ℕ → List ℕ
left_erased Nothing old = old
left_erased Whole old = blank (length old)
left_erased (Seed x) old = faded_by x old
