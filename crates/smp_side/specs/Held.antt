-- What is held of the slots of one image, and what came of a request about them.
use Rattle.std.specs.Prelude.{◌≡◌, ℕ, Bool, true, false, List, ◌++◌, Option, None, Result, Ok, Err, OnOk, IfOk, IfSome}
use Rattle.smp_flash.specs.Layout.{progress_of}
use Rattle.smp_flash.specs.State.{FlashState, End}
use Rattle.smp_flash.specs.State.End.{Went}
use Rattle.smp_flash.specs.declared.layout.Layout.{Layout}
use Rattle.smp_gate.specs.Newest.{newest_generation}
use Rattle.smp_model.specs.declared.device.Side.{Side}
use Rattle.smp_model.specs.declared.reply.Reply.{Reply}
use Rattle.smp_model.specs.Response.{SideResponse, side_responds}
use Rattle.smp_model.specs.Errors.{IsGroupError}
use Rattle.smp_model.specs.Said.{Said, said_of, is_error}
use Rattle.smp_model.specs.Said as said
use Rattle.smp_model.specs.ImageGroup.{refuses_part}
use Rattle.smp_model.specs.Sides.{SideStep, side_applied}
use Rattle.smp_progress.specs.State.{CanTake}
use Rattle.smp_upload.specs.Bytes.{SideStands, SideReadable}
use Rattle.smp_upload.specs.Faults.{upload_fault_end}
use Rattle.smp_upload.specs.Moves.{Moved, Done, mount_spots}
use Rattle.smp_upload.specs.States.{Says, known_mounted}
use Rattle.smp_upload.specs.declared.states.UploadFault.{UploadFault}
use Rattle.smp_upload.specs.declared.states.UploadFault.TheVariants as faults
use Rattle.smp_side.specs.declared.held.Held.{Held}
use Rattle.smp_side.specs.declared.held.Held.TheVariants as helds
use Rattle.smp_side.specs.declared.held.Handed.{Handed}

-- the regions that it is of
abbrev pub held_layout : Held → Layout
held_layout (helds.Unmounted u) = u.layout
held_layout (helds.Mounted m) = (known_mounted m).layout

-- the bytes stand for some side, and where it is mounted they are as the state says
abbrev pub HeldSays : Held → List ℕ → Type 0
HeldSays (helds.Unmounted u) bytes = SideReadable u.layout bytes
HeldSays (helds.Mounted m) bytes = Says (known_mounted m) bytes

abbrev pub is_mounted : Held → Bool
is_mounted (helds.Unmounted u) = false
is_mounted (helds.Mounted m) = true

abbrev pub is_ok : {A E : Type 0} → Result A E → Bool
is_ok (Ok x) = true
is_ok (Err e) = false

-- how it ended, as far as the flash goes
abbrev pub result_end : {T : Type 0} → Result T UploadFault → End
result_end (Ok x) = Went
result_end (Err fault) = upload_fault_end fault

-- the steps of a response
abbrev pub steps_by : (Side → SideResponse) → Side → List SideStep
steps_by respond side = (respond side).steps

-- the response behind the steps of an earlier call
abbrev pub responds_after : (Side → List SideStep) → (Side → SideResponse) → Side → SideResponse
responds_after steps respond side =
    side_responds (respond (side_applied (steps side) side)).reply (steps side ++ (respond (side_applied (steps side) side)).steps)

-- the response to a mark or a confirmation: done, or refused
abbrev pub response_of : Result (List SideStep) ℕ → SideResponse
response_of (Ok steps) = side_responds said.empty steps
response_of (Err number) = refuses_part number

-- the reply is that of whatever side the bytes stand for
abbrev pub Tells : Layout → (Side → SideResponse) → Option (List ℕ) → Reply → Type 0
Tells layout respond x reply = IfSome x (λ held. (side : Side) → SideStands layout side held → said_of reply ≡ (respond side).reply)

-- what may be answered about a side: an offset, nothing to say, or an error that is in the table of group errors
abbrev pub IsAnswer : Said → Type 0
IsAnswer (said.offset off matched) = Unit {0}
IsAnswer said.empty = Unit {0}
IsAnswer (said.group_error group number) = IsGroupError group number
IsAnswer s = ⊥

-- Why a request was broken off: a flash that tells its bytes is never unformatted, and a record is worn only where n more can't
-- be put.
abbrev pub Caused : Layout → ℕ → UploadFault → Option (List ℕ) → Type 0
Caused layout n faults.Unformatted x = x ≡ None
Caused layout n faults.Worn x = IfSome x (λ held. CanTake (newest_generation (progress_of layout) held) n → ⊥)
Caused layout n (faults.Fault operation) x = Unit {0}
Caused layout n faults.Off x = Unit {0}

abbrev pub ResultCaused : Layout → ℕ → Result Reply UploadFault → Option (List ℕ) → Type 0
ResultCaused layout n (Ok reply) x = Unit {0}
ResultCaused layout n (Err fault) x = Caused layout n fault x

-- what was broken off by a fault was no refusal: those need no operation of the flash
abbrev pub Tried : Layout → (Side → SideResponse) → Result Reply UploadFault → Option (List ℕ) → Type 0
Tried layout respond (Ok reply) x = Unit {0}
Tried layout respond (Err fault) x = IfSome x (λ held. (side : Side) → SideStands layout side held → is_error (respond side).reply ≡ false)

-- A request about a mounted side was answered by this response, or was broken off. It is mounted afterwards exactly where it was
-- answered.
pub record Answers (layout : Layout) (n : ℕ) (respond : Side → SideResponse) (handed : Handed) (a b : FlashState) : Type 0 where
  pub moved : Moved layout (mount_spots layout) n (steps_by respond) (result_end handed.result) a b
  pub done : OnOk handed.result (Done layout (mount_spots layout) n (steps_by respond) a b)
  pub said : IfOk handed.result (Tells layout respond a.bytes)
  pub says : IfSome b.bytes (HeldSays handed.held)
  pub layout_kept : held_layout handed.held ≡ layout
  pub mounted : is_mounted handed.held ≡ is_ok handed.result
  pub caused : ResultCaused layout n handed.result a.bytes
  pub tried : Tried layout respond handed.result a.bytes

-- What a request hands back that was broken off by a fault: the side is not mounted.
pub record Broken (layout : Layout) (fault : UploadFault) (handed : Handed) : Type 0 where
  pub layout_kept : held_layout handed.held ≡ layout
  pub unmounted : is_mounted handed.held ≡ false
  pub failed : handed.result ≡ Err fault
