-- What is armed in a flash, by what it tells of itself, and what comes of a packet and of a boot on a flash that tells it.
use Rattle.std.specs.Prelude.{◌≡◌, ℕ, Bool, true, false, not, ◌&&◌, List, [], Option, Some, None, Result, Ok, Err, IfSome, nat_lt, is_some, unwrap_or, if◌then◌else◌}
use Rattle.smp_flash.specs.Layout.{geometry_of, progress_of, settings_of}
use Rattle.smp_flash.specs.State.{FlashState, Troubles}
use Rattle.smp_flash.specs.declared.arm.ArmKind.{ArmKind}
use Rattle.smp_flash.specs.declared.arm.ArmKind.TheVariants as arms
use Rattle.smp_flash.specs.declared.region.Region.{Region}
use Rattle.smp_gate.specs.Newest.{AgesAtMost, newest_generation}
use Rattle.smp_header.specs.Message.{Message}
use Rattle.smp_model.specs.declared.device.AbstractDevice.{AbstractDevice}
use Rattle.smp_model.specs.Counters.{after_drop}
use Rattle.smp_model.specs.Handled.{is_request, is_reset}
use Rattle.smp_model.specs.Meaning.{meaning}
use Rattle.smp_model.specs.Said.{Said, reply_bytes}
use Rattle.smp_progress.specs.State.{CanTake}
use Rattle.smp_upload.specs.Moves.{KeepsPending}
use Rattle.smp_upload.specs.declared.states.UploadFault.{UploadFault}
use Rattle.smp_upload.specs.declared.states.UploadFault.TheVariants as faults
use Rattle.smp_device.specs.Goings as goings
use Rattle.smp_device.specs.Goings.{Armed, Went, Goes, after_going, BootEnd, Booted, Boots, after_boot}
use Rattle.smp_device.specs.Handling.{DeviceState, handled_by}
use Rattle.smp_device.specs.Places.{Places, AtEach}
use Rattle.smp_device.specs.Up.{AllPlaces, Carries, IsWhole, Stands, up_of}
use Rattle.smp_device.specs.Uploads.{sizes_of}
use Rattle.smp_device.specs.declared.answering.Down.{Down}
use Rattle.smp_device.specs.declared.answering.Down.TheVariants as downs
use Rattle.smp_device.specs.declared.answering.Handled.{Handled}
use Rattle.smp_device.specs.declared.answering.Handled.TheVariants as handleds

-- the kind of the trouble that may still come
abbrev pub kind_in : Troubles → Option ArmKind
kind_in t =
    if nat_lt 0 t.cuts then Some arms.Cut
    else if nat_lt 0 t.changes then Some arms.Fail
    else if nat_lt 0 t.reads then Some arms.Read
    else None

abbrev pub armed_as : Option ArmKind → Option Region → Option ℕ → Option Armed
armed_as (Some kind) (Some region) patience = Some (record { kind = kind; region = region; passes = unwrap_or patience 0 })
armed_as kind region patience = None

-- by the troubles, the aim and the patience; nothing is known of a flash that tells no troubles
abbrev pub armed_told : Option Troubles → (aim : Option Region) (patience : Option ℕ) → Option Armed
armed_told None aim patience = None
armed_told (Some troubles) aim patience = armed_as (kind_in troubles) aim patience

-- what is armed in a flash
abbrev pub armed_in : FlashState → Option Armed
armed_in a = armed_told a.troubles a.aim a.patience

-- the one trouble of what is armed, and none
abbrev pub one_trouble : ArmKind → Troubles
one_trouble arms.Cut = record { cuts = 1; changes = 0; reads = 0 }
one_trouble arms.Fail = record { cuts = 0; changes = 1; reads = 0 }
one_trouble arms.Read = record { cuts = 0; changes = 0; reads = 1 }

abbrev pub no_troubles : Troubles
no_troubles = record { cuts = 0; changes = 0; reads = 0 }

-- a cut or a failure has the patience of the changes that it still lets pass; a failing read counts none
abbrev pub IsPatience : ArmKind → ℕ → Option ℕ → Type 0
IsPatience arms.Cut passes patience = patience ≡ Some passes
IsPatience arms.Fail passes patience = patience ≡ Some passes
IsPatience arms.Read passes patience = (patience ≡ None) × (passes ≡ 0)

-- The flash tells that this is armed and no other trouble is, as a flash in memory does. Where nothing is armed, its aim says
-- nothing.
abbrev pub TellsArmed : Option Armed → FlashState → Type 0
TellsArmed None a = a.troubles ≡ Some no_troubles
TellsArmed (Some arm) a = (a.troubles ≡ Some (one_trouble arm.kind)) × (a.aim ≡ Some arm.region) × IsPatience arm.kind arm.passes a.patience

-- it tells what is armed in it
abbrev pub IsTelling : FlashState → Type 0
IsTelling a = TellsArmed (armed_in a) a

-- No bank is worn: the record of each image can take what a request or a start may put, and the settings can be saved anew.
pub record IsFresh (p : Places) (bytes : List ℕ) : Type 0 where
  pub progress : AtEach (λ l. CanTake (newest_generation (progress_of l) bytes) 5) p
  pub settings : CanTake (newest_generation (settings_of p.first) bytes) 1

-- The bytes and the value stand for the device. Of one that is down nothing counts but what is durable, and its target.
pub record DeviceStands (s : DeviceState) (d : AbstractDevice) (bytes : List ℕ) : Type 0 where
  pub stands : Stands s.places d.target d bytes
  pub up : IfSome s.up (λ images. (d.target ≡ images.target) × Carries (up_of images s.settings s.files s.counters) d)

-- The flash is on, tells its bytes and what is armed in it, and none of its banks is worn.
pub record IsTold (p : Places) (bytes : List ℕ) (a : FlashState) : Type 0 where
  pub sizes : AllPlaces a.geometry p
  pub on : a.on ≡ true
  pub bytes_are : a.bytes ≡ Some bytes
  pub telling : IsTelling a
  pub fresh : IsFresh p bytes

-- A device whose value and bytes stand for this one, on such a flash.
pub record IsReady (s : DeviceState) (d : AbstractDevice) (bytes : List ℕ) (a : FlashState) : Type 0 where
  pub whole : IsWhole s.places s.up s.settings
  pub told : IsTold s.places bytes a
  pub stands : DeviceStands s d bytes

-- The bytes of a reply, none where none was sent.
abbrev pub sent_to : Message → Option Said → List ℕ
sent_to m None = []
sent_to m (Some reply) = reply_bytes m reply

-- What is answered: without a reply the flash is off, and the device down.
abbrev pub answered_by : Option Said → (resets : Bool) → Result Handled Down
answered_by None resets = Err downs.Off
answered_by (Some reply) resets = Ok (handled_by resets)

-- The records of the images aged by so many at most, and the settings' bank too.
pub record Aged (p : Places) (records saves : ℕ) (old new : List ℕ) : Type 0 where
  pub progress : AtEach (λ l. AgesAtMost records (progress_of l) old new) p
  pub settings : AgesAtMost saves (settings_of p.first) old new

-- What value and flash are after it: they stand for this device, and the flash tells what is armed then; it is on where power
-- stayed, and of the same sizes. A secondary slot that was pending before has the same bytes, and is pending as it was.
pub record Left (p : Places) (records saves : ℕ) (before : List ℕ) (armed : Option Armed) (powered : Bool) (new : DeviceState) (d : AbstractDevice) (a b : FlashState) : Type 0 where
  pub held : List ℕ
  pub bytes : b.bytes ≡ Some held
  pub stands : DeviceStands new d held
  pub aged : Aged p records saves before held
  pub pending : AtEach (λ l. KeepsPending l before held) p
  pub sizes : b.geometry ≡ a.geometry
  pub armed_is : armed_in b ≡ armed
  pub telling : IsTelling b
  pub on : b.on ≡ powered

-- What came of a packet that is a request. The device is down where no reply was sent, and where a reset was answered.
pub record RequestComes (to : Message) (d : AbstractDevice) (before : List ℕ) (old new : DeviceState) (out : List ℕ) (result : Result Handled Down) (a b : FlashState) : Type 0 where
  pub went : Went
  pub goes : Goes (sizes_of (geometry_of old.places.first)) (armed_in a) d (meaning to) went
  pub sent : out ≡ sent_to to went.reply
  pub answer : result ≡ answered_by went.reply (is_reset (meaning to))
  pub is_up : is_some new.up ≡ (is_some went.reply && not (is_reset (meaning to)))
  pub left : Left old.places 5 1 before went.armed (is_some went.reply) new (after_going went d) a b

-- Bytes that are no request are dropped.
pub record DropComes (d : AbstractDevice) (before : List ℕ) (old new : DeviceState) (out : List ℕ) (result : Result Handled Down) (a b : FlashState) : Type 0 where
  pub nothing : out ≡ []
  pub answer : result ≡ Ok handleds.Dropped
  pub flash : b ≡ a
  pub is_up : new.up ≡ old.up
  pub left : Left old.places 0 0 before (armed_in a) true new (record d { counters = after_drop d.counters }) a b

abbrev pub MessageComes : (request : Bool) → Message → AbstractDevice → (before : List ℕ) → (old new : DeviceState) → List ℕ → Result Handled Down → FlashState → FlashState → Type 0
MessageComes true to d before old new out result a b = RequestComes to d before old new out result a b
MessageComes false to d before old new out result a b = DropComes d before old new out result a b

-- What came of bytes, by the packet that they are.
abbrev pub PacketComes : Option Message → AbstractDevice → (before : List ℕ) → (old new : DeviceState) → List ℕ → Result Handled Down → FlashState → FlashState → Type 0
PacketComes None d before old new out result a b = DropComes d before old new out result a b
PacketComes (Some to) d before old new out result a b = MessageComes (is_request to) to d before old new out result a b

-- how a boot ended that was answered so
abbrev pub IsEnd : Result (Unit {0}) UploadFault → BootEnd → Type 0
IsEnd (Ok x) goings.up = Unit {0}
IsEnd (Err faults.Off) goings.cut = Unit {0}
IsEnd (Err (faults.Fault operation)) goings.fault = Unit {0}
IsEnd result ended = ⊥

-- whether the device is up after it, and whether power stayed
abbrev pub is_up_by : BootEnd → Bool
is_up_by goings.up = true
is_up_by goings.cut = false
is_up_by goings.fault = false

abbrev pub is_powered_by : BootEnd → Bool
is_powered_by goings.up = true
is_powered_by goings.cut = false
is_powered_by goings.fault = true

-- What came of a boot.
pub record BootComes (d : AbstractDevice) (before : List ℕ) (new : DeviceState) (result : Result (Unit {0}) UploadFault) (a b : FlashState) : Type 0 where
  pub booted : Booted
  pub boots : Boots (armed_in a) d booted
  pub answer : IsEnd result booted.ended
  pub is_up : is_some new.up ≡ is_up_by booted.ended
  pub left : Left new.places 2 0 before booted.armed (is_powered_by booted.ended) new (after_boot booted d) a b
