-- A device over a flash in memory: what comes of a packet, and of a boot.
use Rattle.std.specs.Prelude.{◌≡◌, ◌≤◌, ◌+◌, ◌<◌, ◌^◌, ℕ, List, [], Bool, true, false, Option, Some, None, Result, Ok, Err, option_map, is_some}
use Rattle.smp_flash.specs.Layout.{geometry_of, progress_of, settings_of}
use Rattle.smp_flash.specs.Memory.{Memory, told_by}
use Rattle.smp_flash.specs.declared.geometry.Geometry.{Geometry}
use Rattle.smp_gate.specs.Newest.{newest_generation}
use Rattle.smp_header.specs.Message.{Message, packet}
use Rattle.smp_model.specs.declared.device.AbstractDevice.{AbstractDevice}
use Rattle.smp_model.specs.declared.device.Sizes.{Sizes}
use Rattle.smp_model.specs.Counters.{after_drop}
use Rattle.smp_model.specs.Handled.{is_request, is_reset}
use Rattle.smp_model.specs.Meaning.{meaning}
use Rattle.smp_model.specs.Said.{Said}
use Rattle.smp_model.specs.Settings.{stored_form}
use Rattle.smp_model.specs.Steps.{side_at}
use Rattle.smp_upload.specs.declared.states.UploadFault.{UploadFault}
use Rattle.smp_upload.specs.declared.states.UploadFault.TheVariants as faults
use Rattle.smp_device.specs.Arming.{DeviceStands, sent_to}
use Rattle.smp_device.specs.Goings as goings
use Rattle.smp_device.specs.Goings.{Armed, armed_by, Booted, Boots, after_boot}
use Rattle.smp_device.specs.Handling.{DeviceSays, DeviceState, Handles}
use Rattle.smp_device.specs.Places.{Places, AtEach}
use Rattle.smp_device.specs.Showing.{shown_of, shown_side}
use Rattle.smp_device.specs.Starting.{Opens, Restarts}
use Rattle.smp_device.specs.Up.{IsWhole}
use Rattle.smp_device.specs.Uploads.{sizes_of}
use Rattle.smp_device.specs.declared.answering.Down.{Down}
use Rattle.smp_device.specs.declared.answering.Handled.{Handled}
use Rattle.smp_device.specs.declared.answering.Handled.TheVariants as handleds
use Rattle.smp_device.specs.Formatting.{BanksFormatted, StandsFormatted, formatted}
use Rattle.smp_device.specs.declared.device.OpenFault.{OpenFault}
use Rattle.smp_device.specs.declared.device.OpenFault.TheVariants as opens
use Rattle.smp_device.specs.declared.images.Images.{Images}
use Rattle.smp_schedule.specs.declared.event.Which.{Which}
use Rattle.smp_schedule.specs.declared.event.Which.TheVariants as whiches
use Rattle.smp_world.specs.Comings.{Came, Comes, after_coming, is_up, is_up_after, armed_after}
use Rattle.smp_world.specs.declared.machine.Fate.{Fate}
use Rattle.smp_world.specs.declared.machine.Fate.TheVariants as fates
use Rattle.smp_world.specs.declared.machine.BootEnd.{BootEnd}
use Rattle.smp_world.specs.declared.machine.BootEnd.TheVariants as ends

pub record MachineState : Type 0 where
  pub device : DeviceState
  pub flash : Memory
  -- the reply that was sent last
  pub reply : List ℕ

-- the device is of this flash, and its bytes are as the device says
pub record IsOfItsFlash (device : DeviceState) (flash : Memory) : Type 0 where
  pub sizes : geometry_of device.places.first ≡ flash.geometry
  pub says : DeviceSays device flash.bytes

-- What the calls do, by the clauses of the device.

-- what a machine opens on a flash, and what it leaves where it cannot
abbrev pub OpensMachine : Result MachineState OpenFault → Memory → Type 0
OpensMachine (Ok m) before = Opens (Ok m.device) (told_by before) (told_by m.flash) × IsWhole m.device.places m.device.up m.device.settings × (m.reply ≡ [])
OpensMachine (Err fault) before = (after : Memory) × Opens (Err fault) (told_by before) (told_by after)

abbrev pub fate_of : Result Handled Down → Fate
fate_of (Ok handleds.Reply) = fates.Replied
fate_of (Ok handleds.ReplyThenReset) = fates.Reset
fate_of (Ok handleds.Dropped) = fates.Dropped
fate_of (Err down) = fates.Cut

-- the device handled the bytes, and it ended so
pub record HandlesIn (bytes : List ℕ) (fate : Fate) (old new : MachineState) : Type 0 where
  pub result : Result Handled Down
  pub handles : Handles bytes old.device new.device new.reply result (told_by old.flash) (told_by new.flash)
  pub told : fate ≡ fate_of result
  pub places : new.device.places ≡ old.device.places
  pub whole : IsWhole new.device.places new.device.up new.device.settings

abbrev pub DeliversBy : Option Images → List ℕ → Fate → MachineState → MachineState → Type 0
DeliversBy None bytes fate old new = (fate ≡ fates.Down) × (new ≡ old)
DeliversBy (Some images) bytes fate old new = HandlesIn bytes fate old new

-- The bytes come to the device: it handles them where it is up; else nothing changes.
abbrev pub Delivers : List ℕ → Fate → MachineState → MachineState → Type 0
Delivers bytes fate old new = DeliversBy old.device.up bytes fate old new

abbrev pub boot_end : Result (Unit {0}) UploadFault → BootEnd
boot_end (Ok x) = ends.Up
boot_end (Err faults.Off) = ends.Cut
boot_end (Err faults.Unformatted) = ends.Fault
boot_end (Err (faults.Fault operation)) = ends.Fault
boot_end (Err faults.Worn) = ends.Fault

-- the memory with power on
abbrev pub powered : Memory → Memory
powered m = record m { on = true }

-- Power goes off and on, and the device starts anew.
pub record StartsAgain (ended : BootEnd) (old new : MachineState) : Type 0 where
  pub result : Result (Unit {0}) UploadFault
  pub restarts : Restarts result old.device.places new.device (told_by (powered old.flash)) (told_by new.flash)
  pub told : ended ≡ boot_end result
  pub places : new.device.places ≡ old.device.places
  pub whole : IsWhole new.device.places new.device.up new.device.settings
  pub reply : new.reply ≡ old.reply

-- a boot follows a reset that was answered, and nothing else
abbrev pub BootsIf : Fate → Option BootEnd → MachineState → MachineState → Type 0
BootsIf fates.Reset boot old new = (ended : BootEnd) × ((boot ≡ Some ended) × StartsAgain ended old new)
BootsIf fates.Replied boot old new = (boot ≡ None) × (new ≡ old)
BootsIf fates.Dropped boot old new = (boot ≡ None) × (new ≡ old)
BootsIf fates.Down boot old new = (boot ≡ None) × (new ≡ old)
BootsIf fates.Cut boot old new = (boot ≡ None) × (new ≡ old)

-- What a machine stands for.

-- No bank was written more often.
pub record AgedAtMost (age : ℕ) (p : Places) (bytes : List ℕ) : Type 0 where
  pub progress : AtEach (λ l. newest_generation (progress_of l) bytes ≤ age) p
  pub settings : newest_generation (settings_of p.first) bytes ≤ age

-- It stands for this device, and its flash is on where the device is up.
pub record MachineStands (age : ℕ) (m : MachineState) (d : AbstractDevice) : Type 0 where
  pub whole : IsWhole m.device.places m.device.up m.device.settings
  pub sizes : geometry_of m.device.places.first ≡ m.flash.geometry
  pub stands : DeviceStands m.device d m.flash.bytes
  pub aged : AgedAtMost age m.device.places m.flash.bytes
  pub on : is_some m.device.up ≡ true → m.flash.on ≡ true

-- what is armed in its flash
abbrev pub armed_of : MachineState → Option Armed
armed_of m = option_map armed_by m.flash.arm

abbrev pub sizes_in : MachineState → Sizes
sizes_in m = sizes_of (geometry_of m.device.places.first)

-- A flash that was formatted with these images: it is on, and nothing is armed.
pub record IsFormatted (g : Geometry) (image : List ℕ) (second : Option (List ℕ)) (m : Memory) : Type 0 where
  pub geometry : m.geometry ≡ g
  pub stands : StandsFormatted g image second m.bytes
  pub banks : BanksFormatted g m.bytes
  pub on : m.on ≡ true
  pub unarmed : m.arm ≡ None

-- A machine that is up stands for the device that is formatted.
pub record OpensUp (sizes : Sizes) (d : AbstractDevice) (m : MachineState) : Type 0 where
  pub stands : MachineStands 3 m d
  pub up : is_some m.device.up ≡ true
  pub armed : armed_of m ≡ None
  pub sizes_are : sizes_in m ≡ sizes

abbrev pub OpensSo : Result MachineState OpenFault → Sizes → AbstractDevice → Type 0
OpensSo (Ok m) sizes d = OpensUp sizes d m
OpensSo (Err fault) sizes d = fault ≡ opens.OutOfMemory

-- on a flash that was formatted a machine opens, but for want of memory
abbrev pub OpensFormatted : Result MachineState OpenFault → Memory → Type 0
OpensFormatted result before =
    (g : Geometry) (image : List ℕ) (second : Option (List ℕ)) → IsFormatted g image second before → OpensSo result (sizes_of g) (formatted (sizes_of g) image second)

-- what it shows is the device's
pub record IsShown (m : MachineState) (d : AbstractDevice) : Type 0 where
  pub sides : (image : ℕ) → shown_of image m.device.up m.device.confirmed ≡ option_map shown_side (side_at image d)
  pub saved : m.device.settings.form ≡ stored_form d.saved

-- A boot.

abbrev pub end_by : goings.BootEnd → BootEnd
end_by goings.up = ends.Up
end_by goings.cut = ends.Cut
end_by goings.fault = ends.Fault

abbrev pub ShowsIf : goings.BootEnd → MachineState → AbstractDevice → Type 0
ShowsIf goings.up m d = IsShown m d
ShowsIf goings.cut m d = Unit {0}
ShowsIf goings.fault m d = Unit {0}

-- what came of it: where the device is up, what it shows is its own
pub record BootTakes (age : ℕ) (d : AbstractDevice) (ended : BootEnd) (old new : MachineState) : Type 0 where
  pub booted : Booted
  pub boots : Boots (armed_of old) d booted
  pub ended_so : ended ≡ end_by booted.ended
  pub up : is_some new.device.up ≡ is_up booted.ended
  pub armed : armed_of new ≡ booted.armed
  pub stands : MachineStands age new (after_boot booted d)
  pub places : new.device.places ≡ old.device.places
  pub shows : ShowsIf booted.ended new (after_boot booted d)

-- a boot of a machine that is not worn
abbrev pub BootsMachine : BootEnd → MachineState → MachineState → Type 0
BootsMachine ended old new = (age : ℕ) (d : AbstractDevice) → MachineStands age old d → age + 5 < 2 ^ 32 → BootTakes (age + 2) d ended old new

-- A packet, together with the boot that follows a reset.

abbrev pub answered_fate : Bool → Fate
answered_fate true = fates.Reset
answered_fate false = fates.Replied

-- by the reply that was sent, and whether a reset is asked for
abbrev pub fate_by : Option Said → Bool → Fate
fate_by None resets = fates.Cut
fate_by (Some reply) resets = answered_fate resets

abbrev pub ShowsAfter : Option Booted → MachineState → AbstractDevice → Type 0
ShowsAfter None m d = Unit {0}
ShowsAfter (Some b) m d = ShowsIf b.ended m d

-- what came of a request
pub record RequestTakes (age : ℕ) (to : Message) (d : AbstractDevice) (fate : Fate) (boot : Option BootEnd) (old new : MachineState) : Type 0 where
  pub came : Came
  pub comes : Comes (sizes_in old) (armed_of old) d (meaning to) came
  pub reply : new.reply ≡ sent_to to came.went.reply
  pub fate_is : fate ≡ fate_by came.went.reply (is_reset (meaning to))
  pub boot_is : boot ≡ option_map (λ b. end_by b.ended) came.boot
  pub up : is_some new.device.up ≡ is_up_after came.boot came.went.reply
  pub armed : armed_of new ≡ armed_after came.boot came.went.armed
  pub stands : MachineStands age new (after_coming came d)
  pub places : new.device.places ≡ old.device.places
  pub shows : ShowsAfter came.boot new (after_coming came d)

-- and of bytes that are none
pub record DropTakes (age : ℕ) (d : AbstractDevice) (fate : Fate) (boot : Option BootEnd) (old new : MachineState) : Type 0 where
  pub fate_is : fate ≡ fates.Dropped
  pub boot_is : boot ≡ None
  pub up : is_some new.device.up ≡ is_some old.device.up
  pub armed : armed_of new ≡ armed_of old
  pub stands : MachineStands age new (record d { counters = after_drop d.counters })
  pub places : new.device.places ≡ old.device.places

abbrev pub MessageTakes : (request : Bool) → ℕ → Message → AbstractDevice → Fate → Option BootEnd → MachineState → MachineState → Type 0
MessageTakes true age to d fate boot old new = RequestTakes age to d fate boot old new
MessageTakes false age to d fate boot old new = DropTakes age d fate boot old new

abbrev pub PacketTakes : Option Message → ℕ → AbstractDevice → Fate → Option BootEnd → MachineState → MachineState → Type 0
PacketTakes None age d fate boot old new = DropTakes age d fate boot old new
PacketTakes (Some to) age d fate boot old new = MessageTakes (is_request to) age to d fate boot old new

abbrev pub TakesBy : (is_up : Bool) → ℕ → List ℕ → AbstractDevice → Fate → Option BootEnd → MachineState → MachineState → Type 0
TakesBy true age bytes d fate boot old new = PacketTakes (packet bytes) age d fate boot old new
TakesBy false age bytes d fate boot old new = (fate ≡ fates.Down) × (boot ≡ None) × (new ≡ old)

-- what comes of bytes to a machine that is not worn
abbrev pub TakesBytes : List ℕ → Fate → Option BootEnd → MachineState → MachineState → Type 0
TakesBytes bytes fate boot old new =
    (age : ℕ) (d : AbstractDevice) → MachineStands age old d → age + 10 < 2 ^ 32 → TakesBy (is_some old.device.up) (age + 7) bytes d fate boot old new

-- the number that is meant: that of the newest is the count of them
abbrev pub named : Which → ℕ → ℕ
named whiches.New count = count
named (whiches.Number n) count = n
