-- A device that serves: what comes of packets that are given to it one after the other, and how a session stops at one.
use Rattle.std.specs.Prelude.{◌≡◌, ◌≤◌, ◌++◌, false, List, [], ◌∷◌, ℕ, Option, Some, None, Result, Ok, Err}
use Rattle.smp_flash.specs.Area.{Told}
use Rattle.smp_flash.specs.Calls.{Rose}
use Rattle.smp_flash.specs.State.{Faults, FlashState}
use Rattle.smp_flash.specs.declared.flash.Operation.{Operation}
use Rattle.smp_flash.specs.declared.flash.Operation.TheVariants.{Read, Write, Erase}
use Rattle.smp_upload.specs.Moves.{KeepsPending}
use Rattle.smp_upload.specs.declared.states.UploadFault.{UploadFault}
use Rattle.smp_upload.specs.declared.states.UploadFault.TheVariants as starts
use Rattle.smp_device.specs.Handling.{DeviceState, Handles}
use Rattle.smp_device.specs.Places.{AtEach}
use Rattle.smp_device.specs.Starting.{Restarts}
use Rattle.smp_device.specs.Up.{IsWhole}
use Rattle.smp_device.specs.declared.answering.Down.{Down}
use Rattle.smp_device.specs.declared.answering.Down.TheVariants as downs
use Rattle.smp_device.specs.declared.answering.Handled.{Handled}
use Rattle.smp_device.specs.declared.answering.Handled.TheVariants as handleds
use Rattle.smp_serve.specs.declared.fault.ServeFault.{ServeFault}
use Rattle.smp_serve.specs.declared.fault.ServeFault.TheVariants as faults

-- a device and what its flash tells
pub record Point : Type 0 where
  pub device : DeviceState
  pub flash : FlashState

abbrev pub point : DeviceState → FlashState → Point
point device flash = record { device = device; flash = flash }

-- a packet that was given to the device, and the reply to it: none where it was dropped
pub record Exchange : Type 0 where
  pub packet : List ℕ
  pub reply : Option (List ℕ)

abbrev pub exchange : List ℕ → Option (List ℕ) → Exchange
exchange packet reply = record { packet = packet; reply = reply }

-- the reply that is to be sent, by what came of the packet and by the bytes that the device wrote
abbrev pub reply_of : Handled → List ℕ → Option (List ℕ)
reply_of handleds.Dropped out = None
reply_of handleds.Reply out = Some out
reply_of handleds.ReplyThenReset out = Some out

-- the device handled a packet
pub record HandlesAt (packet out : List ℕ) (result : Result Handled Down) (a b : Point) : Type 0 where
  pub handles : Handles packet a.device b.device out result a.flash b.flash
  pub places : b.device.places ≡ a.device.places
  pub whole : IsWhole b.device.places b.device.up b.device.settings

-- it was started again
pub record StartsAt (result : Result (Unit {0}) UploadFault) (a b : Point) : Type 0 where
  pub restarts : Restarts result a.device.places b.device a.flash b.flash
  pub places : b.device.places ≡ a.device.places
  pub whole : IsWhole b.device.places b.device.up b.device.settings

-- after the reply to a reset it is started again, and after nothing else
abbrev pub StartsAfter : Handled → Point → Point → Type 0
StartsAfter handleds.ReplyThenReset a b = StartsAt (Ok tt) a b
StartsAfter handleds.Reply a b = b ≡ a
StartsAfter handleds.Dropped a b = b ≡ a

-- A packet was handled, and its reply was sent; after a reset the device is up again.
pub record Passes (x : Exchange) (a b : Point) : Type 0 where
  pub handled : Handled
  pub out : List ℕ
  pub middle : Point
  pub handles : HandlesAt x.packet out (Ok handled) a middle
  pub reply : x.reply ≡ reply_of handled out
  pub starts : StartsAfter handled middle b

-- Packets passed, one after the other.
pub data Serves : Point → List Exchange → Point → Type 0 where
  no_packet : (a b : Point) (xs : List Exchange) → xs ≡ [] → b ≡ a → Serves a xs b
  one_packet : (a b c : Point) (earlier xs : List Exchange) (x : Exchange) → Serves a earlier b → Passes x b c → xs ≡ earlier ++ x ∷ [] → Serves a xs c

-- How a session stopped at a packet.
pub data Stop : Type 0 where
  -- its reply was not sent, or not whole
  unsent : (packet reply : List ℕ) → Stop
  -- the device went down without a reply
  fell : (packet : List ℕ) → Down → Stop
  -- its reply was sent, and the start after it did not go through
  unstarted : (packet reply : List ℕ) → UploadFault → Stop

abbrev pub packet_at : Stop → List ℕ
packet_at (unsent packet reply) = packet
packet_at (fell packet down) = packet
packet_at (unstarted packet reply fault) = packet

pub record StopsUnsent (packet reply : List ℕ) (a b : Point) : Type 0 where
  pub handled : Handled
  pub out : List ℕ
  pub handles : HandlesAt packet out (Ok handled) a b
  pub reply_is : Some reply ≡ reply_of handled out

pub record StopsFallen (packet : List ℕ) (down : Down) (a b : Point) : Type 0 where
  pub out : List ℕ
  pub handles : HandlesAt packet out (Err down) a b

pub record StopsUnstarted (packet reply : List ℕ) (fault : UploadFault) (a b : Point) : Type 0 where
  pub middle : Point
  pub handles : HandlesAt packet reply (Ok handleds.ReplyThenReset) a middle
  pub starts : StartsAt (Err fault) middle b

abbrev pub Stops : Stop → Point → Point → Type 0
Stops (unsent packet reply) a b = StopsUnsent packet reply a b
Stops (fell packet down) a b = StopsFallen packet down a b
Stops (unstarted packet reply fault) a b = StopsUnstarted packet reply fault a b

abbrev pub start_fault : UploadFault → ServeFault
start_fault starts.Unformatted = faults.Unformatted
start_fault (starts.Fault operation) = faults.FlashFault
start_fault starts.Off = faults.FlashOff
start_fault starts.Worn = faults.Worn

abbrev pub down_fault : Down → ServeFault
down_fault downs.Off = faults.FlashOff
down_fault downs.Unformatted = faults.Unformatted

-- The answer of a session that stopped so; the first is that of what sends.
abbrev pub stop_fault : ServeFault → Stop → ServeFault
stop_fault sending (unsent packet reply) = sending
stop_fault sending (fell packet down) = down_fault down
stop_fault sending (unstarted packet reply fault) = start_fault fault

-- no number of failures of the flash fell
pub record NoFewer (a b : Faults) : Type 0 where
  pub reads : a.reads ≤ b.reads
  pub writes : a.writes ≤ b.writes
  pub erases : a.erases ≤ b.erases

-- the number of an operation rose
abbrev pub RoseAt : Operation → Faults → Faults → Type 0
RoseAt Read a b = Rose a.reads b.reads
RoseAt Write a b = Rose a.writes b.writes
RoseAt Erase a b = Rose a.erases b.erases

-- By the answer of a session: the flash is off, or a number of its failures rose. Another answer tells nothing of it.
abbrev pub FlashCaused : {T : Type 0} → Result T ServeFault → FlashState → FlashState → Type 0
FlashCaused (Err faults.FlashOff) a b = b.on ≡ false
FlashCaused (Err faults.FlashFault) a b = (operation : Operation) × RoseAt operation a.faults b.faults
FlashCaused (Err faults.Unformatted) a b = Unit {0}
FlashCaused (Err faults.Worn) a b = Unit {0}
FlashCaused (Err faults.Read) a b = Unit {0}
FlashCaused (Err faults.Write) a b = Unit {0}
FlashCaused (Err faults.Link) a b = Unit {0}
FlashCaused (Err faults.Spent) a b = Unit {0}
FlashCaused (Ok x) a b = Unit {0}

-- Where the secondary slot of an image is pending, no byte of it changes. The value holds the places that its flash has, as every
-- value of a device does.
abbrev pub PendingStays : (a b : Point) → Type 0
PendingStays a b = IsWhole a.device.places a.device.up a.device.settings → AtEach (λ l. Told (KeepsPending l) a.flash.bytes b.flash.bytes) a.device.places
