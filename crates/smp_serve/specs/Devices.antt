-- What the device is through a session: what it answers to each packet, and what it is then.
use Rattle.std.specs.Prelude.{◌≡◌, min, ◌^◌, ◌-◌, ◌+◌, ◌≤◌, ◌++◌, ◌||◌, ℕ, Bool, true, false, if◌then◌else◌, List, [], ◌∷◌, Option, Some, None, IsTrue, Ok, Err}
use Rattle.smp_flash.specs.Layout.{geometry_of}
use Rattle.smp_flash.specs.State.{Faults}
use Rattle.smp_flash.specs.declared.flash.Operation.{Operation}
use Rattle.smp_flash.specs.declared.flash.Operation.TheVariants.{Read, Write, Erase}
use Rattle.smp_header.specs.Message.{Message, packet}
use Rattle.smp_model.specs.declared.device.AbstractDevice.{AbstractDevice}
use Rattle.smp_model.specs.declared.device.Sizes.{Sizes}
use Rattle.smp_model.specs.Counters.{after_drop}
use Rattle.smp_model.specs.Does.{does}
use Rattle.smp_model.specs.FlashUse.{uses_images, uses_saved}
use Rattle.smp_model.specs.Handled.{is_request, is_reset, response_to}
use Rattle.smp_model.specs.Meaning.{meaning}
use Rattle.smp_model.specs.Meant.{Meant}
use Rattle.smp_model.specs.Response.{after}
use Rattle.smp_model.specs.Said.{Said, reply_bytes}
use Rattle.smp_model.specs.Steps.{Step, applied, counted, settle_steps, start}
use Rattle.smp_upload.specs.declared.states.UploadFault.{UploadFault}
use Rattle.smp_device.specs.Arming.{DeviceStands}
use Rattle.smp_device.specs.Handling.{failed_said, worn_said}
use Rattle.smp_device.specs.Starting.{StartCaused}
use Rattle.smp_device.specs.Up.{IsWhole}
use Rattle.smp_device.specs.Uploads.{sizes_of}
use Rattle.smp_device.specs.declared.answering.Down.TheVariants as downs
use Rattle.smp_serve.specs.Sessions.{Exchange, Point, Stop, unsent, fell, unstarted}

-- what comes of a packet: the bytes of the reply, none where it was dropped, and the device then; after a reset it is not started yet
pub record Came : Type 0 where
  pub reply : Option (List ℕ)
  pub device : AbstractDevice

abbrev pub is_dropped : AbstractDevice → Came
is_dropped d = record { reply = None; device = record d { counters = after_drop d.counters } }

abbrev pub is_answered : Sizes → AbstractDevice → Message → Came
is_answered sizes d m = record {
  reply = Some (reply_bytes m (response_to sizes d (meaning m)).reply);
  device = after (response_to sizes d (meaning m)) d;
}

-- by the device's definition
abbrev pub came_of : Sizes → AbstractDevice → Option Message → Came
came_of sizes d None = is_dropped d
came_of sizes d (Some m) = if is_request m then is_answered sizes d m else is_dropped d

-- it is a request that resets the device
abbrev pub resets : Option Message → Bool
resets None = false
resets (Some m) = if is_request m then is_reset (meaning m) else false

-- how a packet went: as the device's definition says, or an operation of the flash failed at its request, or a record is worn
pub data Outcome : Type 0 where
  plainly : Outcome
  failed : Operation → Outcome
  worn : Outcome

-- how often this operation failed
abbrev pub count_of : Operation → Outcome → ℕ
count_of Read (failed Read) = 1
count_of Write (failed Write) = 1
count_of Erase (failed Erase) = 1
count_of operation outcome = 0

abbrev pub failures : Operation → List Outcome → ℕ
failures operation [] = 0
failures operation (outcome ∷ outcomes) = count_of operation outcome + failures operation outcomes

-- A number of failures rose by so many at least, unless it stands at its end, and only where there were some.
pub record RoseBy (n before now : ℕ) : Type 0 where
  pub kept : before ≤ now
  pub most : min (before + n) (2 ^ 64 - 1) ≤ now
  pub none : n ≡ 0 → now ≡ before

-- The numbers of the flash's failures rose by those that were answered.
pub record Raised (outcomes : List Outcome) (a b : Faults) : Type 0 where
  pub reads : RoseBy (failures Read outcomes) a.reads b.reads
  pub writes : RoseBy (failures Write outcomes) a.writes b.writes
  pub erases : RoseBy (failures Erase outcomes) a.erases b.erases

-- A request was broken off: some first ones of its steps were done, and the error was answered in the group of the request.
pub record BreaksOff (sizes : Sizes) (d : AbstractDevice) (p : Option Message) (error : Meant → Said) (c : Came) : Type 0 where
  pub message : Message
  pub is : p ≡ Some message
  pub asks : is_request message ≡ true
  pub request : Meant
  pub means : meaning message ≡ Ok request
  pub reaches : IsTrue (uses_saved request || uses_images sizes d request)
  pub taken : List Step
  pub rest : List Step
  pub split : (does sizes d request).steps ≡ taken ++ rest
  pub reply : c.reply ≡ Some (reply_bytes message (error request))
  pub device : c.device ≡ counted (error request) (applied taken d)

abbrev pub Comes : Sizes → AbstractDevice → Option Message → Outcome → Came → Type 0
Comes sizes d p plainly c = c ≡ came_of sizes d p
Comes sizes d p (failed operation) c = BreaksOff sizes d p (λ m. failed_said m operation) c
Comes sizes d p worn c = BreaksOff sizes d p worn_said c

-- after the reply to a reset it starts
abbrev pub started_if : Bool → AbstractDevice → AbstractDevice
started_if true d = start d
started_if false d = d

-- The device was given packets, one after the other: what it replied to each, how each went, and the device then.
pub data DeviceServes : Sizes → AbstractDevice → List Exchange → List Outcome → AbstractDevice → Type 0 where
  given_none : (sizes : Sizes) (d e : AbstractDevice) (xs : List Exchange) (outcomes : List Outcome) → xs ≡ [] → outcomes ≡ [] → e ≡ d → DeviceServes sizes d xs outcomes e
  given_one : (sizes : Sizes) (d e f : AbstractDevice) (earlier xs : List Exchange) (before outcomes : List Outcome) (x : Exchange) (outcome : Outcome) (c : Came)
      → DeviceServes sizes d earlier before e → Comes sizes e (packet x.packet) outcome c → x.reply ≡ c.reply → f ≡ started_if (resets (packet x.packet)) c.device
      → xs ≡ earlier ++ x ∷ [] → outcomes ≡ before ++ outcome ∷ [] → DeviceServes sizes d xs outcomes f

-- the sizes that the device at a point goes by
abbrev pub sizes_at : Point → Sizes
sizes_at a = sizes_of (geometry_of a.device.places.first)

-- The flash and the value stand for a device at the end of packets that passed.
pub record ServesDevice (a b : Point) (xs : List Exchange) (d : AbstractDevice) : Type 0 where
  pub outcomes : List Outcome
  pub last : AbstractDevice
  pub serves : DeviceServes (sizes_at a) d xs outcomes last
  pub raised : Raised outcomes a.flash.faults b.flash.faults
  pub held : List ℕ
  pub bytes : b.flash.bytes ≡ Some held
  pub stands : DeviceStands b.device last held

-- What the device was when a session stopped at a packet, whose reply was not sent.
pub record UnsentDevice (packet_bytes reply : List ℕ) (a b : Point) (d : AbstractDevice) : Type 0 where
  pub outcome : Outcome
  pub came : Came
  pub comes : Comes (sizes_at a) d (packet packet_bytes) outcome came
  pub reply_is : came.reply ≡ Some reply
  pub held : List ℕ
  pub bytes : b.flash.bytes ≡ Some held
  pub stands : DeviceStands b.device came.device held

-- The flash went off in it: some first steps of the request were done.
pub record FallenDevice (packet_bytes : List ℕ) (a b : Point) (d : AbstractDevice) : Type 0 where
  pub message : Message
  pub is : packet packet_bytes ≡ Some message
  pub taken : List Step
  pub rest : List Step
  pub split : (response_to (sizes_at a) d (meaning message)).steps ≡ taken ++ rest
  pub held : List ℕ
  pub bytes : b.flash.bytes ≡ Some held
  pub stands : DeviceStands b.device (applied taken d) held

-- The start after the reply to a reset did not go through: some first steps of settling were done. Why is told by the bytes from
-- before that start: it is worn where a record can't take what its mount needs.
pub record UnstartedDevice (packet_bytes reply : List ℕ) (fault : UploadFault) (a b : Point) (d : AbstractDevice) : Type 0 where
  pub outcome : Outcome
  pub came : Came
  pub comes : Comes (sizes_at a) d (packet packet_bytes) outcome came
  pub reply_is : came.reply ≡ Some reply
  pub is_reset : resets (packet packet_bytes) ≡ true
  pub before : List ℕ
  pub caused : StartCaused b.device.places (Err fault) (Some before)
  pub taken : List Step
  pub rest : List Step
  pub split : settle_steps came.device ≡ taken ++ rest
  pub held : List ℕ
  pub bytes : b.flash.bytes ≡ Some held
  pub stands : DeviceStands b.device (applied taken came.device) held

-- A flash that tells its bytes is never found to be another's in a request.
abbrev pub StopsDevice : Stop → Point → Point → AbstractDevice → Type 0
StopsDevice (unsent packet_bytes reply) a b d = UnsentDevice packet_bytes reply a b d
StopsDevice (fell packet_bytes downs.Off) a b d = FallenDevice packet_bytes a b d
StopsDevice (fell packet_bytes downs.Unformatted) a b d = ⊥
StopsDevice (unstarted packet_bytes reply fault) a b d = UnstartedDevice packet_bytes reply fault a b d

-- The flash tells its bytes, and these and the value stand for the device.
pub record StandsFor (a : Point) (d : AbstractDevice) : Type 0 where
  pub whole : IsWhole a.device.places a.device.up a.device.settings
  pub held : List ℕ
  pub bytes : a.flash.bytes ≡ Some held
  pub stands : DeviceStands a.device d held

-- Whatever device they stood for, it is what served these packets.
pub record IsServed (a b : Point) (xs : List Exchange) : Type 0 where
  pub device : (d : AbstractDevice) → StandsFor a d → ServesDevice a b xs d

-- And so up to a packet at which a session stopped.
pub record StoppedDevice (stop : Stop) (a m b : Point) (xs : List Exchange) (d : AbstractDevice) : Type 0 where
  pub served : ServesDevice a m xs d
  pub stopped : StopsDevice stop m b served.last

pub record IsStopped (stop : Stop) (a m b : Point) (xs : List Exchange) : Type 0 where
  pub device : (d : AbstractDevice) → StandsFor a d → StoppedDevice stop a m b xs d
