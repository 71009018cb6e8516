-- What the device is, and what `handle` makes of a packet.
use Rattle.std.specs.Prelude.{◌≡◌, ℕ, Bool, true, false, List, [], Option, Some, None, Result, Ok, Err, IfSome, if◌then◌else◌}
use Rattle.smp_flash.specs.Layout.{geometry_of}
use Rattle.smp_flash.specs.State.{FlashState}
use Rattle.smp_flash.specs.declared.flash.Operation.{Operation}
use Rattle.smp_flash.specs.declared.flash.Operation.TheVariants.{Read, Write, Erase}
use Rattle.smp_flash.specs.declared.geometry.Geometry.{Geometry}
use Rattle.smp_header.specs.Message.{Message, packet}
use Rattle.smp_model.specs.declared.device.Counters.{Counters}
use Rattle.smp_model.specs.declared.device.StoredFile.{StoredFile}
use Rattle.smp_model.specs.declared.error.TheConstants.{IMAGE_GROUP, SETTINGS_GROUP, READ_FAILED, WRITE_FAILED, ERASE_FAILED, RECORD_WORN, SETTINGS_WORN}
use Rattle.smp_model.specs.declared.reply.Reply.{Reply}
use Rattle.smp_model.specs.Counters.{after_reply, after_drop}
use Rattle.smp_model.specs.FlashUse.{uses_saved}
use Rattle.smp_model.specs.Handled.{is_request, is_reset}
use Rattle.smp_model.specs.Meaning.{meaning}
use Rattle.smp_model.specs.Meant.{Meant}
use Rattle.smp_model.specs.Said as said
use Rattle.smp_model.specs.Said.{Said, said_of, is_error, reply_bytes}
use Rattle.smp_settings.specs.Saved.{SettingsState}
use Rattle.smp_upload.specs.declared.states.UploadFault.{UploadFault}
use Rattle.smp_upload.specs.declared.states.UploadFault.TheVariants as faults
use Rattle.smp_device.specs.Places.{Places}
use Rattle.smp_device.specs.Serving.{Serves}
use Rattle.smp_device.specs.Up.{Up, UpSays, up_of}
use Rattle.smp_device.specs.declared.answering.Down.{Down}
use Rattle.smp_device.specs.declared.answering.Down.TheVariants as downs
use Rattle.smp_device.specs.declared.answering.Handled.{Handled}
use Rattle.smp_device.specs.declared.answering.Handled.TheVariants as handleds
use Rattle.smp_device.specs.declared.images.Images.{Images}
use Rattle.smp_device.specs.declared.showing.Confirmed.{Confirmed}

-- What the value that holds a device says: where its regions lie, its images where it is up, its settings, its files, what it
-- counted, and whether its images were confirmed when it was started.
pub record DeviceState : Type 0 where
  pub places : Places
  pub up : Option Images
  pub settings : SettingsState
  pub files : List StoredFile
  pub counters : Counters
  pub confirmed : Confirmed

-- The bytes are as a device that is up says; of one that is down nothing is asked.
abbrev pub DeviceSays : DeviceState → List ℕ → Type 0
DeviceSays s bytes = IfSome s.up (λ images. UpSays images s.settings bytes)

-- the number of an operation that failed
abbrev pub operation_number : Operation → ℕ
operation_number Read = READ_FAILED
operation_number Write = WRITE_FAILED
operation_number Erase = ERASE_FAILED

-- the group of a request that comes to the flash
abbrev pub flash_group : Meant → ℕ
flash_group m = if uses_saved m then SETTINGS_GROUP else IMAGE_GROUP

-- the number of a bank that is worn
abbrev pub worn_number : Meant → ℕ
worn_number m = if uses_saved m then SETTINGS_WORN else RECORD_WORN

-- the error that is answered where a request was broken off
abbrev pub failed_said : Meant → Operation → Said
failed_said m operation = said.group_error (flash_group m) (operation_number operation)

abbrev pub worn_said : Meant → Said
worn_said m = said.group_error (flash_group m) (worn_number m)

abbrev pub handled_by : (resets : Bool) → Handled
handled_by true = handleds.ReplyThenReset
handled_by false = handleds.Reply

-- the images after a reply: none where the device is down, which it is after the reply to a reset
abbrev pub left_by : (resets : Bool) → Images → Option Images
left_by true images = None
left_by false images = Some images

-- a reply was sent and counted
pub record Sent (to : Message) (reply : Said) (resets : Bool) (before after : Counters) (images : Images) (out : List ℕ) (left : Option Images) (result : Result Handled Down) : Type 0 where
  pub written : out ≡ reply_bytes to reply
  pub counted : after ≡ after_reply (is_error reply) before
  pub answer : result ≡ Ok (handled_by resets)
  pub left_is : left ≡ left_by resets images

-- no reply was sent, and the device is down
pub record Fell (down : Down) (before after : Counters) (out : List ℕ) (left : Option Images) (result : Result Handled Down) : Type 0 where
  pub nothing : out ≡ []
  pub counted : after ≡ before
  pub answer : result ≡ Err down
  pub left_is : left ≡ None

-- What is sent by how a request went: the reply; or the error of the operation that failed or of a worn bank, in the group of the
-- request; or nothing, where the flash is off.
abbrev pub Finishes : Message → Meant → (before after : Counters) → Images → Result Reply UploadFault → List ℕ → Option Images → Result Handled Down → Type 0
Finishes to m before after images (Ok reply) out left result = Sent to (said_of reply) (is_reset (Ok m)) before after images out left result
Finishes to m before after images (Err (faults.Fault operation)) out left result = Sent to (failed_said m operation) false before after images out left result
Finishes to m before after images (Err faults.Worn) out left result = Sent to (worn_said m) false before after images out left result
Finishes to m before after images (Err faults.Off) out left result = Fell downs.Off before after out left result
Finishes to m before after images (Err faults.Unformatted) out left result = Fell downs.Unformatted before after out left result

-- A request was served, and what came of it was sent.
pub record AnswersRequest (g : Geometry) (to : Message) (m : Meant) (up : Up) (settings : SettingsState) (files : List StoredFile) (counters : Counters) (out : List ℕ) (left : Option Images) (result : Result Handled Down)
    (a b : FlashState) : Type 0 where
  pub fate : Result Reply UploadFault
  pub images : Images
  pub serves : Serves g (Ok m) up (up_of images settings files up.counters) fate a b
  pub finishes : Finishes to m up.counters counters images fate out left result

-- The packet means no request: the error is answered, and nothing else changes.
pub record AnswersError (to : Message) (number : ℕ) (up : Up) (settings : SettingsState) (files : List StoredFile) (counters : Counters) (out : List ℕ) (left : Option Images) (result : Result Handled Down)
    (a b : FlashState) : Type 0 where
  pub sent : Sent to (said.smp_error number) false up.counters counters up.images out left result
  pub settings_kept : settings ≡ up.settings
  pub files_kept : files ≡ up.files
  pub flash : b ≡ a

abbrev pub AnswersMeaning : Geometry → Message → Result Meant ℕ → Up → SettingsState → List StoredFile → Counters → List ℕ → Option Images → Result Handled Down → FlashState → FlashState → Type 0
AnswersMeaning g to (Ok m) up settings files counters out left result a b = AnswersRequest g to m up settings files counters out left result a b
AnswersMeaning g to (Err number) up settings files counters out left result a b = AnswersError to number up settings files counters out left result a b

-- It was dropped, and counted.
pub record Drops (old new : DeviceState) (out : List ℕ) (result : Result Handled Down) (a b : FlashState) : Type 0 where
  pub nothing : out ≡ []
  pub device : new ≡ record old { counters = after_drop old.counters }
  pub answer : result ≡ Ok handleds.Dropped
  pub flash : b ≡ a

abbrev pub HandlesBy : (request : Bool) → Message → Images → (old new : DeviceState) → List ℕ → Result Handled Down → FlashState → FlashState → Type 0
HandlesBy true m images old new out result a b =
    AnswersMeaning (geometry_of old.places.first) m (meaning m) (up_of images old.settings old.files old.counters) new.settings new.files new.counters out new.up result a b
HandlesBy false m images old new out result a b = Drops old new out result a b

abbrev pub HandlesPacket : Option Message → Images → (old new : DeviceState) → List ℕ → Result Handled Down → FlashState → FlashState → Type 0
HandlesPacket None images old new out result a b = Drops old new out result a b
HandlesPacket (Some m) images old new out result a b = HandlesBy (is_request m) m images old new out result a b

abbrev pub HandlesUp : Option Images → List ℕ → (old new : DeviceState) → List ℕ → Result Handled Down → FlashState → FlashState → Type 0
HandlesUp None bytes old new out result a b = ⊥
HandlesUp (Some images) bytes old new out result a b = HandlesPacket (packet bytes) images old new out result a b

-- What `handle` makes of these bytes, on a device that is up.
abbrev pub Handles : List ℕ → (old new : DeviceState) → List ℕ → Result Handled Down → FlashState → FlashState → Type 0
Handles bytes old new out result a b = HandlesUp old.up bytes old new out result a b
