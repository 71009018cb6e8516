-- What is answered from memory alone, and which replies go out.
use Rattle.std.specs.Prelude.{◌≡◌, ◌≤◌, ℕ, Bool, true, false, List, Option, Some, None}
use Rattle.smp_header.specs.declared.TheConstants.{LARGEST_PACKET}
use Rattle.smp_model.specs.declared.device.Counters.{Counters}
use Rattle.smp_model.specs.declared.device.StoredFile.{StoredFile}
use Rattle.smp_model.specs.declared.setting.Setting.{Setting}
use Rattle.smp_header.specs.Message.{Message}
use Rattle.smp_model.specs.declared.reply.Reply.{Reply}
use Rattle.smp_model.specs.Counters.{after_reply, os_reply}
use Rattle.smp_model.specs.FileGroup.{reads_file, tells_length, hashes_file}
use Rattle.smp_model.specs.Meant as meant
use Rattle.smp_model.specs.Meant.{Meant}
use Rattle.smp_model.specs.Said as said
use Rattle.smp_model.specs.Said.{Said, said_of, is_error, reply_bytes}
use Rattle.smp_model.specs.SettingsGroup.{reads_setting}
use Rattle.smp_reply.specs.Room.{room_of}
use Rattle.smp_reply.specs.Sendable.{IsSendable}

-- the reply to a request that changes nothing, with the counters before it; none to one that may change something
abbrev pub tells : List Setting → List StoredFile → Counters → Meant → Option Said
tells running files counters (meant.setting_read name size) = Some (reads_setting running name size).reply
tells running files counters meant.commit = Some said.empty
tells running files counters (meant.file_read off name) = Some (reads_file files off name).reply
tells running files counters (meant.file_status name) = Some (tells_length files name).reply
tells running files counters (meant.file_hash name kind off len) = Some (hashes_file files name kind off len).reply
tells running files counters meant.file_types = Some said.file_types
tells running files counters meant.file_close = Some said.empty
tells running files counters m = os_reply counters m

-- A reply that can be sent, and has room in a packet.
pub record Fitting (said : Said) : Type 0 where
  pub room : room_of said ≤ LARGEST_PACKET
  pub sendable : IsSendable said

-- it was answered, and counted
pub record TellsOne (told : Option Said) (to : Message) (before after : Counters) (out : List ℕ) : Type 0 where
  pub reply : Reply
  pub told_is : told ≡ Some (said_of reply)
  pub written : out ≡ reply_bytes to (said_of reply)
  pub counted : after ≡ after_reply (is_error (said_of reply)) before

-- it may change something, and is not answered from memory
pub record TellsNothing (told : Option Said) (before after : Counters) (old new : List ℕ) : Type 0 where
  pub told_is : told ≡ None
  pub counters_kept : after ≡ before
  pub out_kept : new ≡ old

abbrev pub Tells : (answered : Bool) → Option Said → Message → (before after : Counters) → (old new : List ℕ) → Type 0
Tells true told to before after old new = TellsOne told to before after new
Tells false told to before after old new = TellsNothing told before after old new
