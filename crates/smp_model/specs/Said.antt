-- A reply without where its parts lie in memory, and how it is written: one map, by the response tables of Zephyr's
-- group pages. The optional keys and the order of keys are this project's choice.
use Rattle.std.specs.Prelude.{ℕ, ◌+◌, List, [], ◌∷◌, ◌++◌, Bool, true, false, Option, Some, None, min, map as each, ◌==◌, if◌then◌else◌, codes, unwrap_or}
use Rattle.std.specs.Fmt.{decimal}
use Rattle.smp_header.specs.Message.{Message}
use Rattle.smp_cbor.specs.Values.{Value, unsigned, octets, text, boolean, list, map, values, pairs}
use Rattle.smp_cbor.specs.Shortest.{shortest}
use Rattle.smp_model.specs.declared.reply.Version.{Version}
use Rattle.smp_model.specs.declared.reply.SidePair.{SidePair}
use Rattle.smp_model.specs.declared.reply.SlotEntry.{SlotEntry}
use Rattle.smp_model.specs.declared.reply.Reply.{Reply}
use Rattle.smp_model.specs.declared.reply.Reply.TheVariants as replies
use Rattle.smp_model.specs.Errors.{version_1_of}
use Rattle.smp_model.specs.Packets.{packet_bytes}
use Rattle.smp_model.specs.declared.error.TheConstants.{UNKNOWN}
use Rattle.smp_header.specs.declared.TheConstants.{LARGEST_PACKET}

pub data Said : Type 0 where
  smp_error : (number : ℕ) → Said
  group_error : (group number : ℕ) → Said
  empty : Said
  echo : (text : List ℕ) → Said
  parameters : Said
  stat_group : (handled dropped errors : ℕ) → Said
  stat_list : Said
  images : (zero : SidePair) (one : Option SidePair) → Said
  offset : (off : ℕ) (matched : Option Bool) → Said
  setting : (val : List ℕ) → Said
  file_part : (off : ℕ) (len : Option ℕ) (part : List ℕ) → Said
  file_length : (len : ℕ) → Said
  file_hash : (off len : ℕ) (output : List ℕ) → Said
  file_types : Said

abbrev pub said_of : Reply → Said
said_of (replies.SmpError n) = smp_error n
said_of (replies.GroupError group n) = group_error group n
said_of replies.Empty = empty
said_of (replies.Echo t) = echo t.now
said_of replies.Parameters = parameters
said_of (replies.StatGroup handled dropped errors) = stat_group handled dropped errors
said_of replies.StatList = stat_list
said_of (replies.Images pair other) = images pair other
said_of (replies.Offset off matched) = offset off matched
said_of (replies.Setting val) = setting val.now
said_of (replies.FilePart off len part) = file_part off len part.now
said_of (replies.FileLength len) = file_length len
said_of (replies.FileHash off len output) = file_hash off len output
said_of replies.FileTypes = file_types

-- the errors, which are counted
abbrev pub is_error : Said → Bool
is_error (smp_error n) = true
is_error (group_error group n) = true
is_error said = false

abbrev pub Entries : Type 0
Entries = List (List ℕ × Value)

abbrev pub if_true : {A : Type 0} → Bool → List A → List A
if_true true xs = xs
if_true false xs = []

abbrev pub if_some : {A B : Type 0} → Option A → (A → List B) → List B
if_some (Some x) f = f x
if_some None f = []

-- major.minor.revision, and .build where the build is not 0
abbrev pub version_text : Version → List ℕ
version_text v = decimal v.major ++ codes "." ++ decimal v.minor ++ codes "." ++ decimal v.revision
    ++ (if v.build == 0 then [] else codes "." ++ decimal v.build)

-- the entry of a slot, behind the number of its image where that is told
abbrev pub entry_value : Option ℕ × SlotEntry → Value
entry_value (image, e) = map (pairs (if_some image (λ n. (codes "image", unsigned n) ∷ [])
    ++ (codes "slot", unsigned e.slot)
    ∷ (codes "version", text (version_text e.version))
    ∷ (codes "hash", octets e.hash)
    ∷ (codes "bootable", boolean e.bootable)
    ∷ (codes "pending", boolean e.pending)
    ∷ (codes "confirmed", boolean e.confirmed)
    ∷ (codes "active", boolean e.active)
    ∷ (codes "permanent", boolean e.permanent)
    ∷ []))

abbrev pub slots_of : Option ℕ → SidePair → List (Option ℕ × SlotEntry)
slots_of image pair = (image, pair.first) ∷ if_some pair.second (λ e. (image, e) ∷ [])

-- the slots of all images; the number of its image is told of each exactly where there are two images
abbrev pub listed : SidePair → Option SidePair → List (Option ℕ × SlotEntry)
listed pair None = slots_of None pair
listed pair (Some other) = slots_of (Some 0) pair ++ slots_of (Some 1) other

-- in version 1 (version bits 0) an error of a group has one number alone
abbrev pub group_error_entries : ℕ → ℕ → ℕ → Entries
group_error_entries version group n =
    if version == 0 then (codes "rc", unsigned (unwrap_or (version_1_of group n) UNKNOWN)) ∷ []
    else (codes "err", map (pairs ((codes "group", unsigned group) ∷ (codes "rc", unsigned n) ∷ []))) ∷ []

-- the pairs of a reply, by the version bits that it is written with
abbrev pub entries_of : ℕ → Said → Entries
entries_of version (smp_error n) = (codes "rc", unsigned n) ∷ []
entries_of version (group_error group n) = group_error_entries version group n
entries_of version empty = []
entries_of version (echo t) = (codes "r", text t) ∷ []
entries_of version parameters = (codes "buf_size", unsigned LARGEST_PACKET) ∷ (codes "buf_count", unsigned 1) ∷ []
entries_of version (stat_group handled dropped errors) =
    (codes "name", text (codes "smp"))
    ∷ (
      codes "fields",
      map (pairs (
          (codes "handled", unsigned handled)
          ∷ (codes "dropped", unsigned dropped)
          ∷ (codes "errors", unsigned errors)
          ∷ [])),
    )
    ∷ []
entries_of version stat_list = (codes "stat_list", list (values (text (codes "smp") ∷ []))) ∷ []
entries_of version (images pair other) = (codes "images", list (values (each entry_value (listed pair other)))) ∷ []
entries_of version (offset off matched) =
    (codes "off", unsigned off) ∷ if_some matched (λ m. (codes "match", boolean m) ∷ [])
entries_of version (setting val) = (codes "val", octets val) ∷ []
entries_of version (file_part off len part) =
    (codes "off", unsigned off) ∷ (codes "data", octets part) ∷ if_some len (λ n. (codes "len", unsigned n) ∷ [])
entries_of version (file_length len) = (codes "len", unsigned len) ∷ []
entries_of version (file_hash off len output) =
    (codes "type", text (codes "sha256"))
    ∷ ((if off == 0 then [] else (codes "off", unsigned off) ∷ [])
    ++ ((codes "len", unsigned len) ∷ (codes "output", octets output) ∷ []))
entries_of version file_types = (
  codes "types",
  map (pairs (
      (codes "sha256", map (pairs ((codes "format", unsigned 1) ∷ (codes "size", unsigned 32) ∷ [])))
      ∷ [])),
)
    ∷ []

abbrev pub reply_value : ℕ → Said → Value
reply_value version said = map (pairs (entries_of version said))

-- a reply repeats group, sequence and command, and has the operation plus one; version bits 2 and 3 become 1
abbrev pub reply_message : Message → Said → Message
reply_message to said = record {
  version = min to.version 1;
  op = to.op + 1;
  group = to.group;
  sequence = to.sequence;
  command = to.command;
  bytes = shortest (reply_value (min to.version 1) said);
}

abbrev pub reply_bytes : Message → Said → List ℕ
reply_bytes to said = packet_bytes (reply_message to said)
