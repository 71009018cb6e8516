-- A packet of the Simple Management Protocol ("SMP protocol specification", frame): a header of eight bytes, and data.
use Rattle.std.specs.Prelude.{Bool, ◌==◌, ◌&&◌, ℕ, ◌+◌, ◌*◌, ◌/◌, ◌%◌, nat_le, if◌then◌else◌, List, [], ◌∷◌, ◌++◌, length, drop, slice_index, Option, Some, None}
use Rattle.std.specs.Int.{w16, from_be_bytes, to_be_bytes}
use Rattle.smp_header.specs.declared.Packet.{Packet}
use Rattle.smp_header.specs.declared.TheConstants.{HEADER, LARGEST_PACKET}

-- A packet as plain values, wherever its data lies in memory.
pub record Message : Type 0 where
  pub version : ℕ
  pub op : ℕ
  pub group : ℕ
  pub sequence : ℕ
  pub command : ℕ
  pub bytes : List ℕ

-- The values of a packet that was read.
abbrev pub message_of : Packet → Message
message_of p = record {
  version = p.version;
  op = p.op;
  group = p.group;
  sequence = p.sequence;
  command = p.command;
  bytes = p.bytes.now;
}

-- The number in two bytes from a place on, the high byte first.
abbrev pub number_at : List ℕ → ℕ → ℕ
number_at b i = from_be_bytes w16 (slice_index b i ∷ slice_index b (i + 1) ∷ [])

-- From a header alone to the largest packet, and as many bytes as the header states.
abbrev pub is_packet : List ℕ → Bool
is_packet b = nat_le HEADER (length b) && nat_le (length b) LARGEST_PACKET && (length b == HEADER + number_at b 2)

-- The packet that the bytes are.
abbrev pub packet : List ℕ → Option Message
packet b = if is_packet b then Some record {
  version = slice_index b 0 / 8 % 4;
  op = slice_index b 0 % 8;
  group = number_at b 4;
  sequence = slice_index b 6;
  command = slice_index b 7;
  bytes = drop HEADER b;
} else None

-- The eight bytes of a header, with the reserved bits and the flags 0.
abbrev pub header : ℕ → ℕ → ℕ → ℕ → ℕ → ℕ → List ℕ
header version op group sequence command size =
    (version * 8 + op) ∷ 0 ∷ to_be_bytes w16 size ++ to_be_bytes w16 group ++ sequence ∷ command ∷ []
