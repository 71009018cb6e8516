-- The packets that a text gives ("SMP transport specification", console).
--
-- A packet is sent as the number of its bytes plus two, the packet, and its CRC. These bytes are cut into pieces, and
-- each piece is a line.
use Rattle.std.specs.Prelude.{ℕ, ◌+◌, ◌-◌, ◌*◌, ◌==◌, nat_lt, ◌||◌, if◌then◌else◌, List, [], ◌++◌, length, take, drop, slice_index, fold, Option, Some, None, option_to_list}
use Rattle.smp_line.specs.Crc.{crc_of}
use Rattle.smp_line.specs.Line.{Content, first, next, bad, foreign, content}
use Rattle.smp_console.specs.Lines.{lines}

-- The number in the two bytes at a place, the high byte first.
abbrev pub number_at : List ℕ → ℕ → ℕ
number_at bytes i = slice_index bytes i * 256 + slice_index bytes (i + 1)

-- What collected bytes are: too few yet, of no use, or all the bytes of a packet.
pub data Collection : Type 0 where
  more : Collection
  lost : Collection
  whole : List ℕ → Collection

-- The packet is given where its CRC is right.
abbrev pub checked_packet : List ℕ → ℕ → Collection
checked_packet packet crc = if crc_of packet == crc then whole packet else lost

-- The first two bytes are the number k: 2 to 2050. Then k bytes follow: a packet, and its CRC in the last two.
abbrev pub collection : List ℕ → Collection
collection bytes =
    let k = number_at bytes 0 in
    if nat_lt k 2 || nat_lt 2050 k || nat_lt (k + 2) (length bytes) then lost
    else if length bytes == k + 2 then checked_packet (take (k - 2) (drop 2 bytes)) (number_at bytes k)
    else more

-- What is collected after a line, where a packet was begun, and the packet that the line completes.
pub record Outcome : Type 0 where
  pub collected : Option (List ℕ)
  pub packet : Option (List ℕ)

abbrev pub no_outcome : Outcome
no_outcome = record { collected = None; packet = None }

abbrev pub still_collected : Option (List ℕ) → Outcome
still_collected collected = record { collected = collected; packet = None }

abbrev pub outcome_by_collection : List ℕ → Collection → Outcome
outcome_by_collection bytes more = still_collected (Some bytes)
outcome_by_collection bytes lost = no_outcome
outcome_by_collection bytes (whole packet) = record { collected = None; packet = Some packet }

abbrev pub outcome_of : List ℕ → Outcome
outcome_of bytes = outcome_by_collection bytes (collection bytes)

abbrev pub outcome_of_next : Option (List ℕ) → List ℕ → Outcome
outcome_of_next None bytes = no_outcome
outcome_of_next (Some collected) bytes = outcome_of (collected ++ bytes)

-- A first line with fewer than two bytes begins no packet.
abbrev pub outcome_of_first : List ℕ → Outcome
outcome_of_first bytes = if nat_lt (length bytes) 2 then no_outcome else outcome_of bytes

-- A foreign line changes nothing. Each other line forgets what was collected, but for one that continues it.
abbrev pub outcome_by_content : Option (List ℕ) → Content → Outcome
outcome_by_content collected (first bytes) = outcome_of_first bytes
outcome_by_content collected (next bytes) = outcome_of_next collected bytes
outcome_by_content collected bad = no_outcome
outcome_by_content collected foreign = still_collected collected

abbrev pub outcome : Option (List ℕ) → List ℕ → Outcome
outcome collected line = outcome_by_content collected (content line)

-- What is collected after some lines, and the packets that they gave.
pub record Progress : Type 0 where
  pub collected : Option (List ℕ)
  pub packets : List (List ℕ)

abbrev pub at_start : Progress
at_start = record { collected = None; packets = [] }

abbrev pub after_line : Progress → List ℕ → Progress
after_line progress line =
    let now = outcome progress.collected line in
    record { collected = now.collected; packets = progress.packets ++ option_to_list now.packet }

abbrev pub progress : List ℕ → Progress
progress text = fold after_line at_start (lines text)

-- The packets that the lines of a text give.
abbrev pub frames : List ℕ → List (List ℕ)
frames text = (progress text).packets
