-- The text that a packet is sent as ("SMP transport specification", console).
use Rattle.std.specs.Prelude.{ℕ, zero, suc, ◌+◌, ◌/◌, Bool, true, false, List, [], ◌∷◌, ◌++◌, length, take, drop}
use Rattle.std.specs.Int.{w16, to_be_bytes}
use Rattle.smp_line.specs.Crc.{crc_of}
use Rattle.smp_line.specs.Line.{text_line}

-- The number of a packet's bytes plus two, the packet, and its CRC.
abbrev pub sent_bytes : List ℕ → List ℕ
sent_bytes packet = to_be_bytes w16 (length packet + 2) ++ packet ++ to_be_bytes w16 (crc_of packet)

-- So many pieces of 93 bytes.
unfoldable pub pieces_of : ℕ → List ℕ → List (List ℕ)
pieces_of zero bytes = []
pieces_of (suc n) bytes = take 93 bytes ∷ pieces_of n (drop 93 bytes)

-- So many that all bytes stand in them; the last may be shorter.
abbrev pub piece_count : List ℕ → ℕ
piece_count bytes = (length bytes + 92) / 93

-- A line for each piece: a first one, where it is asked for, and then lines that continue it.
unfoldable pub text_of_pieces : Bool → List (List ℕ) → List ℕ
text_of_pieces is_first [] = []
text_of_pieces is_first (piece ∷ later) = text_line is_first piece ++ text_of_pieces false later

-- The text of a packet.
abbrev pub frame : List ℕ → List ℕ
frame packet = text_of_pieces true (pieces_of (piece_count (sent_bytes packet)) (sent_bytes packet))
