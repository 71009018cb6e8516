-- How many bytes the packet of a reply has at most.
use Rattle.std.specs.Prelude.{ℕ, ◌+◌, ◌*◌, ◌≤◌, length}
use Rattle.smp_cbor.specs.Shortest.{short_text}
use Rattle.smp_model.specs.Meant as meant
use Rattle.smp_model.specs.Meant.{Meant}
use Rattle.smp_model.specs.Said.{Said, echo, images, listed, setting, file_part}
use Rattle.smp_header.specs.declared.TheConstants.{LARGEST_PACKET}

-- an echo has as many bytes as its request had at least; what else has no text or bytes of its own is short
abbrev pub room_of : Said → ℕ
room_of (echo t) = 11 + length (short_text t)
room_of (images pair other) = 60 + 260 * length (listed pair other)
room_of (setting val) = 200 + length val
room_of (file_part off len part) = 200 + length part
room_of said = 200

-- a packet has room for the reply, where the request is an echo
abbrev pub EchoFits : Meant → Type 0
EchoFits (meant.echo text) = room_of (echo text) ≤ LARGEST_PACKET
EchoFits m = Unit {0}
