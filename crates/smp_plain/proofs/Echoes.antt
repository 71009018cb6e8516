-- An echo that came in a packet is answered in one.
use Rattle.std.proofs.Common.{ℕ, ◌+◌, ◌≤◌, arith}
use Rattle.smp_model.specs.Meant as meant
use Rattle.smp_model.specs.Meant.{Meant}
use Rattle.smp_reply.specs.Room.{EchoFits}
use Rattle.smp_request.specs.Room.{HasRoom}
use Rattle.smp_header.specs.declared.TheConstants.{HEADER, LARGEST_PACKET}

pub echo_fits : (m : Meant) (n : ℕ) → HasRoom m n → n + HEADER ≤ LARGEST_PACKET → EchoFits m
echo_fits (meant.echo text) n room short = omega (arith, room, short)
echo_fits m n room short = tt
