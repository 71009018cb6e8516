-- What is so of every request.
use Rattle.std.specs.Prelude.{◌≡◌, ◌≤◌, ℕ, Ok}
use Rattle.smp_model.specs.Meaning.{meaning}
use Rattle.smp_model.specs.Meant.{Meant, fields_of}
use Rattle.smp_model.specs.Written.{request_message}
use Rattle.smp_request.specs.Held.{CanHoldEach}

-- a packet of a request, with the version bits 0 or 1 and whatever sequence number, means that request
abbrev pub RequestsAreMeant : Type 0
RequestsAreMeant = (version sequence : ℕ) (m : Meant) → version ≤ 1 → CanHoldEach (fields_of m) → meaning (request_message version sequence m) ≡ Ok m
