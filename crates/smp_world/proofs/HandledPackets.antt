-- Raw bytes do what the abstract device does with them.
use Rattle.std.proofs.Common.{◌≡◌, ℕ, List, Bool, true, false, if◌then◌else◌, Option, Some, None, Result, Ok, refl, ap, ◌∙◌}
use Rattle.smp_header.specs.Message.{Message, packet}
use Rattle.smp_model.specs.declared.device.AbstractDevice.{AbstractDevice}
use Rattle.smp_model.specs.declared.device.Sizes.{Sizes}
use Rattle.smp_model.specs.Handled.{is_request, response_to, restarted, answered, dropped, handled_packet, handled, is_reset}
use Rattle.smp_model.specs.Meaning.{meaning}
use Rattle.smp_model.specs.Meant.{Meant, reset}
use Rattle.smp_model.specs.Response.{after}
use Rattle.smp_world.specs.Comings.{booted_if}
use Rattle.smp_world.specs.Runs.{raw, State}
use Rattle.smp_world.specs.Unarmed.{plain_boot_if, raw_message, raw_packet, raw_bytes, unarmed_moment}

restarts : (mm : Result Meant ℕ) (d : AbstractDevice) → booted_if (plain_boot_if (is_reset mm) d) d ≡ restarted mm d
restarts (Ok reset) d = refl
restarts mm d = refl

message_handled : (sizes : Sizes) (b : Bool) (s : State) (m : Message) → (raw_message sizes b s m).state.device ≡ (if b then answered sizes s.device m else dropped s.device).device
message_handled sizes true s m = restarts (meaning m) (after (response_to sizes s.device (meaning m)) s.device)
message_handled sizes false s m = refl

packet_handled : (sizes : Sizes) (s : State) (m : Option Message) → (raw_packet sizes s m).state.device ≡ (handled_packet sizes s.device m).device
packet_handled sizes s None = refl
packet_handled sizes s (Some m) = message_handled sizes (is_request m) s m

pub raw_handled : (sizes : Sizes) (s : State) (bytes : List ℕ) → s.up ≡ true → (unarmed_moment sizes s (raw bytes)).state.device ≡ (handled sizes s.device bytes).device
raw_handled sizes s bytes e = ap (λ (b : Bool). (raw_bytes sizes b s bytes).state.device) e ∙ packet_handled sizes s (packet bytes)
