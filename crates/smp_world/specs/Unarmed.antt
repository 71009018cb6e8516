-- Where nothing is armed, what comes of each event is a function of the state.
use Rattle.std.specs.Prelude.{ℕ, List, [], ◌∷◌, Bool, true, false, Option, Some, None, Result}
use Rattle.smp_header.specs.Message.{Message, packet}
use Rattle.smp_model.specs.declared.device.AbstractDevice.{AbstractDevice}
use Rattle.smp_model.specs.declared.device.Sizes.{Sizes}
use Rattle.smp_model.specs.Handled.{is_request, response_to, is_reset}
use Rattle.smp_model.specs.Meaning.{meaning}
use Rattle.smp_model.specs.Meant.{Meant}
use Rattle.smp_model.specs.Steps.{settle_steps}
use Rattle.smp_device.specs.Goings.{Went, Booted, BootEnd, after_going, armed_by}
use Rattle.smp_world.specs.Comings.{Came}
use Rattle.smp_device.specs.Goings as goings
use Rattle.smp_world.specs.Lines as lines
use Rattle.smp_world.specs.Runs.{Event, begins, raw, up, down, quiet, arms, boot, Mail, State, Moment, nth, number_of, still, drops, moment_of, raw_fate, up_fate, state_after, state_after_up, client_begins, comes_down, is_quiet, moment_booted, state_booted}

-- what comes of a packet: all steps, and the device's reply
abbrev pub plain_going : Sizes → AbstractDevice → Result Meant ℕ → Went
plain_going sizes d m = record { struck = false; taken = (response_to sizes d m).steps; reply = Some (response_to sizes d m).reply; armed = None }

-- what comes of a boot: the device settles and is up
abbrev pub plain_boot : AbstractDevice → Booted
plain_boot d = record { ended = goings.up; taken = settle_steps d; armed = None }

abbrev pub plain_boot_if : Bool → AbstractDevice → Option Booted
plain_boot_if true d = Some (plain_boot d)
plain_boot_if false d = None

-- what comes of a packet, up to the end of the boot behind a reset
abbrev pub plain_coming : Sizes → AbstractDevice → Result Meant ℕ → Came
plain_coming sizes d m = record { went = plain_going sizes d m; boot = plain_boot_if (is_reset m) (after_going (plain_going sizes d m) d) }

-- the moment of raw bytes, by the cases of `Runs`
abbrev pub raw_request : Sizes → State → Message → Moment
raw_request sizes s m = moment_of (lines.raw (raw_fate m (plain_coming sizes s.device (meaning m)).went.reply)) m (plain_coming sizes s.device (meaning m)) (state_after s (plain_coming sizes s.device (meaning m)))

abbrev pub raw_message : Sizes → Bool → State → Message → Moment
raw_message sizes true s m = raw_request sizes s m
raw_message sizes false s m = still (lines.raw lines.dropped) (drops s)

abbrev pub raw_packet : Sizes → State → Option Message → Moment
raw_packet sizes s None = still (lines.raw lines.dropped) (drops s)
raw_packet sizes s (Some m) = raw_message sizes (is_request m) s m

abbrev pub raw_bytes : Sizes → Bool → State → List ℕ → Moment
raw_bytes sizes true s bytes = raw_packet sizes s (packet bytes)
raw_bytes sizes false s bytes = still (lines.raw lines.is_down) s

-- the moment of a client's packet
abbrev pub up_mail : Sizes → Bool → State → ℕ → Mail → Moment
up_mail sizes true s n p =
    moment_of (lines.up n (up_fate s p.message (plain_coming sizes s.device (meaning p.message)).went.reply)) p.message (plain_coming sizes s.device (meaning p.message))
    (state_after_up s p (plain_coming sizes s.device (meaning p.message)))
up_mail sizes false s n p = still (lines.up n lines.is_down) s

abbrev pub up_named : Sizes → State → ℕ → Option Mail → Moment
up_named sizes s n None = still (lines.up n lines.missing) s
up_named sizes s n (Some p) = up_mail sizes s.up s n p

-- the one moment of an event
abbrev pub unarmed_moment : Sizes → State → Event → Moment
unarmed_moment sizes s (begins job) = client_begins s job
unarmed_moment sizes s (raw bytes) = raw_bytes sizes s.up s bytes
unarmed_moment sizes s (up which) = up_named sizes s (number_of s.packets which) (nth s.packets (number_of s.packets which))
unarmed_moment sizes s (down which) = comes_down s (number_of s.replies which) (nth s.replies (number_of s.replies which))
unarmed_moment sizes s (quiet k) = is_quiet s k
unarmed_moment sizes s (arms arm) = still lines.armed (record s { armed = Some (armed_by arm) })
unarmed_moment sizes s boot = moment_booted (plain_boot s.device) (state_booted s (plain_boot s.device))

-- the moments of events among which nothing is armed
abbrev pub unarmed_moments : Sizes → State → List Event → List Moment
unarmed_moments sizes s [] = []
unarmed_moments sizes s (e ∷ events) = unarmed_moment sizes s e ∷ unarmed_moments sizes (unarmed_moment sizes s e).state events
