-- What each event does to the device: nothing, or what comes of a packet or of a boot.
use Rattle.std.proofs.Common.{◌≡◌, ℕ, List, [], ◌++◌, ◌||◌, not, Bool, true, false, Option, Some, None, refl, sym, ap, subst, ◌∙◌}
use Rattle.std.specs.Result.{result_ok}
use Rattle.smp_header.specs.Message.{Message, packet}
use Rattle.smp_flash.specs.declared.arm.Arm.{Arm}
use Rattle.smp_model.specs.declared.device.AbstractDevice.{AbstractDevice}
use Rattle.smp_model.specs.declared.device.Sizes.{Sizes}
use Rattle.smp_model.specs.Counters.{after_drop}
use Rattle.smp_model.specs.Handled.{is_request}
use Rattle.smp_model.specs.Meaning.{meaning}
use Rattle.smp_model.specs.Meant.{Meant}
use Rattle.smp_model.specs.Said.{Said}
use Rattle.smp_model.specs.Steps.{Step}
use Rattle.smp_jobs.specs.Jobs.{End}
use Rattle.smp_jobs.specs.Clients.{Client, Turn, client_hears, client_waited}
use Rattle.smp_device.specs.Goings.{Armed, armed_by, Booted, Boots, after_boot}
use Rattle.smp_world.specs.Comings.{Came, Comes, after_coming, steps_of_boot, armed_after, is_boot_struck, is_up}
use Rattle.smp_world.specs.Lines as lines
use Rattle.smp_world.specs.Lines.{Line, Did}
use Rattle.smp_world.specs.Runs.{Event, begins, raw, up, down, quiet, arms, boot, Mail, State, Moment, nth, number_of, Happens, RawRequest, RawMessage, RawPacket, RawComes, UpComes, UpNamed, unless_ended, moves, comes_down, BootComes}

pub record Deed : Type 0 where
  pub request : Option Meant
  pub taken : List Step
  pub reply : Option Said
  pub struck : Bool
  pub device : AbstractDevice
  pub armed : Option Armed

abbrev pub deed : Moment → Deed
deed m = record { request = m.request; taken = m.taken; reply = m.reply; struck = m.struck; device = m.state.device; armed = m.state.armed }

abbrev pub idle : AbstractDevice → Option Armed → Deed
idle d armed = record { request = None; taken = []; reply = None; struck = false; device = d; armed = armed }

abbrev pub came_deed : Message → Came → AbstractDevice → Deed
came_deed m c d = record {
  request = result_ok (meaning m);
  taken = c.went.taken ++ steps_of_boot c.boot;
  reply = c.went.reply;
  struck = c.went.struck || is_boot_struck c.boot;
  device = after_coming c d;
  armed = armed_after c.boot c.went.armed;
}

abbrev pub booted_deed : Booted → AbstractDevice → Deed
booted_deed b d = record { request = None; taken = b.taken; reply = None; struck = not (is_up b.ended); device = after_boot b d; armed = b.armed }

abbrev pub Says : Type 1
Says = AbstractDevice → Option Armed → Deed → Type 0

-- a fact of the device and of what was armed before an event, and of what it did
pub record Holds (sizes : Sizes) (P : Says) (e : Event) : Type 0 where
  pub stays : (d : AbstractDevice) (h : Option Armed) → P d h (idle d h)
  pub unread : (d : AbstractDevice) (h : Option Armed) → P d h (idle (record d { counters = after_drop d.counters }) h)
  pub arming : (d : AbstractDevice) (h : Option Armed) (a : Arm) → e ≡ arms a → P d h (idle d (Some (armed_by a)))
  pub packet_comes : (d : AbstractDevice) (h : Option Armed) (m : Message) (c : Came) → Comes sizes h d (meaning m) c → P d h (came_deed m c d)
  pub starts : (d : AbstractDevice) (h : Option Armed) (b : Booted) → Boots h d b → P d h (booted_deed b d)

unless_ended_idle : (line : Did → Line) (s : State) (k : ℕ) (e : Option End) (t : Turn) → deed (unless_ended line s k e t) ≡ idle s.device s.armed
unless_ended_idle line s k None t = refl
unless_ended_idle line s k (Some e) t = refl

moves_idle : (line : Did → Line) (s : State) (k : ℕ) (c : Option Client) (turn : Client → Turn) → deed (moves line s k c turn) ≡ idle s.device s.armed
moves_idle line s k None turn = refl
moves_idle line s k (Some c) turn = unless_ended_idle line s k c.ended (turn c)

down_idle : (s : State) (n : ℕ) (r : Option Mail) → deed (comes_down s n r) ≡ idle s.device s.armed
down_idle s n None = refl
down_idle s n (Some r) = moves_idle (λ did. lines.down n did) s r.client (nth s.clients r.client) (λ c. client_hears c r.message)

as_deed : (P : Deed → Type 0) (out : Moment) (d : Deed) → deed out ≡ d → P d → P (deed out)
as_deed P out d e p = subst P (sym e) p

request_deed : (sizes : Sizes) (P : Says) (e : Event) → Holds sizes P e → (s : State) (m : Message) (out : Moment) → RawRequest sizes s m out → P s.device s.armed (deed out)
request_deed sizes P e k s m out h =
    as_deed (P s.device s.armed) out (came_deed m h.0 s.device) (ap deed h.2) (k.packet_comes s.device s.armed m h.0 h.1)

message_deed : (sizes : Sizes) (P : Says) (e : Event) → Holds sizes P e → (is : Bool) (s : State) (m : Message) (out : Moment) → RawMessage sizes is s m out → P s.device s.armed (deed out)
message_deed sizes P e k true s m out h = request_deed sizes P e k s m out h
message_deed sizes P e k false s m out h = as_deed (P s.device s.armed) out _ (ap deed h) (k.unread s.device s.armed)

packet_deed : (sizes : Sizes) (P : Says) (e : Event) → Holds sizes P e → (s : State) (m : Option Message) (out : Moment) → RawPacket sizes s m out → P s.device s.armed (deed out)
packet_deed sizes P e k s None out h = as_deed (P s.device s.armed) out _ (ap deed h) (k.unread s.device s.armed)
packet_deed sizes P e k s (Some m) out h = message_deed sizes P e k (is_request m) s m out h

raw_deed : (sizes : Sizes) (P : Says) (e : Event) → Holds sizes P e → (is : Bool) (s : State) (bytes : List ℕ) (out : Moment) → RawComes sizes is s bytes out → P s.device s.armed (deed out)
raw_deed sizes P e k true s bytes out h = packet_deed sizes P e k s (packet bytes) out h
raw_deed sizes P e k false s bytes out h = as_deed (P s.device s.armed) out _ (ap deed h) (k.stays s.device s.armed)

up_deed : (sizes : Sizes) (P : Says) (e : Event) → Holds sizes P e → (is : Bool) (s : State) (n : ℕ) (p : Mail) (out : Moment) → UpComes sizes is s n p out → P s.device s.armed (deed out)
up_deed sizes P e k true s n p out h =
    as_deed (P s.device s.armed) out (came_deed p.message h.0 s.device) (ap deed h.2) (k.packet_comes s.device s.armed p.message h.0 h.1)
up_deed sizes P e k false s n p out h = as_deed (P s.device s.armed) out _ (ap deed h) (k.stays s.device s.armed)

named_deed : (sizes : Sizes) (P : Says) (e : Event) → Holds sizes P e → (s : State) (n : ℕ) (p : Option Mail) (out : Moment) → UpNamed sizes s n p out → P s.device s.armed (deed out)
named_deed sizes P e k s n None out h = as_deed (P s.device s.armed) out _ (ap deed h) (k.stays s.device s.armed)
named_deed sizes P e k s n (Some p) out h = up_deed sizes P e k s.up s n p out h

boot_deed : (sizes : Sizes) (P : Says) (e : Event) → Holds sizes P e → (s : State) (out : Moment) → BootComes s out → P s.device s.armed (deed out)
boot_deed sizes P e k s out h = as_deed (P s.device s.armed) out (booted_deed h.0 s.device) (ap deed h.2) (k.starts s.device s.armed h.0 h.1)

pub each_deed : (sizes : Sizes) (P : Says) (s : State) (e : Event) (out : Moment) → Holds sizes P e → Happens sizes s e out → P s.device s.armed (deed out)
each_deed sizes P s (begins job) out k h = as_deed (P s.device s.armed) out _ (ap deed h) (k.stays s.device s.armed)
each_deed sizes P s (raw bytes) out k h = raw_deed sizes P (raw bytes) k s.up s bytes out h
each_deed sizes P s (up which) out k h = named_deed sizes P (up which) k s (number_of s.packets which) (nth s.packets (number_of s.packets which)) out h
each_deed sizes P s (down which) out k h = as_deed (P s.device s.armed) out _ (ap deed h ∙ down_idle s (number_of s.replies which) (nth s.replies (number_of s.replies which))) (k.stays s.device s.armed)
each_deed sizes P s (quiet client) out k h = as_deed (P s.device s.armed) out _ (ap deed h ∙ moves_idle (λ did. lines.quiet client did) s client (nth s.clients client) client_waited) (k.stays s.device s.armed)
each_deed sizes P s (arms a) out k h = as_deed (P s.device s.armed) out _ (ap deed h) (k.arming s.device s.armed a refl)
each_deed sizes P s boot out k h = boot_deed sizes P boot k s out h
