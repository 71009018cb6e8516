-- The numbers in the lines of a moment name the newest packet and the newest reply of the state then.
use Rattle.std.proofs.Common.{◌≡◌, ℕ, ◌+◌, ◌++◌, List, [], ◌∷◌, length, Bool, true, false, Option, Some, None, refl, sym, ap, subst, ◌∙◌, arith, length-append}
use Rattle.std.specs.Prelude.{IsSomeAnd}
use Rattle.smp_header.specs.Message.{Message, packet}
use Rattle.smp_jobs.specs.Clients.{Client, Turn, begun, client_hears, client_waited}
use Rattle.smp_jobs.specs.Jobs.{Job, End}
use Rattle.smp_model.specs.declared.device.AbstractDevice.{AbstractDevice}
use Rattle.smp_model.specs.declared.device.Sizes.{Sizes}
use Rattle.smp_model.specs.Handled.{is_request}
use Rattle.smp_model.specs.Packets.{packet_bytes}
use Rattle.smp_model.specs.Said.{Said, reply_message}
use Rattle.smp_device.specs.Goings as goings
use Rattle.smp_device.specs.Goings.{Booted, BootEnd}
use Rattle.smp_world.specs.Laws.{IsOfClient, HasBytes, NamesSent, NamesSentBy, NamesMail, EachLine}
use Rattle.smp_world.specs.Lines as lines
use Rattle.smp_world.specs.Lines.{Line, Did, boot_line_by}
use Rattle.smp_world.specs.Runs.{Event, begins, raw, up, down, quiet, arms, boot, Mail, State, Moment, nth, number_of, Happens, RawMessage, RawPacket, RawComes, UpComes, UpNamed, did_by, did_in, turned, unless_ended, moves, comes_down, client_begins, with_packet, with_reply, boot_lines, up_fate, reply_to, state_after, state_after_up, state_booted}
use Rattle.smp_world.proofs.Numbered.{nth_behind}

abbrev Names : Moment → Type 0
Names m = EachLine (NamesMail m.state) m.lines

-- mail that was put behind all other
newest_is : (P : Mail → Type 0) (mails : List Mail) (m : Mail) → P m → IsSomeAnd (nth (mails ++ m ∷ []) (length mails + 1)) P
newest_is P mails m p = subst (λ (o : Option Mail). IsSomeAnd o P) (sym (nth_behind mails m [] (length mails + 1) refl)) p

one_longer : (mails : List Mail) (m : Mail) → length mails + 1 ≡ length (mails ++ m ∷ [])
one_longer mails m = omega (arith, length-append mails (m ∷ []))

-- what a client did
did_named : (ps : List Mail) (k : ℕ) (o : Option Message) (e : Option End) (s : State) → s.packets ≡ with_packet ps k o → NamesSent s k (did_by (length ps + 1) o e)
did_named ps k (Some m) e s is = (
  subst (λ (l : List Mail). IsOfClient l (length ps + 1) k) (sym is) (newest_is (λ x. x.client ≡ k) ps (record { client = k; message = m }) refl),
  subst (λ (l : List Mail). length ps + 1 ≡ length l) (sym is) (one_longer ps (record { client = k; message = m })),
)
did_named ps k None None s is = tt
did_named ps k None (Some e) s is = tt

-- the line of a move, with what it must tell of what was done
abbrev Tells : (Did → Line) → (State → Did → Type 0) → State → Type 0
Tells line tells s = (t : State) (did : Did) → t.replies ≡ s.replies → tells t did → NamesMail t (line did)

unless_named : (line : Did → Line) (s : State) (k : ℕ) (e : Option End) (t : Turn) → Tells line (λ u did. NamesSent u k did) s → Names (unless_ended line s k e t)
unless_named line s k None t tells = (tells (turned line s k t).state (did_in (length s.packets + 1) t) refl (did_named s.packets k t.packet t.client.ended (turned line s k t).state refl), tt)
unless_named line s k (Some e) t tells = (tells s lines.over refl tt, tt)

moves_named : (line : Did → Line) (s : State) (k : ℕ) (c : Option Client) (turn : Client → Turn) → Tells line (λ u did. NamesSent u k did) s → Names (moves line s k c turn)
moves_named line s k None turn tells = (tells s lines.none refl tt, tt)
moves_named line s k (Some c) turn tells = unless_named line s k c.ended (turn c) tells

by_reply : (s : State) (n : ℕ) (r : Option Mail) (t : State) (did : Did) → nth s.replies n ≡ r → t.replies ≡ s.replies → NamesSentBy t r did → NamesMail t (lines.down n did)
by_reply s n r t did at same named = subst (λ (o : Option Mail). NamesSentBy t o did) (sym (ap (λ (l : List Mail). nth l n) same ∙ at)) named

down_named : (s : State) (n : ℕ) (r : Option Mail) → nth s.replies n ≡ r → Names (comes_down s n r)
down_named s n None at = (by_reply s n None s lines.none at refl refl, tt)
down_named s n (Some r) at =
    moves_named (λ did. lines.down n did) s r.client (nth s.clients r.client) (λ c. client_hears c r.message) (λ t did same named. by_reply s n (Some r) t did at same named)

-- lines of boots name nothing
boot_named : (s : State) (e : BootEnd) (d : AbstractDevice) → NamesMail s (boot_line_by e d)
boot_named s goings.up d = tt
boot_named s goings.cut d = tt
boot_named s goings.fault d = tt

boots_named : (s : State) (b : Option Booted) (d : AbstractDevice) → EachLine (NamesMail s) (boot_lines b d)
boots_named s None d = tt
boots_named s (Some b) d = (boot_named s b.ended d, tt)

-- packets to the device
as_named : (out m : Moment) → out ≡ m → Names m → Names out
as_named out m e k = subst Names (sym e) k

message_named : (sizes : Sizes) (b : Bool) (s : State) (m : Message) (out : Moment) → RawMessage sizes b s m out → Names out
message_named sizes true s m out h = as_named out _ h.2 (tt, boots_named (state_after s h.0) h.0.boot (state_after s h.0).device)
message_named sizes false s m out h = as_named out _ h (tt, tt)

packet_named : (sizes : Sizes) (s : State) (m : Option Message) (out : Moment) → RawPacket sizes s m out → Names out
packet_named sizes s None out h = as_named out _ h (tt, tt)
packet_named sizes s (Some m) out h = message_named sizes (is_request m) s m out h

raw_named : (sizes : Sizes) (b : Bool) (s : State) (bytes : List ℕ) (out : Moment) → RawComes sizes b s bytes out → Names out
raw_named sizes true s bytes out h = packet_named sizes s (packet bytes) out h
raw_named sizes false s bytes out h = as_named out _ h (tt, tt)

fate_named : (s t : State) (n : ℕ) (p : Mail) (reply : Option Said) → t.replies ≡ with_reply s.replies p reply → NamesMail t (lines.up n (up_fate s p.message reply))
fate_named s t n p None is = tt
fate_named s t n p (Some said) is = (
  subst (λ (l : List Mail). HasBytes l (length s.replies + 1) (reply_to p.message said)) (sym is)
      (newest_is (λ x. packet_bytes x.message ≡ reply_to p.message said) s.replies (record { client = p.client; message = reply_message p.message said }) refl),
  subst (λ (l : List Mail). length s.replies + 1 ≡ length l) (sym is) (one_longer s.replies (record { client = p.client; message = reply_message p.message said })),
)

up_mail_named : (sizes : Sizes) (b : Bool) (s : State) (n : ℕ) (p : Mail) (out : Moment) → UpComes sizes b s n p out → Names out
up_mail_named sizes true s n p out h = as_named out _ h.2 (fate_named s (state_after_up s p h.0) n p h.0.went.reply refl, boots_named (state_after_up s p h.0) h.0.boot (state_after_up s p h.0).device)
up_mail_named sizes false s n p out h = as_named out _ h (tt, tt)

by_number : (sizes : Sizes) (s : State) (n : ℕ) (p : Option Mail) (out : Moment) → UpNamed sizes s n p out → Names out
by_number sizes s n None out h = as_named out _ h (tt, tt)
by_number sizes s n (Some p) out h = up_mail_named sizes s.up s n p out h

begins_named : (s : State) (job : Job) → Names (client_begins s job)
begins_named s job =
    let mail : Mail = record { client = length s.clients + 1; message = (begun job).request.packet } in
    ((newest_is (λ x. x.client ≡ length s.clients + 1) s.packets mail refl, one_longer s.packets mail), tt)

pub event_named : (sizes : Sizes) (s : State) (e : Event) (m : Moment) → Happens sizes s e m → EachLine (NamesMail m.state) m.lines
event_named sizes s (begins job) out h = as_named out _ h (begins_named s job)
event_named sizes s (raw bytes) out h = raw_named sizes s.up s bytes out h
event_named sizes s (up which) out h = by_number sizes s (number_of s.packets which) (nth s.packets (number_of s.packets which)) out h
event_named sizes s (down which) out h = as_named out _ h (down_named s (number_of s.replies which) (nth s.replies (number_of s.replies which)) refl)
event_named sizes s (quiet k) out h = as_named out _ h (moves_named (λ did. lines.quiet k did) s k (nth s.clients k) client_waited (λ t did same named. named))
event_named sizes s (arms a) out h = as_named out _ h (tt, tt)
event_named sizes s boot out h = as_named out _ h.2 (boot_named (state_booted s h.0) h.0.ended (state_booted s h.0).device, tt)
