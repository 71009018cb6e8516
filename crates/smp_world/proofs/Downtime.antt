-- A device that is down stays as it is until a boot, and it goes down only where something struck.
use Rattle.std.proofs.Common.{◌≡◌, ◌≢◌, inl, inr, ◌||◌, not, ℕ, List, Bool, true, false, Option, Some, None, Result, refl, sym, subst, ◌∙◌}
use Rattle.std.specs.Prelude.{is_some}
use Rattle.smp_header.specs.Message.{Message, packet}
use Rattle.smp_jobs.specs.Clients.{Client, Turn, client_hears, client_waited}
use Rattle.smp_jobs.specs.Jobs.{End}
use Rattle.smp_model.specs.declared.device.AbstractDevice.{AbstractDevice}
use Rattle.smp_model.specs.declared.device.Sizes.{Sizes}
use Rattle.smp_model.specs.Handled.{is_request, response_to}
use Rattle.smp_model.specs.Meaning.{meaning}
use Rattle.smp_model.specs.Meant.{Meant}
use Rattle.smp_model.specs.Said.{Said}
use Rattle.smp_world.specs.Comings.{Came, Comes, is_up, is_up_after, is_boot_struck}
use Rattle.smp_device.specs.Goings.{Armed, Goes, Booted}
use Rattle.smp_world.specs.Lines as lines
use Rattle.smp_world.specs.Lines.{Line, Did}
use Rattle.smp_world.specs.Runs.{Event, begins, raw, up, down, quiet, arms, boot, Mail, State, Moment, nth, number_of, Happens, RawMessage, RawPacket, RawComes, UpComes, UpNamed, unless_ended, moves, comes_down}

-- the device of a moment is what it was
pub record SameDevice (s t : State) : Type 0 where
  pub device : t.device ≡ s.device
  pub up : t.up ≡ s.up

same : (s : State) → SameDevice s s
same s = record { device = refl; up = refl }

unless_same : (line : Did → Line) (s : State) (k : ℕ) (e : Option End) (t : Turn) → SameDevice s (unless_ended line s k e t).state
unless_same line s k None t = record { device = refl; up = refl }
unless_same line s k (Some e) t = same s

moves_same : (line : Did → Line) (s : State) (k : ℕ) (c : Option Client) (turn : Client → Turn) → SameDevice s (moves line s k c turn).state
moves_same line s k None turn = same s
moves_same line s k (Some c) turn = unless_same line s k c.ended (turn c)

down_same : (s : State) (n : ℕ) (r : Option Mail) → SameDevice s (comes_down s n r).state
down_same s n None = same s
down_same s n (Some r) = moves_same (λ did. lines.down n did) s r.client (nth s.clients r.client) (λ c. client_hears c r.message)

as_same : (s : State) (out m : Moment) → out ≡ m → SameDevice s m.state → SameDevice s out.state
as_same s out m e k = subst (λ (x : Moment). SameDevice s x.state) (sym e) k

raw_same : (sizes : Sizes) (b : Bool) (s : State) (bytes : List ℕ) (out : Moment) → b ≡ false → RawComes sizes b s bytes out → SameDevice s out.state
raw_same sizes true s bytes out e h = cc
raw_same sizes false s bytes out e h = as_same s out _ h (same s)

up_same : (sizes : Sizes) (b : Bool) (s : State) (n : ℕ) (p : Mail) (out : Moment) → b ≡ false → UpComes sizes b s n p out → SameDevice s out.state
up_same sizes true s n p out e h = cc
up_same sizes false s n p out e h = as_same s out _ h (same s)

named_same : (sizes : Sizes) (s : State) (n : ℕ) (p : Option Mail) (out : Moment) → s.up ≡ false → UpNamed sizes s n p out → SameDevice s out.state
named_same sizes s n None out e h = as_same s out _ h (same s)
named_same sizes s n (Some p) out e h = up_same sizes s.up s n p out e h

-- no event but a boot moves a device that is down
pub down_stays : (sizes : Sizes) (s : State) (e : Event) (m : Moment) → s.up ≡ false → e ≢ boot → Happens sizes s e m → (m.state.up ≡ false) × (m.state.device ≡ s.device)
down_stays sizes s e m is n h = let k = by_event e n h in (k.up ∙ is, k.device)
  where
    by_event : (e : Event) → e ≢ boot → Happens sizes s e m → SameDevice s m.state
    by_event (begins job) n h = as_same s m _ h (record { device = refl; up = refl })
    by_event (raw bytes) n h = raw_same sizes s.up s bytes m is h
    by_event (up which) n h = named_same sizes s (number_of s.packets which) (nth s.packets (number_of s.packets which)) m is h
    by_event (down which) n h = as_same s m _ h (down_same s (number_of s.replies which) (nth s.replies (number_of s.replies which)))
    by_event (quiet k) n h = as_same s m _ h (moves_same (λ did. lines.quiet k did) s k (nth s.clients k) client_waited)
    by_event (arms a) n h = as_same s m _ h (record { device = refl; up = refl })
    by_event boot n h = absurd (n refl)

-- What takes a device down.
abbrev Strikes : Moment → Type 0
Strikes m = m.state.up ≡ false → m.struck ≡ true

none_silent : (o : Option Said) (x : Said) → o ≡ Some x → is_some o ≡ false → ⊥
none_silent None x e f = cc
none_silent (Some y) x e f = cc

going_strikes : (sizes : Sizes) (a : Option Armed) (d : AbstractDevice) (mm : Result Meant ℕ) (c : Came) → Goes sizes a d mm c.went → is_some c.went.reply ≡ false → c.went.struck ≡ true
going_strikes sizes a d mm c (inl p) e = absurd (none_silent c.went.reply (response_to sizes d mm).reply p.reply e)
going_strikes sizes a d mm c (inr p) e = p.strikes

or_true : (a b : Bool) → a ≡ true → (a || b) ≡ true
or_true true b e = refl
or_true false b e = cc

coming_strikes : (sizes : Sizes) (a : Option Armed) (d : AbstractDevice) (mm : Result Meant ℕ) (c : Came) → Comes sizes a d mm c → is_up_after c.boot c.went.reply ≡ false → (c.went.struck || is_boot_struck c.boot) ≡ true
coming_strikes sizes a d mm c k e = by_boot c.boot e
  where
    by_boot : (b : Option Booted) → is_up_after b c.went.reply ≡ false → (c.went.struck || is_boot_struck b) ≡ true
    by_boot None f = or_true c.went.struck false (going_strikes sizes a d mm c k.goes f)
    by_boot (Some b) f = or_not c.went.struck (is_up b.ended) f
      where
        or_not : (x y : Bool) → y ≡ false → (x || not y) ≡ true
        or_not true y g = refl
        or_not false false g = refl
        or_not false true g = cc

as_strikes : (out m : Moment) → out ≡ m → Strikes m → Strikes out
as_strikes out m e k = subst Strikes (sym e) k

still_up : (s t : State) → s.up ≡ true → SameDevice s t → t.up ≡ false → ⊥
still_up s t is k f = true_false t.up (k.up ∙ is) f
  where
    true_false : (b : Bool) → b ≡ true → b ≡ false → ⊥
    true_false b e f = cc

calm : (s : State) (out m : Moment) → s.up ≡ true → out ≡ m → SameDevice s m.state → Strikes out
calm s out m is e k = as_strikes out m e (λ f. absurd (still_up s m.state is k f))

message_strikes : (sizes : Sizes) (b : Bool) (s : State) (m : Message) (out : Moment) → s.up ≡ true → RawMessage sizes b s m out → Strikes out
message_strikes sizes true s m out is h = as_strikes out _ h.2 (λ f. coming_strikes sizes s.armed s.device (meaning m) h.0 h.1 f)
message_strikes sizes false s m out is h = as_strikes out _ h (λ f. absurd (not_up s.up is f))
  where
    not_up : (b : Bool) → b ≡ true → b ≡ false → ⊥
    not_up b e f = cc

packet_strikes : (sizes : Sizes) (s : State) (m : Option Message) (out : Moment) → s.up ≡ true → RawPacket sizes s m out → Strikes out
packet_strikes sizes s None out is h = as_strikes out _ h (λ f. absurd (not_up s.up is f))
  where
    not_up : (b : Bool) → b ≡ true → b ≡ false → ⊥
    not_up b e f = cc
packet_strikes sizes s (Some m) out is h = message_strikes sizes (is_request m) s m out is h

raw_strikes : (sizes : Sizes) (b : Bool) (s : State) (bytes : List ℕ) (out : Moment) → s.up ≡ true → RawComes sizes b s bytes out → Strikes out
raw_strikes sizes true s bytes out is h = packet_strikes sizes s (packet bytes) out is h
raw_strikes sizes false s bytes out is h = calm s out _ is h (same s)

up_strikes : (sizes : Sizes) (b : Bool) (s : State) (n : ℕ) (p : Mail) (out : Moment) → s.up ≡ true → UpComes sizes b s n p out → Strikes out
up_strikes sizes true s n p out is h = as_strikes out _ h.2 (λ f. coming_strikes sizes s.armed s.device (meaning p.message) h.0 h.1 f)
up_strikes sizes false s n p out is h = calm s out _ is h (same s)

named_strikes : (sizes : Sizes) (s : State) (n : ℕ) (p : Option Mail) (out : Moment) → s.up ≡ true → UpNamed sizes s n p out → Strikes out
named_strikes sizes s n None out is h = calm s out _ is h (same s)
named_strikes sizes s n (Some p) out is h = up_strikes sizes s.up s n p out is h

not_true : (b : Bool) → b ≡ false → not b ≡ true
not_true false e = refl
not_true true e = cc

pub only_strikes : (sizes : Sizes) (s : State) (e : Event) (m : Moment) → s.up ≡ true → Happens sizes s e m → m.state.up ≡ false → m.struck ≡ true
only_strikes sizes s (begins job) m is h = calm s m _ is h (record { device = refl; up = refl })
only_strikes sizes s (raw bytes) m is h = raw_strikes sizes s.up s bytes m is h
only_strikes sizes s (up which) m is h = named_strikes sizes s (number_of s.packets which) (nth s.packets (number_of s.packets which)) m is h
only_strikes sizes s (down which) m is h = calm s m _ is h (down_same s (number_of s.replies which) (nth s.replies (number_of s.replies which)))
only_strikes sizes s (quiet k) m is h = calm s m _ is h (moves_same (λ did. lines.quiet k did) s k (nth s.clients k) client_waited)
only_strikes sizes s (arms a) m is h = calm s m _ is h (record { device = refl; up = refl })
only_strikes sizes s boot m is h = as_strikes m _ h.2 (λ f. not_true (is_up h.0.ended) f)
