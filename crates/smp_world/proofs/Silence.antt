-- A request that was not answered was cut, and the device is down.
use Rattle.std.proofs.Common.{◌≡◌, inl, inr, ℕ, List, Bool, true, false, Option, Some, None, Result, refl, sym, ap, subst, ◌∙◌}
use Rattle.std.specs.Prelude.{is_some, IsTrue}
use Rattle.smp_header.specs.Message.{Message, packet}
use Rattle.smp_jobs.specs.Clients.{Client, Turn, client_hears, client_waited}
use Rattle.smp_jobs.specs.Jobs.{End}
use Rattle.smp_model.specs.declared.device.AbstractDevice.{AbstractDevice}
use Rattle.smp_model.specs.declared.device.Sizes.{Sizes}
use Rattle.smp_model.specs.Handled.{is_request, is_reset, response_to}
use Rattle.smp_model.specs.Meaning.{meaning}
use Rattle.smp_model.specs.Meant.{Meant, reset}
use Rattle.smp_model.specs.Said.{Said}
use Rattle.smp_world.specs.Comings.{BootsAfter, Came, Comes, is_up_after}
use Rattle.smp_flash.specs.declared.region.Region.{Region}
use Rattle.smp_device.specs.Goings.{Armed, Goes, Booted, after_going, reaches}
use Rattle.smp_world.specs.Lines as lines
use Rattle.smp_world.specs.Lines.{Line, Did}
use Rattle.smp_world.specs.Runs.{Event, begins, raw, up, down, quiet, arms, boot, Mail, State, Moment, nth, number_of, Happens, RawMessage, RawPacket, RawComes, UpComes, UpNamed, unless_ended, moves, comes_down}
use Rattle.smp_world.proofs.Counting.{Counting, counts_all, counts_saves, counts_sides, counting}
use Rattle.smp_world.proofs.Durably.{boot_after_reset, means}

-- A request that was not answered was cut, and the device is down.
reset_unreached : (sizes : Sizes) (d : AbstractDevice) (g : Region) → reaches sizes d g reset ≡ false
reset_unreached sizes d g = by_counting (counting g)
  where
    by_counting : Counting g → reaches sizes d g reset ≡ false
    by_counting (counts_all is) = subst (λ (x : Region). reaches sizes d x reset ≡ false) (sym is) refl
    by_counting (counts_saves k) = k.reached sizes d reset
    by_counting (counts_sides k) = k.reached sizes d reset

false_true : (b : Bool) → b ≡ false → IsTrue b → ⊥
false_true b e t = cc

same_request : (m n : Meant) → means m ≡ means n → n ≡ m
same_request m n e = cc

reset_answered : (sizes : Sizes) (a : Option Armed) (d : AbstractDevice) (mm : Result Meant ℕ) (c : Came) → mm ≡ means reset → Goes sizes a d mm c.went → c.went.reply ≡ None → ⊥
reset_answered sizes a d mm c is (inl p) e = none_some c.went.reply (response_to sizes d mm).reply e p.reply
  where
    none_some : (o : Option Said) (x : Said) → o ≡ None → o ≡ Some x → ⊥
    none_some o x e f = cc
reset_answered sizes a d mm c is (inr p) e =
    false_true (reaches sizes d p.arm.region p.request)
    (subst (λ (r : Meant). reaches sizes d p.arm.region r ≡ false) (sym (same_request reset p.request (sym is ∙ p.means))) (reset_unreached sizes d p.arm.region)) p.reached

coming_down : (sizes : Sizes) (a : Option Armed) (d : AbstractDevice) (mm : Result Meant ℕ) (c : Came) → Comes sizes a d mm c → c.went.reply ≡ None → is_up_after c.boot c.went.reply ≡ false
coming_down sizes a d mm c k e = by_boot c.boot k.boots
  where
    by_boot : (b : Option Booted) → BootsAfter (is_reset mm) c.went.armed (after_going c.went d) b → is_up_after b c.went.reply ≡ false
    by_boot None h = ap (λ (o : Option Said). is_some o) e
    by_boot (Some b) h = absurd (reset_answered sizes a d mm c (boot_after_reset mm c.went.armed (after_going c.went d) b h).0 k.goes e)

abbrev IsSilent : Moment → Type 0
IsSilent m = (r : Meant) → m.request ≡ Some r → m.reply ≡ None → m.state.up ≡ false

as_silent : (out m : Moment) → out ≡ m → IsSilent m → IsSilent out
as_silent out m e k = subst IsSilent (sym e) k

-- nothing was asked
unasked : (out m : Moment) → out ≡ m → m.request ≡ None → IsSilent out
unasked out m e none = as_silent out m e (λ r is silent. absurd (none_some m.request r none is))
  where
    none_some : (o : Option Meant) (x : Meant) → o ≡ None → o ≡ Some x → ⊥
    none_some o x e f = cc

moves_unasked : (line : Did → Line) (s : State) (k : ℕ) (c : Option Client) (turn : Client → Turn) → (moves line s k c turn).request ≡ None
moves_unasked line s k None turn = refl
moves_unasked line s k (Some c) turn = by_end c.ended
  where
    by_end : (e : Option End) → (unless_ended line s k e (turn c)).request ≡ None
    by_end None = refl
    by_end (Some e) = refl

down_unasked : (s : State) (n : ℕ) (r : Option Mail) → (comes_down s n r).request ≡ None
down_unasked s n None = refl
down_unasked s n (Some r) = moves_unasked (λ did. lines.down n did) s r.client (nth s.clients r.client) (λ c. client_hears c r.message)

message_silent : (sizes : Sizes) (b : Bool) (s : State) (m : Message) (out : Moment) → RawMessage sizes b s m out → IsSilent out
message_silent sizes true s m out h = as_silent out _ h.2 (λ r is e. coming_down sizes s.armed s.device (meaning m) h.0 h.1 e)
message_silent sizes false s m out h = unasked out _ h refl

packet_silent : (sizes : Sizes) (s : State) (m : Option Message) (out : Moment) → RawPacket sizes s m out → IsSilent out
packet_silent sizes s None out h = unasked out _ h refl
packet_silent sizes s (Some m) out h = message_silent sizes (is_request m) s m out h

raw_silent : (sizes : Sizes) (b : Bool) (s : State) (bytes : List ℕ) (out : Moment) → RawComes sizes b s bytes out → IsSilent out
raw_silent sizes true s bytes out h = packet_silent sizes s (packet bytes) out h
raw_silent sizes false s bytes out h = unasked out _ h refl

up_silent : (sizes : Sizes) (b : Bool) (s : State) (n : ℕ) (p : Mail) (out : Moment) → UpComes sizes b s n p out → IsSilent out
up_silent sizes true s n p out h = as_silent out _ h.2 (λ r is e. coming_down sizes s.armed s.device (meaning p.message) h.0 h.1 e)
up_silent sizes false s n p out h = unasked out _ h refl

named_silent : (sizes : Sizes) (s : State) (n : ℕ) (p : Option Mail) (out : Moment) → UpNamed sizes s n p out → IsSilent out
named_silent sizes s n None out h = unasked out _ h refl
named_silent sizes s n (Some p) out h = up_silent sizes s.up s n p out h

pub silent_down : (sizes : Sizes) (s : State) (e : Event) (m : Moment) (r : Meant) → Happens sizes s e m → m.request ≡ Some r → m.reply ≡ None → m.state.up ≡ false
silent_down sizes s e m r h = by_event e h r
  where
    by_event : (e : Event) → Happens sizes s e m → IsSilent m
    by_event (begins job) h = unasked m _ h refl
    by_event (raw bytes) h = raw_silent sizes s.up s bytes m h
    by_event (up which) h = named_silent sizes s (number_of s.packets which) (nth s.packets (number_of s.packets which)) m h
    by_event (down which) h = unasked m _ h (down_unasked s (number_of s.replies which) (nth s.replies (number_of s.replies which)))
    by_event (quiet k) h = unasked m _ h (moves_unasked (λ did. lines.quiet k did) s k (nth s.clients k) client_waited)
    by_event (arms a) h = unasked m _ h refl
    by_event boot h = unasked m _ h.2 refl
