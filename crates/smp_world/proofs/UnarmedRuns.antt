-- While nothing is armed, what comes of each event is a function of the state.
use Rattle.std.proofs.Common.{◌≡◌, inl, inr, ℕ, List, [], ◌∷◌, Bool, true, false, Option, Some, None, Result, refl, ap, subst, ◌∙◌}
use Rattle.smp_header.specs.Message.{Message, packet}
use Rattle.smp_model.specs.declared.device.AbstractDevice.{AbstractDevice}
use Rattle.smp_model.specs.declared.device.Sizes.{Sizes}
use Rattle.smp_model.specs.Handled.{is_request, is_reset}
use Rattle.smp_model.specs.Meaning.{meaning}
use Rattle.smp_model.specs.Meant.{Meant}
use Rattle.smp_model.specs.Said.{Said}
use Rattle.smp_model.specs.Steps.{Step, settle_steps}
use Rattle.smp_device.specs.Goings.{Armed, StaysArmed, Went, Goes, after_going, Booted, Boots, BootEnd, up as is_up}
use Rattle.smp_world.specs.Comings.{Came, Comes, BootsAfter}
use Rattle.smp_world.specs.Lines as lines
use Rattle.smp_world.specs.Laws.{NoArms}
use Rattle.smp_world.specs.Unarmed.{plain_going, plain_boot, plain_boot_if, plain_coming, raw_message, raw_packet, raw_bytes, up_mail, up_named, unarmed_moment, unarmed_moments}
use Rattle.smp_world.specs.Runs.{Event, begins, raw, up, down, quiet, arms, boot, Mail, State, Moment, nth, number_of, Happens, Run as IsRun, RawMessage, RawPacket, RawComes, UpComes, UpNamed, moment_of, raw_fate, up_fate, state_after, state_after_up, moment_booted, state_booted}
use Rattle.smp_world.proofs.Arming.{none_left, event_passes}
use Rattle.smp_world.specs.Below.{StepsNeedFlash}
use Rattle.smp_world.proofs.Possible.{some_run}

unarmed : (d : AbstractDevice) (steps : List Step) (a c : Option Armed) → a ≡ None → StaysArmed d steps a c → c ≡ None
unarmed d steps a c e s = none_left d steps a c e (inr s)

no_arm : (h : Armed) (x : Option Armed) → x ≡ None → x ≡ Some h → ⊥
no_arm h x e f = cc

same_went : (w : Went) (s : Bool) (t : List Step) (r : Option Said) (h : Option Armed) → w.struck ≡ s → w.taken ≡ t → w.reply ≡ r → w.armed ≡ h
    → w ≡ record { struck = s; taken = t; reply = r; armed = h }
same_went w s t r h a b c e =
    ap (λ (x : Bool). record { struck = x; taken = w.taken; reply = w.reply; armed = w.armed }) a
    ∙ ap (λ (x : List Step). record { struck = s; taken = x; reply = w.reply; armed = w.armed }) b
    ∙ ap (λ (x : Option Said). record { struck = s; taken = t; reply = x; armed = w.armed }) c
    ∙ ap (λ (x : Option Armed). record { struck = s; taken = t; reply = r; armed = x }) e

pub goes_plain : (sizes : Sizes) (h : Option Armed) (d : AbstractDevice) (mm : Result Meant ℕ) (w : Went) → h ≡ None → Goes sizes h d mm w → w ≡ plain_going sizes d mm
goes_plain sizes h d mm w e (inl p) = same_went w false _ _ None p.calm p.taken p.reply (unarmed d w.taken h w.armed e p.stays)
goes_plain sizes h d mm w e (inr p) = absurd (no_arm p.arm h e p.was)

pub boots_plain : (h : Option Armed) (d : AbstractDevice) (b : Booted) → h ≡ None → Boots h d b → b ≡ plain_boot d
boots_plain h d b e (inl p) =
    ap (λ (x : BootEnd). record { ended = x; taken = b.taken; armed = b.armed }) p.ended
    ∙ ap (λ (x : List Step). record { ended = is_up; taken = x; armed = b.armed }) p.taken
    ∙ ap (λ (x : Option Armed). record { ended = is_up; taken = settle_steps d; armed = x }) (unarmed d b.taken h b.armed e p.stays)
boots_plain h d b e (inr p) = absurd (no_arm p.arm h e p.was)

boots_plain_if : (is : Bool) (h : Option Armed) (d : AbstractDevice) (b : Option Booted) → h ≡ None → BootsAfter is h d b → b ≡ plain_boot_if is d
boots_plain_if true h d (Some b) e k = ap (λ (x : Booted). some x) (boots_plain h d b e k)
  where
    some : Booted → Option Booted
    some x = Some x
boots_plain_if false h d None e k = refl
boots_plain_if true h d None e k = absurd k
boots_plain_if false h d (Some b) e k = absurd k

comes_plain : (sizes : Sizes) (h : Option Armed) (d : AbstractDevice) (mm : Result Meant ℕ) (c : Came) → h ≡ None → Comes sizes h d mm c → c ≡ plain_coming sizes d mm
comes_plain sizes h d mm c e k =
    let went = goes_plain sizes h d mm c.went e k.goes in
    let none : c.went.armed ≡ None = ap (λ (w : Went). w.armed) went in
    let boots = boots_plain_if (is_reset mm) c.went.armed (after_going c.went d) c.boot none k.boots in
    ap (λ (b : Option Booted). record { went = c.went; boot = b }) boots
    ∙ ap (λ (w : Went). record { went = w; boot = plain_boot_if (is_reset mm) (after_going w d) }) went

message_one : (sizes : Sizes) (is : Bool) (s : State) (m : Message) (a : Moment) → s.armed ≡ None → RawMessage sizes is s m a → a ≡ raw_message sizes is s m
message_one sizes true s m a e h =
    h.2 ∙ ap (λ (c : Came). moment_of (lines.raw (raw_fate m c.went.reply)) m c (state_after s c)) (comes_plain sizes s.armed s.device (meaning m) h.0 e h.1)
message_one sizes false s m a e h = h

packet_one : (sizes : Sizes) (s : State) (m : Option Message) (a : Moment) → s.armed ≡ None → RawPacket sizes s m a → a ≡ raw_packet sizes s m
packet_one sizes s None a e h = h
packet_one sizes s (Some m) a e h = message_one sizes (is_request m) s m a e h

raw_one : (sizes : Sizes) (is : Bool) (s : State) (bytes : List ℕ) (a : Moment) → s.armed ≡ None → RawComes sizes is s bytes a → a ≡ raw_bytes sizes is s bytes
raw_one sizes true s bytes a e h = packet_one sizes s (packet bytes) a e h
raw_one sizes false s bytes a e h = h

up_one : (sizes : Sizes) (is : Bool) (s : State) (n : ℕ) (p : Mail) (a : Moment) → s.armed ≡ None → UpComes sizes is s n p a → a ≡ up_mail sizes is s n p
up_one sizes true s n p a e h =
    h.2 ∙ ap (λ (c : Came). moment_of (lines.up n (up_fate s p.message c.went.reply)) p.message c (state_after_up s p c)) (comes_plain sizes s.armed s.device (meaning p.message) h.0 e h.1)
up_one sizes false s n p a e h = h

named_one : (sizes : Sizes) (s : State) (n : ℕ) (p : Option Mail) (a : Moment) → s.armed ≡ None → UpNamed sizes s n p a → a ≡ up_named sizes s n p
named_one sizes s n None a e h = h
named_one sizes s n (Some p) a e h = up_one sizes s.up s n p a e h

pub event_one : (sizes : Sizes) (s : State) (e : Event) (a : Moment) → s.armed ≡ None → Happens sizes s e a → a ≡ unarmed_moment sizes s e
event_one sizes s (begins job) a n h = h
event_one sizes s (raw bytes) a n h = raw_one sizes s.up s bytes a n h
event_one sizes s (up which) a n h = named_one sizes s (number_of s.packets which) (nth s.packets (number_of s.packets which)) a n h
event_one sizes s (down which) a n h = h
event_one sizes s (quiet client) a n h = h
event_one sizes s (arms arm) a n h = h
event_one sizes s boot a n h = h.2 ∙ ap (λ (x : Booted). moment_booted x (state_booted s x)) (boots_plain s.armed s.device h.0 n h.1)

pub unarmed_one : (sizes : Sizes) (s : State) (events : List Event) (ms : List Moment) → s.armed ≡ None → NoArms events → IsRun sizes s events ms → ms ≡ unarmed_moments sizes s events
unarmed_one sizes s [] [] e n r = refl
unarmed_one sizes s (v ∷ events) (m ∷ ms) e n r =
    let same = event_one sizes s v m e r.0 in
    let rest = unarmed_one sizes m.state events ms (none_left s.device m.taken s.armed m.state.armed e (event_passes sizes s v m n.0 r.0).leaves) n.1 r.1 in
    ap (λ (x : List Moment). m ∷ x) rest ∙ ap (λ (x : Moment). x ∷ unarmed_moments sizes x.state events) same
unarmed_one sizes s [] (m ∷ ms) e n r = absurd r
unarmed_one sizes s (v ∷ events) [] e n r = absurd r

-- and they are a run
pub unarmed_run : StepsNeedFlash → (sizes : Sizes) (s : State) (events : List Event) → s.armed ≡ None → NoArms events → IsRun sizes s events (unarmed_moments sizes s events)
unarmed_run law sizes s events e n =
    let some = some_run law sizes s events in
    subst (IsRun sizes s events) (unarmed_one sizes s events some.0 e n some.1) some.1
