-- A packet and its answer, delivered once in order, where one client is alone and nothing is armed.
use Rattle.std.proofs.Common.{◌≡◌, ◌+◌, ◌==◌, ◌&&◌, if◌then◌else◌, ℕ, List, [], ◌∷◌, ◌++◌, length, Bool, true, false, Option, Some, None, Result, refl, sym, ap, subst, ◌∙◌, arith, eq-eqb, length-append}
use Rattle.std.specs.Result.{result_ok}
use Rattle.smp_cbor.specs.Shortest.{shortest}
use Rattle.smp_header.specs.Message.{Message}
use Rattle.smp_model.specs.declared.device.AbstractDevice.{AbstractDevice}
use Rattle.smp_model.specs.declared.device.Sizes.{Sizes}
use Rattle.smp_model.specs.Does.{does}
use Rattle.smp_model.specs.Meaning.{meaning}
use Rattle.smp_model.specs.Meant.{Meant}
use Rattle.smp_model.specs.Said.{Said, reply_message, reply_value}
use Rattle.smp_model.specs.Steps.{Step, applied}
use Rattle.smp_reply.specs.Told as told
use Rattle.smp_reply.specs.Told.{Told}
use Rattle.smp_jobs.specs.Clients.{Client, Turn, packet_of, goes_on, with_answer, after_moved, client_hears}
use Rattle.smp_device.specs.Goings.{durable, Booted, after_going}
use Rattle.smp_world.specs.Comings.{Came, booted_if, is_up_after, armed_after}
use Rattle.smp_model.specs.Handled.{is_reset}
use Rattle.smp_jobs.specs.Jobs.{End, next}
use Rattle.smp_world.specs.Lines as lines
use Rattle.smp_world.specs.Runs.{up, down, new, Mail, State, Moment, nth, Happens, moves, unless_ended, comes_down, with_packet, with_reply, with_nth}
use Rattle.smp_client.specs.Requests.{Open, is_reply_to, answer_by, by_answer}
use Rattle.smp_world.specs.Unarmed.{plain_boot_if, plain_coming, up_mail, up_named}
use Rattle.smp_world.proofs.UnarmedRuns.{event_one}
use Rattle.smp_world.proofs.Durably.{means, durable_counted}
use Rattle.smp_world.proofs.Numbered.{nth_behind}

-- one client, whose packet is the newest
pub record Alone (s : State) (c : Client) : Type 0 where
  pub up : s.up ≡ true
  pub unarmed : s.armed ≡ None
  pub clients : s.clients ≡ c ∷ []
  pub before : List Mail
  pub packets : s.packets ≡ before ++ record { client = 1; message = c.request.packet } ∷ []
  pub count : length s.packets ≡ c.sent

nth_last : {X : Type 0} (xs ys : List X) (x : X) → ys ≡ xs ++ x ∷ [] → nth ys (length ys) ≡ Some x
nth_last xs ys x e = ap (λ l. nth l (length l)) e ∙ nth_behind xs x [] (length (xs ++ x ∷ [])) (omega (arith, length-append xs (x ∷ [])))

abbrev plain : Sizes → State → Meant → Came
plain sizes s r = plain_coming sizes s.device (means r)

boot_none : (b : Bool) (d : AbstractDevice) → b ≡ false → plain_boot_if b d ≡ None
boot_none false d e = refl
boot_none true d e = cc

abbrev pub reply_of : Sizes → State → Meant → Said
reply_of sizes s r = (does sizes s.device r).reply

-- after the packet
pub record Asked (sizes : Sizes) (s : State) (c : Client) (r : Meant) (m : Moment) : Type 0 where
  pub request : m.request ≡ Some r
  pub reply : m.reply ≡ Some (reply_of sizes s r)
  pub same : durable m.state.device ≡ durable (applied (does sizes s.device r).steps s.device)
  pub up : m.state.up ≡ true
  pub unarmed : m.state.armed ≡ None
  pub clients : m.state.clients ≡ s.clients
  pub packets : m.state.packets ≡ s.packets
  pub replies : m.state.replies ≡ s.replies ++ record { client = 1; message = reply_message c.request.packet (reply_of sizes s r) } ∷ []

abbrev mail_of : Client → Mail
mail_of c = record { client = 1; message = c.request.packet }

asked_plain : (sizes : Sizes) (s : State) (c : Client) (r : Meant) (n : ℕ) → meaning c.request.packet ≡ means r → is_reset (means r) ≡ false → Asked sizes s c r (up_mail sizes true s n (mail_of c))
asked_plain sizes s c r n is not_reset =
    let boot : (plain_coming sizes s.device (meaning c.request.packet)).boot ≡ None = ap (λ (x : Result Meant ℕ). (plain_coming sizes s.device x).boot) is ∙ boot_none (is_reset (means r)) _ not_reset in
    let steps : (plain_coming sizes s.device (meaning c.request.packet)).went.taken ≡ (does sizes s.device r).steps = ap (λ (x : Result Meant ℕ). (plain_coming sizes s.device x).went.taken) is in
    let said : (plain_coming sizes s.device (meaning c.request.packet)).went.reply ≡ Some (reply_of sizes s r) = ap (λ (x : Result Meant ℕ). (plain_coming sizes s.device x).went.reply) is in
    record {
      request = ap (λ (x : Result Meant ℕ). result_ok x) is;
      reply = said;
      same = ap (λ (b : Option Booted). durable (booted_if b (after_going (plain_coming sizes s.device (meaning c.request.packet)).went s.device))) boot
          ∙ durable_counted (plain_coming sizes s.device (meaning c.request.packet)).went.reply [] (applied (plain_coming sizes s.device (meaning c.request.packet)).went.taken s.device)
          ∙ ap (λ (t : List Step). durable (applied t s.device)) steps;
      up = ap (λ (b : Option Booted). is_up_after b (plain_coming sizes s.device (meaning c.request.packet)).went.reply) boot
          ∙ ap (λ (x : Option Said). is_up_after None x) said;
      unarmed = ap (λ (b : Option Booted). armed_after b (plain_coming sizes s.device (meaning c.request.packet)).went.armed) boot;
      clients = refl;
      packets = refl;
      replies = ap (λ (x : Option Said). with_reply s.replies (mail_of c) x) said;
    }

pub asks_once : (sizes : Sizes) (s : State) (c : Client) (r : Meant) (m : Moment) → Alone s c → meaning c.request.packet ≡ means r → is_reset (means r) ≡ false → Happens sizes s (up new) m → Asked sizes s c r m
asks_once sizes s c r m a is not_reset h =
    let one : m ≡ up_named sizes s (length s.packets) (nth s.packets (length s.packets)) = event_one sizes s (up new) m a.unarmed h in
    let at : up_named sizes s (length s.packets) (nth s.packets (length s.packets)) ≡ up_mail sizes s.up s (length s.packets) (mail_of c) =
    ap (λ (p : Option Mail). up_named sizes s (length s.packets) p) (nth_last a.before s.packets (mail_of c) a.packets) in
    let on : up_mail sizes s.up s (length s.packets) (mail_of c) ≡ up_mail sizes true s (length s.packets) (mail_of c) = ap (λ (b : Bool). up_mail sizes b s (length s.packets) (mail_of c)) a.up in
    subst (Asked sizes s c r) (sym (one ∙ at ∙ on)) (asked_plain sizes s c r (length s.packets) is not_reset)

-- after its answer
pub record Heard (sizes : Sizes) (s : State) (c : Client) (r : Meant) (t : State) (turn : Turn) : Type 0 where
  pub same : durable t.device ≡ durable (applied (does sizes s.device r).steps s.device)
  pub up : t.up ≡ true
  pub unarmed : t.armed ≡ None
  pub clients : t.clients ≡ turn.client ∷ []
  pub packets : t.packets ≡ with_packet s.packets 1 turn.packet

abbrev pub turn_of : Sizes → State → Client → Meant → Turn
turn_of sizes s c r = client_hears c (reply_message c.request.packet (reply_of sizes s r))

heard_plain : (sizes : Sizes) (s : State) (c : Client) (r : Meant) (m : Moment) (n : ℕ) → Alone s c → c.ended ≡ None → Asked sizes s c r m
    → Heard sizes s c r (comes_down m.state n (Some (record { client = 1; message = reply_message c.request.packet (reply_of sizes s r) }))).state (turn_of sizes s c r)
heard_plain sizes s c r m n a open_ asked =
    let here : nth m.state.clients 1 ≡ Some c = ap (λ (cs : List Client). nth cs 1) (asked.clients ∙ a.clients) in
    subst (λ (x : Option Client). Heard sizes s c r (moves (λ did. lines.down n did) m.state 1 x (λ y. client_hears y (reply_message c.request.packet (reply_of sizes s r)))).state (turn_of sizes s c r)) (sym here)
    (subst (λ (e : Option End). Heard sizes s c r (unless_ended (λ did. lines.down n did) m.state 1 e (turn_of sizes s c r)).state (turn_of sizes s c r)) (sym open_) (record {
      same = asked.same;
      up = asked.up;
      unarmed = asked.unarmed;
      clients = ap (λ (cs : List Client). with_nth cs 1 (turn_of sizes s c r).client) (asked.clients ∙ a.clients);
      packets = ap (λ (ps : List Mail). with_packet ps 1 (turn_of sizes s c r).packet) asked.packets;
    }))

pub hears_once : (sizes : Sizes) (s : State) (c : Client) (r : Meant) (m : Moment) (t : Moment) → Alone s c → c.ended ≡ None → Asked sizes s c r m → Happens sizes m.state (down new) t
    → Heard sizes s c r t.state (turn_of sizes s c r)
hears_once sizes s c r m t a open_ asked h =
    let n = length m.state.replies in
    let last : nth m.state.replies n ≡ Some (record { client = 1; message = reply_message c.request.packet (reply_of sizes s r) }) = nth_last s.replies m.state.replies _ asked.replies in
    subst (λ (o : Moment). Heard sizes s c r o.state (turn_of sizes s c r)) (sym h)
    (subst (λ (x : Option Mail). Heard sizes s c r (comes_down m.state n x).state (turn_of sizes s c r)) (sym last) (heard_plain sizes s c r m n a open_ asked))

-- a client hears the reply to its own packet
all_true : (a b c d e : Bool) → a ≡ true → b ≡ true → c ≡ true → d ≡ true → e ≡ true → (a && (b && (c && (d && e)))) ≡ true
all_true true true true true e p q r s t = t
all_true false b c d e p q r s t = cc
all_true true false c d e p q r s t = cc
all_true true true false d e p q r s t = cc
all_true true true true false e p q r s t = cc

own_reply : (q : ℕ) (r : Meant) (s : Said) → is_reply_to (packet_of q r) (reply_message (packet_of q r) s) ≡ true
own_reply q r s =
    let p = packet_of q r in
    all_true (p.sequence == p.sequence) (p.group == p.group) (p.command == p.command) ((p.op + 1) == (p.op + 1)) true
    (eq-eqb p.sequence p.sequence refl) (eq-eqb p.group p.group refl) (eq-eqb p.command p.command refl) (eq-eqb (p.op + 1) (p.op + 1) refl) refl

answer_is : (o : Open) (q : ℕ) (r : Meant) (s : Said) (t : Told) → o.packet ≡ packet_of q r → told.told o.asked (shortest (reply_value 1 s)) ≡ Some t → answer_by o.packet o.asked (reply_message o.packet s) ≡ Some t
answer_is o q r s t e is =
    subst (λ (p : Message). (if is_reply_to p (reply_message p s) then told.told o.asked (reply_message p s).bytes else None) ≡ Some t) (sym e)
    (subst (λ (b : Bool). (if b then told.told o.asked (shortest (reply_value 1 s)) else None) ≡ Some t) (sym (own_reply q r s)) is)

pub turn_is : (c : Client) (q : ℕ) (r : Meant) (s : Said) (t : Told) → c.request.packet ≡ packet_of q r → told.told c.request.asked (shortest (reply_value 1 s)) ≡ Some t
    → client_hears c (reply_message c.request.packet s) ≡ goes_on (with_answer c t) (next c.job (t ∷ c.answers))
turn_is c q r s t e is = ap (λ (x : Option Told). after_moved c (by_answer c.request x)) (answer_is c.request q r s t e is)
