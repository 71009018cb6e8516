-- In every run where a job that writes settings is done, and nothing went wrong since it began, its settings are saved.
use Rattle.std.proofs.Common.{◌≡◌, inl, inr, ◌≤◌, ◌+◌, ◌++◌, ℕ, List, [], ◌∷◌, length, Bool, true, false, Option, Some, None, refl, sym, ap, subst, ◌∙◌, arith, length-append}
use Rattle.std.specs.Prelude.{IfSome, All}
use Rattle.std.proofs.lemmas.List.Elements.{All-push, All-weaker, All-head, All-tail}
use Rattle.smp_header.specs.Message.{Message}
use Rattle.smp_model.specs.declared.device.Sizes.{Sizes}
use Rattle.smp_model.specs.declared.setting.Setting.{Setting}
use Rattle.smp_model.specs.Meaning.{meaning}
use Rattle.smp_model.specs.Said.{Said, reply_message}
use Rattle.smp_jobs.specs.Clients.{Client, Turn, begun, client_hears, client_waited}
use Rattle.smp_world.specs.Comings.{Came, Comes, after_coming, is_boot_struck}
use Rattle.smp_jobs.specs.Jobs.{Job, sets, End, done, asks, nth_of_set, first_of}
use Rattle.smp_world.specs.Lines as lines
use Rattle.smp_world.specs.Lines.{Line, Did as DidLine}
use Rattle.smp_world.specs.Runs.{Event, begins, raw, up, down, quiet, arms, boot, Mail, State, Moment, nth, number_of, Happens, Run as IsRun, UpComes, UpNamed, turned, unless_ended, moves, comes_down, client_begins, with_reply, with_packet, state_at_end, first_state}
use Rattle.smp_world.specs.SetJobs.{HasAll, IsSetJob, SparesNames, IsNoBoot, NothingStruck}
use Rattle.smp_world.specs.Below.{LawsBelow, OnlySaves}
use Rattle.smp_world.proofs.TaggedRuns.{nth_all}
use Rattle.smp_world.proofs.Numbered.{each_set, each_push, length_with, nth_within}
use Rattle.smp_world.proofs.KeptSettings.{Memory, memory, has_none}
use Rattle.smp_world.proofs.SparingClients.{Before, else_begun, before_run, first_before}
use Rattle.smp_world.proofs.SparingRequests.{IsElse}
use Rattle.smp_world.proofs.ClientKinds.{IsOfKind, HasKind, SendsKind, TurnKind, hears_kind, waited_kind}
use Rattle.smp_world.proofs.SetClients.{AnswersMine, GoesOn, MineOk, SendsMine, TurnMine, asks_done, going, hears_mine, mine_of, over, waited_mine}
use Rattle.smp_world.proofs.SetPackets.{After, ClientFor, Holds, MailFor, ReplyFor, else_came, kept_after, mine_came}
use Rattle.smp_world.proofs.Calm.{left_false}

-- Events.
replied_after : (settings : List Setting) (k : ℕ) (x : Memory) (cs : List Client) (ps rs : List Mail) (p : Mail) (reply : Option Said)
    → IfSome reply (λ s. p.client ≡ k → AnswersMine settings (reply_message p.message s) x) → After settings k x cs ps rs → After settings k x cs ps (with_reply rs p reply)
replied_after settings k x cs ps rs p None t a = a
replied_after settings k x cs ps rs p (Some s) t a = record {
  clients = a.clients;
  count = a.count;
  packets = a.packets;
  replies = All-push (ReplyFor settings k x) rs (record { client = p.client; message = reply_message p.message s }) a.replies t;
}

if_some : {A : Type 0} (P Q : A → Type 0) (o : Option A) → ((x : A) → P x → Q x) → IfSome o P → IfSome o Q
if_some P Q None f h = tt
if_some P Q (Some x) f h = f x h

each_some : {A : Type 0} (Q : A → Type 0) (o : Option A) → ((x : A) → Q x) → IfSome o Q
each_some Q None f = tt
each_some Q (Some x) f = f x

came_after : LawsBelow → OnlySaves → (settings : List Setting) → IsSetJob settings → (k : ℕ) (sizes : Sizes) (s : State) (p : Mail) (c : Came) → MailFor settings k (memory s.device) p → c.went.struck ≡ false
    → Comes sizes s.armed s.device (meaning p.message) c → Holds settings k s → After settings k (memory (after_coming c s.device)) s.clients s.packets (with_reply s.replies p c.went.reply)
came_after read law settings is k sizes s p c (inl mine) calm comes a =
    let came = mine_came read law settings is sizes s.armed s.device p.message c mine.1 calm comes in
    replied_after settings k (memory (after_coming c s.device)) s.clients s.packets s.replies p c.went.reply
    (if_some (λ r. AnswersMine settings (reply_message p.message r) (memory (after_coming c s.device))) (λ r. p.client ≡ k → AnswersMine settings (reply_message p.message r) (memory (after_coming c s.device))) c.went.reply (λ r h _. h) came.replied)
    (kept_after settings k (memory s.device) (memory (after_coming c s.device)) s.clients s.packets s.replies came.kept a)
came_after read law settings is k sizes s p c (inr other) calm comes a =
    let kept = else_came read law settings sizes s.armed s.device p.message c other.1 calm comes in
    replied_after settings k (memory (after_coming c s.device)) s.clients s.packets s.replies p c.went.reply
    (each_some (λ r. p.client ≡ k → AnswersMine settings (reply_message p.message r) (memory (after_coming c s.device))) c.went.reply (λ r e. absurd (other.0 e)))
    (kept_after settings k (memory s.device) (memory (after_coming c s.device)) s.clients s.packets s.replies kept a)

up_after : LawsBelow → OnlySaves → (settings : List Setting) → IsSetJob settings → (k : ℕ) (sizes : Sizes) (is_up : Bool) (s : State) (n : ℕ) (p : Mail) (out : Moment) → MailFor settings k (memory s.device) p → out.struck ≡ false
    → UpComes sizes is_up s n p out → Holds settings k s → Holds settings k out.state
up_after read law settings is k sizes true s n p out mail calm h a =
    let calm_ : h.0.went.struck ≡ false = left_false h.0.went.struck (is_boot_struck h.0.boot) (sym (ap (λ (o : Moment). o.struck) h.2) ∙ calm) in
    subst (λ (o : Moment). Holds settings k o.state) (sym h.2) (came_after read law settings is k sizes s p h.0 mail calm_ h.1 a)
up_after read law settings is k sizes false s n p out mail calm h a = subst (λ (o : Moment). Holds settings k o.state) (sym h) a

named_after : LawsBelow → OnlySaves → (settings : List Setting) → IsSetJob settings → (k : ℕ) (sizes : Sizes) (s : State) (n : ℕ) (p : Option Mail) (out : Moment) → nth s.packets n ≡ p → out.struck ≡ false
    → UpNamed sizes s n p out → Holds settings k s → Holds settings k out.state
named_after read law settings is k sizes s n None out e calm h a = subst (λ (o : Moment). Holds settings k o.state) (sym h) a
named_after read law settings is k sizes s n (Some p) out e calm h a = up_after read law settings is k sizes s.up s n p out (nth_all (MailFor settings k (memory s.device)) s.packets n p a.packets e) calm h a

-- a turn of the client, and of another
turned_mine : (settings : List Setting) (k : ℕ) (line : DidLine → Line) (s : State) (n : ℕ) (t : Turn) → n ≡ k → TurnMine settings (memory s.device) t → Holds settings k s → Holds settings k (turned line s n t).state
turned_mine settings k line s n t same ok a =
    let count = a.count in
    let length_ = length_with s.clients n t.client in
    record {
      clients = each_set (ClientFor settings k (memory s.device)) s.clients n t.client a.clients (inl (same, ok.0));
      count = omega (arith, count, length_);
      packets = more t.packet ok.1;
      replies = a.replies;
    }
  where
    more : (m : Option Message) → SendsMine settings m (memory s.device) → All (MailFor settings k (memory s.device)) (with_packet s.packets n m)
    more None o = a.packets
    more (Some m) o = All-push (MailFor settings k (memory s.device)) s.packets (record { client = n; message = m }) a.packets (inl (same, o))

turned_else : (settings : List Setting) (k : ℕ) (line : DidLine → Line) (s : State) (n : ℕ) (t : Turn) → (n ≡ k → ⊥) → TurnKind (IsElse settings) t → Holds settings k s → Holds settings k (turned line s n t).state
turned_else settings k line s n t other ok a =
    let count = a.count in
    let length_ = length_with s.clients n t.client in
    record {
      clients = each_set (ClientFor settings k (memory s.device)) s.clients n t.client a.clients (inr (other, ok.0));
      count = omega (arith, count, length_);
      packets = more t.packet ok.1;
      replies = a.replies;
    }
  where
    more : (m : Option Message) → SendsKind (IsElse settings) m → All (MailFor settings k (memory s.device)) (with_packet s.packets n m)
    more None o = a.packets
    more (Some m) o = All-push (MailFor settings k (memory s.device)) s.packets (record { client = n; message = m }) a.packets (inr (other, o))

unless_else : (settings : List Setting) (k : ℕ) (line : DidLine → Line) (s : State) (n : ℕ) (e : Option End) (t : Turn) → (n ≡ k → ⊥) → TurnKind (IsElse settings) t → Holds settings k s → Holds settings k (unless_ended line s n e t).state
unless_else settings k line s n None t other ok a = turned_else settings k line s n t other ok a
unless_else settings k line s n (Some e) t other ok a = a

unless_mine : (settings : List Setting) (k : ℕ) (line : DidLine → Line) (s : State) (n : ℕ) (c : Client) (turn : Client → Turn) → n ≡ k → MineOk settings c (memory s.device)
    → (c.ended ≡ None → GoesOn settings c (memory s.device) → TurnMine settings (memory s.device) (turn c)) → Holds settings k s → Holds settings k (unless_ended line s n c.ended (turn c)).state
unless_mine settings k line s n c turn same (going e g) ok a = subst (λ (x : Option End). Holds settings k (unless_ended line s n x (turn c)).state) (sym e) (turned_mine settings k line s n (turn c) same (ok e g) a)
unless_mine settings k line s n c turn same (over v e f) ok a = subst (λ (x : Option End). Holds settings k (unless_ended line s n x (turn c)).state) (sym e) a

by_whose : (settings : List Setting) (k : ℕ) (line : DidLine → Line) (s : State) (n : ℕ) (c : Client) (turn : Client → Turn) → ClientFor settings k (memory s.device) n c
    → (n ≡ k → c.ended ≡ None → GoesOn settings c (memory s.device) → TurnMine settings (memory s.device) (turn c)) → (HasKind (IsElse settings) c → TurnKind (IsElse settings) (turn c))
    → Holds settings k s → Holds settings k (unless_ended line s n c.ended (turn c)).state
by_whose settings k line s n c turn (inl h) mine other a = unless_mine settings k line s n c turn h.0 h.1 (mine h.0) a
by_whose settings k line s n c turn (inr h) mine other a = unless_else settings k line s n c.ended (turn c) h.0 (other h.1) a

moves_after : (settings : List Setting) (k : ℕ) (line : DidLine → Line) (s : State) (n : ℕ) (c : Option Client) (turn : Client → Turn) → nth s.clients n ≡ c
    → ((x : Client) → n ≡ k → x.ended ≡ None → GoesOn settings x (memory s.device) → TurnMine settings (memory s.device) (turn x)) → ((x : Client) → HasKind (IsElse settings) x → TurnKind (IsElse settings) (turn x))
    → Holds settings k s → Holds settings k (moves line s n c turn).state
moves_after settings k line s n None turn is mine other a = a
moves_after settings k line s n (Some c) turn is mine other a = by_whose settings k line s n c turn (a.clients.at n c is) (mine c) (other c) a

down_after : (settings : List Setting) → IsSetJob settings → (k : ℕ) (s : State) (n : ℕ) (r : Option Mail) → nth s.replies n ≡ r → Holds settings k s → Holds settings k (comes_down s n r).state
down_after settings is k s n None e a = a
down_after settings is k s n (Some r) e a =
    moves_after settings k (λ did. lines.down n did) s r.client (nth s.clients r.client) (λ c. client_hears c r.message) refl
    (λ c same none g. hears_mine settings c (memory s.device) r.message is none g (nth_all (ReplyFor settings k (memory s.device)) s.replies n r a.replies e same))
    (λ c kind. hears_kind (IsElse settings) c r.message kind) a

begins_after : (settings : List Setting) (k : ℕ) (s : State) (job : Job) → HasKind (IsElse settings) (begun job) → Holds settings k s → Holds settings k (client_begins s job).state
begins_after settings k s job kind a =
    let count = a.count in
    let one : length (s.clients ++ begun job ∷ []) ≡ length s.clients + 1 = omega (arith, length-append s.clients (begun job ∷ [])) in
    record {
      clients = each_push (ClientFor settings k (memory s.device)) s.clients (begun job) a.clients (inr ((λ e. omega (arith, e, count)), kind));
      count = omega (arith, count, one);
      packets = All-push (MailFor settings k (memory s.device)) s.packets (record { client = length s.clients + 1; message = (begun job).request.packet }) a.packets (inr ((λ e. omega (arith, e, count)), kind.packet));
      replies = a.replies;
    }

event_after : LawsBelow → OnlySaves → (settings : List Setting) → IsSetJob settings → (k : ℕ) (sizes : Sizes) (s : State) (e : Event) (out : Moment) → SparesNames settings e → IsNoBoot e → out.struck ≡ false
    → Happens sizes s e out → Holds settings k s → Holds settings k out.state
event_after read law settings is k sizes s (begins job) out sp nb calm h a = subst (λ (o : Moment). Holds settings k o.state) (sym h) (begins_after settings k s job (else_begun settings job sp) a)
event_after read law settings is k sizes s (raw bytes) out sp nb calm h a = absurd sp
event_after read law settings is k sizes s (up which) out sp nb calm h a = named_after read law settings is k sizes s (number_of s.packets which) (nth s.packets (number_of s.packets which)) out refl calm h a
event_after read law settings is k sizes s (down which) out sp nb calm h a = subst (λ (o : Moment). Holds settings k o.state) (sym h) (down_after settings is k s (number_of s.replies which) (nth s.replies (number_of s.replies which)) refl a)
event_after read law settings is k sizes s (quiet n) out sp nb calm h a =
    subst (λ (o : Moment). Holds settings k o.state) (sym h)
    (moves_after settings k (λ did. lines.quiet n did) s n (nth s.clients n) client_waited refl (λ c same none g. waited_mine settings c (memory s.device) none g) (λ c kind. waited_kind (IsElse settings) c kind) a)
event_after read law settings is k sizes s (arms x) out sp nb calm h a = subst (λ (o : Moment). Holds settings k o.state) (sym h) (record { clients = a.clients; count = a.count; packets = a.packets; replies = a.replies })
event_after read law settings is k sizes s boot out sp nb calm h a = absurd nb

run_after : LawsBelow → OnlySaves → (settings : List Setting) → IsSetJob settings → (k : ℕ) (sizes : Sizes) (s : State) (events : List Event) (moments : List Moment)
    → All (SparesNames settings) events → All IsNoBoot events → NothingStruck moments → IsRun sizes s events moments → Holds settings k s → Holds settings k (state_at_end s moments)
run_after read law settings is k sizes s [] [] sp nb calm r a = a
run_after read law settings is k sizes s (e ∷ events) (m ∷ moments) sp nb calm r a =
    run_after read law settings is k sizes m.state events moments (All-tail (SparesNames settings) e events sp) (All-tail IsNoBoot e events nb) calm.1 r.1
    (event_after read law settings is k sizes s e m (All-head (SparesNames settings) e events sp) (All-head IsNoBoot e events nb) calm.0 r.0 a)
run_after read law settings is k sizes s [] (m ∷ moments) sp nb calm r a = absurd r
run_after read law settings is k sizes s (e ∷ events) [] sp nb calm r a = absurd r

-- the job begins
mine_begun : (settings : List Setting) (x : Memory) → GoesOn settings (begun (sets settings)) x
mine_begun settings x = record {
  job = refl;
  number = 0;
  count = refl;
  within = omega arith;
  request = first_of (sets settings);
  asking = first_asks settings;
  packet = refl;
  asked = asks_done settings 0 (first_of (sets settings)) (first_asks settings);
  has = has_none settings x.running;
}
  where
    first_asks : (settings : List Setting) → nth_of_set settings 0 ≡ asks (first_of (sets settings))
    first_asks [] = refl
    first_asks (s ∷ settings) = refl

begins_mine : (settings : List Setting) (s : State) → Before settings s → Holds settings (length s.clients + 1) (client_begins s (sets settings)).state
begins_mine settings s b =
    let one : length (s.clients ++ begun (sets settings) ∷ []) ≡ length s.clients + 1 = omega (arith, length-append s.clients (begun (sets settings) ∷ [])) in
    let x = memory s.device in
    let g = mine_begun settings x in
    record {
      clients = each_push (ClientFor settings (length s.clients + 1) x) s.clients (begun (sets settings))
          (record { at = λ n c e. let le = nth_within s.clients n c e in inr ((λ same. omega (arith, same, le)), b.clients.at n c e) })
          (inl (refl, going refl g));
      count = omega (arith, one);
      packets = All-push (MailFor settings (length s.clients + 1) x) s.packets (record { client = length s.clients + 1; message = (begun (sets settings)).request.packet })
          (All-weaker (λ (p : Mail). (p.client ≤ length s.clients) × IsOfKind (IsElse settings) p.message) (MailFor settings (length s.clients + 1) x) (λ p h. let le = h.0 in inr ((λ same. omega (arith, same, le)), h.1)) s.packets b.packets)
          (inl (refl, mine_of settings (begun (sets settings)) x g));
      replies = All-weaker (λ (r : Mail). r.client ≤ length s.clients) (ReplyFor settings (length s.clients + 1) x) (λ r le same. absurd (omega (arith, le, same))) s.replies b.replies;
    }

ended_saved : (settings : List Setting) (c : Client) (x : Memory) → c.ended ≡ Some done → MineOk settings c x → HasAll settings x.saved
ended_saved settings c x is (going n g) = absurd (none_done c.ended n is)
  where
    none_done : (e : Option End) → e ≡ None → e ≡ Some done → ⊥
    none_done e a b = cc
ended_saved settings c x is (over e n f) = (f (same e c.ended n is)).1
  where
    same : (e : End) (o : Option End) → o ≡ Some e → o ≡ Some done → e ≡ done
    same e o a b = cc

of_client : (settings : List Setting) (k : ℕ) (c : Client) (x : Memory) → c.ended ≡ Some done → ClientFor settings k x k c → HasAll settings x.saved
of_client settings k c x is (inl h) = ended_saved settings c x is h.1
of_client settings k c x is (inr h) = absurd (h.0 refl)

pub set_is_saved : LawsBelow → OnlySaves → (sizes : Sizes) (settings : List Setting) (s : State) (events : List Event) (m : Moment) (moments : List Moment) (c : Client)
    → IsSetJob settings → Before settings s → All (SparesNames settings) events → All IsNoBoot events → NothingStruck moments → IsRun sizes s (begins (sets settings) ∷ events) (m ∷ moments)
    → nth (state_at_end m.state moments).clients (length s.clients + 1) ≡ Some c → c.ended ≡ Some done → HasAll settings (state_at_end m.state moments).device.saved
set_is_saved read law sizes settings s events m moments c is b sp nb calm r at ended =
    let start = subst (λ (o : Moment). Holds settings (length s.clients + 1) o.state) (sym r.0) (begins_mine settings s b) in
    let ends_ = run_after read law settings is (length s.clients + 1) sizes m.state events moments sp nb calm r.1 start in
    of_client settings (length s.clients + 1) c (memory (state_at_end m.state moments).device) ended (ends_.clients.at (length s.clients + 1) c at)

pub done_sets_are_saved : LawsBelow → OnlySaves → (sizes : Sizes) (image : List ℕ) (second : Option (List ℕ)) (settings : List Setting) (before events : List Event) (firsts : List Moment) (m : Moment) (moments : List Moment) (c : Client)
    → IsSetJob settings → All (SparesNames settings) before → All (SparesNames settings) events → All IsNoBoot events → NothingStruck moments
    → IsRun sizes (first_state sizes image second) before firsts
    → IsRun sizes (state_at_end (first_state sizes image second) firsts) (begins (sets settings) ∷ events) (m ∷ moments)
    → nth (state_at_end m.state moments).clients (length (state_at_end (first_state sizes image second) firsts).clients + 1) ≡ Some c → c.ended ≡ Some done
    → HasAll settings (state_at_end m.state moments).device.saved
done_sets_are_saved read law sizes image second settings before events firsts m moments c is sb se nb calm rb r at ended =
    set_is_saved read law sizes settings (state_at_end (first_state sizes image second) firsts) events m moments c is
    (before_run settings sizes (first_state sizes image second) before firsts sb rb (first_before settings sizes image second)) se nb calm r at ended
