-- Packets, replies and clients keep their numbers, and a client that has ended stays as it is.
use Rattle.std.proofs.Common.{◌≡◌, inl, inr, ℕ, ◌++◌, List, [], ◌∷◌, Bool, true, false, Option, Some, None, refl, sym, ap, subst, ◌∙◌}
use Rattle.std.specs.Prelude.{IsSome, IsSomeAnd}
use Rattle.smp_header.specs.Message.{Message, packet}
use Rattle.smp_jobs.specs.Clients.{Client, Turn, begun, client_hears, client_waited}
use Rattle.smp_jobs.specs.Jobs.{Job, End}
use Rattle.smp_model.specs.declared.device.Sizes.{Sizes}
use Rattle.smp_model.specs.Handled.{is_request}
use Rattle.smp_model.specs.Said.{Said, reply_message}
use Rattle.smp_world.specs.Laws.{IsLater, KeepsNumbers}
use Rattle.smp_world.specs.Lines as lines
use Rattle.smp_world.specs.Lines.{Line, Did}
use Rattle.smp_world.specs.Runs.{Event, begins, raw, up, down, quiet, arms, boot, Mail, State, Moment, nth, with_nth, number_of, Happens, RawMessage, RawPacket, RawComes, UpComes, UpNamed, turned, unless_ended, moves, comes_down, client_begins, with_packet, with_reply}
use Rattle.smp_world.proofs.Numbered.{nth_more, nth_with}
use Rattle.smp_world.proofs.UploadClients.{hears_job, wait_job}

later_same : (c : Client) → IsLater c c
later_same c = record { job = refl; over = λ e. refl }

some_later : (c : Client) (o : Option Client) → o ≡ Some c → IsSomeAnd o (IsLater c)
some_later c o e = subst (λ (x : Option Client). IsSomeAnd x (IsLater c)) (sym e) (later_same c)

-- what is the same keeps its numbers
keeps_same : (s t : State) → t.packets ≡ s.packets → t.replies ≡ s.replies → t.clients ≡ s.clients → KeepsNumbers s t
keeps_same s t p r c = record {
  packets = λ n x e. ap (λ (l : List Mail). nth l n) p ∙ e;
  replies = λ n x e. ap (λ (l : List Mail). nth l n) r ∙ e;
  clients = λ n x e. some_later x (nth t.clients n) (ap (λ (l : List Client). nth l n) c ∙ e);
}

-- more behind them
packets_more : (ps : List Mail) (k : ℕ) (m : Option Message) (n : ℕ) (p : Mail) → nth ps n ≡ Some p → nth (with_packet ps k m) n ≡ Some p
packets_more ps k None n p e = e
packets_more ps k (Some m) n p e = nth_more ps (record { client = k; message = m } ∷ []) n p e

replies_more : (rs : List Mail) (p : Mail) (reply : Option Said) (n : ℕ) (r : Mail) → nth rs n ≡ Some r → nth (with_reply rs p reply) n ≡ Some r
replies_more rs p None n r e = e
replies_more rs p (Some said) n r e = nth_more rs (record { client = p.client; message = reply_message p.message said } ∷ []) n r e

-- a turn of a client that goes on
turned_clients : (cs : List Client) (k : ℕ) (c t : Client) → nth cs k ≡ Some c → IsLater c t → (n : ℕ) (x : Client) → nth cs n ≡ Some x → IsSomeAnd (nth (with_nth cs k t) n) (IsLater x)
turned_clients cs k c t at later n x e = elim (nth_with cs k n c t at) [
  | inl own ↦ subst (λ (o : Option Client). IsSomeAnd o (IsLater x)) (sym own.1) (subst (λ (y : Client). IsLater y t) (the_same (sym (subst (λ (m : ℕ). nth cs m ≡ Some c) (sym own.0) at) ∙ e)) later)
  | inr other ↦ some_later x (nth (with_nth cs k t) n) (other ∙ e)
]
  where
    the_same : Some c ≡ Some x → c ≡ x
    the_same e = cc

turned_keeps : (line : Did → Line) (s : State) (k : ℕ) (c : Client) (t : Turn) → nth s.clients k ≡ Some c → IsLater c t.client → KeepsNumbers s (turned line s k t).state
turned_keeps line s k c t at later = record {
  packets = λ n p e. packets_more s.packets k t.packet n p e;
  replies = λ n r e. e;
  clients = turned_clients s.clients k c t.client at later;
}

going_later : (c t : Client) → c.ended ≡ None → t.job ≡ c.job → IsLater c t
going_later c t goes job = record { job = job; over = λ e. absurd (none_some c.ended goes e) }
  where
    none_some : (o : Option End) → o ≡ None → IsSome o → ⊥
    none_some None g e = cc
    none_some (Some x) g e = cc

unless_keeps : (line : Did → Line) (s : State) (k : ℕ) (c : Client) (e : Option End) (t : Turn) → nth s.clients k ≡ Some c → c.ended ≡ e → t.client.job ≡ c.job → KeepsNumbers s (unless_ended line s k e t).state
unless_keeps line s k c None t at is job = turned_keeps line s k c t at (going_later c t.client is job)
unless_keeps line s k c (Some x) t at is job = keeps_same s s refl refl refl

moves_keep : (line : Did → Line) (s : State) (k : ℕ) (c : Option Client) (turn : Client → Turn) → nth s.clients k ≡ c → ((x : Client) → (turn x).client.job ≡ x.job) → KeepsNumbers s (moves line s k c turn).state
moves_keep line s k None turn at job = keeps_same s s refl refl refl
moves_keep line s k (Some c) turn at job = unless_keeps line s k c c.ended (turn c) at refl (job c)

down_keeps : (s : State) (n : ℕ) (r : Option Mail) → KeepsNumbers s (comes_down s n r).state
down_keeps s n None = keeps_same s s refl refl refl
down_keeps s n (Some r) = moves_keep (λ did. lines.down n did) s r.client (nth s.clients r.client) (λ c. client_hears c r.message) refl (λ c. hears_job c r.message)

-- packets to the device
as_state : (s : State) (out m : Moment) → out ≡ m → KeepsNumbers s m.state → KeepsNumbers s out.state
as_state s out m e k = subst (λ (x : Moment). KeepsNumbers s x.state) (sym e) k

message_keeps : (sizes : Sizes) (b : Bool) (s : State) (m : Message) (out : Moment) → RawMessage sizes b s m out → KeepsNumbers s out.state
message_keeps sizes true s m out h = as_state s out _ h.2 (keeps_same s _ refl refl refl)
message_keeps sizes false s m out h = as_state s out _ h (keeps_same s _ refl refl refl)

packet_keeps : (sizes : Sizes) (s : State) (m : Option Message) (out : Moment) → RawPacket sizes s m out → KeepsNumbers s out.state
packet_keeps sizes s None out h = as_state s out _ h (keeps_same s _ refl refl refl)
packet_keeps sizes s (Some m) out h = message_keeps sizes (is_request m) s m out h

raw_keeps : (sizes : Sizes) (b : Bool) (s : State) (bytes : List ℕ) (out : Moment) → RawComes sizes b s bytes out → KeepsNumbers s out.state
raw_keeps sizes true s bytes out h = packet_keeps sizes s (packet bytes) out h
raw_keeps sizes false s bytes out h = as_state s out _ h (keeps_same s s refl refl refl)

up_keeps : (sizes : Sizes) (b : Bool) (s : State) (n : ℕ) (p : Mail) (out : Moment) → UpComes sizes b s n p out → KeepsNumbers s out.state
up_keeps sizes true s n p out h = as_state s out _ h.2 (record {
  packets = λ k x e. e;
  replies = λ k r e. replies_more s.replies p h.0.went.reply k r e;
  clients = λ k c e. some_later c (nth s.clients k) e;
})
up_keeps sizes false s n p out h = as_state s out _ h (keeps_same s s refl refl refl)

named_keeps : (sizes : Sizes) (s : State) (n : ℕ) (p : Option Mail) (out : Moment) → UpNamed sizes s n p out → KeepsNumbers s out.state
named_keeps sizes s n None out h = as_state s out _ h (keeps_same s s refl refl refl)
named_keeps sizes s n (Some p) out h = up_keeps sizes s.up s n p out h

begins_keeps : (s : State) (job : Job) → KeepsNumbers s (client_begins s job).state
begins_keeps s job = record {
  packets = λ n p e. nth_more s.packets _ n p e;
  replies = λ n r e. e;
  clients = λ n c e. some_later c (nth (s.clients ++ begun job ∷ []) n) (nth_more s.clients (begun job ∷ []) n c e);
}

pub event_keeps : (sizes : Sizes) (s : State) (e : Event) (m : Moment) → Happens sizes s e m → KeepsNumbers s m.state
event_keeps sizes s (begins job) out h = as_state s out _ h (begins_keeps s job)
event_keeps sizes s (raw bytes) out h = raw_keeps sizes s.up s bytes out h
event_keeps sizes s (up which) out h = named_keeps sizes s (number_of s.packets which) (nth s.packets (number_of s.packets which)) out h
event_keeps sizes s (down which) out h = as_state s out _ h (down_keeps s (number_of s.replies which) (nth s.replies (number_of s.replies which)))
event_keeps sizes s (quiet k) out h = as_state s out _ h (moves_keep (λ did. lines.quiet k did) s k (nth s.clients k) client_waited refl wait_job)
event_keeps sizes s (arms a) out h = as_state s out _ h (keeps_same s _ refl refl refl)
event_keeps sizes s boot out h = as_state s out _ h.2 (keeps_same s _ refl refl refl)
