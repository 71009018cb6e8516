-- Clients that leave the settings of a job alone, and the run before that job begins.
use Rattle.std.proofs.Common.{◌≡◌, ◌≤◌, ◌+◌, ◌++◌, ℕ, zero, suc, List, [], ◌∷◌, length, Bool, true, false, Option, Some, None, refl, sym, subst, arith, length-append}
use Rattle.std.specs.Prelude.{All}
use Rattle.std.proofs.lemmas.List.Elements.{All-push, All-weaker, All-nil, All-head, All-tail}
use Rattle.smp_header.specs.Message.{Message}
use Rattle.smp_model.specs.declared.device.Sizes.{Sizes}
use Rattle.smp_model.specs.declared.setting.Setting.{Setting}
use Rattle.smp_model.specs.Meant as meant
use Rattle.smp_model.specs.Meant.{Meant}
use Rattle.smp_model.specs.Said.{Said, reply_message}
use Rattle.smp_reply.specs.Told.{Told}
use Rattle.smp_jobs.specs.Clients.{Client, Turn, begun, client_hears, client_waited}
use Rattle.smp_jobs.specs.Jobs.{Job, uploads, lists, sets, puts, gets, echoes, End, nth_of_set, next, first_of, first_of_set}
use Rattle.smp_world.specs.Lines as lines
use Rattle.smp_world.specs.Lines.{Line, Did as DidLine}
use Rattle.smp_world.specs.Runs.{Event, begins, raw, up, down, quiet, arms, boot, Mail, State, Moment, nth, number_of, Happens, Run as IsRun, UpComes, UpNamed, turned, unless_ended, moves, comes_down, client_begins, with_reply, with_packet, state_at_end, first_state}
use Rattle.smp_world.specs.SetJobs.{AreApart, AreTexts, SparesNames}
use Rattle.smp_world.proofs.TaggedRuns.{nth_all}
use Rattle.smp_world.proofs.Numbered.{Each, each_set, each_push, length_with, nth_within}
use Rattle.smp_world.proofs.SparingRequests.{IsElse}
use Rattle.smp_world.proofs.ClientKinds.{AsksFor, IsOfKind, HasKind, SendsKind, TurnKind, hears_kind, waited_kind, put_kind, get_kind, one_kind, set_kind, upload_kind}

-- The jobs of others.
other_set : (settings others : List Setting) → AreTexts others → AreApart settings others → (n : ℕ) → AsksFor (IsElse settings) (nth_of_set others n)
other_set settings [] t a zero = tt
other_set settings [] t a (suc n) = tt
other_set settings (o ∷ others) t a zero = (t.0, t.1, a.0)
other_set settings (o ∷ others) t a (suc n) = other_set settings others t.2 a.1 n

else_next : (settings : List Setting) (job : Job) → SparesNames settings (begins job) → (answers : List Told) → AsksFor (IsElse settings) (next job answers)
else_next settings (uploads j) s answers = upload_kind (IsElse settings) j (record { start = tt; part = λ off some le. tt; mark = tt }) answers
else_next settings lists s answers = one_kind (IsElse settings) meant.image_list tt answers
else_next settings (sets others) s answers = set_kind (IsElse settings) others (other_set settings others s.0 s.1) answers
else_next settings (puts name file) s answers = put_kind (IsElse settings) name file tt (λ off. tt) answers
else_next settings (gets name) s answers = get_kind (IsElse settings) name (λ off. tt) answers
else_next settings (echoes text) s answers = one_kind (IsElse settings) (meant.echo text) tt answers

first_other : (settings others : List Setting) → AreTexts others → AreApart settings others → IsElse settings (first_of_set others)
first_other settings [] t a = tt
first_other settings (o ∷ others) t a = (t.0, t.1, a.0)

else_first : (settings : List Setting) (job : Job) → SparesNames settings (begins job) → IsElse settings (first_of job)
else_first settings (uploads j) s = tt
else_first settings lists s = tt
else_first settings (sets others) s = first_other settings others s.0 s.1
else_first settings (puts name file) s = tt
else_first settings (gets name) s = tt
else_first settings (echoes text) s = tt

pub else_begun : (settings : List Setting) (job : Job) → SparesNames settings (begins job) → HasKind (IsElse settings) (begun job)
else_begun settings job s = record { job = else_next settings job s; packet = record { sequence = 0; request = first_of job; kind = else_first settings job s; packet = refl } }

-- Before the job begins.
pub record Before (settings : List Setting) (s : State) : Type 0 where
  pub clients : Each (λ n c. HasKind (IsElse settings) c) s.clients
  pub packets : All (λ (p : Mail). (p.client ≤ length s.clients) × IsOfKind (IsElse settings) p.message) s.packets
  pub replies : All (λ (r : Mail). r.client ≤ length s.clients) s.replies

before_packets : (settings : List Setting) (n : ℕ) (ps : List Mail) (k : ℕ) (m : Option Message) → k ≤ n → SendsKind (IsElse settings) m
    → All (λ (p : Mail). (p.client ≤ n) × IsOfKind (IsElse settings) p.message) ps → All (λ (p : Mail). (p.client ≤ n) × IsOfKind (IsElse settings) p.message) (with_packet ps k m)
before_packets settings n ps k None le o all = all
before_packets settings n ps k (Some m) le o all = All-push (λ (p : Mail). (p.client ≤ n) × IsOfKind (IsElse settings) p.message) ps (record { client = k; message = m }) all (le, o)

before_turned : (settings : List Setting) (line : DidLine → Line) (s : State) (k : ℕ) (t : Turn) → k ≤ length s.clients → TurnKind (IsElse settings) t → Before settings s → Before settings (turned line s k t).state
before_turned settings line s k t le ok b =
    let same = length_with s.clients k t.client in
    record {
      clients = each_set (λ n c. HasKind (IsElse settings) c) s.clients k t.client b.clients ok.0;
      packets = subst (λ (n : ℕ). All (λ (p : Mail). (p.client ≤ n) × IsOfKind (IsElse settings) p.message) (with_packet s.packets k t.packet)) (sym same)
          (before_packets settings (length s.clients) s.packets k t.packet le ok.1 b.packets);
      replies = subst (λ (n : ℕ). All (λ (r : Mail). r.client ≤ n) s.replies) (sym same) b.replies;
    }

before_unless : (settings : List Setting) (line : DidLine → Line) (s : State) (k : ℕ) (e : Option End) (t : Turn) → k ≤ length s.clients → TurnKind (IsElse settings) t → Before settings s
    → Before settings (unless_ended line s k e t).state
before_unless settings line s k None t le ok b = before_turned settings line s k t le ok b
before_unless settings line s k (Some e) t le ok b = b

before_moves : (settings : List Setting) (line : DidLine → Line) (s : State) (k : ℕ) (c : Option Client) (turn : Client → Turn) → nth s.clients k ≡ c
    → ((x : Client) → HasKind (IsElse settings) x → TurnKind (IsElse settings) (turn x)) → Before settings s → Before settings (moves line s k c turn).state
before_moves settings line s k None turn is ok b = b
before_moves settings line s k (Some c) turn is ok b = before_unless settings line s k c.ended (turn c) (nth_within s.clients k c is) (ok c (b.clients.at k c is)) b

before_down : (settings : List Setting) (s : State) (n : ℕ) (r : Option Mail) → Before settings s → Before settings (comes_down s n r).state
before_down settings s n None b = b
before_down settings s n (Some r) b =
    before_moves settings (λ did. lines.down n did) s r.client (nth s.clients r.client) (λ c. client_hears c r.message) refl (λ c k. hears_kind (IsElse settings) c r.message k) b

before_reply : (n : ℕ) (rs : List Mail) (p : Mail) (reply : Option Said) → p.client ≤ n → All (λ (r : Mail). r.client ≤ n) rs → All (λ (r : Mail). r.client ≤ n) (with_reply rs p reply)
before_reply n rs p None le all = all
before_reply n rs p (Some s) le all = All-push (λ (r : Mail). r.client ≤ n) rs (record { client = p.client; message = reply_message p.message s }) all le

nth_of_all : {X : Type 0} (P : X → Type 0) (xs : List X) (n : ℕ) (x : X) → All P xs → nth xs n ≡ Some x → P x
nth_of_all P xs n x all is = nth_all P xs n x all is

before_comes : (settings : List Setting) (sizes : Sizes) (is : Bool) (s : State) (n : ℕ) (p : Mail) (out : Moment) → p.client ≤ length s.clients → UpComes sizes is s n p out → Before settings s → Before settings out.state
before_comes settings sizes true s n p out le h b = subst (λ (o : Moment). Before settings o.state) (sym h.2) (record {
  clients = b.clients;
  packets = b.packets;
  replies = before_reply (length s.clients) s.replies p h.0.went.reply le b.replies;
})
before_comes settings sizes false s n p out le h b = subst (λ (o : Moment). Before settings o.state) (sym h) b

before_named : (settings : List Setting) (sizes : Sizes) (s : State) (n : ℕ) (p : Option Mail) (out : Moment) → nth s.packets n ≡ p → UpNamed sizes s n p out → Before settings s → Before settings out.state
before_named settings sizes s n None out e h b = subst (λ (o : Moment). Before settings o.state) (sym h) b
before_named settings sizes s n (Some p) out e h b =
    before_comes settings sizes s.up s n p out (nth_of_all (λ (x : Mail). (x.client ≤ length s.clients) × IsOfKind (IsElse settings) x.message) s.packets n p b.packets e).0 h b

before_begins : (settings : List Setting) (s : State) (job : Job) → HasKind (IsElse settings) (begun job) → Before settings s → Before settings (client_begins s job).state
before_begins settings s job ok b =
    let one : length (s.clients ++ begun job ∷ []) ≡ length s.clients + 1 = omega (arith, length-append s.clients (begun job ∷ [])) in
    record {
      clients = each_push (λ n c. HasKind (IsElse settings) c) s.clients (begun job) b.clients ok;
      packets = All-push (λ (p : Mail). (p.client ≤ length (s.clients ++ begun job ∷ [])) × IsOfKind (IsElse settings) p.message) s.packets (record { client = length s.clients + 1; message = (begun job).request.packet })
          (All-weaker (λ (p : Mail). (p.client ≤ length s.clients) × IsOfKind (IsElse settings) p.message) (λ (p : Mail). (p.client ≤ length (s.clients ++ begun job ∷ [])) × IsOfKind (IsElse settings) p.message)
          (λ p h. let le = h.0 in (omega (arith, le, one), h.1)) s.packets b.packets)
          (omega (arith, one), ok.packet);
      replies = All-weaker (λ (r : Mail). r.client ≤ length s.clients) (λ (r : Mail). r.client ≤ length (s.clients ++ begun job ∷ [])) (λ r le. omega (arith, le, one)) s.replies b.replies;
    }

before_event : (settings : List Setting) (sizes : Sizes) (s : State) (e : Event) (out : Moment) → SparesNames settings e → Happens sizes s e out → Before settings s → Before settings out.state
before_event settings sizes s (begins job) out sp h b = subst (λ (o : Moment). Before settings o.state) (sym h) (before_begins settings s job (else_begun settings job sp) b)
before_event settings sizes s (raw bytes) out sp h b = absurd sp
before_event settings sizes s (up which) out sp h b = before_named settings sizes s (number_of s.packets which) (nth s.packets (number_of s.packets which)) out refl h b
before_event settings sizes s (down which) out sp h b = subst (λ (o : Moment). Before settings o.state) (sym h) (before_down settings s (number_of s.replies which) (nth s.replies (number_of s.replies which)) b)
before_event settings sizes s (quiet k) out sp h b =
    subst (λ (o : Moment). Before settings o.state) (sym h) (before_moves settings (λ did. lines.quiet k did) s k (nth s.clients k) client_waited refl (λ c k. waited_kind (IsElse settings) c k) b)
before_event settings sizes s (arms a) out sp h b = subst (λ (o : Moment). Before settings o.state) (sym h) (record { clients = b.clients; packets = b.packets; replies = b.replies })
before_event settings sizes s boot out sp h b = subst (λ (o : Moment). Before settings o.state) (sym h.2) (record { clients = b.clients; packets = b.packets; replies = b.replies })

pub before_run : (settings : List Setting) (sizes : Sizes) (s : State) (events : List Event) (moments : List Moment) → All (SparesNames settings) events → IsRun sizes s events moments → Before settings s
    → Before settings (state_at_end s moments)
before_run settings sizes s [] [] sp r b = b
before_run settings sizes s (e ∷ events) (m ∷ moments) sp r b =
    before_run settings sizes m.state events moments (All-tail (SparesNames settings) e events sp) r.1 (before_event settings sizes s e m (All-head (SparesNames settings) e events sp) r.0 b)
before_run settings sizes s [] (m ∷ moments) sp r b = absurd r
before_run settings sizes s (e ∷ events) [] sp r b = absurd r

pub first_before : (settings : List Setting) (sizes : Sizes) (image : List ℕ) (second : Option (List ℕ)) → Before settings (first_state sizes image second)
first_before settings sizes image second = record {
  clients = record { at = λ n c e. absurd (none_at n c e) };
  packets = All-nil (λ (p : Mail). (p.client ≤ 0) × IsOfKind (IsElse settings) p.message);
  replies = All-nil (λ (r : Mail). r.client ≤ 0);
}
  where
    none_at : (n : ℕ) (c : Client) → nth [] n ≡ Some c → ⊥
    none_at zero c e = cc
    none_at (suc n) c e = cc
