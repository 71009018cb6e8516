-- A run of one upload alone: the client goes on, or it is over.
use Rattle.std.proofs.Common.{◌≡◌, ◌≤◌, ◌+◌, ◌%◌, if◌then◌else◌, ℕ, zero, suc, List, [], ◌∷◌, ◌++◌, length, Bool, true, false, Option, Some, None, refl, sym, ap, subst, ◌∙◌, arith, length-append}
use Rattle.std.proofs.lemmas.Bool.Decides.{nat_tests}
use Rattle.smp_model.specs.declared.device.Sizes.{Sizes}
use Rattle.smp_model.specs.Meant.{Meant}
use Rattle.smp_reply.specs.Told.{Told}
use Rattle.smp_jobs.specs.Clients.{Client, Turn, packet_of, stops, asks_for, goes_on, with_answer, client_hears}
use Rattle.smp_jobs.specs.Jobs.{UploadJob, Job, uploads, End, done, stalled, asks, may_send, asked_of}
use Rattle.smp_world.specs.Lines as lines
use Rattle.smp_world.specs.Lines.{Did, Line}
use Rattle.smp_world.specs.Runs.{new, Mail, State, Moment, nth, Run as IsRun, UpComes, UpNamed, moves, unless_ended, comes_down, with_packet, number_of, state_at_end}
use Rattle.smp_world.specs.Deliveries.{delivered, enough_packets, IsDoneSoon}
use Rattle.smp_world.proofs.DeliveredMail.{Alone, Heard, turn_of}

-- Once it is over, it stays so.
over_moves : (line : Did → Line) (s : State) (c : Client) (k : ℕ) (x : Option Client) (turn : Client → Turn) → (c.ended ≡ Some done) → nth (c ∷ []) k ≡ x
    → (moves line s k x turn).state ≡ s
over_moves line s c k None turn e is = refl
over_moves line s c (suc zero) (Some x) turn e is = ap (λ (v : Option Client). (moves line s 1 v turn).state) (sym is) ∙ ap (λ (v : Option End). (unless_ended line s 1 v (turn c)).state) e
over_moves line s c zero (Some x) turn e is = cc
over_moves line s c (suc (suc k)) (Some x) turn e is = cc

same_over : (j : UploadJob) (s t : State) → t.clients ≡ s.clients → t.packets ≡ s.packets → IsDoneSoon j s → IsDoneSoon j t
same_over j s t cs ps o = record { client = o.client; clients = cs ∙ o.clients; ended = o.ended; packets = subst (λ (l : List Mail). length l ≤ enough_packets j) (sym ps) o.packets }

over_up : (sizes : Sizes) (j : UploadJob) (is_up : Bool) (s : State) (n : ℕ) (p : Mail) (m : Moment) → UpComes sizes is_up s n p m → IsDoneSoon j s → IsDoneSoon j m.state
over_up sizes j true s n p m h o = same_over j s m.state (ap (λ (x : Moment). x.state.clients) h.2) (ap (λ (x : Moment). x.state.packets) h.2) o
over_up sizes j false s n p m h o = same_over j s m.state (ap (λ (x : Moment). x.state.clients) h) (ap (λ (x : Moment). x.state.packets) h) o

over_named : (sizes : Sizes) (j : UploadJob) (s : State) (n : ℕ) (p : Option Mail) (m : Moment) → UpNamed sizes s n p m → IsDoneSoon j s → IsDoneSoon j m.state
over_named sizes j s n None m h o = same_over j s m.state (ap (λ (x : Moment). x.state.clients) h) (ap (λ (x : Moment). x.state.packets) h) o
over_named sizes j s n (Some p) m h o = over_up sizes j s.up s n p m h o

over_down : (j : UploadJob) (s : State) (n : ℕ) (r : Option Mail) → IsDoneSoon j s → IsDoneSoon j (comes_down s n r).state
over_down j s n None o = o
over_down j s n (Some r) o =
    let same = over_moves (λ did. lines.down n did) s o.client r.client (nth s.clients r.client) (λ c. client_hears c r.message) o.ended (ap (λ (cs : List Client). nth cs r.client) (sym o.clients)) in
    subst (IsDoneSoon j) (sym same) o

pub over_run : (sizes : Sizes) (j : UploadJob) (k : ℕ) (s : State) (moments : List Moment) → IsRun sizes s (delivered k) moments → IsDoneSoon j s → IsDoneSoon j (state_at_end s moments)
over_run sizes j zero s [] r o = o
over_run sizes j (suc k) s (a ∷ b ∷ moments) r o =
    over_run sizes j k b.state moments r.1.1
    (subst (λ (m : Moment). IsDoneSoon j m.state) (sym r.1.0)
    (over_down j a.state (number_of a.state.replies new) (nth a.state.replies (number_of a.state.replies new))
    (over_named sizes j s (number_of s.packets new) (nth s.packets (number_of s.packets new)) a r.0 o)))
over_run sizes j zero s (m ∷ moments) r o = absurd r
over_run sizes j (suc k) s [] r o = absurd r
over_run sizes j (suc k) s (a ∷ []) r o = absurd r.1

-- One client goes on: its newest packet is that of a request.
pub record Stage (j : UploadJob) (s : State) (c : Client) (q : ℕ) (r : Meant) : Type 0 where
  pub alone : Alone s c
  pub going : c.ended ≡ None
  pub job : c.job ≡ uploads j
  pub packet : c.request.packet ≡ packet_of q r
  pub asked : c.request.asked ≡ asked_of r

may_go : (j : UploadJob) (n : ℕ) → n ≤ enough_packets j → may_send (uploads j) n ≡ true
may_go j n le = grind (arith, nat_tests)

abbrev pub next_client : Client → Told → Meant → Client
next_client c t r = record (asks_for (with_answer c t) r) { sent = c.sent + 1 }

pub goes_turn : (j : UploadJob) (c : Client) (t : Told) (r : Meant) → c.job ≡ uploads j → c.sent ≤ enough_packets j
    → goes_on (with_answer c t) (asks r) ≡ record { client = next_client c t r; packet = Some (next_client c t r).request.packet }
goes_turn j c t r is le =
    ap (λ (b : Bool). if b then record { client = next_client c t r; packet = Some (next_client c t r).request.packet } else stops (asks_for (with_answer c t) r) stalled)
    (ap (λ (job : Job). may_send job c.sent) is ∙ may_go j c.sent le)

-- it asks for more
pub next_stage : (sizes : Sizes) (j : UploadJob) (s u : State) (c : Client) (q : ℕ) (r m : Meant) (t : Told) → Stage j s c q r → c.sent ≤ enough_packets j → Heard sizes s c r u (turn_of sizes s c r)
    → turn_of sizes s c r ≡ goes_on (with_answer c t) (asks m) → Stage j u (next_client c t m) ((c.request.packet.sequence + 1) % 256) m
next_stage sizes j s u c q r m t st le h is =
    let turn = is ∙ goes_turn j c t m st.job le in
    let count = st.alone.count in
    let packets : u.packets ≡ s.packets ++ record { client = 1; message = (next_client c t m).request.packet } ∷ [] = h.packets ∙ ap (λ (x : Turn). with_packet s.packets 1 x.packet) turn in
    record {
      alone = record {
        up = h.up;
        unarmed = h.unarmed;
        clients = h.clients ∙ ap (λ (x : Turn). x.client ∷ []) turn;
        before = s.packets;
        packets = packets;
        count = ap length packets ∙ length-append s.packets (record { client = 1; message = (next_client c t m).request.packet } ∷ []) ∙ ap (λ (n : ℕ). n + 1) count;
      };
      going = st.going;
      job = st.job;
      packet = refl;
      asked = refl;
    }

-- it is done
pub last_stage : (sizes : Sizes) (j : UploadJob) (s u : State) (c : Client) (q : ℕ) (r : Meant) (t : Told) → Stage j s c q r → c.sent ≤ enough_packets j → Heard sizes s c r u (turn_of sizes s c r)
    → turn_of sizes s c r ≡ stops (with_answer c t) done → IsDoneSoon j u
last_stage sizes j s u c q r t st le h is =
    let count = st.alone.count in
    record {
      client = record (with_answer c t) { ended = Some done };
      clients = h.clients ∙ ap (λ (x : Turn). x.client ∷ []) is;
      ended = refl;
      packets = subst (λ (l : List Mail). length l ≤ enough_packets j) (sym (h.packets ∙ ap (λ (x : Turn). with_packet s.packets 1 x.packet) is)) (omega (arith, count, le));
    }
