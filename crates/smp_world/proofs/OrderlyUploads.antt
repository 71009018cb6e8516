-- An upload among other jobs, whose packets and answers are delivered once, in order: every event, and the whole run.
use Rattle.std.proofs.Common.{◌≡◌, inl, inr, ◌≤◌, ◌+◌, ◌-◌, ◌/◌, ◌++◌, not, ℕ, zero, suc, List, [], ◌∷◌, length, Bool, true, false, Option, Some, None, Result, Ok, Err, refl, sym, ap, subst, ◌∙◌, arith}
use Rattle.std.specs.Prelude.{All}
use Rattle.std.proofs.lemmas.List.Elements.{All-push, All-nil, All-head, All-tail}
use Rattle.smp_header.specs.Message.{Message}
use Rattle.smp_model.specs.declared.device.AbstractDevice.{AbstractDevice}
use Rattle.smp_model.specs.declared.device.Sizes.{Sizes}
use Rattle.smp_model.specs.Handled.{response_to, is_reset}
use Rattle.smp_model.specs.Meaning.{meaning}
use Rattle.smp_model.specs.Meant as meant
use Rattle.smp_model.specs.Meant.{Meant}
use Rattle.smp_model.specs.Said.{Said, reply_message}
use Rattle.smp_model.specs.Steps.{Step, side_at, applied}
use Rattle.smp_world.specs.Below.{LawsBelow}
use Rattle.smp_jobs.specs.Clients.{Client, Turn, begun, client_hears, client_waited}
use Rattle.smp_device.specs.Goings.{Armed, durable, Booted, Boots, after_boot}
use Rattle.smp_world.specs.Comings.{is_boot_struck, is_up}
use Rattle.smp_jobs.specs.Jobs.{UploadJob, Job, uploads, End, done, start_of}
use Rattle.smp_world.specs.Deliveries.{newest, count_of, UpOnce, DownOnce, IsOrderly, AreOrderly, NoUpload, GoesWell, IsAccepted, HasRoom}
use Rattle.smp_world.specs.Runs.{Event, begins, raw, up, down, quiet, arms, boot, Mail, State, Moment, nth, with_nth, number_of, Happens, Run as IsRun, unless_ended, moves, comes_down, client_begins, with_packet, with_reply, UpComes, UpNamed, BootComes, state_booted, state_at_end, first_state}
use Rattle.smp_world.specs.Lines as lines
use Rattle.smp_world.specs.Lines.{Did, Line}
use Rattle.smp_world.specs.UploadJobs.{IsUpload}
use Rattle.smp_world.proofs.Durably.{boot_durable}
use Rattle.smp_world.proofs.WholeUploads.{Only}
use Rattle.smp_world.proofs.FairSteps.{OfSome}
use Rattle.smp_world.proofs.UploadClients.{the_start}
use Rattle.smp_world.proofs.NewestMail.{newest_other, count_other}
use Rattle.smp_world.proofs.Numbered.{Each, each_set, each_push, nth_within}
use Rattle.smp_world.proofs.TaggedRuns.{nth_all, no_upload}
use Rattle.smp_world.proofs.OtherRequests.{IsOther, IfOther, other_means}
use Rattle.smp_world.proofs.PartsTaken.{start_on}
use Rattle.smp_world.proofs.ClientKinds.{IsOfKind, HasKind, SendsKind, TurnKind, hears_kind, waited_kind}
use Rattle.smp_world.proofs.FewPackets.{same_or, enough_steps}
use Rattle.smp_world.proofs.Calm.{unstruck}
use Rattle.smp_world.proofs.Calm.{left_false}
use Rattle.smp_world.proofs.OtherJobs.{Clean, SameSides, by_durable, mail_of, other_begun, other_side, settle_nothing}
use Rattle.smp_world.proofs.OrderlyPhases.{Base, Going, Over, Phase, part_waits, phase_few, phase_file, phase_moves, phase_replies}
use Rattle.smp_world.proofs.OrderlyPackets.{CameUp, base_came, came_side, came_up, own_up}
use Rattle.smp_world.proofs.OrderlyAnswers.{Either_way, after_turn, own_down}

-- Events of others, and the whole run.
abbrev Others : List Client → Type 0
Others cs = Each (λ n x. (n ≡ 1 → ⊥) → HasKind IsOther x) cs

nth_push_keeps : (xs : List Client) (x c : Client) → nth xs 1 ≡ Some c → nth (xs ++ x ∷ []) 1 ≡ Some c
nth_push_keeps [] x c e = cc
nth_push_keeps (y ∷ xs) x c e = e

nth_set_keeps : (xs : List Client) (n : ℕ) (x : Client) → (n ≡ 1 → ⊥) → nth (with_nth xs n x) 1 ≡ nth xs 1
nth_set_keeps xs zero x n = refl
nth_set_keeps xs (suc zero) x n = absurd (n refl)
nth_set_keeps [] (suc (suc k)) x n = refl
nth_set_keeps (y ∷ xs) (suc (suc k)) x n = refl

-- a turn of another
base_other : (j : UploadJob) (s : State) (c : Client) (n : ℕ) (t : Turn) → (n ≡ 1 → ⊥) → TurnKind IsOther t → Base j s c → Base j (after_turn s n t) c
base_other j s c n t other ok b = record {
  up = b.up;
  client = nth_set_keeps s.clients n t.client other ∙ b.client;
  going = b.going;
  job = b.job;
  others = each_set (λ k x. (k ≡ 1 → ⊥) → HasKind IsOther x) s.clients n t.client b.others (λ _. ok.0);
  mails = mails_of t.packet ok.1;
  newest = newest_of t.packet ∙ b.newest;
  sent = count_in t.packet ∙ b.sent;
  answers = b.answers;
}
  where
    mails_of : (m : Option Message) → SendsKind IsOther m → All (λ (p : Mail). (p.client ≡ 1 → ⊥) → IsOfKind IsOther p.message) (with_packet s.packets n m)
    mails_of None o = b.mails
    mails_of (Some m) o = All-push (λ (p : Mail). (p.client ≡ 1 → ⊥) → IsOfKind IsOther p.message) s.packets (record { client = n; message = m }) b.mails (λ _. o)

    newest_of : (m : Option Message) → newest 1 (with_packet s.packets n m) ≡ newest 1 s.packets
    newest_of None = refl
    newest_of (Some m) = newest_other 1 s.packets (record { client = n; message = m }) other

    count_in : (m : Option Message) → count_of 1 (with_packet s.packets n m) ≡ count_of 1 s.packets
    count_in None = refl
    count_in (Some m) = count_other 1 s.packets (record { client = n; message = m }) other

going_other : (sizes : Sizes) (j : UploadJob) (line : Did → Line) (s : State) (n : ℕ) (x : Option Client) (turn : Client → Turn) → (n ≡ 1 → ⊥) → nth s.clients n ≡ x → ((y : Client) → HasKind IsOther y → TurnKind IsOther (turn y))
    → (g : Going sizes j s) → Going sizes j (moves line s n x turn).state
going_other sizes j line s n None turn other is ok g = g
going_other sizes j line s n (Some y) turn other is ok g = by_end y.ended
  where
    by_end : (e : Option End) → Going sizes j (unless_ended line s n e (turn y)).state
    by_end (Some e) = g
    by_end None = record { client = g.client; base = base_other j s g.client n (turn y) other (ok y (g.base.others.at n y is other)) g.base; phase = g.phase }

over_other : (j : UploadJob) (line : Did → Line) (s : State) (n : ℕ) (x : Option Client) (turn : Client → Turn) → nth s.clients n ≡ x → Over j s → Over j (moves line s n x turn).state
over_other j line s n None turn is o = o
over_other j line s n (Some y) turn is o = by_end y.ended refl
  where
    not_own : y.ended ≡ None → n ≡ 1 → ⊥
    not_own e same = open_ended y o.client (sym (ap (nth s.clients) (sym same) ∙ is) ∙ ap (λ (v : Option Client). v) o.at) e o.ended
      where
        open_ended : (y c : Client) → Some y ≡ Some c → y.ended ≡ None → c.ended ≡ Some done → ⊥
        open_ended y c e f h = none_some y.ended f (ap (λ (v : Option Client). ended_of v) e ∙ h)
          where
            ended_of : Option Client → Option End
            ended_of (Some v) = v.ended
            ended_of None = None

            none_some : (v : Option End) → v ≡ None → v ≡ Some done → ⊥
            none_some v a b = cc

    by_end : (e : Option End) → y.ended ≡ e → Over j (unless_ended line s n e (turn y)).state
    by_end (Some e) is_ = o
    by_end None is_ = record { client = o.client; at = nth_set_keeps s.clients n (turn y).client (not_own is_) ∙ o.at; ended = o.ended; few = o.few }

going_side : (sizes : Sizes) (j : UploadJob) (s t : State) (c : Client) → Base j t c → SameSides s.device t.device → newest 1 t.replies ≡ newest 1 s.replies → count_of 1 t.replies ≡ count_of 1 s.replies
    → Phase sizes j s.device s.replies c → Going sizes j t
going_side sizes j s t c b side new count p = record {
  client = c;
  base = b;
  phase = phase_moves sizes j s.device t.device t.replies c side (phase_replies sizes j s.device s.replies t.replies c new count p);
}

one_there : (s : State) (c : Client) → nth s.clients 1 ≡ Some c → 1 ≤ length s.clients
one_there s c e = nth_within s.clients 1 c e

begins_going : (sizes : Sizes) (j : UploadJob) (s : State) (job : Job) → HasKind IsOther (begun job) → Going sizes j s → Going sizes j (client_begins s job).state
begins_going sizes j s job kind g =
    let b = g.base in
    let there = one_there s g.client b.client in
    let other : length s.clients + 1 ≡ 1 → ⊥ = λ e. omega (arith, e, there) in
    let mail : Mail = record { client = length s.clients + 1; message = (begun job).request.packet } in
    record {
      client = g.client;
      base = record {
        up = b.up;
        client = nth_push_keeps s.clients (begun job) g.client b.client;
        going = b.going;
        job = b.job;
        others = each_push (λ n x. (n ≡ 1 → ⊥) → HasKind IsOther x) s.clients (begun job) b.others (λ _. kind);
        mails = All-push (λ (p : Mail). (p.client ≡ 1 → ⊥) → IsOfKind IsOther p.message) s.packets mail b.mails (λ _. kind.packet);
        newest = newest_other 1 s.packets mail other ∙ b.newest;
        sent = count_other 1 s.packets mail other ∙ b.sent;
        answers = b.answers;
      };
      phase = g.phase;
    }

other_no_reset : (mm : Result Meant ℕ) → IfOther mm → is_reset mm ≡ false
other_no_reset (Err n) i = refl
other_no_reset (Ok (meant.echo text)) i = refl
other_no_reset (Ok meant.image_list) i = refl
other_no_reset (Ok (meant.setting_write name val)) i = refl
other_no_reset (Ok meant.save) i = refl
other_no_reset (Ok (meant.file_read off name)) i = refl
other_no_reset (Ok (meant.file_write off part len name)) i = refl
other_no_reset (Ok m) i = absurd i

other_leaves : LawsBelow → (sizes : Sizes) (j : UploadJob) (d : AbstractDevice) (mm : Result Meant ℕ) → IfOther mm → Clean j d → SameSides d (applied (response_to sizes d mm).steps d)
other_leaves law sizes j d (Ok m) i f = other_side law sizes j d m i f
other_leaves law sizes j d (Err n) i f = λ n. refl

came_of : (sizes : Sizes) (s : State) (n : ℕ) (p : Mail) (m : Moment) (h : UpComes sizes true s n p m) → h.0.went.struck ≡ false → (x : Said) → h.0.went.reply ≡ Some x → is_reset (meaning p.message) ≡ false → CameUp s m.state p x
came_of sizes s n p m h calm = λ x e not_reset. record {
  up = ap (λ (o : Moment). o.state.up) h.2 ∙ came_up sizes s.armed s.device (meaning p.message) h.0 not_reset calm h.1;
  clients = ap (λ (o : Moment). o.state.clients) h.2;
  packets = ap (λ (o : Moment). o.state.packets) h.2;
  replies = ap (λ (o : Moment). o.state.replies) h.2 ∙ ap (with_reply s.replies p) e;
}

-- a packet of another
other_up : LawsBelow → (sizes : Sizes) (j : UploadJob) (s : State) (n : ℕ) (p : Mail) (m : Moment) (h : UpComes sizes true s n p m) → h.0.went.struck ≡ false → IsOfKind IsOther p.message → (p.client ≡ 1 → ⊥)
    → Going sizes j s → Going sizes j m.state
other_up law sizes j s n p m h calm kind other g =
    let spares : IfOther (meaning p.message) = subst (λ (x : Message). IfOther (meaning x)) (sym kind.packet) (other_means kind.sequence kind.request kind.kind) in
    let not_reset = other_no_reset (meaning p.message) spares in
    let said_ = (unstruck sizes s.armed s.device (meaning p.message) h.0.went calm h.1.goes).1 in
    let file = phase_file sizes j s.device s.replies g.client g.phase in
    let came = came_of sizes s n p m h calm (response_to sizes s.device (meaning p.message)).reply said_ not_reset in
    let mail : Mail = record { client = p.client; message = reply_message p.message (response_to sizes s.device (meaning p.message)).reply } in
    going_side sizes j s m.state g.client (base_came j s m.state g.client p (response_to sizes s.device (meaning p.message)).reply came g.base)
    (λ i. ap (λ (o : Moment). side_at i o.state.device) h.2
    ∙ (came_side sizes s.armed s.device (meaning p.message) h.0 not_reset calm h.1 i ∙ other_leaves law sizes j s.device (meaning p.message) spares file i))
    (ap (newest 1) came.replies ∙ newest_other 1 s.replies mail other) (ap (count_of 1) came.replies ∙ count_other 1 s.replies mail other) g.phase

up_going : LawsBelow → (sizes : Sizes) (j : UploadJob) → IsUpload j → HasRoom sizes j → (s : State) (n : ℕ) (p : Mail) (m : Moment) → nth s.packets n ≡ Some p → m.struck ≡ false → UpOnce 1 s (Some p) m → UpComes sizes true s n p m → Going sizes j s → Going sizes j m.state
up_going law sizes j is room s n p m at struck once h g =
    let calm : h.0.went.struck ≡ false = left_false h.0.went.struck (is_boot_struck h.0.boot) (sym (ap (λ (o : Moment). o.struck) h.2) ∙ struck) in
    elim (same_or p.client 1) [
      | inl own ↦
          (let orderly = once own in
          own_up law sizes j is room s m.state g.client p h.0 g.base g.phase (record {
            newest_one = orderly.0;
            once = orderly.1;
            accepted = subst IsAccepted (ap (λ (o : Moment). o.reply) h.2) orderly.2;
            calm = calm;
            comes = h.1;
            device = ap (λ (o : Moment). o.state.device) h.2;
            came = came_of sizes s n p m h calm;
          }))
      | inr other ↦ other_up law sizes j s n p m h calm (nth_all (λ (q : Mail). (q.client ≡ 1 → ⊥) → IsOfKind IsOther q.message) s.packets n p g.base.mails at other) other g
    ]

same_state : (sizes : Sizes) (j : UploadJob) (s t : State) → t ≡ s → Either_way sizes j s → Either_way sizes j t
same_state sizes j s t e g = subst (Either_way sizes j) (sym e) g

up_named_going : LawsBelow → (sizes : Sizes) (j : UploadJob) → IsUpload j → HasRoom sizes j → (is_up : Bool) (s : State) (n : ℕ) (p : Option Mail) (m : Moment) → s.up ≡ is_up → nth s.packets n ≡ p → m.struck ≡ false → UpOnce 1 s p m → UpNamed sizes s n p m
    → Going sizes j s → Going sizes j m.state
up_named_going law sizes j is room is_up s n None m e at calm once h g = subst (Going sizes j) (sym (ap (λ (o : Moment). o.state) h)) g
up_named_going law sizes j is room is_up s n (Some p) m e at calm once h g =
    up_going law sizes j is room s n p m at calm once (subst (λ (b : Bool). UpComes sizes b s n p m) g.base.up h) g

-- an answer that comes down
own_moves : (line : Did → Line) (s : State) (c : Client) (turn : Client → Turn) → nth s.clients 1 ≡ Some c → c.ended ≡ None → (moves line s 1 (nth s.clients 1) turn).state ≡ after_turn s 1 (turn c)
own_moves line s c turn e open_ = ap (λ (x : Option Client). (moves line s 1 x turn).state) e ∙ ap (λ (v : Option End). (unless_ended line s 1 v (turn c)).state) open_

down_going : (sizes : Sizes) (j : UploadJob) → IsUpload j → HasRoom sizes j → (s : State) (n : ℕ) (r : Option Mail) → DownOnce 1 s r → Going sizes j s → Either_way sizes j (comes_down s n r).state
down_going sizes j is room s n None once g = inl g
down_going sizes j is room s n (Some r) once g = elim (same_or r.client 1) [
  | inl own ↦
      (let orderly = once own in
      let state : (comes_down s n (Some r)).state ≡ after_turn s 1 (client_hears g.client r.message) =
      ap (λ (k : ℕ). (moves (λ did. lines.down n did) s k (nth s.clients k) (λ c. client_hears c r.message)).state) own
      ∙ own_moves (λ did. lines.down n did) s g.client (λ c. client_hears c r.message) g.base.client g.base.going in
      same_state sizes j (after_turn s 1 (client_hears g.client r.message)) (comes_down s n (Some r)).state state (own_down sizes j s g.client r is room g.base g.phase orderly.0 orderly.1))
  | inr other ↦ inl (going_other sizes j (λ did. lines.down n did) s r.client (nth s.clients r.client) (λ c. client_hears c r.message) other refl (λ c k. hears_kind IsOther c r.message k) g)
]

boot_calm : (b : Booted) → not (is_up b.ended) ≡ false → is_up b.ended ≡ true
boot_calm b e = by_test (is_up b.ended) e
  where
    by_test : (t : Bool) → not t ≡ false → t ≡ true
    by_test true e = refl
    by_test false e = cc

boot_side : (sizes : Sizes) (j : UploadJob) (h : Option Armed) (d : AbstractDevice) (b : Booted) → Boots h d b → Clean j d → SameSides d (after_boot b d)
boot_side sizes j h d b k f = by_durable d (after_boot b d) (boot_durable h d b k ∙ ap (λ (t : List Step). durable (applied t d)) (none_taken k))
  where
    front_none : (front rest : List Step) → [] ≡ front ++ rest → front ≡ []
    front_none [] rest e = refl
    front_none (x ∷ front) rest e = cc

    none_taken : Boots h d b → b.taken ≡ []
    none_taken (inl p) = p.taken ∙ settle_nothing j d f
    none_taken (inr p) = front_none b.taken p.rest (sym (settle_nothing j d f) ∙ p.split)

boot_going : (sizes : Sizes) (j : UploadJob) (s : State) (m : Moment) → m.struck ≡ false → BootComes s m → Going sizes j s → Going sizes j m.state
boot_going sizes j s m calm h g =
    let file = phase_file sizes j s.device s.replies g.client g.phase in
    let b = g.base in
    subst (λ (o : Moment). Going sizes j o.state) (sym h.2)
    (going_side sizes j s (state_booted s h.0) g.client (record {
      up = boot_calm h.0 (sym (ap (λ (o : Moment). o.struck) h.2) ∙ calm);
      client = b.client;
      going = b.going;
      job = b.job;
      others = b.others;
      mails = b.mails;
      newest = b.newest;
      sent = b.sent;
      answers = b.answers;
    }) (boot_side sizes j s.armed s.device h.0 h.1 file) refl refl g.phase)

going_event : LawsBelow → (sizes : Sizes) (j : UploadJob) → IsUpload j → HasRoom sizes j → (s : State) (e : Event) (m : Moment) → NoUpload e → m.struck ≡ false → IsOrderly 1 s e m → Happens sizes s e m → Going sizes j s → Either_way sizes j m.state
going_event law sizes j is room s (begins job) m none calm o h g = inl (subst (λ (x : Moment). Going sizes j x.state) (sym h) (begins_going sizes j s job (other_begun job none) g))
going_event law sizes j is room s (raw bytes) m none calm o h g = absurd none
going_event law sizes j is room s (up which) m none calm o h g = inl (up_named_going law sizes j is room s.up s (number_of s.packets which) (nth s.packets (number_of s.packets which)) m refl refl calm o h g)
going_event law sizes j is room s (down which) m none calm o h g =
    subst (λ (x : Moment). Either_way sizes j x.state) (sym h) (down_going sizes j is room s (number_of s.replies which) (nth s.replies (number_of s.replies which)) o g)
going_event law sizes j is room s (quiet n) m none calm o h g =
    inl (subst (λ (x : Moment). Going sizes j x.state) (sym h) (going_other sizes j (λ did. lines.quiet n did) s n (nth s.clients n) client_waited o refl (λ c k. waited_kind IsOther c k) g))
going_event law sizes j is room s (arms a) m none calm o h g =
    let b = g.base in
    inl (subst (λ (x : Moment). Going sizes j x.state) (sym h) (record {
      client = g.client;
      base = record { up = b.up; client = b.client; going = b.going; job = b.job; others = b.others; mails = b.mails; newest = b.newest; sent = b.sent; answers = b.answers };
      phase = g.phase;
    }))
going_event law sizes j is room s boot m none calm o h g = inl (boot_going sizes j s m calm h g)

-- what is over stays so
over_same : (j : UploadJob) (s t : State) → t.clients ≡ s.clients → Over j s → Over j t
over_same j s t e o = record { client = o.client; at = ap (λ (cs : List Client). nth cs 1) e ∙ o.at; ended = o.ended; few = o.few }

over_up_event : (sizes : Sizes) (j : UploadJob) (b : Bool) (s : State) (n : ℕ) (p : Mail) (m : Moment) → UpComes sizes b s n p m → Over j s → Over j m.state
over_up_event sizes j true s n p m h o = over_same j s m.state (ap (λ (x : Moment). x.state.clients) h.2) o
over_up_event sizes j false s n p m h o = over_same j s m.state (ap (λ (x : Moment). x.state.clients) h) o

over_up_named : (sizes : Sizes) (j : UploadJob) (s : State) (n : ℕ) (p : Option Mail) (m : Moment) → UpNamed sizes s n p m → Over j s → Over j m.state
over_up_named sizes j s n None m h o = over_same j s m.state (ap (λ (x : Moment). x.state.clients) h) o
over_up_named sizes j s n (Some p) m h o = over_up_event sizes j s.up s n p m h o

over_downs : (j : UploadJob) (s : State) (n : ℕ) (r : Option Mail) → Over j s → Over j (comes_down s n r).state
over_downs j s n None o = o
over_downs j s n (Some r) o = over_other j (λ did. lines.down n did) s r.client (nth s.clients r.client) (λ c. client_hears c r.message) refl o

over_event : (sizes : Sizes) (j : UploadJob) (s : State) (e : Event) (m : Moment) → NoUpload e → Happens sizes s e m → Over j s → Over j m.state
over_event sizes j s (begins job) m none h o =
    subst (λ (x : Moment). Over j x.state) (sym h) (record { client = o.client; at = nth_push_keeps s.clients (begun job) o.client o.at; ended = o.ended; few = o.few })
over_event sizes j s (raw bytes) m none h o = absurd none
over_event sizes j s (up which) m none h o = over_up_named sizes j s (number_of s.packets which) (nth s.packets (number_of s.packets which)) m h o
over_event sizes j s (down which) m none h o = subst (λ (x : Moment). Over j x.state) (sym h) (over_downs j s (number_of s.replies which) (nth s.replies (number_of s.replies which)) o)
over_event sizes j s (quiet n) m none h o = subst (λ (x : Moment). Over j x.state) (sym h) (over_other j (λ did. lines.quiet n did) s n (nth s.clients n) client_waited refl o)
over_event sizes j s (arms a) m none h o = over_same j s m.state (ap (λ (x : Moment). x.state.clients) h) o
over_event sizes j s boot m none h o = over_same j s m.state (ap (λ (x : Moment). x.state.clients) h.2) o

either_event : LawsBelow → (sizes : Sizes) (j : UploadJob) → IsUpload j → HasRoom sizes j → (s : State) (e : Event) (m : Moment) → NoUpload e → m.struck ≡ false
    → ((c : Client) → nth s.clients 1 ≡ Some c → c.ended ≡ None → IsOrderly 1 s e m) → Happens sizes s e m → Either_way sizes j s → Either_way sizes j m.state
either_event law sizes j is room s e m none calm o h (inl g) = going_event law sizes j is room s e m none calm (o g.client g.base.client g.base.going) h g
either_event law sizes j is room s e m none calm o h (inr v) = inr (over_event sizes j s e m none h v)

either_run : LawsBelow → (sizes : Sizes) (j : UploadJob) → IsUpload j → HasRoom sizes j → (s : State) (events : List Event) (moments : List Moment) → All NoUpload events → AreOrderly 1 s events moments → IsRun sizes s events moments
    → Either_way sizes j s → Either_way sizes j (state_at_end s moments)
either_run law sizes j is room s [] [] none o r v = v
either_run law sizes j is room s (e ∷ events) (m ∷ moments) none o r v =
    either_run law sizes j is room m.state events moments (All-tail NoUpload e events none) o.2 r.1
    (either_event law sizes j is room s e m (All-head NoUpload e events none) o.0 o.1 r.0 v)
either_run law sizes j is room s [] (m ∷ moments) none o r v = absurd r
either_run law sizes j is room s (e ∷ events) [] none o r v = absurd r

-- the job begins
begun_going : (sizes : Sizes) (image : List ℕ) (second : Option (List ℕ)) (j : UploadJob) → IsUpload j → HasRoom sizes j → Going sizes j (client_begins (first_state sizes image second) (uploads j)).state
begun_going sizes image second j is room =
    let big = room.chunk in
    let far = enough_steps (length j.file) (j.chunk - 7) (omega (arith, big)) in
    record {
      client = begun (uploads j);
      base = record {
        up = refl;
        client = refl;
        going = refl;
        job = refl;
        others = record { at = λ n x e other. absurd (only n x e other) };
        mails = All-push (λ (p : Mail). (p.client ≡ 1 → ⊥) → IsOfKind IsOther p.message) [] (mail_of (begun (uploads j))) (All-nil (λ (p : Mail). (p.client ≡ 1 → ⊥) → IsOfKind IsOther p.message)) (λ n. absurd (n refl));
        newest = refl;
        sent = refl;
        answers = refl;
      };
      phase = part_waits refl (record {
        sequence = 0;
        request = start_of j;
        held = [];
        parts = length j.file / (j.chunk - 7);
        part = the_start refl;
        packet = refl;
        asked = refl;
        from_file = λ i t e. subst (OfSome (Only j) i) (sym (no_upload sizes image second i t e)) tt;
        goes = λ e same. start_on sizes j e room.unit room.few room.chunk is.some (λ i t g. no_upload sizes image second i t (sym (same i) ∙ g));
        far = omega (arith, far);
        few = omega arith;
      });
    }
  where
    only : (n : ℕ) (x : Client) → nth (begun (uploads j) ∷ []) n ≡ Some x → (n ≡ 1 → ⊥) → ⊥
    only zero x e other = cc
    only (suc zero) x e other = other refl
    only (suc (suc n)) x e other = cc

-- what comes of it at each place
pub in_order : LawsBelow → (sizes : Sizes) (image : List ℕ) (second : Option (List ℕ)) (j : UploadJob) (events : List Event) (m : Moment) (moments : List Moment) → IsUpload j → HasRoom sizes j → All NoUpload events
    → IsRun sizes (first_state sizes image second) (begins (uploads j) ∷ events) (m ∷ moments) → AreOrderly 1 m.state events moments → GoesWell j (state_at_end m.state moments)
in_order law sizes image second j events m moments is room none r o =
    well (either_run law sizes j is room m.state events moments none o r.1 (inl (subst (λ (x : Moment). Going sizes j x.state) (sym r.0) (begun_going sizes image second j is room))))
  where
    well : {s : State} → Either_way sizes j s → GoesWell j s
    well (inl g) = record { client = g.client; at = g.base.client; few = phase_few sizes j _ _ g.client g.phase; ended = inl (g.base.going, g.base.answers) }
    well (inr v) = record { client = v.client; at = v.at; few = v.few; ended = inr v.ended }
