-- The upload's own answer came to its client.
use Rattle.std.proofs.Common.{◌≡◌, ◌⊎◌, inl, inr, ◌≤◌, ◌<◌, ◌+◌, ◌-◌, ◌%◌, nat_lt, ℕ, zero, suc, List, [], ◌∷◌, length, Bool, true, false, Some, refl, sym, ap, subst, ◌∙◌, arith}
use Rattle.std.proofs.lemmas.Bool.Decides.{nat_tests}
use Rattle.std.proofs.lemmas.List.Elements.{All-push}
use Rattle.smp_model.specs.Laws.{OnImage}
use Rattle.smp_model.specs.declared.device.Sizes.{Sizes}
use Rattle.smp_model.specs.declared.upload.Ending.{Ending}
use Rattle.smp_model.specs.declared.upload.Ending.TheVariants as endings
use Rattle.smp_model.specs.Meant.{Meant}
use Rattle.smp_reply.specs.Told.{Told}
use Rattle.smp_jobs.specs.Clients.{Client, Turn, stops, goes_on, with_answer, client_hears}
use Rattle.smp_jobs.specs.Jobs.{UploadJob, done, Next, asks, at_end, part_of, mark_of}
use Rattle.smp_world.specs.Deliveries.{newest, count_of, enough_packets, HasRoom}
use Rattle.smp_world.specs.Runs.{Mail, State, nth, with_nth, turned, with_packet}
use Rattle.smp_world.specs.Lines.{Did, Line}
use Rattle.smp_world.specs.UploadJobs.{IsFront, upload_of, IsUpload}
use Rattle.smp_world.proofs.Fronts.{front_short}
use Rattle.smp_world.proofs.UploadClients.{a_part}
use Rattle.smp_world.proofs.NewestMail.{newest_own, count_own}
use Rattle.smp_world.proofs.Numbered.{each_set}
use Rattle.smp_world.proofs.OtherRequests.{IsOther}
use Rattle.smp_world.proofs.PartsTaken.{part_on}
use Rattle.smp_world.proofs.ClientKinds.{IsOfKind, HasKind}
use Rattle.smp_world.proofs.FewPackets.{steps_of, same_or}
use Rattle.smp_world.proofs.MarkAnswers.{at_full, at_part}
use Rattle.smp_world.proofs.LoneUploads.{goes_turn, next_client}
use Rattle.smp_world.proofs.OtherJobs.{Clean}
use Rattle.smp_world.proofs.OrderlyPhases.{Base, Going, Over, PartAnswered, Phase, mark_answered, mark_waits, part_answered, part_waits, upload_same}
use Rattle.smp_world.proofs.OrderlyPackets.{some_same}

-- The own answer came down.
abbrev pub after_turn : State → ℕ → Turn → State
after_turn s n t = record s { clients = with_nth s.clients n t.client; packets = with_packet s.packets n t.packet }

turned_state : (line : Did → Line) (s : State) (n : ℕ) (t : Turn) → (turned line s n t).state ≡ after_turn s n t
turned_state line s n t = refl

nth_with_own : (xs : List Client) (c x : Client) → nth xs 1 ≡ Some c → nth (with_nth xs 1 x) 1 ≡ Some x
nth_with_own [] c x e = cc
nth_with_own (y ∷ xs) c x e = refl

base_asks : (j : UploadJob) (s : State) (c : Client) (t : Told) (m : Meant) → Base j s c → Base j (after_turn s 1 (record { client = next_client c t m; packet = Some (next_client c t m).request.packet })) (next_client c t m)
base_asks j s c t m b =
    let mail : Mail = record { client = 1; message = (next_client c t m).request.packet } in
    record {
      up = b.up;
      client = nth_with_own s.clients c (next_client c t m) b.client;
      going = b.going;
      job = b.job;
      others = each_set (λ n x. (n ≡ 1 → ⊥) → HasKind IsOther x) s.clients 1 (next_client c t m) b.others (λ n. absurd (n refl));
      mails = All-push (λ (p : Mail). (p.client ≡ 1 → ⊥) → IsOfKind IsOther p.message) s.packets mail b.mails (λ n. absurd (n refl));
      newest = newest_own 1 s.packets mail refl;
      sent = count_own 1 s.packets mail refl ∙ ap (λ (n : ℕ). n + 1) b.sent;
      answers = let before = b.answers in omega (arith, before);
    }

abbrev pub Either_way : Sizes → UploadJob → State → Type 0
Either_way sizes j s = Going sizes j s ⊎ Over j s

over_turn : (j : UploadJob) (s : State) (c : Client) (t : Told) → nth s.clients 1 ≡ Some c → c.sent ≤ enough_packets j → Over j (after_turn s 1 (stops (with_answer c t) done))
over_turn j s c t at few = record { client = record (with_answer c t) { ended = Some done }; at = nth_with_own s.clients c _ at; ended = refl; few = few }

-- a turn that asks for the mark
asks_mark : (sizes : Sizes) (j : UploadJob) (s : State) (c : Client) (u : Turn) (t : Told) → Base j s c → count_of 1 s.replies ≡ c.sent → c.sent + 1 ≤ enough_packets j → Clean j s.device
    → u ≡ goes_on (with_answer c t) (asks (mark_of j)) → Either_way sizes j (after_turn s 1 u)
asks_mark sizes j s c u t b n few f is =
    let turn = is ∙ goes_turn j c t (mark_of j) b.job (omega (arith, few)) in
    subst (λ (x : Turn). Either_way sizes j (after_turn s 1 x)) (sym turn) (inl (record {
      client = next_client c t (mark_of j);
      base = base_asks j s c t (mark_of j) b;
      phase = mark_waits (ap (λ (k : ℕ). k + 1) n) (record { sequence = (c.request.packet.sequence + 1) % 256; packet = refl; asked = refl; from_file = f; few = few });
    }))

-- a turn that asks for a part
asks_part : (sizes : Sizes) (j : UploadJob) (s : State) (c : Client) (u : Turn) (t : Told) (held : List ℕ) (f : ℕ) → IsUpload j → HasRoom sizes j → Base j s c → count_of 1 s.replies ≡ c.sent → c.sent + suc f + 1 ≤ enough_packets j
    → Clean j s.device → OnImage j.image (λ t. t.upload ≡ upload_of j held) s.device → IsFront held j.file → 0 < length held → length held < length j.file → length j.file ≤ length held + steps_of (suc f) (j.chunk - 7)
    → u ≡ goes_on (with_answer c t) (asks (part_of j (length held))) → Either_way sizes j (after_turn s 1 u)
asks_part sizes j s c u t held f is room b n few clean upload front some within far turn_ =
    let turn = turn_ ∙ goes_turn j c t (part_of j (length held)) b.job (omega (arith, few)) in
    subst (λ (x : Turn). Either_way sizes j (after_turn s 1 x)) (sym turn) (inl (record {
      client = next_client c t (part_of j (length held));
      base = base_asks j s c t (part_of j (length held)) b;
      phase = part_waits (ap (λ (k : ℕ). k + 1) n) (record {
        sequence = (c.request.packet.sequence + 1) % 256;
        request = part_of j (length held);
        held = held;
        parts = f;
        part = a_part (length held) some (front_short held j.file front) refl;
        packet = refl;
        asked = refl;
        from_file = clean;
        goes = λ e same. part_on sizes j e held room.unit room.few room.chunk some within (upload_same j held s.device e same upload) front;
        far = omega (arith, far);
        few = omega (arith, few);
      });
    }))

full_turn : (sizes : Sizes) (j : UploadJob) (s : State) (c : Client) (u : Turn) (t : Told) (e : Ending) → j.ending ≡ e → Base j s c → count_of 1 s.replies ≡ c.sent → c.sent + 1 ≤ enough_packets j → Clean j s.device
    → u ≡ goes_on (with_answer c t) (at_end j e) → Either_way sizes j (after_turn s 1 u)
full_turn sizes j s c u t endings.Only end_ b n few f is = subst (λ (x : Turn). Either_way sizes j (after_turn s 1 x)) (sym is) (inr (over_turn j s c t b.client (omega (arith, few))))
full_turn sizes j s c u t endings.Test end_ b n few f is = asks_mark sizes j s c u t b n few f is
full_turn sizes j s c u t endings.Confirm end_ b n few f is = asks_mark sizes j s c u t b n few f is

answered_turn : (sizes : Sizes) (j : UploadJob) (s : State) (c : Client) (u : Turn) → IsUpload j → HasRoom sizes j → Base j s c → count_of 1 s.replies ≡ c.sent → (w : PartAnswered j s.device s.replies c) → u ≡ client_hears c w.reply
    → Either_way sizes j (after_turn s 1 u)
answered_turn sizes j s c u is room b n w heard =
    let few = w.few in
    elim (same_or (length w.held) (length j.file)) [
      | inl full ↦ full_turn sizes j s c u w.told j.ending refl b n (omega (arith, few)) w.from_file
          (heard ∙ w.turn ∙ ap (λ (x : Next). goes_on (with_answer c w.told) x) (at_full j (length w.held) full))
      | inr other ↦ by_parts w.parts refl other w.far
    ]
  where
    below : (x y : ℕ) → x ≤ y → (x ≡ y → ⊥) → x < y
    below x y le other = elim (same_or x (y + 0)) [ inl e ↦ absurd (other (omega (arith, e))) | inr k ↦ lt_of x y le other ]
      where
        lt_of : (x y : ℕ) → x ≤ y → (x ≡ y → ⊥) → x < y
        lt_of x y le other = by_test (nat_lt x y) refl
          where
            by_test : (t : Bool) → nat_lt x y ≡ t → x < y
            by_test true e = grind (arith, nat_tests)
            by_test false e = absurd (other (grind (arith, nat_tests, le)))

    by_parts : (f : ℕ) → w.parts ≡ f → (length w.held ≡ length j.file → ⊥) → ((length w.held ≡ length j.file) ⊎ (length j.file ≤ length w.held + steps_of w.parts (j.chunk - 7))) → Either_way sizes j (after_turn s 1 u)
    by_parts f e other (inl full) = absurd (other full)
    by_parts zero e other (inr far) =
        let longer = front_short w.held j.file w.front in
        let none : length j.file ≤ length w.held + 0 = subst (λ (k : ℕ). length j.file ≤ length w.held + steps_of k (j.chunk - 7)) e far in
        absurd (other (omega (arith, longer, none)))
    by_parts (suc f) e other (inr far) =
        let few = w.few in
        let within = below (length w.held) (length j.file) (front_short w.held j.file w.front) other in
        asks_part sizes j s c u w.told w.held f is room b n (subst (λ (k : ℕ). c.sent + k + 1 ≤ enough_packets j) e few) w.from_file w.upload w.front w.some within
        (subst (λ (k : ℕ). length j.file ≤ length w.held + steps_of k (j.chunk - 7)) e far)
        (heard ∙ w.turn ∙ ap (λ (x : Next). goes_on (with_answer c w.told) x) (at_part j (length w.held) w.some within))

pub own_down : (sizes : Sizes) (j : UploadJob) (s : State) (c : Client) (r : Mail) → IsUpload j → HasRoom sizes j → Base j s c → Phase sizes j s.device s.replies c → newest 1 s.replies ≡ Some r → count_of 1 s.replies ≡ count_of 1 s.packets
    → Either_way sizes j (after_turn s 1 (client_hears c r.message))
own_down sizes j s c r is room b (part_answered n w) last once =
    answered_turn sizes j s c (client_hears c r.message) is room b n w (ap (λ (x : Mail). client_hears c x.message) (some_same r _ (sym last ∙ w.last)))
own_down sizes j s c r is room b (mark_answered n w) last once =
    let turn = ap (λ (x : Mail). client_hears c x.message) (some_same r _ (sym last ∙ w.last)) ∙ w.turn in
    subst (λ (x : Turn). Either_way sizes j (after_turn s 1 x)) (sym turn) (inr (over_turn j s c w.told b.client w.few))
own_down sizes j s c r is room b (part_waits n w) last once = let sent = b.sent in absurd (omega (arith, once, n, sent))
own_down sizes j s c r is room b (mark_waits n w) last once = let sent = b.sent in absurd (omega (arith, once, n, sent))
