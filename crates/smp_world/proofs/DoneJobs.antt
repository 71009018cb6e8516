-- In every run without raw bytes, an upload job that is done tells the truth.
use Rattle.std.proofs.Common.{◌≡◌, ◌⊎◌, inl, inr, ◌≤◌, ◌+◌, ℕ, List, [], ◌∷◌, ◌++◌, length, Bool, true, false, Option, Some, None, refl, sym, ap, subst, ◌∙◌, arith, length-append}
use Rattle.std.specs.Prelude.{All, Contains, IfSome}
use Rattle.std.proofs.lemmas.List.Elements.{All-push, All-weaker, All-nil, All-head, All-tail, All-contains}
use Rattle.smp_header.specs.Message.{Message}
use Rattle.smp_model.specs.declared.device.AbstractDevice.{AbstractDevice}
use Rattle.smp_model.specs.declared.device.Sizes.{Sizes}
use Rattle.smp_model.specs.declared.upload.Ending.{Ending}
use Rattle.smp_model.specs.declared.upload.Ending.TheVariants as endings
use Rattle.smp_model.specs.Laws.{Along}
use Rattle.smp_model.specs.Meaning.{meaning}
use Rattle.smp_model.specs.Said.{Said, reply_message}
use Rattle.smp_model.specs.Steps.{Step, applied}
use Rattle.smp_world.specs.Below.{LawsBelow}
use Rattle.smp_world.proofs.Sides.{along_front}
use Rattle.smp_jobs.specs.Clients.{Client, Turn, begun, client_hears, client_waited}
use Rattle.smp_device.specs.Goings.{durable, after_boot}
use Rattle.smp_world.specs.Comings.{after_coming}
use Rattle.smp_jobs.specs.Jobs.{UploadJob, Job, uploads, End, done, no_answer, refused, mismatch, stalled}
use Rattle.smp_world.specs.Lines as lines
use Rattle.smp_world.specs.Lines.{Line, Did}
use Rattle.smp_world.specs.Runs.{Event, begins, raw, up, down, quiet, arms, boot, Mail, State, Moment, nth, with_nth, number_of, Happens, Run as IsRun, UpComes, UpNamed, turned, unless_ended, moves, comes_down, client_begins, with_reply, with_packet, state_at_end, first_state}
use Rattle.smp_world.specs.UploadJobs.{IsAmong, AreTagged}
use Rattle.smp_world.proofs.FairPackets.{FairMessage}
use Rattle.smp_world.proofs.Marked.{Marked, IsOwn, marked_lasts}
use Rattle.smp_world.proofs.Numbered.{nth_set, nth_push, nth_within, length_with, some_same}
use Rattle.smp_world.proofs.Pending.{LastsAtBoots, RequestsSame, booting_lasts, coming_after, going_lasts}
use Rattle.smp_world.proofs.UploadReplies.{PartsTrue, mail_true}
use Rattle.smp_world.proofs.FairSteps.{Uploads, FairAt, AllOfJobs, fair_applied, settling_fair}
use Rattle.smp_world.proofs.TaggedRuns.{Inv, nth_all, set_all, jobs_at_boots, going_along, inv_event, first_inv}
use Rattle.smp_world.proofs.UploadClients.{Knows, SentOk, IsTrue, DoneBy, EndTrue, Uploader, SendsOk, TurnOk, sent_asking, hears_ok, waited_ok, begun_upload, hears_job, wait_job}

-- what a job knows is kept
pub record IsKept (J : Uploads) (V : Knows) : Type 0 where
  pub alike : (j : UploadJob) (d e : AbstractDevice) → durable e ≡ durable d → V j d → V j e
  pub along : (j : UploadJob) (steps : List Step) (d : AbstractDevice) → Along (FairAt J) d steps → AllOfJobs J d → V j d → V j (applied steps d)

-- what is needed of the jobs
pub record Sound (J : Uploads) (V : Knows) : Type 0 where
  pub tagged : AreTagged J
  pub own : (j : UploadJob) → J j → IsOwn J j
  pub kept : IsKept J V
  pub parts : (j : UploadJob) → J j → PartsTrue J V j

abbrev Both : Uploads → Knows → UploadJob → AbstractDevice → Type 0
Both J V j d = AllOfJobs J d × V j d

both_at_boots : (J : Uploads) (V : Knows) → IsKept J V → (j : UploadJob) → LastsAtBoots (Both J V j)
both_at_boots J V k j = record {
  alike = λ d e h b. ((jobs_at_boots J).alike d e h b.0, k.alike j d e h b.1);
  settling = λ d e b p. (
    (jobs_at_boots J).settling d e b.0 p,
    subst (V j) (sym p.reached) (k.along j p.front d (along_front (FairAt J) p.front p.rest d (subst (Along (FairAt J) d) p.split (settling_fair J d))) b.0 b.1),
  );
}

-- what is so of the upload job of a client that is there
abbrev pub IfUploads : List Client → ℕ → (UploadJob → Type 0) → Type 0
IfUploads clients n P = (n ≤ length clients) × ((c : Client) (j : UploadJob) → nth clients n ≡ Some c → c.job ≡ uploads j → P j)

if_weaker : (clients : List Client) (n : ℕ) (P Q : UploadJob → Type 0) → ((j : UploadJob) → P j → Q j) → IfUploads clients n P → IfUploads clients n Q
if_weaker clients n P Q f h = (h.0, λ c j at e. f j (h.1 c j at e))

if_set : (clients : List Client) (k n : ℕ) (c t : Client) (P : UploadJob → Type 0) → nth clients k ≡ Some c → t.job ≡ c.job → IfUploads clients n P → IfUploads (with_nth clients k t) n P
if_set clients k n c t P found same h = (subst (λ (m : ℕ). n ≤ m) (sym (length_with clients k t)) h.0, λ x j at e. by_place x j e (nth_set clients k n t x at))
  where
    by_place : (x : Client) (j : UploadJob) → x.job ≡ uploads j → (((n ≡ k) × (x ≡ t)) ⊎ (nth clients n ≡ Some x)) → P j
    by_place x j e (inl p) = h.1 c j (ap (nth clients) p.0 ∙ found) (sym same ∙ (ap (λ (y : Client). y.job) (sym p.1) ∙ e))
    by_place x j e (inr p) = h.1 x j p e

if_push : (clients : List Client) (n : ℕ) (t : Client) (P : UploadJob → Type 0) → IfUploads clients n P → IfUploads (clients ++ t ∷ []) n P
if_push clients n t P h = (let le = h.0 in let more = length-append clients (t ∷ []) in omega (arith, le, more), λ x j at e. by_place x j e (nth_push clients n t x at))
  where
    by_place : (x : Client) (j : UploadJob) → x.job ≡ uploads j → (((n ≡ length clients + 1) × (x ≡ t)) ⊎ (nth clients n ≡ Some x)) → P j
    by_place x j e (inl p) = let le = h.0 in let eq = p.0 in absurd (omega (arith, le, eq))
    by_place x j e (inr p) = h.1 x j p e

abbrev pub Sent : List Client → Mail → Type 0
Sent clients p = IfUploads clients p.client (λ j. SentOk j p.message)

abbrev pub Told : Knows → List Client → AbstractDevice → Mail → Type 0
Told V clients d r = IfUploads clients r.client (λ j. IsTrue V j d r.message)

abbrev pub Known : Uploads → Knows → AbstractDevice → Client → Type 0
Known J V d c = (j : UploadJob) → c.job ≡ uploads j → J j × Uploader V j d c

pub record Rest (J : Uploads) (V : Knows) (clients : List Client) (packets replies : List Mail) (d : AbstractDevice) : Type 0 where
  pub sent : All (Sent clients) packets
  pub told : All (Told V clients d) replies
  pub known : All (Known J V d) clients

abbrev pub Holds : Uploads → Knows → State → Type 0
Holds J V s = Rest J V s.clients s.packets s.replies s.device

-- The device moves.
pub record Moves (V : Knows) (d e : AbstractDevice) : Type 0 where
  pub marked : (j : UploadJob) → Marked j d → Marked j e
  pub knows : (j : UploadJob) → V j d → V j e

done_moves : (V : Knows) (j : UploadJob) (ending : Ending) (d e : AbstractDevice) → Moves V d e → DoneBy V j ending d → DoneBy V j ending e
done_moves V j endings.Only d e m h = m.knows j h
done_moves V j endings.Test d e m h = m.marked j h
done_moves V j endings.Confirm d e m h = m.marked j h

end_moves : (V : Knows) (j : UploadJob) (o : Option End) (d e : AbstractDevice) → Moves V d e → EndTrue V j o d → EndTrue V j o e
end_moves V j None d e m h = tt
end_moves V j (Some done) d e m h = done_moves V j j.ending d e m h
end_moves V j (Some no_answer) d e m h = tt
end_moves V j (Some (refused group n)) d e m h = tt
end_moves V j (Some mismatch) d e m h = tt
end_moves V j (Some stalled) d e m h = tt

true_moves : (V : Knows) (j : UploadJob) (d e : AbstractDevice) (x : Message) → Moves V d e → IsTrue V j d x → IsTrue V j e x
true_moves V j d e x m t = record {
  offset = λ a b c off matched got is n. m.knows j (t.offset a b c off matched got is n);
  mark = λ a b c got. m.marked j (t.mark a b c got);
}

rest_moves : (J : Uploads) (V : Knows) (cs : List Client) (ps rs : List Mail) (d e : AbstractDevice) → Moves V d e → Rest J V cs ps rs d → Rest J V cs ps rs e
rest_moves J V cs ps rs d e m i = record {
  sent = i.sent;
  told = All-weaker (Told V cs d) (Told V cs e)
      (λ r h. if_weaker cs r.client (λ j. IsTrue V j d r.message) (λ j. IsTrue V j e r.message) (λ j t. true_moves V j d e r.message m t) h) rs i.told;
  known = All-weaker (Known J V d) (Known J V e)
      (λ c h j is. let k = h j is in (k.0, record { job = k.1.job; asking = k.1.asking; end = end_moves V j c.ended d e m k.1.end })) cs i.known;
}

-- A turn.
sent_new : (cs : List Client) (k : ℕ) (c : Client) (t : Turn) (m : Message) → nth cs k ≡ Some c → t.client.job ≡ c.job → ((j : UploadJob) → c.job ≡ uploads j → SentOk j m)
    → Sent (with_nth cs k t.client) (record { client = k; message = m })
sent_new cs k c t m found same ok = if_set cs k k c t.client (λ j. SentOk j m) found same (nth_within cs k c found, λ x j at e. ok j (ap (λ (y : Client). y.job) (some_same c x (sym found ∙ at)) ∙ e))

sent_more : (cs : List Client) (k : ℕ) (c : Client) (t : Turn) (ps : List Mail) (m : Option Message) → nth cs k ≡ Some c → t.client.job ≡ c.job → ((j : UploadJob) → c.job ≡ uploads j → SendsOk j m)
    → All (Sent (with_nth cs k t.client)) ps → All (Sent (with_nth cs k t.client)) (with_packet ps k m)
sent_more cs k c t ps None found same ok all = all
sent_more cs k c t ps (Some m) found same ok all = All-push (Sent (with_nth cs k t.client)) ps (record { client = k; message = m }) all (sent_new cs k c t m found same ok)

rest_turned : (J : Uploads) (V : Knows) (line : Did → Line) (s : State) (k : ℕ) (c : Client) (t : Turn) → nth s.clients k ≡ Some c → t.client.job ≡ c.job
    → ((j : UploadJob) → c.job ≡ uploads j → TurnOk V j s.device t) → Holds J V s → Holds J V (turned line s k t).state
rest_turned J V line s k c t found same ok i = record {
  sent = sent_more s.clients k c t s.packets t.packet found same (λ j e. (ok j e).1)
      (All-weaker (Sent s.clients) (Sent (with_nth s.clients k t.client)) (λ p h. if_set s.clients k p.client c t.client (λ j. SentOk j p.message) found same h) s.packets i.sent);
  told = All-weaker (Told V s.clients s.device) (Told V (with_nth s.clients k t.client) s.device) (λ r h. if_set s.clients k r.client c t.client (λ j. IsTrue V j s.device r.message) found same h) s.replies i.told;
  known = set_all (Known J V s.device) s.clients k t.client i.known
      (λ j e. let is : c.job ≡ uploads j = sym same ∙ e in ((nth_all (Known J V s.device) s.clients k c i.known found j is).0, (ok j is).0));
}

rest_unless : (J : Uploads) (V : Knows) (line : Did → Line) (s : State) (k : ℕ) (c : Client) (e : Option End) (t : Turn) → nth s.clients k ≡ Some c → t.client.job ≡ c.job
    → ((j : UploadJob) → c.job ≡ uploads j → TurnOk V j s.device t) → Holds J V s → Holds J V (unless_ended line s k e t).state
rest_unless J V line s k c None t found same ok i = rest_turned J V line s k c t found same ok i
rest_unless J V line s k c (Some e) t found same ok i = i

rest_move : (J : Uploads) (V : Knows) (line : Did → Line) (s : State) (k : ℕ) (c : Option Client) (turn : Client → Turn) → nth s.clients k ≡ c → ((x : Client) → (turn x).client.job ≡ x.job)
    → ((x : Client) (j : UploadJob) → nth s.clients k ≡ Some x → x.job ≡ uploads j → TurnOk V j s.device (turn x)) → Holds J V s → Holds J V (moves line s k c turn).state
rest_move J V line s k None turn is same ok i = i
rest_move J V line s k (Some c) turn is same ok i = rest_unless J V line s k c c.ended (turn c) is (same c) (λ j e. ok c j is e) i

uploader_at : (J : Uploads) (V : Knows) (s : State) (k : ℕ) (c : Client) (j : UploadJob) → Holds J V s → nth s.clients k ≡ Some c → c.job ≡ uploads j → Uploader V j s.device c
uploader_at J V s k c j i found is = (nth_all (Known J V s.device) s.clients k c i.known found j is).1

rest_down : (J : Uploads) (V : Knows) (s : State) (n : ℕ) (r : Option Mail) → nth s.replies n ≡ r → Holds J V s → Holds J V (comes_down s n r).state
rest_down J V s n None is i = i
rest_down J V s n (Some r) is i =
    let told = nth_all (Told V s.clients s.device) s.replies n r i.told is in
    rest_move J V (λ did. lines.down n did) s r.client (nth s.clients r.client) (λ c. client_hears c r.message) refl (λ c. hears_job c r.message)
    (λ c j found e. hears_ok V j s.device c r.message (uploader_at J V s r.client c j i found e) (told.1 c j found e)) i

-- A packet to the device.
told_more : (V : Knows) (cs : List Client) (d : AbstractDevice) (rs : List Mail) (p : Mail) (reply : Option Said) → IfUploads cs p.client (λ j. IfSome reply (λ s. IsTrue V j d (reply_message p.message s)))
    → All (Told V cs d) rs → All (Told V cs d) (with_reply rs p reply)
told_more V cs d rs p None t all = all
told_more V cs d rs p (Some s) t all = All-push (Told V cs d) rs (record { client = p.client; message = reply_message p.message s }) all t

rest_up : LawsBelow → RequestsSame → (J : Uploads) (V : Knows) → Sound J V → (sizes : Sizes) (is : Bool) (s : State) (n : ℕ) (p : Mail) (out : Moment)
    → FairMessage J p.message → Sent s.clients p → AllOfJobs J s.device → UpComes sizes is s n p out → Holds J V s → Holds J V out.state
rest_up law same J V sound sizes false s n p out fair sent f h i = subst (λ (o : Moment). Holds J V o.state) (sym h) i
rest_up law same J V sound sizes true s n p out fair sent f h i =
    let c = h.0 in
    let d = s.device in
    let along = going_along J sizes s.armed d (meaning p.message) c.went fair h.1.goes f in
    let gone = fair_applied J c.went.taken d along f in
    let truth : IfUploads s.clients p.client (λ j. IfSome c.went.reply (λ r. IsTrue V j (applied c.went.taken d) (reply_message p.message r))) = (
      sent.0,
      λ x j at e. let is = (nth_all (Known J V d) s.clients p.client x i.known at j e).0 in
          mail_true law J V sizes j s.armed d p.message c.went (sound.tagged.uploads j is) (sound.own j is) (sound.parts j is) (sent.1 x j at e) f h.1.goes,
    ) in
    let here = rest_moves J V s.clients s.packets s.replies d (applied c.went.taken d) (record {
      marked = λ j m. (steps_marked j m);
      knows = λ j v. sound.kept.along j c.went.taken d along f v;
    }) i in
    let replied : Rest J V s.clients s.packets (with_reply s.replies p c.went.reply) (applied c.went.taken d) =
    record { sent = here.sent; told = told_more V s.clients (applied c.went.taken d) s.replies p c.went.reply truth here.told; known = here.known } in
    subst (λ (o : Moment). Holds J V o.state) (sym h.2)
    (rest_moves J V s.clients s.packets (with_reply s.replies p c.went.reply) (applied c.went.taken d) (after_coming c d) (record {
      marked = λ j m. coming_after (Marked j) (marked_lasts same sizes j).boots (meaning p.message) c d h.1.boots m;
      knows = λ j v. (coming_after (Both J V j) (both_at_boots J V sound.kept j) (meaning p.message) c d h.1.boots (gone, v)).1;
    }) replied)
  where
    steps_marked : (j : UploadJob) → Marked j s.device → Marked j (applied h.0.went.taken s.device)
    steps_marked j m = going_lasts sizes (Marked j) (marked_lasts same sizes j) s.armed s.device (meaning p.message) h.0.went h.1.goes m

rest_named : LawsBelow → RequestsSame → (J : Uploads) (V : Knows) → Sound J V → (sizes : Sizes) (s : State) (n : ℕ) (p : Option Mail) (out : Moment) → nth s.packets n ≡ p
    → Inv J s → UpNamed sizes s n p out → Holds J V s → Holds J V out.state
rest_named law same J V sound sizes s n None out e inv h i = subst (λ (o : Moment). Holds J V o.state) (sym h) i
rest_named law same J V sound sizes s n (Some p) out e inv h i =
    rest_up law same J V sound sizes s.up s n p out (nth_all (λ (x : Mail). FairMessage J x.message) s.packets n p inv.sent e) (nth_all (Sent s.clients) s.packets n p i.sent e) inv.device h i

rest_begins : (J : Uploads) (V : Knows) (s : State) (job : Job) → IsAmong J (begins job) → Holds J V s → Holds J V (client_begins s job).state
rest_begins J V s job is i = record {
  sent = All-push (Sent (s.clients ++ begun job ∷ [])) s.packets (record { client = length s.clients + 1; message = (begun job).request.packet })
      (All-weaker (Sent s.clients) (Sent (s.clients ++ begun job ∷ [])) (λ p h. if_push s.clients p.client (begun job) (λ j. SentOk j p.message) h) s.packets i.sent)
      (let more = length-append s.clients (begun job ∷ []) in omega (arith, more), λ x j at e. by_place x j e (nth_push s.clients (length s.clients + 1) (begun job) x at));
  told = All-weaker (Told V s.clients s.device) (Told V (s.clients ++ begun job ∷ []) s.device) (λ r h. if_push s.clients r.client (begun job) (λ j. IsTrue V j s.device r.message) h) s.replies i.told;
  known = All-push (Known J V s.device) s.clients (begun job) i.known (λ j e. known_new job j is e);
}
  where
    first_sent : (w : Job) (j : UploadJob) → w ≡ uploads j → SentOk j (begun w).request.packet
    first_sent w j e = subst (λ (v : Job). SentOk j (begun v).request.packet) (sym e) (sent_asking j (begun (uploads j)).request (begun_upload V j s.device).asking)

    by_place : (x : Client) (j : UploadJob) → x.job ≡ uploads j → (((length s.clients + 1 ≡ length s.clients + 1) × (x ≡ begun job)) ⊎ (nth s.clients (length s.clients + 1) ≡ Some x)) → SentOk j (begun job).request.packet
    by_place x j e (inl p) = first_sent job j (ap (λ (y : Client). y.job) (sym p.1) ∙ e)
    by_place x j e (inr p) = let le = nth_within s.clients (length s.clients + 1) x p in absurd (omega (arith, le))

    known_new : (w : Job) (j : UploadJob) → IsAmong J (begins w) → w ≡ uploads j → J j × Uploader V j s.device (begun w)
    known_new w j a e = (subst (λ (v : Job). IsAmong J (begins v)) e a, subst (λ (v : Job). Uploader V j s.device (begun v)) (sym e) (begun_upload V j s.device))

rest_event : LawsBelow → RequestsSame → (J : Uploads) (V : Knows) → Sound J V → (sizes : Sizes) (s : State) (e : Event) (out : Moment) → IsAmong J e → Inv J s → Happens sizes s e out → Holds J V s → Holds J V out.state
rest_event law same J V sound sizes s (begins job) out of_ inv h i = subst (λ (o : Moment). Holds J V o.state) (sym h) (rest_begins J V s job of_ i)
rest_event law same J V sound sizes s (raw bytes) out of_ inv h i = absurd of_
rest_event law same J V sound sizes s (up which) out of_ inv h i = rest_named law same J V sound sizes s (number_of s.packets which) (nth s.packets (number_of s.packets which)) out refl inv h i
rest_event law same J V sound sizes s (down which) out of_ inv h i =
    subst (λ (o : Moment). Holds J V o.state) (sym h) (rest_down J V s (number_of s.replies which) (nth s.replies (number_of s.replies which)) refl i)
rest_event law same J V sound sizes s (quiet k) out of_ inv h i =
    subst (λ (o : Moment). Holds J V o.state) (sym h)
    (rest_move J V (λ did. lines.quiet k did) s k (nth s.clients k) client_waited refl wait_job (λ c j found e. waited_ok V j s.device c (uploader_at J V s k c j i found e)) i)
rest_event law same J V sound sizes s (arms a) out of_ inv h i = subst (λ (o : Moment). Holds J V o.state) (sym h) (record { sent = i.sent; told = i.told; known = i.known })
rest_event law same J V sound sizes s boot out of_ inv h i =
    subst (λ (o : Moment). Holds J V o.state) (sym h.2)
    (rest_moves J V s.clients s.packets s.replies s.device (after_boot h.0 s.device) (record {
      marked = λ j m. booting_lasts (Marked j) (marked_lasts same sizes j).boots s.armed s.device h.0 h.1 m;
      knows = λ j v. (booting_lasts (Both J V j) (both_at_boots J V sound.kept j) s.armed s.device h.0 h.1 (inv.device, v)).1;
    }) i)

rest_run : LawsBelow → RequestsSame → (J : Uploads) (V : Knows) → Sound J V → (sizes : Sizes) (s : State) (events : List Event) (moments : List Moment) → All (IsAmong J) events → IsRun sizes s events moments
    → Inv J s → Holds J V s → Holds J V (state_at_end s moments)
rest_run law same J V sound sizes s [] [] of_ r inv i = i
rest_run law same J V sound sizes s (e ∷ events) (m ∷ moments) of_ r inv i =
    let first = All-head (IsAmong J) e events of_ in
    rest_run law same J V sound sizes m.state events moments (All-tail (IsAmong J) e events of_) r.1
    (inv_event law J sound.tagged sizes s e m first r.0 inv) (rest_event law same J V sound sizes s e m first inv r.0 i)
rest_run law same J V sound sizes s [] (m ∷ moments) of_ r inv i = absurd r
rest_run law same J V sound sizes s (e ∷ events) [] of_ r inv i = absurd r

-- a job that is done
pub done_knows : LawsBelow → RequestsSame → (J : Uploads) (V : Knows) → Sound J V → (sizes : Sizes) (image : List ℕ) (second : Option (List ℕ)) (events : List Event) (moments : List Moment) (c : Client) (j : UploadJob)
    → All (IsAmong J) events → IsRun sizes (first_state sizes image second) events moments
    → Contains (state_at_end (first_state sizes image second) moments).clients c → c.job ≡ uploads j → c.ended ≡ Some done
    → J j × DoneBy V j j.ending (state_at_end (first_state sizes image second) moments).device
done_knows law same J V sound sizes image second events moments c j of_ r has job ended =
    let s = first_state sizes image second in
    let rest = rest_run law same J V sound sizes s events moments of_ r (first_inv J sizes image second)
    (record { sent = All-nil (Sent s.clients); told = All-nil (Told V s.clients s.device); known = All-nil (Known J V s.device) }) in
    let known = All-contains (Known J V (state_at_end s moments).device) (state_at_end s moments).clients c rest.known has j job in
    (known.0, subst (λ (o : Option End). EndTrue V j o (state_at_end s moments).device) ended known.1.end)
