-- Over a link that delivers, an upload takes few packets.
use Rattle.std.proofs.Common.{◌≡◌, ◌⊎◌, inl, inr, ◌≤◌, ◌<◌, ◌+◌, ◌-◌, ◌*◌, ◌/◌, ◌==◌, ℕ, zero, suc, List, [], ◌∷◌, ◌++◌, length, Bool, true, false, Option, Some, refl, sym, ap, subst, ◌∙◌, arith}
use Rattle.std.specs.Prelude.{IfSome}
use Rattle.std.proofs.Math.Nat.{div-add-mod, mod-lt, mul-suc}
use Rattle.std.proofs.lemmas.Bool.Decides.{nat_tests}
use Rattle.smp_cbor.specs.Shortest.{shortest}
use Rattle.smp_model.specs.Laws.{OnImage}
use Rattle.smp_model.specs.declared.device.Sizes.{Sizes}
use Rattle.smp_model.specs.declared.upload.Ending.{Ending}
use Rattle.smp_model.specs.declared.upload.Ending.TheVariants as endings
use Rattle.smp_model.specs.Does.{does}
use Rattle.smp_model.specs.Meaning.{meaning}
use Rattle.smp_model.specs.Meant.{Meant}
use Rattle.smp_model.specs.Said.{is_error, reply_value}
use Rattle.smp_model.specs.Steps.{applied}
use Rattle.smp_reply.specs.declared.answer.Asked.{Asked as Kind}
use Rattle.smp_reply.specs.declared.answer.Asked.TheVariants as kinds
use Rattle.smp_reply.specs.Told as told
use Rattle.smp_reply.specs.Told.{Told}
use Rattle.smp_jobs.specs.Clients.{Client, packet_of, begun, goes_on, with_answer}
use Rattle.smp_model.specs.Handled.{is_reset}
use Rattle.smp_jobs.specs.Jobs.{UploadJob, Job, uploads, Next, start_of, part_of, mark_of, at_end, at_offset, next, asked_of}
use Rattle.smp_world.specs.Runs.{begins, up, down, new, State, Moment, Happens, Run as IsRun, state_at_end, first_state, client_begins}
use Rattle.smp_world.specs.UploadJobs.{IsFront, upload_of, IsUpload}
use Rattle.smp_world.specs.Deliveries.{IsAccepted, AreAccepted, delivered, enough_packets, HasRoom, IsDoneSoon}
use Rattle.smp_world.specs.Below.{LawsBelow}
use Rattle.smp_world.proofs.DeliveredMail.{asks_once, Heard, hears_once, reply_of, turn_of, turn_is}
use Rattle.smp_world.proofs.Durably.{means, side_alike}
use Rattle.smp_world.proofs.Fronts.{front_short}
use Rattle.smp_world.proofs.FairPackets.{mark_means}
use Rattle.smp_world.proofs.OneJob.{request_means}
use Rattle.smp_world.proofs.PartsTaken.{WentOn, NoUploads, part_on, start_on}
use Rattle.smp_world.proofs.TaggedRuns.{no_upload}
use Rattle.smp_world.proofs.UploadClients.{IsPartOf, the_start, a_part}
use Rattle.smp_world.proofs.LoneUploads.{Stage, last_stage, next_client, next_stage, over_run}
use Rattle.smp_world.proofs.MarkAnswers.{accepted_reply, at_full, at_part, from_right, mark_shape, told_done, told_offset}

-- the mark is the last packet
mark_stage : LawsBelow → (sizes : Sizes) (j : UploadJob) (k : ℕ) (s : State) (c : Client) (q : ℕ) (moments : List Moment) → IsUpload j → Stage j s c q (mark_of j) → c.sent ≤ enough_packets j
    → IsRun sizes s (delivered (suc k)) moments → AreAccepted moments → IsDoneSoon j (state_at_end s moments)
mark_stage law sizes j k s c q (a ∷ b ∷ moments) is st le r ok =
    let size = is.hash in
    let means_ : meaning c.request.packet ≡ means (mark_of j) = ap meaning st.packet ∙ mark_means law j q is in
    let asked = asks_once sizes s c (mark_of j) a st.alone means_ refl r.0 in
    let heard = hears_once sizes s c (mark_of j) a b st.alone st.going asked r.1.0 in
    let accepted = accepted_reply a (mark_of j) (reply_of sizes s (mark_of j)) ok.0 asked.request asked.reply in
    let fair = mark_shape sizes j s.device (omega (arith, size)) in
    let told_ : told.told c.request.asked (shortest (reply_value 1 (reply_of sizes s (mark_of j)))) ≡ Some told.done =
    subst (λ (x : Kind). told.told x (shortest (reply_value 1 (reply_of sizes s (mark_of j)))) ≡ Some told.done) (sym st.asked)
    (told_done law (reply_of sizes s (mark_of j)) fair accepted.0 accepted.1) in
    let turn = turn_is c q (mark_of j) (reply_of sizes s (mark_of j)) told.done st.packet told_ ∙ ap (λ (job : Job). goes_on (with_answer c told.done) (next job (told.done ∷ c.answers))) st.job in
    over_run sizes j k b.state moments r.1.1 (last_stage sizes j s b.state c q (mark_of j) told.done st le heard turn)
mark_stage law sizes j k s c q [] is st le r ok = absurd r
mark_stage law sizes j k s c q (a ∷ []) is st le r ok = absurd r.1

-- so many steps of a chunk less seven
abbrev pub steps_of : ℕ → ℕ → ℕ
steps_of zero n = 0
steps_of (suc f) n = n + steps_of f n

-- what the requests of parts mean
pub part_means : LawsBelow → (j : UploadJob) (c : Client) (q : ℕ) (r : Meant) → IsUpload j → IsPartOf j r → c.request.packet ≡ packet_of q r → meaning c.request.packet ≡ means r
part_means law j c q r is p e = ap meaning e ∙ request_means law j q r is p

-- a part and its answer, after which these bytes are held
pub record PartPair (sizes : Sizes) (j : UploadJob) (s u : State) (c : Client) (r : Meant) (held : List ℕ) : Type 0 where
  pub more : List ℕ
  pub upload : OnImage j.image (λ t. t.upload ≡ upload_of j (held ++ more)) u.device
  pub front : IsFront (held ++ more) j.file
  pub further : (length (held ++ more) ≡ length j.file) ⊎ (length held + (j.chunk - 7) ≤ length (held ++ more))
  pub heard : Heard sizes s c r u (turn_of sizes s c r)
  pub told : Told
  pub turn : turn_of sizes s c r ≡ goes_on (with_answer c told) (at_offset j (length (held ++ more)))

pub asked_offset : (j : UploadJob) (r : Meant) → IsPartOf j r → asked_of r ≡ kinds.Offset
asked_offset j r (the_start e) = ap asked_of e
asked_offset j r (a_part off some le e) = ap asked_of e

pub part_no_reset : (j : UploadJob) (r : Meant) → IsPartOf j r → is_reset (means r) ≡ false
part_no_reset j r (the_start e) = ap (λ (x : Meant). is_reset (means x)) e
part_no_reset j r (a_part off some le e) = ap (λ (x : Meant). is_reset (means x)) e

pub part_pair : LawsBelow → (sizes : Sizes) (j : UploadJob) (s : State) (c : Client) (q : ℕ) (r : Meant) (held : List ℕ) (a b : Moment) → IsUpload j → Stage j s c q r → IsPartOf j r
    → (is_error (does sizes s.device r).reply ≡ false → WentOn j s.device held (does sizes s.device r)) → Happens sizes s (up new) a → Happens sizes a.state (down new) b → IfSome a.request (λ x. IsAccepted a.reply)
    → PartPair sizes j s b.state c r held
part_pair law sizes j s c q r held a b is st p goes ha hb ok =
    let asked = asks_once sizes s c r a st.alone (part_means law j c q r is p st.packet) (part_no_reset j r p) ha in
    let heard = hears_once sizes s c r a b st.alone st.going asked hb in
    let accepted = accepted_reply a r (reply_of sizes s r) ok asked.request asked.reply in
    let went = goes accepted.0 in
    let told_ : told.told c.request.asked (shortest (reply_value 1 (reply_of sizes s r))) ≡ Some (told.offset (length (held ++ went.more)) went.matched) =
    subst (λ (x : Kind). told.told x (shortest (reply_value 1 (reply_of sizes s r))) ≡ Some (told.offset (length (held ++ went.more)) went.matched)) (sym (st.asked ∙ asked_offset j r p))
    (told_offset law (reply_of sizes s r) (length (held ++ went.more)) went.matched went.reply accepted.1) in
    let t = told.offset (length (held ++ went.more)) went.matched in
    record {
      more = went.more;
      upload = record { side = went.upload.side; found = side_alike j.image (applied (does sizes s.device r).steps s.device) b.state.device heard.same ∙ went.upload.found; fact = went.upload.fact };
      front = went.front;
      further = went.further;
      heard = heard;
      told = t;
      turn = turn_is c q r (reply_of sizes s r) t st.packet told_
          ∙ ap (λ (job : Job). goes_on (with_answer c t) (next job (t ∷ c.answers))) st.job
          ∙ ap (λ (n : Next). goes_on (with_answer c t) n) (from_right j (length (held ++ went.more)) went.matched went.right);
    }

-- the bytes are all there: the end, or the mark
finish : LawsBelow → (sizes : Sizes) (j : UploadJob) (k : ℕ) (s u : State) (c : Client) (q : ℕ) (r : Meant) (held : List ℕ) (moments : List Moment) (e : Ending) → j.ending ≡ e → IsUpload j → Stage j s c q r
    → (p : PartPair sizes j s u c r held) → length (held ++ p.more) ≡ length j.file → c.sent + 1 ≤ enough_packets j → IsRun sizes u (delivered (suc k)) moments → AreAccepted moments → IsDoneSoon j (state_at_end u moments)
finish law sizes j k s u c q r held moments endings.Only end_ is st p full le run ok =
    let turn = p.turn ∙ ap (λ (n : Next). goes_on (with_answer c p.told) n) (at_full j (length (held ++ p.more)) full ∙ ap (at_end j) end_) in
    over_run sizes j (suc k) u moments run (last_stage sizes j s u c q r p.told st (omega (arith, le)) p.heard turn)
finish law sizes j k s u c q r held moments endings.Test end_ is st p full le run ok =
    let turn = p.turn ∙ ap (λ (n : Next). goes_on (with_answer c p.told) n) (at_full j (length (held ++ p.more)) full ∙ ap (at_end j) end_) in
    mark_stage law sizes j k u (next_client c p.told (mark_of j)) _ moments is (next_stage sizes j s u c q r (mark_of j) p.told st (omega (arith, le)) p.heard turn) le run ok
finish law sizes j k s u c q r held moments endings.Confirm end_ is st p full le run ok =
    let turn = p.turn ∙ ap (λ (n : Next). goes_on (with_answer c p.told) n) (at_full j (length (held ++ p.more)) full ∙ ap (at_end j) end_) in
    mark_stage law sizes j k u (next_client c p.told (mark_of j)) _ moments is (next_stage sizes j s u c q r (mark_of j) p.told st (omega (arith, le)) p.heard turn) le run ok

pub same_or : (x y : ℕ) → (x ≡ y) ⊎ ((x ≡ y → ⊥))
same_or x y = by_test (x == y) refl
  where
    by_test : (b : Bool) → (x == y) ≡ b → (x ≡ y) ⊎ ((x ≡ y → ⊥))
    by_test true e = inl (grind (arith, nat_tests))
    by_test false e = inr (λ s. grind (arith, nat_tests))

pub not_full : (j : UploadJob) (n m : ℕ) → ((m ≡ length j.file) ⊎ (n + (j.chunk - 7) ≤ m)) → (m ≡ length j.file → ⊥) → n + (j.chunk - 7) ≤ m
not_full j n m (inl e) other = absurd (other e)
not_full j n m (inr le) other = le

-- at most, and not the same
below_of : (x y : ℕ) → x ≤ y → (x ≡ y → ⊥) → x < y
below_of x y le other = by_test (x == y) refl
  where
    by_test : (b : Bool) → (x == y) ≡ b → x < y
    by_test true e = absurd (other (grind (arith, nat_tests)))
    by_test false e = grind (arith, nat_tests, le)

pub parts : LawsBelow → (sizes : Sizes) (j : UploadJob) → IsUpload j → HasRoom sizes j → (f k : ℕ) (s : State) (c : Client) (q : ℕ) (held : List ℕ) (moments : List Moment)
    → Stage j s c q (part_of j (length held)) → 0 < length held → length held < length j.file → OnImage j.image (λ t. t.upload ≡ upload_of j held) s.device → IsFront held j.file
    → length j.file ≤ length held + steps_of f (j.chunk - 7) → c.sent + f ≤ enough_packets j → suc f ≤ k → IsRun sizes s (delivered k) moments → AreAccepted moments → IsDoneSoon j (state_at_end s moments)
parts law sizes j is fits zero k s c q held moments st some within up_ front far le enough run ok = absurd (omega (arith, far, within))
parts law sizes j is fits (suc f) (suc (suc k)) s c q held (a ∷ b ∷ moments) st some within up_ front far le enough run ok =
    let p = part_pair law sizes j s c q (part_of j (length held)) held a b is st (a_part (length held) some (front_short held j.file front) refl)
    (part_on sizes j s.device held fits.unit fits.few fits.chunk some within up_ front) run.0 run.1.0 ok.0 in
    elim (same_or (length (held ++ p.more)) (length j.file)) [
      | inl full ↦ finish law sizes j k s b.state c q (part_of j (length held)) held moments j.ending refl is st p full (omega (arith, le)) run.1.1 ok.1.1
      | inr other ↦
          (let longer = front_short (held ++ p.more) j.file p.front in
          let step = not_full j (length held) (length (held ++ p.more)) p.further other in
          let below : length (held ++ p.more) < length j.file = below_of (length (held ++ p.more)) (length j.file) longer other in
          let turn = p.turn ∙ ap (λ (n : Next). goes_on (with_answer c p.told) n) (at_part j (length (held ++ p.more)) (omega (arith, some, step)) below) in
          parts law sizes j is fits f (suc k) b.state (next_client c p.told (part_of j (length (held ++ p.more)))) _ (held ++ p.more) moments
          (next_stage sizes j s b.state c q (part_of j (length held)) (part_of j (length (held ++ p.more))) p.told st (omega (arith, le)) p.heard turn)
          (omega (arith, some, step)) below p.upload p.front (omega (arith, far, step)) (omega (arith, le)) (omega (arith, enough)) run.1.1 ok.1.1)
    ]
parts law sizes j is fits (suc f) zero s c q held moments st some within up_ front far le enough run ok = absurd (omega (arith, enough))
parts law sizes j is fits (suc f) (suc zero) s c q held moments st some within up_ front far le enough run ok = absurd (omega (arith, enough))
parts law sizes j is fits (suc f) (suc (suc k)) s c q held [] st some within up_ front far le enough run ok = absurd run
parts law sizes j is fits (suc f) (suc (suc k)) s c q held (a ∷ []) st some within up_ front far le enough run ok = absurd run.1

steps_mul : (f n : ℕ) → steps_of f n ≡ n * f
steps_mul zero n = omega arith
steps_mul (suc f) n = let rest = steps_mul f n in let more = mul-suc n f in omega (arith, rest, more)

-- enough steps for the whole file, once a chunk less seven is there
pub enough_steps : (n x : ℕ) → 0 < x → n ≤ x + steps_of (n / x) x
enough_steps n x some = let whole = div-add-mod n x in let rest = mod-lt n some in let steps = steps_mul (n / x) x in omega (arith, whole, rest, steps)

begun_stage : (sizes : Sizes) (image : List ℕ) (second : Option (List ℕ)) (j : UploadJob) → Stage j (client_begins (first_state sizes image second) (uploads j)).state (begun (uploads j)) 0 (start_of j)
begun_stage sizes image second j = record {
  alone = record { up = refl; unarmed = refl; clients = refl; before = []; packets = refl; count = refl };
  going = refl;
  job = refl;
  packet = refl;
  asked = refl;
}

from_start : LawsBelow → (sizes : Sizes) (image : List ℕ) (second : Option (List ℕ)) (j : UploadJob) (k : ℕ) (s : State) (moments : List Moment) → s ≡ (client_begins (first_state sizes image second) (uploads j)).state → IsUpload j → HasRoom sizes j → enough_packets j ≤ k
    → IsRun sizes s (delivered k) moments → AreAccepted moments → IsDoneSoon j (state_at_end s moments)
from_start law sizes image second j (suc (suc k)) s (a ∷ b ∷ moments) e is fits enough run ok =
    let st : Stage j s (begun (uploads j)) 0 (start_of j) = subst (λ (x : State). Stage j x (begun (uploads j)) 0 (start_of j)) (sym e) (begun_stage sizes image second j) in
    let none : NoUploads s.device = subst (λ (x : State). NoUploads x.device) (sym e) (no_upload sizes image second) in
    let p = part_pair law sizes j s (begun (uploads j)) 0 (start_of j) [] a b is st (the_start refl)
    (start_on sizes j s.device fits.unit fits.few fits.chunk is.some none) run.0 run.1.0 ok.0 in
    let big = fits.chunk in
    let few : (begun (uploads j)).sent ≤ enough_packets j = omega arith in
    elim (same_or (length p.more) (length j.file)) [
      | inl full ↦ finish law sizes j k s b.state (begun (uploads j)) 0 (start_of j) [] moments j.ending refl is st p full (omega arith) run.1.1 ok.1.1
      | inr other ↦
          (let longer = front_short p.more j.file p.front in
          let step = not_full j 0 (length p.more) p.further other in
          let below : length p.more < length j.file = below_of (length p.more) (length j.file) longer other in
          let far = enough_steps (length j.file) (j.chunk - 7) (omega (arith, big)) in
          let turn = p.turn ∙ ap (λ (n : Next). goes_on (with_answer (begun (uploads j)) p.told) n) (at_part j (length p.more) (omega (arith, big, step)) below) in
          parts law sizes j is fits (length j.file / (j.chunk - 7)) (suc k) b.state (next_client (begun (uploads j)) p.told (part_of j (length p.more))) _ p.more moments
          (next_stage sizes j s b.state (begun (uploads j)) 0 (start_of j) (part_of j (length p.more)) p.told st few p.heard turn)
          (omega (arith, big, step)) below p.upload p.front (omega (arith, far, step)) (omega arith) (omega (arith, enough)) run.1.1 ok.1.1)
    ]
from_start law sizes image second j zero s moments e is fits enough run ok = absurd (omega (arith, enough))
from_start law sizes image second j (suc zero) s moments e is fits enough run ok = absurd (omega (arith, enough))
from_start law sizes image second j (suc (suc k)) s [] e is fits enough run ok = absurd run
from_start law sizes image second j (suc (suc k)) s (a ∷ []) e is fits enough run ok = absurd run.1

pub few_packets : LawsBelow → (sizes : Sizes) (image : List ℕ) (second : Option (List ℕ)) (j : UploadJob) (k : ℕ) (m : Moment) (moments : List Moment) → IsUpload j → HasRoom sizes j → enough_packets j ≤ k
    → IsRun sizes (first_state sizes image second) (begins (uploads j) ∷ delivered k) (m ∷ moments) → AreAccepted moments → IsDoneSoon j (state_at_end m.state moments)
few_packets law sizes image second j k m moments is fits enough run ok =
    from_start law sizes image second j k m.state moments (ap (λ (x : Moment). x.state) run.0) is fits enough run.1 ok
