-- The upload's own packet came to the device.
use Rattle.std.proofs.Common.{◌≡◌, ◌⊎◌, inl, inr, ◌≤◌, ◌<◌, ◌+◌, ◌-◌, ◌++◌, ℕ, List, [], ◌∷◌, length, true, false, Option, Some, None, Result, refl, sym, ap, subst, ◌∙◌, arith}
use Rattle.std.specs.Prelude.{All}
use Rattle.smp_cbor.specs.Shortest.{shortest}
use Rattle.smp_model.specs.declared.device.AbstractDevice.{AbstractDevice}
use Rattle.smp_model.specs.declared.device.Sizes.{Sizes}
use Rattle.smp_model.specs.Does.{does}
use Rattle.smp_model.specs.Handled.{response_to, is_reset}
use Rattle.smp_model.specs.Meaning.{meaning}
use Rattle.smp_model.specs.Meant.{Meant}
use Rattle.smp_model.specs.Said as said
use Rattle.smp_model.specs.Said.{Said, is_error, reply_message, reply_value}
use Rattle.smp_model.specs.Steps.{Step, side_at, applied}
use Rattle.smp_world.specs.Below.{LawsBelow}
use Rattle.smp_reply.specs.declared.answer.Asked.{Asked as Kind_of_answer}
use Rattle.smp_reply.specs.Held.{CanSay}
use Rattle.smp_reply.specs.Told as told
use Rattle.smp_jobs.specs.Clients.{Client, goes_on, with_answer}
use Rattle.smp_device.specs.Goings.{Armed, durable, Booted, after_going}
use Rattle.smp_world.specs.Comings.{booted_if, Came, Comes, after_coming, is_up_after}
use Rattle.smp_jobs.specs.Jobs.{UploadJob, Job, uploads, Next, next, mark_of}
use Rattle.smp_world.specs.Deliveries.{newest, count_of, IsAccepted, HasRoom}
use Rattle.smp_world.specs.Runs.{Mail, State, nth}
use Rattle.smp_world.specs.UploadJobs.{IsUpload}
use Rattle.smp_world.proofs.Durably.{means, durable_counted}
use Rattle.smp_world.proofs.FairPackets.{mark_means}
use Rattle.smp_world.proofs.WholeUploads.{Only}
use Rattle.smp_world.proofs.FairSteps.{other_request_fair}
use Rattle.smp_world.proofs.NewestMail.{newest_own, count_own}
use Rattle.smp_world.proofs.Numbered.{Each}
use Rattle.smp_world.proofs.OtherRequests.{IsOther}
use Rattle.smp_world.proofs.ClientKinds.{IsOfKind, HasKind}
use Rattle.smp_world.proofs.DeliveredMail.{turn_is}
use Rattle.smp_world.proofs.MarkAnswers.{MarkShape, mark_shape, from_right, told_offset, told_done}
use Rattle.smp_world.proofs.FewPackets.{steps_of, part_means, part_no_reset}
use Rattle.smp_world.proofs.Calm.{unstruck, no_boot}
use Rattle.smp_world.proofs.OtherJobs.{SameSides, by_durable, clean_after, clean_same, mail_of, part_fair}
use Rattle.smp_world.proofs.OrderlyPhases.{Base, Going, MarkAnswered, MarkWaits, PartAnswered, PartWaits, Phase, mark_answered, mark_waits, part_answered, part_waits, upload_same}

-- What came of a packet that was not struck and is no reset.
pub came_side : (sizes : Sizes) (h : Option Armed) (d : AbstractDevice) (mm : Result Meant ℕ) (c : Came) → is_reset mm ≡ false → c.went.struck ≡ false → Comes sizes h d mm c
    → SameSides (applied (response_to sizes d mm).steps d) (after_coming c d)
came_side sizes h d mm c not_reset calm k = by_durable (applied (response_to sizes d mm).steps d) (after_coming c d)
    (ap (λ (b : Option Booted). durable (booted_if b (after_going c.went d))) (no_boot (is_reset mm) c.went.armed (after_going c.went d) c.boot not_reset k.boots)
    ∙ durable_counted c.went.reply [] (applied c.went.taken d)
    ∙ ap (λ (t : List Step). durable (applied t d)) (unstruck sizes h d mm c.went calm k.goes).0)

pub came_up : (sizes : Sizes) (h : Option Armed) (d : AbstractDevice) (mm : Result Meant ℕ) (c : Came) → is_reset mm ≡ false → c.went.struck ≡ false → Comes sizes h d mm c → is_up_after c.boot c.went.reply ≡ true
came_up sizes h d mm c not_reset calm k =
    ap (λ (b : Option Booted). is_up_after b c.went.reply) (no_boot (is_reset mm) c.went.armed (after_going c.went d) c.boot not_reset k.boots)
    ∙ ap (λ (r : Option Said). is_up_after None r) (unstruck sizes h d mm c.went calm k.goes).1

-- the state after a packet came up
pub record CameUp (s t : State) (p : Mail) (reply : Said) : Type 0 where
  pub up : t.up ≡ true
  pub clients : t.clients ≡ s.clients
  pub packets : t.packets ≡ s.packets
  pub replies : t.replies ≡ s.replies ++ record { client = p.client; message = reply_message p.message reply } ∷ []

-- of the own packet
own_answered : LawsBelow → (sizes : Sizes) (j : UploadJob) → IsUpload j → HasRoom sizes j → (s t : State) (c : Client) (reply : Said) (rs : List Mail) → c.job ≡ uploads j → (w : PartWaits sizes j s.device c)
    → reply ≡ (does sizes s.device w.request).reply → (is_error reply ≡ false) × CanSay reply → SameSides (applied (does sizes s.device w.request).steps s.device) t.device
    → newest 1 rs ≡ Some (record { client = 1; message = reply_message c.request.packet reply }) → PartAnswered j t.device rs c
own_answered law sizes j is room s t c reply rs job w same ok side last =
    let went = w.goes s.device (λ i. refl) (ap (λ (x : Said). is_error x) (sym same) ∙ ok.0) in
    let offset : reply ≡ said.offset (length (w.held ++ went.more)) went.matched = same ∙ went.reply in
    let told_ : told.told c.request.asked (shortest (reply_value 1 reply)) ≡ Some (told.offset (length (w.held ++ went.more)) went.matched) =
    subst (λ (x : Kind_of_answer). told.told x (shortest (reply_value 1 reply)) ≡ Some (told.offset (length (w.held ++ went.more)) went.matched)) (sym w.asked)
    (told_offset law reply (length (w.held ++ went.more)) went.matched offset ok.1) in
    let t_ = told.offset (length (w.held ++ went.more)) went.matched in
    let far = w.far in
    let big = room.chunk in
    let has = is.some in
    record {
      held = w.held ++ went.more;
      parts = w.parts;
      reply = reply_message c.request.packet reply;
      told = t_;
      last = last;
      turn = turn_is c w.sequence w.request reply t_ w.packet told_
          ∙ ap (λ (x : Job). goes_on (with_answer c t_) (next x (t_ ∷ c.answers))) job
          ∙ ap (λ (n : Next). goes_on (with_answer c t_) n) (from_right j (length (w.held ++ went.more)) went.matched went.right);
      some = some_held (length (w.held ++ went.more)) went.further has big;
      from_file = clean_same j (applied (does sizes s.device w.request).steps s.device) t.device side (clean_after j sizes s.device w.request (part_fair j w.request is w.part) w.from_file);
      upload = upload_same j (w.held ++ went.more) (applied (does sizes s.device w.request).steps s.device) t.device side went.upload;
      front = went.front;
      far = further_far (length (w.held ++ went.more)) went.further;
      few = w.few;
    }
  where
    some_held : (n : ℕ) → ((n ≡ length j.file) ⊎ (length w.held + (j.chunk - 7) ≤ n)) → 0 < length j.file → 32 ≤ j.chunk → 0 < n
    some_held n (inl e) has big = omega (arith, e, has)
    some_held n (inr le) has big = omega (arith, le, big)

    further_far : (n : ℕ) → ((n ≡ length j.file) ⊎ (length w.held + (j.chunk - 7) ≤ n)) → (n ≡ length j.file) ⊎ (length j.file ≤ n + steps_of w.parts (j.chunk - 7))
    further_far n (inl e) = inl e
    further_far n (inr le) = let far = w.far in inr (omega (arith, le, far))

mark_answer : LawsBelow → (sizes : Sizes) (j : UploadJob) → IsUpload j → (s t : State) (c : Client) (reply : Said) (rs : List Mail) → c.job ≡ uploads j → (w : MarkWaits j s.device c)
    → reply ≡ (does sizes s.device (mark_of j)).reply → (is_error reply ≡ false) × CanSay reply → SameSides (applied (does sizes s.device (mark_of j)).steps s.device) t.device
    → newest 1 rs ≡ Some (record { client = 1; message = reply_message c.request.packet reply }) → MarkAnswered j t.device rs c
mark_answer law sizes j is s t c reply rs job w same ok side last =
    let size = is.hash in
    let fair = mark_shape sizes j s.device (omega (arith, size)) in
    let told_ : told.told c.request.asked (shortest (reply_value 1 reply)) ≡ Some told.done =
    subst (λ (x : Kind_of_answer). told.told x (shortest (reply_value 1 reply)) ≡ Some told.done) (sym w.asked)
    (told_done law reply (subst MarkShape (sym same) fair) ok.0 ok.1) in
    record {
      reply = reply_message c.request.packet reply;
      told = told.done;
      last = last;
      turn = turn_is c w.sequence (mark_of j) reply told.done w.packet told_ ∙ ap (λ (x : Job). goes_on (with_answer c told.done) (next x (told.done ∷ c.answers))) job;
      from_file = clean_same j (applied (does sizes s.device (mark_of j)).steps s.device) t.device side (clean_after j sizes s.device (mark_of j) (other_request_fair law.due (Only j) (mark_of j) (λ x. x, λ x. x)) w.from_file);
      few = w.few;
    }

pub some_same : (p q : Mail) → Some p ≡ Some q → p ≡ q
some_same p q e = cc

-- the base outlasts a packet that came up
pub base_came : (j : UploadJob) (s t : State) (c : Client) (p : Mail) (reply : Said) → CameUp s t p reply → Base j s c → Base j t c
base_came j s t c p reply u b = record {
  up = u.up;
  client = ap (λ (cs : List Client). nth cs 1) u.clients ∙ b.client;
  going = b.going;
  job = b.job;
  others = subst (Each (λ n x. (n ≡ 1 → ⊥) → HasKind IsOther x)) (sym u.clients) b.others;
  mails = subst (All (λ (q : Mail). (q.client ≡ 1 → ⊥) → IsOfKind IsOther q.message)) (sym u.packets) b.mails;
  newest = ap (newest 1) u.packets ∙ b.newest;
  sent = ap (count_of 1) u.packets ∙ b.sent;
  answers = b.answers;
}

-- The own packet came up: it is the newest, and has no answer yet; nothing strikes, and the device accepts it.
pub record OwnComes (sizes : Sizes) (s t : State) (p : Mail) (cm : Came) : Type 0 where
  pub newest_one : newest 1 s.packets ≡ Some p
  pub once : count_of 1 s.replies + 1 ≡ count_of 1 s.packets
  pub accepted : IsAccepted cm.went.reply
  pub calm : cm.went.struck ≡ false
  pub comes : Comes sizes s.armed s.device (meaning p.message) cm
  pub device : t.device ≡ after_coming cm s.device
  pub came : (x : Said) → cm.went.reply ≡ Some x → is_reset (meaning p.message) ≡ false → CameUp s t p x

abbrev answer_of : Sizes → State → Meant → Said
answer_of sizes s r = (does sizes s.device r).reply

-- what is so then, where the packet is that of a request: it was answered, and its reply is the newest
pub record OwnCame (sizes : Sizes) (s t : State) (c : Client) (p : Mail) (cm : Came) (r : Meant) : Type 0 where
  pub accepted : (is_error (answer_of sizes s r) ≡ false) × CanSay (answer_of sizes s r)
  pub state : CameUp s t p (answer_of sizes s r)
  pub last : newest 1 t.replies ≡ Some (record { client = 1; message = reply_message c.request.packet (answer_of sizes s r) })
  pub count : count_of 1 t.replies ≡ count_of 1 s.replies + 1
  pub sides : SameSides (applied (does sizes s.device r).steps s.device) t.device

own_came : (sizes : Sizes) (s t : State) (c : Client) (p : Mail) (cm : Came) (r : Meant) → p ≡ mail_of c → meaning c.request.packet ≡ means r → is_reset (means r) ≡ false → OwnComes sizes s t p cm
    → OwnCame sizes s t c p cm r
own_came sizes s t c p cm r same means_ no_reset k =
    let meant_ : meaning p.message ≡ means r = ap (λ (x : Mail). meaning x.message) same ∙ means_ in
    let comes : Comes sizes s.armed s.device (means r) cm = subst (λ (x : Result Meant ℕ). Comes sizes s.armed s.device x cm) meant_ k.comes in
    let said_ : cm.went.reply ≡ Some (answer_of sizes s r) = (unstruck sizes s.armed s.device (means r) cm.went k.calm comes.goes).1 in
    let state = k.came (answer_of sizes s r) said_ (ap is_reset meant_ ∙ no_reset) in
    let own : p.client ≡ 1 = ap (λ (x : Mail). x.client) same in
    let reply : Mail = record { client = p.client; message = reply_message p.message (answer_of sizes s r) } in
    record {
      accepted = subst IsAccepted said_ k.accepted;
      state = state;
      last = ap (newest 1) state.replies ∙ newest_own 1 s.replies reply own
          ∙ ap (λ (x : Mail). Some (record { client = x.client; message = reply_message x.message (answer_of sizes s r) })) same;
      count = ap (count_of 1) state.replies ∙ count_own 1 s.replies reply own;
      sides = λ i. ap (side_at i) k.device ∙ came_side sizes s.armed s.device (means r) cm no_reset k.calm comes i;
    }

pub own_up : LawsBelow → (sizes : Sizes) (j : UploadJob) → IsUpload j → HasRoom sizes j → (s t : State) (c : Client) (p : Mail) (cm : Came) → Base j s c → Phase sizes j s.device s.replies c
    → OwnComes sizes s t p cm → Going sizes j t
own_up law sizes j is room s t c p cm b (part_waits n w) k =
    let same : p ≡ mail_of c = some_same p (mail_of c) (sym k.newest_one ∙ b.newest) in
    let came = own_came sizes s t c p cm w.request same (part_means law j c w.sequence w.request is w.part w.packet) (part_no_reset j w.request w.part) k in
    record {
      client = c;
      base = base_came j s t c p (answer_of sizes s w.request) came.state b;
      phase = part_answered (came.count ∙ n) (own_answered law sizes j is room s t c (answer_of sizes s w.request) t.replies b.job w refl came.accepted came.sides came.last);
    }
own_up law sizes j is room s t c p cm b (mark_waits n w) k =
    let same : p ≡ mail_of c = some_same p (mail_of c) (sym k.newest_one ∙ b.newest) in
    let came = own_came sizes s t c p cm (mark_of j) same (ap meaning w.packet ∙ mark_means law j w.sequence is) refl k in
    record {
      client = c;
      base = base_came j s t c p (answer_of sizes s (mark_of j)) came.state b;
      phase = mark_answered (came.count ∙ n) (mark_answer law sizes j is s t c (answer_of sizes s (mark_of j)) t.replies b.job w refl came.accepted came.sides came.last);
    }
own_up law sizes j is room s t c p cm b (part_answered n w) k = let sent = b.sent in absurd (omega (arith, k.once, n, sent))
own_up law sizes j is room s t c p cm b (mark_answered n w) k = let sent = b.sent in absurd (omega (arith, k.once, n, sent))
