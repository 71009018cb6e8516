-- The client of a job that writes settings: what it asks for, and what its answers say of the settings that run.
use Rattle.std.proofs.Common.{◌≡◌, ◌≤◌, ◌<◌, ◌+◌, ◌%◌, ◌==◌, nat_lt, ℕ, zero, suc, List, [], ◌∷◌, length, Bool, true, false, Option, Some, None, refl, sym, ap, subst, ◌∙◌, arith}
use Rattle.std.proofs.lemmas.Bool.Decides.{nat_tests}
use Rattle.smp_header.specs.Message.{Message}
use Rattle.smp_model.specs.declared.setting.Setting.{Setting}
use Rattle.smp_model.specs.Meant as meant
use Rattle.smp_model.specs.Meant.{Meant}
use Rattle.smp_reply.specs.declared.answer.Asked.{Asked}
use Rattle.smp_reply.specs.declared.answer.Asked.TheVariants as kinds
use Rattle.smp_reply.specs.Told as told
use Rattle.smp_reply.specs.Told.{Told}
use Rattle.smp_jobs.specs.Clients.{Client, Turn, packet_of, stops, sends, asks_for, goes_on, with_answer, after_moved, client_hears, client_waited}
use Rattle.smp_jobs.specs.Jobs.{Job, sets, End, done, no_answer, refused, stalled, Next, asks, ends, nth_of_set, next, may_send, asked_of}
use Rattle.smp_client.specs.Requests as requests
use Rattle.smp_client.specs.Requests.{Moved, answer_by, wait_ends, is_strange, by_answer}
use Rattle.smp_world.specs.SetJobs.{IsSetJob}
use Rattle.smp_world.proofs.Cases.{by_if}
use Rattle.smp_world.proofs.Numbered.{small_mod}
use Rattle.smp_world.proofs.KeptSettings.{Memory, Has, has_more, kept_has, Kept, AllSaved, kept_saved, Fact, kept_fact}
use Rattle.smp_world.proofs.UploadClients.{IsFor, done_told, Answers, answer_parts}

-- a packet of it: the request of a number, sent when the settings before it were set
pub record IsMine (settings : List Setting) (m : Message) (x : Memory) : Type 0 where
  pub number : ℕ
  pub request : Meant
  pub asked : nth_of_set settings number ≡ asks request
  pub packet : m ≡ packet_of number request
  pub has : Has settings number x.running

-- a reply to one
pub record AnswersMine (settings : List Setting) (m : Message) (x : Memory) : Type 0 where
  pub number : ℕ
  pub sequence : m.sequence ≡ number
  pub fact : told.told kinds.Done m.bytes ≡ Some told.done → Fact settings number x

-- the client, while it goes on
pub record GoesOn (settings : List Setting) (c : Client) (x : Memory) : Type 0 where
  pub job : c.job ≡ sets settings
  pub number : ℕ
  pub count : length c.answers ≡ number
  pub within : number ≤ length settings
  pub request : Meant
  pub asking : nth_of_set settings number ≡ asks request
  pub packet : c.request.packet ≡ packet_of number request
  pub asked : c.request.asked ≡ kinds.Done
  pub has : Has settings number x.running

pub data MineOk (settings : List Setting) (c : Client) (x : Memory) : Type 0 where
  going : c.ended ≡ None → GoesOn settings c x → MineOk settings c x
  over : (e : End) → c.ended ≡ Some e → (e ≡ done → AllSaved settings x) → MineOk settings c x

abbrev pub SendsMine : List Setting → Option Message → Memory → Type 0
SendsMine settings None x = Unit {0}
SendsMine settings (Some m) x = IsMine settings m x

abbrev pub TurnMine : List Setting → Memory → Turn → Type 0
TurnMine settings x t = MineOk settings t.client x × SendsMine settings t.packet x

-- what is kept keeps all
pub kept_mine : (settings : List Setting) (m : Message) (x y : Memory) → Kept settings x y → IsMine settings m x → IsMine settings m y
kept_mine settings m x y k i = record { number = i.number; request = i.request; asked = i.asked; packet = i.packet; has = kept_has settings i.number x.running y.running k.running i.has }

pub kept_answer : (settings : List Setting) (m : Message) (x y : Memory) → Kept settings x y → AnswersMine settings m x → AnswersMine settings m y
kept_answer settings m x y k a = record { number = a.number; sequence = a.sequence; fact = λ t. kept_fact settings a.number x y k (a.fact t) }

pub kept_client : (settings : List Setting) (c : Client) (x y : Memory) → Kept settings x y → MineOk settings c x → MineOk settings c y
kept_client settings c x y k (going n g) = going n (record {
  job = g.job;
  number = g.number;
  count = g.count;
  within = g.within;
  request = g.request;
  asking = g.asking;
  packet = g.packet;
  asked = g.asked;
  has = kept_has settings g.number x.running y.running k.running g.has;
})
kept_client settings c x y k (over e n f) = over e n (λ d. kept_saved settings x y k (f d))

-- Turns of the client.
not_done : (settings : List Setting) (c : Client) (x : Memory) (e : End) → (e ≡ done → ⊥) → TurnMine settings x (stops c e)
not_done settings c x e n = (over e refl (λ d. absurd (n d)), tt)

stall_not_done : stalled ≡ done → ⊥
stall_not_done e = cc

silent_not_done : no_answer ≡ done → ⊥
silent_not_done e = cc

refused_not_done : (g : Option ℕ) (n : ℕ) → refused g n ≡ done → ⊥
refused_not_done g n e = cc

pub mine_of : (settings : List Setting) (c : Client) (x : Memory) → GoesOn settings c x → IsMine settings c.request.packet x
mine_of settings c x g = record { number = g.number; request = g.request; asked = g.asking; packet = g.packet; has = g.has }

sends_mine : (settings : List Setting) (c : Client) (x : Memory) → c.ended ≡ None → GoesOn settings c x → TurnMine settings x (sends c)
sends_mine settings c x n g =
    by_if (TurnMine settings x) (may_send c.job c.sent) (record { client = record c { sent = c.sent + 1 }; packet = Some c.request.packet }) (stops c stalled)
    (λ _. (going n (record { job = g.job; number = g.number; count = g.count; within = g.within; request = g.request; asking = g.asking; packet = g.packet; asked = g.asked; has = g.has }), mine_of settings c x g))
    (λ _. not_done settings c x stalled stall_not_done)

counted_mine : (settings : List Setting) (c : Client) (x : Memory) (w s : ℕ) → GoesOn settings c x → GoesOn settings (record c { request = record c.request { waits = w; strangers = s } }) x
counted_mine settings c x w s g = record { job = g.job; number = g.number; count = g.count; within = g.within; request = g.request; asking = g.asking; packet = g.packet; asked = g.asked; has = g.has }

wait_mine : (settings : List Setting) (c : Client) (x : Memory) → c.ended ≡ None → GoesOn settings c x → TurnMine settings x (after_moved c (wait_ends c.request))
wait_mine settings c x n g =
    by_if (λ (m : Moved). TurnMine settings x (after_moved c m)) (c.request.waits == 8) (requests.moved c.request requests.no_answer)
    (requests.moved (record c.request { waits = c.request.waits + 1; strangers = 0 }) requests.sends)
    (λ _. not_done settings c x no_answer silent_not_done)
    (λ _. sends_mine settings (record c { request = record c.request { waits = c.request.waits + 1; strangers = 0 } }) x n (counted_mine settings c x (c.request.waits + 1) 0 g))

strange_mine : (settings : List Setting) (c : Client) (x : Memory) → c.ended ≡ None → GoesOn settings c x → TurnMine settings x (after_moved c (is_strange c.request))
strange_mine settings c x n g =
    by_if (λ (m : Moved). TurnMine settings x (after_moved c m)) (c.request.strangers == 63) (wait_ends c.request) (requests.moved (record c.request { strangers = c.request.strangers + 1 }) requests.waits)
    (λ _. wait_mine settings c x n g)
    (λ _. (going n (counted_mine settings c x c.request.waits (c.request.strangers + 1) g), tt))

-- the request of each number up to the count of settings, and the end behind them
nth_asks : (settings : List Setting) (n : ℕ) → n ≤ length settings → (r : Meant) × (nth_of_set settings n ≡ asks r)
nth_asks [] zero le = (meant.save, refl)
nth_asks [] (suc n) le = absurd (omega (arith, le))
nth_asks (s ∷ settings) zero le = (meant.setting_write s.name s.val, refl)
nth_asks (s ∷ settings) (suc n) le = nth_asks settings n (omega (arith, le))

nth_ends : (settings : List Setting) (n : ℕ) → n ≡ length settings → nth_of_set settings (suc n) ≡ ends done
nth_ends [] zero e = refl
nth_ends [] (suc n) e = absurd (omega (arith, e))
nth_ends (s ∷ settings) zero e = absurd (omega (arith, e))
nth_ends (s ∷ settings) (suc n) e = nth_ends settings n (omega (arith, e))

pub asks_done : (settings : List Setting) (n : ℕ) (r : Meant) → nth_of_set settings n ≡ asks r → asked_of r ≡ kinds.Done
asks_done [] zero r e = ap asked_of (sym (asks_same meant.save r e))
  where
    asks_same : (m n : Meant) → asks m ≡ asks n → m ≡ n
    asks_same m n e = cc
asks_done [] (suc n) r e = absurd (ends_not done r e)
  where
    ends_not : (e : End) (m : Meant) → ends e ≡ asks m → ⊥
    ends_not e m k = cc
asks_done (s ∷ settings) zero r e = ap asked_of (sym (asks_same (meant.setting_write s.name s.val) r e))
  where
    asks_same : (m n : Meant) → asks m ≡ asks n → m ≡ n
    asks_same m n e = cc
asks_done (s ∷ settings) (suc n) r e = asks_done settings n r e

-- after an answer to the request of a number
answered_mine : (settings : List Setting) (c : Client) (x : Memory) → IsSetJob settings → c.ended ≡ None → (g : GoesOn settings c x) → Fact settings g.number x
    → TurnMine settings x (goes_on (with_answer c told.done) (nth_of_set settings (suc g.number)))
answered_mine settings c x is n g f = by_number (nat_lt g.number (length settings)) refl
  where
    by_number : (b : Bool) → nat_lt g.number (length settings) ≡ b → TurnMine settings x (goes_on (with_answer c told.done) (nth_of_set settings (suc g.number)))
    by_number true e =
        let lt : g.number < length settings = grind (arith, nat_tests) in
        let next_ = nth_asks settings (suc g.number) (omega (arith, lt)) in
        let few = is.few in
        let count = g.count in
        let number : (c.request.packet.sequence + 1) % 256 ≡ suc g.number =
        ap (λ (m : Message). (m.sequence + 1) % 256) g.packet ∙ small_mod g.number (omega (arith, lt, few)) ∙ omega arith in
        subst (λ (k : Next). TurnMine settings x (goes_on (with_answer c told.done) k)) (sym next_.1)
        (sends_mine settings (asks_for (with_answer c told.done) next_.0) x n (record {
          job = g.job;
          number = suc g.number;
          count = omega (arith, count);
          within = omega (arith, lt);
          request = next_.0;
          asking = next_.1;
          packet = ap (λ (q : ℕ). packet_of q next_.0) number;
          asked = asks_done settings (suc g.number) next_.0 next_.1;
          has = has_more settings g.number x.running g.has (f.set lt);
        }))
    by_number false e =
        let le = g.within in
        let full : g.number ≡ length settings = grind (arith, nat_tests, le) in
        subst (λ (k : Next). TurnMine settings x (goes_on (with_answer c told.done) k)) (sym (nth_ends settings g.number full))
        (over done refl (λ _. f.saved full), tt)

told_mine : (settings : List Setting) (c : Client) (x : Memory) (m : Message) (t : Told) → IsSetJob settings → c.ended ≡ None → GoesOn settings c x → AnswersMine settings m x → Answers c.request m t → IsFor kinds.Done t
    → TurnMine settings x (goes_on (with_answer c t) (next c.job (t ∷ c.answers)))
told_mine settings c x m (told.refused group k) is n g a ans i =
    subst (λ (job : Job). TurnMine settings x (goes_on (with_answer c (told.refused group k)) (next job (told.refused group k ∷ c.answers)))) (sym g.job)
    (not_done settings (with_answer c (told.refused group k)) x (refused group k) (refused_not_done group k))
told_mine settings c x m told.done is n g a ans i =
    let count = g.count in
    let same : a.number ≡ g.number = sym a.sequence ∙ ans.reply.sequence ∙ ap (λ (p : Message). p.sequence) g.packet in
    let fact : Fact settings g.number x = subst (λ (k : ℕ). Fact settings k x) same (a.fact (subst (λ (k : Asked). told.told k m.bytes ≡ Some told.done) g.asked ans.told)) in
    subst (λ (job : Job). TurnMine settings x (goes_on (with_answer c told.done) (next job (told.done ∷ c.answers)))) (sym g.job)
    (subst (λ (k : ℕ). TurnMine settings x (goes_on (with_answer c told.done) (nth_of_set settings k))) (sym (lengthened c.answers g.number count)) (answered_mine settings c x is n g fact))
  where
    lengthened : (answers : List Told) (n : ℕ) → length answers ≡ n → length (told.done ∷ answers) ≡ suc n
    lengthened answers n e = omega (arith, e)
told_mine settings c x m (told.echo t) is n g a ans i = absurd i
told_mine settings c x m (told.images l) is n g a ans i = absurd i
told_mine settings c x m (told.offset p q) is n g a ans i = absurd i
told_mine settings c x m (told.file_part p q r) is n g a ans i = absurd i

pub hears_mine : (settings : List Setting) (c : Client) (x : Memory) (m : Message) → IsSetJob settings → c.ended ≡ None → GoesOn settings c x → AnswersMine settings m x → TurnMine settings x (client_hears c m)
hears_mine settings c x m is n g a = by_told (answer_by c.request.packet c.request.asked m) refl
  where
    by_told : (t : Option Told) → answer_by c.request.packet c.request.asked m ≡ t → TurnMine settings x (after_moved c (by_answer c.request t))
    by_told None e = strange_mine settings c x n g
    by_told (Some t) e =
        let ans = answer_parts c.request m t e in
        told_mine settings c x m t is n g a ans (done_told m.bytes t (subst (λ (k : Asked). told.told k m.bytes ≡ Some t) g.asked ans.told))

pub waited_mine : (settings : List Setting) (c : Client) (x : Memory) → c.ended ≡ None → GoesOn settings c x → TurnMine settings x (client_waited c)
waited_mine settings c x n g = wait_mine settings c x n g
