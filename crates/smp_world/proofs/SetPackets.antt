-- What comes of packets from such a job's first one on, where nothing strikes: of its own, and of those of other jobs.
use Rattle.std.proofs.Common.{◌≡◌, ◌⊎◌, inl, inr, ◌≤◌, ℕ, List, length, false, Option, Result, Ok, Err, refl, sym, ap, subst, ◌∙◌, arith}
use Rattle.std.specs.Prelude.{IfSome, All}
use Rattle.std.proofs.lemmas.List.Elements.{All-weaker}
use Rattle.smp_header.specs.Message.{Message}
use Rattle.smp_model.specs.declared.device.AbstractDevice.{AbstractDevice}
use Rattle.smp_model.specs.declared.device.Sizes.{Sizes}
use Rattle.smp_model.specs.declared.setting.Setting.{Setting}
use Rattle.smp_model.specs.Does.{does}
use Rattle.smp_model.specs.Handled.{response_to, is_reset}
use Rattle.smp_model.specs.Meaning.{meaning}
use Rattle.smp_model.specs.Meant as meant
use Rattle.smp_model.specs.Meant.{Meant}
use Rattle.smp_model.specs.Said.{Said, reply_message}
use Rattle.smp_model.specs.Steps.{Step, applied}
use Rattle.smp_jobs.specs.Clients.{Client, packet_of}
use Rattle.smp_device.specs.Goings.{Armed, after_going, Booted}
use Rattle.smp_world.specs.Comings.{booted_if, Came, Comes, after_coming}
use Rattle.smp_world.specs.Runs.{Mail, State}
use Rattle.smp_world.specs.SetJobs.{IsSetJob}
use Rattle.smp_world.specs.Below.{LawsBelow, OnlySaves, StepsAreDue}
use Rattle.smp_world.proofs.Durably.{means}
use Rattle.smp_world.proofs.Numbered.{Each, each_weaker}
use Rattle.smp_world.proofs.KeptSettings.{Memory, memory, memory_counted, IsNth, is_nth, Kept, same_kept, else_kept, Fact, mine_does}
use Rattle.smp_world.proofs.SparingRequests.{IsElse, IfSpares, else_means}
use Rattle.smp_world.proofs.ClientKinds.{IsOfKind, HasKind}
use Rattle.smp_world.proofs.SetClients.{AnswersMine, IsMine, MineOk, kept_answer, kept_client, kept_mine}
use Rattle.smp_world.proofs.Calm.{unstruck, no_boot, not_reset}

-- The state from the job's first packet on. Its client has the number k.
abbrev pub ClientFor : List Setting → ℕ → Memory → ℕ → Client → Type 0
ClientFor settings k x n c = ((n ≡ k) × MineOk settings c x) ⊎ ((n ≡ k → ⊥) × HasKind (IsElse settings) c)

abbrev pub MailFor : List Setting → ℕ → Memory → Mail → Type 0
MailFor settings k x p = ((p.client ≡ k) × IsMine settings p.message x) ⊎ ((p.client ≡ k → ⊥) × IsOfKind (IsElse settings) p.message)

abbrev pub ReplyFor : List Setting → ℕ → Memory → Mail → Type 0
ReplyFor settings k x r = r.client ≡ k → AnswersMine settings r.message x

pub record After (settings : List Setting) (k : ℕ) (x : Memory) (cs : List Client) (ps rs : List Mail) : Type 0 where
  pub clients : Each (ClientFor settings k x) cs
  pub count : k ≤ length cs
  pub packets : All (MailFor settings k x) ps
  pub replies : All (ReplyFor settings k x) rs

abbrev pub Holds : List Setting → ℕ → State → Type 0
Holds settings k s = After settings k (memory s.device) s.clients s.packets s.replies

kept_for : (settings : List Setting) (k : ℕ) (x y : Memory) → Kept settings x y → (n : ℕ) (c : Client) → ClientFor settings k x n c → ClientFor settings k y n c
kept_for settings k x y kept n c (inl h) = inl (h.0, kept_client settings c x y kept h.1)
kept_for settings k x y kept n c (inr h) = inr h

kept_mail : (settings : List Setting) (k : ℕ) (x y : Memory) → Kept settings x y → (p : Mail) → MailFor settings k x p → MailFor settings k y p
kept_mail settings k x y kept p (inl h) = inl (h.0, kept_mine settings p.message x y kept h.1)
kept_mail settings k x y kept p (inr h) = inr h

pub kept_after : (settings : List Setting) (k : ℕ) (x y : Memory) (cs : List Client) (ps rs : List Mail) → Kept settings x y → After settings k x cs ps rs → After settings k y cs ps rs
kept_after settings k x y cs ps rs kept a = record {
  clients = each_weaker (ClientFor settings k x) (ClientFor settings k y) cs (kept_for settings k x y kept) a.clients;
  count = a.count;
  packets = All-weaker (MailFor settings k x) (MailFor settings k y) (kept_mail settings k x y kept) ps a.packets;
  replies = All-weaker (ReplyFor settings k x) (ReplyFor settings k y) (λ r f is. kept_answer settings r.message x y kept (f is)) rs a.replies;
}

came_memory : (sizes : Sizes) (h : Option Armed) (d : AbstractDevice) (mm : Result Meant ℕ) (c : Came) → is_reset mm ≡ false → c.went.struck ≡ false → Comes sizes h d mm c
    → memory (after_coming c d) ≡ memory (applied (response_to sizes d mm).steps d)
came_memory sizes h d mm c not_reset calm k =
    ap (λ (b : Option Booted). memory (booted_if b (after_going c.went d))) (no_boot (is_reset mm) c.went.armed (after_going c.went d) c.boot not_reset k.boots)
    ∙ memory_counted c.went.reply (applied c.went.taken d)
    ∙ ap (λ (t : List Step). memory (applied t d)) (unstruck sizes h d mm c.went calm k.goes).0

spares_no_reset : (settings : List Setting) (mm : Result Meant ℕ) → IfSpares settings mm → is_reset mm ≡ false
spares_no_reset settings (Err n) s = refl
spares_no_reset settings (Ok (meant.echo text)) s = refl
spares_no_reset settings (Ok meant.image_list) s = refl
spares_no_reset settings (Ok (meant.image_set hash confirm)) s = refl
spares_no_reset settings (Ok (meant.upload image len off sha part)) s = refl
spares_no_reset settings (Ok (meant.setting_write name val)) s = refl
spares_no_reset settings (Ok meant.save) s = refl
spares_no_reset settings (Ok (meant.file_read off name)) s = refl
spares_no_reset settings (Ok (meant.file_write off part len name)) s = refl
spares_no_reset settings (Ok m) s = absurd s

spared_kept : StepsAreDue → OnlySaves → (settings : List Setting) (sizes : Sizes) (d : AbstractDevice) (mm : Result Meant ℕ) → IfSpares settings mm → Kept settings (memory d) (memory (applied (response_to sizes d mm).steps d))
spared_kept due law settings sizes d (Ok m) s = else_kept due law settings sizes d m s
spared_kept due law settings sizes d (Err n) s = record { running = same_kept settings d.running d.running refl; saved = inl refl }

pub else_came : LawsBelow → OnlySaves → (settings : List Setting) (sizes : Sizes) (h : Option Armed) (d : AbstractDevice) (m : Message) (c : Came) → IsOfKind (IsElse settings) m → c.went.struck ≡ false
    → Comes sizes h d (meaning m) c → Kept settings (memory d) (memory (after_coming c d))
else_came read law settings sizes h d m c kind calm k =
    let spares : IfSpares settings (meaning m) = subst (λ (x : Message). IfSpares settings (meaning x)) (sym kind.packet) (else_means read settings kind.sequence kind.request kind.kind) in
    subst (Kept settings (memory d)) (sym (came_memory sizes h d (meaning m) c (spares_no_reset settings (meaning m) spares) calm k)) (spared_kept read.due law settings sizes d (meaning m) spares)

nth_means : LawsBelow → (settings : List Setting) (i : ℕ) (m : Meant) → IsNth settings i m → meaning (packet_of i m) ≡ means m
nth_means read settings i m (inl k) =
    subst (λ (x : Meant). meaning (packet_of i x) ≡ means x) (sym k.2) (read.requests 1 i (meant.setting_write k.0 k.1) (omega arith) (k.4, (k.5, tt)))
nth_means read settings i m (inr k) = subst (λ (x : Meant). meaning (packet_of i x) ≡ means x) (sym k.0) (read.requests 1 i meant.save (omega arith) tt)

nth_no_reset : (settings : List Setting) (i : ℕ) (m : Meant) → IsNth settings i m → is_reset (means m) ≡ false
nth_no_reset settings i m (inl k) = ap (λ (x : Meant). is_reset (means x)) k.2
nth_no_reset settings i m (inr k) = ap (λ (x : Meant). is_reset (means x)) k.0

-- what came of a packet of the job
pub record MineCame (settings : List Setting) (d : AbstractDevice) (m : Message) (c : Came) : Type 0 where
  pub kept : Kept settings (memory d) (memory (after_coming c d))
  pub replied : IfSome c.went.reply (λ s. AnswersMine settings (reply_message m s) (memory (after_coming c d)))

pub mine_came : LawsBelow → OnlySaves → (settings : List Setting) → IsSetJob settings → (sizes : Sizes) (h : Option Armed) (d : AbstractDevice) (m : Message) (c : Came) → IsMine settings m (memory d) → c.went.struck ≡ false
    → Comes sizes h d (meaning m) c → MineCame settings d m c
mine_came read law settings is sizes h d m c mine calm k =
    let nth_ = is_nth settings mine.number mine.request is.texts mine.asked in
    let means_ : meaning m ≡ means mine.request = ap meaning mine.packet ∙ nth_means read settings mine.number mine.request nth_ in
    let comes : Comes sizes h d (Ok mine.request) c = subst (λ (x : Result Meant ℕ). Comes sizes h d x c) means_ k in
    let same = came_memory sizes h d (Ok mine.request) c (nth_no_reset settings mine.number mine.request nth_) calm comes in
    let did = mine_does read law settings mine.number mine.request sizes d is.names mine.asked nth_ mine.has in
    record {
      kept = subst (Kept settings (memory d)) (sym same) did.kept;
      replied = subst (λ (r : Option Said). IfSome r (λ s. AnswersMine settings (reply_message m s) (memory (after_coming c d)))) (sym (unstruck sizes h d (Ok mine.request) c.went calm comes.goes).1)
          (subst (λ (x : Message). AnswersMine settings (reply_message x (does sizes d mine.request).reply) (memory (after_coming c d))) (sym mine.packet) (record {
            number = mine.number;
            sequence = refl;
            fact = λ t. subst (Fact settings mine.number) (sym same) (did.fact t);
          }));
    }
