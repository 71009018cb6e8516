-- What replies to the packets of an upload job tell.
use Rattle.std.proofs.Common.{◌≡◌, ℕ, length, Bool, false, Option, Some, None, Result, Ok, sym, ap, subst, ◌∙◌, arith}
use Rattle.std.specs.Prelude.{IfSome}
use Rattle.smp_cbor.specs.Shortest.{shortest}
use Rattle.smp_header.specs.Message.{Message}
use Rattle.smp_model.specs.declared.device.AbstractDevice.{AbstractDevice}
use Rattle.smp_model.specs.declared.device.Sizes.{Sizes}
use Rattle.smp_model.specs.Meaning.{meaning}
use Rattle.smp_model.specs.Meant.{Meant}
use Rattle.smp_model.specs.Said as said
use Rattle.smp_model.specs.Said.{Said, reply_message, reply_value}
use Rattle.smp_model.specs.Steps.{applied}
use Rattle.smp_reply.specs.declared.answer.Asked.{Asked}
use Rattle.smp_reply.specs.declared.answer.Asked.TheVariants as kinds
use Rattle.smp_reply.specs.Told as told
use Rattle.smp_reply.specs.Told.{Told}
use Rattle.smp_jobs.specs.Clients.{packet_of}
use Rattle.smp_device.specs.Goings.{Armed, Went, Goes}
use Rattle.smp_jobs.specs.Jobs.{UploadJob, mark_of}
use Rattle.smp_world.specs.UploadJobs.{IsUpload}
use Rattle.smp_world.specs.Below.{LawsBelow}
use Rattle.smp_world.proofs.FairPackets.{mark_means}
use Rattle.smp_world.proofs.Marked.{Marked, MarkSaid, IsRefusal, IsOwn, mark_goes}
use Rattle.smp_world.proofs.FairSteps.{Uploads, AllOfJobs}
use Rattle.smp_world.proofs.UploadClients.{Knows, IsPartOf, the_start, a_part, SentOk, a_start_or_part, a_mark, IsTrue}

abbrev some_told : Told → Option Told
some_told t = Some t

-- an error of the group of images is read as an error
pub refusal_read : LawsBelow → (asked : Asked) (group n : ℕ) → IsRefusal group n → told.told asked (shortest (reply_value 1 (said.group_error group n))) ≡ Some (told.refused (Some group) n)
refusal_read law asked group n r = let one = r.0 in let few = r.1 in law.replies 1 asked (said.group_error group n) (omega (arith, one), omega (arith, few)) r.2

mark_read : LawsBelow → (j : UploadJob) (d : AbstractDevice) (s : Said) → MarkSaid j d s → told.told kinds.Done (shortest (reply_value 1 s)) ≡ Some told.done → Marked j d
mark_read law j d (said.images a b) m e = m
mark_read law j d (said.group_error group n) m e = absurd (differ group n (sym (refusal_read law kinds.Done group n m) ∙ e))
  where
    differ : (group n : ℕ) → some_told (told.refused (Some group) n) ≡ some_told told.done → ⊥
    differ group n e = cc
mark_read law j d (said.smp_error n) m e = absurd m
mark_read law j d said.empty m e = absurd m
mark_read law j d (said.echo x) m e = absurd m
mark_read law j d said.parameters m e = absurd m
mark_read law j d (said.stat_group a b c) m e = absurd m
mark_read law j d said.stat_list m e = absurd m
mark_read law j d (said.offset o f) m e = absurd m
mark_read law j d (said.setting v) m e = absurd m
mark_read law j d (said.file_part a b c) m e = absurd m
mark_read law j d (said.file_length l) m e = absurd m
mark_read law j d (said.file_hash a b c) m e = absurd m
mark_read law j d said.file_types m e = absurd m

-- the reply to a mark
mark_true : LawsBelow → (V : Knows) (j : UploadJob) (d : AbstractDevice) (q : ℕ) (s : Said) → MarkSaid j d s → IsTrue V j d (reply_message (packet_of q (mark_of j)) s)
mark_true law V j d q s m = record {
  offset = λ a b c off matched got is n. let apart : 0 ≡ 1 = b in absurd (omega (arith, apart));
  mark = λ a b c got. mark_read law j d s m got;
}

-- what a job that knows V is told by replies to a start or a part
abbrev OffsetTold : Knows → UploadJob → AbstractDevice → Said → Type 0
OffsetTold V j d s = (off : ℕ) (matched : Option Bool) → told.told kinds.Offset (shortest (reply_value 1 s)) ≡ Some (told.offset off matched) → off ≡ length j.file → (matched ≡ Some false → ⊥) → V j d

pub part_true : (V : Knows) (j : UploadJob) (d : AbstractDevice) (q : ℕ) (r : Meant) (s : Said) → IsPartOf j r → OffsetTold V j d s → IsTrue V j d (reply_message (packet_of q r) s)
part_true V j d q r s (the_start e) t = subst (λ (x : Meant). IsTrue V j d (reply_message (packet_of q x) s)) (sym e) (record {
  offset = λ a b c off matched got is n. t off matched got is n;
  mark = λ a b c got. let apart : 1 ≡ 0 = b in absurd (omega (arith, apart));
})
part_true V j d q r s (a_part off some le e) t = subst (λ (x : Meant). IsTrue V j d (reply_message (packet_of q x) s)) (sym e) (record {
  offset = λ a b c o matched got is n. t o matched got is n;
  mark = λ a b c got. let apart : 1 ≡ 0 = b in absurd (omega (arith, apart));
})

-- replies to starts and parts of a job are true
abbrev pub PartsTrue : Uploads → Knows → UploadJob → Type 0
PartsTrue J V j = (sizes : Sizes) (h : Option Armed) (d : AbstractDevice) (q : ℕ) (r : Meant) (w : Went) → IsPartOf j r → AllOfJobs J d → Goes sizes h d (meaning (packet_of q r)) w
    → IfSome w.reply (λ s. IsTrue V j (applied w.taken d) (reply_message (packet_of q r) s))

if_some : {A : Type 0} (P Q : A → Type 0) (o : Option A) → ((x : A) → P x → Q x) → IfSome o P → IfSome o Q
if_some P Q None f h = tt
if_some P Q (Some x) f h = f x h

pub mail_true : LawsBelow → (J : Uploads) (V : Knows) (sizes : Sizes) (j : UploadJob) (h : Option Armed) (d : AbstractDevice) (m : Message) (w : Went) → IsUpload j → IsOwn J j → PartsTrue J V j → SentOk j m → AllOfJobs J d
    → Goes sizes h d (meaning m) w → IfSome w.reply (λ s. IsTrue V j (applied w.taken d) (reply_message m s))
mail_true law J V sizes j h d m w is own parts (a_start_or_part q r p e) f g =
    subst (λ (x : Message). IfSome w.reply (λ s. IsTrue V j (applied w.taken d) (reply_message x s))) (sym e)
    (parts sizes h d q r w p f (subst (λ (x : Message). Goes sizes h d (meaning x) w) e g))
mail_true law J V sizes j h d m w is own parts (a_mark q only e) f g =
    let size = is.hash in
    let goes : Goes sizes h d (Ok (mark_of j)) w = subst (λ (x : Result Meant ℕ). Goes sizes h d x w) (ap meaning e ∙ mark_means law j q is) g in
    subst (λ (x : Message). IfSome w.reply (λ s. IsTrue V j (applied w.taken d) (reply_message x s))) (sym e)
    (if_some (MarkSaid j (applied w.taken d)) (λ s. IsTrue V j (applied w.taken d) (reply_message (packet_of q (mark_of j)) s)) w.reply
    (λ s k. mark_true law V j (applied w.taken d) q s k) (mark_goes law J sizes j h d w (omega (arith, size)) own f goes))
