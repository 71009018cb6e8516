-- The client of an upload job: what it sends, and what it knows once it is done. V is what the job knows of its upload where all
-- of the file was accepted.
use Rattle.std.proofs.Common.{◌≡◌, ◌≤◌, ◌<◌, ◌+◌, ◌%◌, ◌==◌, ◌&&◌, if◌then◌else◌, ℕ, List, ◌∷◌, length, Bool, true, false, Option, Some, None, Result, Ok, Err, refl, sym, ap, subst, ◌∙◌, arith}
use Rattle.std.proofs.lemmas.Bool.Decides.{nat_tests}
use Rattle.std.specs.Option.{option_and_then}
use Rattle.smp_cbor.specs.declared.fault.Stop.{Stop}
use Rattle.smp_cbor.specs.Values.{map_of}
use Rattle.smp_cbor.specs.Views.{look_up}
use Rattle.std.specs.Prelude.{codes}
use Rattle.smp_header.specs.Message.{Message}
use Rattle.smp_model.specs.declared.device.AbstractDevice.{AbstractDevice}
use Rattle.smp_model.specs.declared.upload.Ending.{Ending}
use Rattle.smp_model.specs.declared.upload.Ending.TheVariants as endings
use Rattle.smp_model.specs.Meant.{Meant}
use Rattle.smp_reply.specs.declared.answer.Asked.{Asked}
use Rattle.smp_reply.specs.declared.answer.Asked.TheVariants as kinds
use Rattle.smp_reply.specs.declared.refusal.Refusal.{Refusal}
use Rattle.smp_reply.specs.declared.refusal.Refusal.TheVariants as refusals
use Rattle.smp_reply.specs.Told as told
use Rattle.smp_reply.specs.Told.{Told, Entries, told_by, unless_refused, refusal, wanted, match_in, number_in, whole}
use Rattle.smp_jobs.specs.Clients.{Client, Turn, packet_of, begun, stops, sends, asks_for, goes_on, with_answer, after_moved, client_hears, client_waited}
use Rattle.smp_jobs.specs.Jobs.{UploadJob, Job, uploads, End, done, no_answer, stalled, Next, asks, ends, start_of, part_of, mark_of, at_end, at_offset, from_offset, is_outside, next_of_upload, next, may_send, asked_of}
use Rattle.smp_client.specs.Requests as requests
use Rattle.smp_client.specs.Requests.{Open, opened, Moved, is_reply_to, answer_by, wait_ends, is_strange, by_answer, hears}
use Rattle.smp_world.proofs.Cases.{by_if}
use Rattle.smp_world.proofs.Marked.{Marked}

abbrev pub Knows : Type 1
Knows = UploadJob → AbstractDevice → Type 0

-- a start or a part of the job's file
pub data IsPartOf (j : UploadJob) (m : Meant) : Type 0 where
  the_start : m ≡ start_of j → IsPartOf j m
  a_part : (off : ℕ) → 0 < off → off ≤ length j.file → m ≡ part_of j off → IsPartOf j m

-- what its client may have sent
pub data SentOk (j : UploadJob) (m : Message) : Type 0 where
  a_start_or_part : (q : ℕ) (r : Meant) → IsPartOf j r → m ≡ packet_of q r → SentOk j m
  a_mark : (q : ℕ) → (j.ending ≡ endings.Only → ⊥) → m ≡ packet_of q (mark_of j) → SentOk j m

-- What a reply to it tells: an offset at the file's end; an answer to a mark, that the file is marked.
pub record IsTrue (V : Knows) (j : UploadJob) (d : AbstractDevice) (m : Message) : Type 0 where
  pub offset : m.group ≡ 1 → m.command ≡ 1 → m.op ≡ 3 → (off : ℕ) (matched : Option Bool) → told.told kinds.Offset m.bytes ≡ Some (told.offset off matched)
      → off ≡ length j.file → (matched ≡ Some false → ⊥) → V j d
  pub mark : m.group ≡ 1 → m.command ≡ 0 → m.op ≡ 3 → told.told kinds.Done m.bytes ≡ Some told.done → Marked j d

abbrev pub DoneBy : Knows → UploadJob → Ending → AbstractDevice → Type 0
DoneBy V j endings.Only d = V j d
DoneBy V j endings.Test d = Marked j d
DoneBy V j endings.Confirm d = Marked j d

abbrev pub EndTrue : Knows → UploadJob → Option End → AbstractDevice → Type 0
EndTrue V j (Some done) d = DoneBy V j j.ending d
EndTrue V j e d = Unit {0}

-- what the uploading client has asked for
pub data Asking (j : UploadJob) (o : Open) : Type 0 where
  for_part : (q : ℕ) (r : Meant) → IsPartOf j r → o.packet ≡ packet_of q r → o.asked ≡ kinds.Offset → Asking j o
  for_mark : (q : ℕ) → (j.ending ≡ endings.Only → ⊥) → o.packet ≡ packet_of q (mark_of j) → o.asked ≡ kinds.Done → Asking j o

pub record Uploader (V : Knows) (j : UploadJob) (d : AbstractDevice) (c : Client) : Type 0 where
  pub job : c.job ≡ uploads j
  pub asking : Asking j c.request
  pub end : EndTrue V j c.ended d

abbrev pub SendsOk : UploadJob → Option Message → Type 0
SendsOk j None = Unit {0}
SendsOk j (Some m) = SentOk j m

abbrev pub TurnOk : Knows → UploadJob → AbstractDevice → Turn → Type 0
TurnOk V j d t = Uploader V j d t.client × SendsOk j t.packet

pub sent_asking : (j : UploadJob) (o : Open) → Asking j o → SentOk j o.packet
sent_asking j o (for_part q r p e k) = a_start_or_part q r p e
sent_asking j o (for_mark q only e k) = a_mark q only e

stops_ok : (V : Knows) (j : UploadJob) (d : AbstractDevice) (c : Client) (e : End) → Uploader V j d c → EndTrue V j (Some e) d → TurnOk V j d (stops c e)
stops_ok V j d c e u t = (record { job = u.job; asking = u.asking; end = t }, tt)

one_more : (V : Knows) (j : UploadJob) (d : AbstractDevice) (c : Client) → Uploader V j d c → Uploader V j d (record c { sent = c.sent + 1 })
one_more V j d c u = record { job = u.job; asking = u.asking; end = u.end }

sends_ok : (V : Knows) (j : UploadJob) (d : AbstractDevice) (c : Client) → Uploader V j d c → TurnOk V j d (sends c)
sends_ok V j d c k =
    by_if (TurnOk V j d) (may_send c.job c.sent) (record { client = record c { sent = c.sent + 1 }; packet = Some c.request.packet }) (stops c stalled)
    (λ _. (one_more V j d c k, sent_asking j c.request k.asking)) (λ _. stops_ok V j d c stalled k tt)

-- the same request, with other counts
asking_counted : (j : UploadJob) (o : Open) (w s : ℕ) → Asking j o → Asking j (record o { waits = w; strangers = s })
asking_counted j o w s (for_part q r p e k) = for_part q r p e k
asking_counted j o w s (for_mark q only e k) = for_mark q only e k

counted_ok : (V : Knows) (j : UploadJob) (d : AbstractDevice) (c : Client) (w s : ℕ) → Uploader V j d c → Uploader V j d (record c { request = record c.request { waits = w; strangers = s } })
counted_ok V j d c w s u = record { job = u.job; asking = asking_counted j c.request w s u.asking; end = u.end }

abbrev MovedOk : Knows → UploadJob → AbstractDevice → Client → Moved → Type 0
MovedOk V j d c m = TurnOk V j d (after_moved c m)

wait_ok : (V : Knows) (j : UploadJob) (d : AbstractDevice) (c : Client) → Uploader V j d c → MovedOk V j d c (wait_ends c.request)
wait_ok V j d c k =
    by_if (MovedOk V j d c) (c.request.waits == 8) (requests.moved c.request requests.no_answer) (requests.moved (record c.request { waits = c.request.waits + 1; strangers = 0 }) requests.sends)
    (λ _. stops_ok V j d c no_answer k tt)
    (λ _. sends_ok V j d (record c { request = record c.request { waits = c.request.waits + 1; strangers = 0 } }) (counted_ok V j d c (c.request.waits + 1) 0 k))

strange_ok : (V : Knows) (j : UploadJob) (d : AbstractDevice) (c : Client) → Uploader V j d c → MovedOk V j d c (is_strange c.request)
strange_ok V j d c k =
    by_if (MovedOk V j d c) (c.request.strangers == 63) (wait_ends c.request) (requests.moved (record c.request { strangers = c.request.strangers + 1 }) requests.waits)
    (λ _. wait_ok V j d c k) (λ _. (counted_ok V j d c c.request.waits (c.request.strangers + 1) k, tt))

-- What may come next.
abbrev NextOk : Knows → UploadJob → AbstractDevice → Next → Type 0
NextOk V j d (asks r) = (q : ℕ) → Asking j (opened (packet_of q r) (asked_of r))
NextOk V j d (ends e) = EndTrue V j (Some e) d

part_asking : (j : UploadJob) (r : Meant) → IsPartOf j r → (q : ℕ) → Asking j (opened (packet_of q r) (asked_of r))
part_asking j r (the_start e) q = for_part q r (the_start e) refl (ap asked_of e)
part_asking j r (a_part off some le e) q = for_part q r (a_part off some le e) refl (ap asked_of e)

mark_asking : (j : UploadJob) → (j.ending ≡ endings.Only → ⊥) → (q : ℕ) → Asking j (opened (packet_of q (mark_of j)) (asked_of (mark_of j)))
mark_asking j only q = for_mark q only refl refl

end_ok : (V : Knows) (j : UploadJob) (d : AbstractDevice) (e : Ending) → j.ending ≡ e → V j d → NextOk V j d (at_end j e)
end_ok V j d endings.Only is w = subst (λ (e : Ending). DoneBy V j e d) (sym is) w
end_ok V j d endings.Test is w = mark_asking j (λ o. let x : endings.Test ≡ endings.Only = sym is ∙ o in cc)
end_ok V j d endings.Confirm is w = mark_asking j (λ o. let x : endings.Confirm ≡ endings.Only = sym is ∙ o in cc)

outside_or_part : (j : UploadJob) (off : ℕ) (b : Bool) → is_outside off j.file ≡ b → IsPartOf j (if b then start_of j else part_of j off)
outside_or_part j off true e = the_start refl
outside_or_part j off false e = a_part off (grind (arith, nat_tests)) (grind (arith, nat_tests)) refl

offset_ok : (V : Knows) (j : UploadJob) (d : AbstractDevice) (off : ℕ) → (off ≡ length j.file → V j d) → NextOk V j d (at_offset j off)
offset_ok V j d off w =
    by_if (NextOk V j d) (off == length j.file) (at_end j j.ending) (asks (if is_outside off j.file then start_of j else part_of j off))
    (λ e. end_ok V j d j.ending refl (w (grind (arith, nat_tests))))
    (λ _. part_asking j (if is_outside off j.file then start_of j else part_of j off) (outside_or_part j off (is_outside off j.file) refl))

from_ok : (V : Knows) (j : UploadJob) (d : AbstractDevice) (off : ℕ) (m : Option Bool) → (off ≡ length j.file → (m ≡ Some false → ⊥) → V j d) → NextOk V j d (from_offset j off m)
from_ok V j d off (Some false) w = tt
from_ok V j d off (Some true) w = offset_ok V j d off (λ e. w e (λ x. cc))
from_ok V j d off None w = offset_ok V j d off (λ e. w e (λ x. cc))

-- What a client may be told, by what it asked for.
abbrev pub IsFor : Asked → Told → Type 0
IsFor asked (told.refused group n) = Unit {0}
IsFor kinds.Offset (told.offset off m) = Unit {0}
IsFor kinds.Done told.done = Unit {0}
IsFor kinds.Echo (told.echo t) = Unit {0}
IsFor kinds.Images (told.images l) = Unit {0}
IsFor kinds.FilePart (told.file_part a b c) = Unit {0}
IsFor asked t = ⊥

abbrev IfFor : Asked → Option Told → Type 0
IfFor asked None = Unit {0}
IfFor asked (Some t) = IsFor asked t

offset_wanted : (m : Option (Option Bool)) (n : Option ℕ) → IfFor kinds.Offset (option_and_then (λ off. option_and_then (λ matched. Some (told.offset off matched)) m) n)
offset_wanted m None = tt
offset_wanted None (Some n) = tt
offset_wanted (Some m) (Some n) = tt

offset_unless : (r : Refusal) (t : Option Told) → IfFor kinds.Offset t → IfFor kinds.Offset (unless_refused r t)
offset_unless refusals.Ill t h = tt
offset_unless refusals.Absent t h = h
offset_unless (refusals.By group n) t h = tt

done_unless : (r : Refusal) (t : Option Told) → IfFor kinds.Done t → IfFor kinds.Done (unless_refused r t)
done_unless refusals.Ill t h = tt
done_unless refusals.Absent t h = h
done_unless (refusals.By group n) t h = tt

offset_by : (x : Result Entries Stop) → IfFor kinds.Offset (told_by kinds.Offset x)
offset_by (Err e) = tt
offset_by (Ok ps) = offset_unless (refusal ps) (wanted kinds.Offset ps) (offset_wanted (match_in (look_up (codes "match") ps)) (number_in (whole (look_up (codes "off") ps))))

done_by : (x : Result Entries Stop) → IfFor kinds.Done (told_by kinds.Done x)
done_by (Err e) = tt
done_by (Ok ps) = done_unless (refusal ps) (wanted kinds.Done ps) tt

offset_told : (b : List ℕ) (t : Told) → told.told kinds.Offset b ≡ Some t → IsFor kinds.Offset t
offset_told b t e = subst (IfFor kinds.Offset) e (offset_by (map_of b))

pub done_told : (b : List ℕ) (t : Told) → told.told kinds.Done b ≡ Some t → IsFor kinds.Done t
done_told b t e = subst (IfFor kinds.Done) e (done_by (map_of b))

-- a reply's header
both_true : (b c : Bool) → (b && c) ≡ true → (b ≡ true) × (c ≡ true)
both_true true true e = (refl, refl)
both_true true false e = cc
both_true false c e = cc

pub record IsReplyTo (request m : Message) : Type 0 where
  pub sequence : m.sequence ≡ request.sequence
  pub group : m.group ≡ request.group
  pub command : m.command ≡ request.command
  pub op : m.op ≡ request.op + 1

pub reply_parts : (request m : Message) → is_reply_to request m ≡ true → IsReplyTo request m
reply_parts request m e =
    let a = both_true (m.sequence == request.sequence) _ e in
    let b = both_true (m.group == request.group) _ a.1 in
    let c = both_true (m.command == request.command) _ b.1 in
    let d = both_true (m.op == request.op + 1) _ c.1 in
    record { sequence = grind (arith, nat_tests, a.0); group = grind (arith, nat_tests, b.0); command = grind (arith, nat_tests, c.0); op = grind (arith, nat_tests, d.0) }

-- an answer stands in a reply to the packet
pub record Answers (o : Open) (m : Message) (t : Told) : Type 0 where
  pub reply : IsReplyTo o.packet m
  pub told : told.told o.asked m.bytes ≡ Some t

pub answer_parts : (o : Open) (m : Message) (t : Told) → answer_by o.packet o.asked m ≡ Some t → Answers o m t
answer_parts o m t e = by_reply (is_reply_to o.packet m) refl e
  where
    by_reply : (b : Bool) → is_reply_to o.packet m ≡ b → (if b then told.told o.asked m.bytes else None) ≡ Some t → Answers o m t
    by_reply true is k = record { reply = reply_parts o.packet m is; told = k }
    by_reply false is k = cc

-- what follows an answer to a part, and one to a mark
after_part : (V : Knows) (j : UploadJob) (d : AbstractDevice) (m : Message) (t : Told) (earlier : List Told) (q : ℕ) (r : Meant) → IsPartOf j r → IsTrue V j d m → IsReplyTo (packet_of q r) m
    → told.told kinds.Offset m.bytes ≡ Some t → IsFor kinds.Offset t → NextOk V j d (next_of_upload j (t ∷ earlier))
after_part V j d m (told.refused group n) earlier q r p true_ is e i = tt
after_part V j d m (told.offset off f) earlier q r p true_ is e i =
    let head = part_head q r p in
    from_ok V j d off f (λ full n. true_.offset (is.group ∙ head.0) (is.command ∙ head.1) (is.op ∙ ap (λ (k : ℕ). k + 1) head.2) off f e full n)
  where
    part_head : (q : ℕ) (r : Meant) → IsPartOf j r → ((packet_of q r).group ≡ 1) × ((packet_of q r).command ≡ 1) × ((packet_of q r).op ≡ 2)
    part_head q r (the_start e) = (ap (λ (x : Meant). (packet_of q x).group) e, ap (λ (x : Meant). (packet_of q x).command) e, ap (λ (x : Meant). (packet_of q x).op) e)
    part_head q r (a_part off some le e) = (ap (λ (x : Meant). (packet_of q x).group) e, ap (λ (x : Meant). (packet_of q x).command) e, ap (λ (x : Meant). (packet_of q x).op) e)
after_part V j d m told.done earlier q r p true_ is e i = absurd i
after_part V j d m (told.echo t) earlier q r p true_ is e i = absurd i
after_part V j d m (told.images l) earlier q r p true_ is e i = absurd i
after_part V j d m (told.file_part a b c) earlier q r p true_ is e i = absurd i

done_by_mark : (V : Knows) (j : UploadJob) (d : AbstractDevice) (e : Ending) → (e ≡ endings.Only → ⊥) → Marked j d → DoneBy V j e d
done_by_mark V j d endings.Only only m = absurd (only refl)
done_by_mark V j d endings.Test only m = m
done_by_mark V j d endings.Confirm only m = m

after_mark : (V : Knows) (j : UploadJob) (d : AbstractDevice) (m : Message) (t : Told) (earlier : List Told) (q : ℕ) → (j.ending ≡ endings.Only → ⊥) → IsTrue V j d m → IsReplyTo (packet_of q (mark_of j)) m
    → told.told kinds.Done m.bytes ≡ Some t → IsFor kinds.Done t → NextOk V j d (next_of_upload j (t ∷ earlier))
after_mark V j d m (told.refused group n) earlier q only true_ is e i = tt
after_mark V j d m told.done earlier q only true_ is e i = done_by_mark V j d j.ending only (true_.mark is.group is.command is.op e)
after_mark V j d m (told.offset off f) earlier q only true_ is e i = absurd i
after_mark V j d m (told.echo t) earlier q only true_ is e i = absurd i
after_mark V j d m (told.images l) earlier q only true_ is e i = absurd i
after_mark V j d m (told.file_part a b c) earlier q only true_ is e i = absurd i

after_answer : (V : Knows) (j : UploadJob) (d : AbstractDevice) (o : Open) (m : Message) (t : Told) (earlier : List Told) → Asking j o → IsTrue V j d m → Answers o m t → NextOk V j d (next_of_upload j (t ∷ earlier))
after_answer V j d o m t earlier (for_part q r p e k) true_ a =
    let told_so : told.told kinds.Offset m.bytes ≡ Some t = subst (λ (x : Asked). told.told x m.bytes ≡ Some t) k a.told in
    after_part V j d m t earlier q r p true_ (subst (λ (x : Message). IsReplyTo x m) e a.reply) told_so (offset_told m.bytes t told_so)
after_answer V j d o m t earlier (for_mark q only e k) true_ a =
    let told_so : told.told kinds.Done m.bytes ≡ Some t = subst (λ (x : Asked). told.told x m.bytes ≡ Some t) k a.told in
    after_mark V j d m t earlier q only true_ (subst (λ (x : Message). IsReplyTo x m) e a.reply) told_so (done_told m.bytes t told_so)

goes_on_ok : (V : Knows) (j : UploadJob) (d : AbstractDevice) (c : Client) (n : Next) → Uploader V j d c → NextOk V j d n → TurnOk V j d (goes_on c n)
goes_on_ok V j d c (asks r) u k = sends_ok V j d (asks_for c r) (record { job = u.job; asking = k ((c.request.packet.sequence + 1) % 256); end = u.end })
goes_on_ok V j d c (ends e) u k = stops_ok V j d c e u k

-- what a client does at a reply
answered_ok : (V : Knows) (j : UploadJob) (d : AbstractDevice) (c : Client) (m : Message) (t : Told) → Uploader V j d c → IsTrue V j d m → Answers c.request m t
    → TurnOk V j d (goes_on (with_answer c t) (next c.job (t ∷ c.answers)))
answered_ok V j d c m t u true_ a =
    goes_on_ok V j d (with_answer c t) (next c.job (t ∷ c.answers)) (record { job = u.job; asking = u.asking; end = u.end })
    (subst (λ (job : Job). NextOk V j d (next job (t ∷ c.answers))) (sym u.job) (after_answer V j d c.request m t c.answers u.asking true_ a))

pub hears_ok : (V : Knows) (j : UploadJob) (d : AbstractDevice) (c : Client) (m : Message) → Uploader V j d c → IsTrue V j d m → TurnOk V j d (client_hears c m)
hears_ok V j d c m k true_ = by_told (answer_by c.request.packet c.request.asked m) refl
  where
    by_told : (a : Option Told) → answer_by c.request.packet c.request.asked m ≡ a → MovedOk V j d c (by_answer c.request a)
    by_told None e = strange_ok V j d c k
    by_told (Some t) e = answered_ok V j d c m t k true_ (answer_parts c.request m t e)

pub waited_ok : (V : Knows) (j : UploadJob) (d : AbstractDevice) (c : Client) → Uploader V j d c → TurnOk V j d (client_waited c)
waited_ok V j d c k = wait_ok V j d c k

pub begun_upload : (V : Knows) (j : UploadJob) (d : AbstractDevice) → Uploader V j d (begun (uploads j))
begun_upload V j d = record { job = refl; asking = for_part 0 (start_of j) (the_start refl) refl refl; end = tt }

-- a client keeps its job
abbrev KeepsJob : Client → Turn → Type 0
KeepsJob c t = t.client.job ≡ c.job

sends_job : (c : Client) → KeepsJob c (sends c)
sends_job c = by_if (KeepsJob c) (may_send c.job c.sent) (record { client = record c { sent = c.sent + 1 }; packet = Some c.request.packet }) (stops c stalled) (λ _. refl) (λ _. refl)

pub wait_job : (c : Client) → KeepsJob c (client_waited c)
wait_job c =
    by_if (λ (m : Moved). KeepsJob c (after_moved c m)) (c.request.waits == 8) (requests.moved c.request requests.no_answer) (requests.moved (record c.request { waits = c.request.waits + 1; strangers = 0 }) requests.sends)
    (λ _. refl) (λ _. sends_job (record c { request = record c.request { waits = c.request.waits + 1; strangers = 0 } }))

strange_job : (c : Client) → KeepsJob c (after_moved c (is_strange c.request))
strange_job c =
    by_if (λ (m : Moved). KeepsJob c (after_moved c m)) (c.request.strangers == 63) (wait_ends c.request) (requests.moved (record c.request { strangers = c.request.strangers + 1 }) requests.waits)
    (λ _. wait_job c) (λ _. refl)

goes_job : (c : Client) (n : Next) → KeepsJob c (goes_on c n)
goes_job c (asks r) = sends_job (asks_for c r)
goes_job c (ends e) = refl

pub hears_job : (c : Client) (m : Message) → KeepsJob c (client_hears c m)
hears_job c m = by_told (answer_by c.request.packet c.request.asked m)
  where
    by_told : (a : Option Told) → KeepsJob c (after_moved c (by_answer c.request a))
    by_told None = strange_job c
    by_told (Some t) = goes_job (with_answer c t) (next c.job (t ∷ c.answers))
