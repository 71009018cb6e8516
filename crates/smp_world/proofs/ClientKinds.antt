-- Clients whose jobs ask only for requests of a kind.
use Rattle.std.proofs.lemmas.Bool.Decides.{nat_tests}
use Rattle.std.proofs.Common.{◌≡◌, ◌≤◌, ◌<◌, arith, ◌+◌, ◌%◌, ◌==◌, ℕ, List, [], ◌∷◌, length, Bool, true, false, Option, Some, None, refl, if◌then◌else◌}
use Rattle.smp_header.specs.Message.{Message}
use Rattle.smp_model.specs.declared.setting.Setting.{Setting}
use Rattle.smp_model.specs.declared.upload.Ending.{Ending}
use Rattle.smp_model.specs.declared.upload.Ending.TheVariants as endings
use Rattle.smp_model.specs.Meant as meant
use Rattle.smp_model.specs.Meant.{Meant}
use Rattle.smp_reply.specs.Told as told
use Rattle.smp_reply.specs.Told.{Told}
use Rattle.smp_jobs.specs.Clients.{Client, Turn, packet_of, stops, sends, asks_for, goes_on, with_answer, after_moved, client_hears, client_waited}
use Rattle.smp_jobs.specs.Jobs.{UploadJob, End, no_answer, stalled, Next, asks, ends, done, start_of, part_of, mark_of, at_end, at_offset, from_offset, is_outside, next_of_upload, nth_of_set, next_of_set, next_of_put, put_start, put_part, next_of_get, got, is_all, next_of_one, next, may_send}
use Rattle.smp_client.specs.Requests as requests
use Rattle.smp_client.specs.Requests.{Moved, answer_by, wait_ends, is_strange, by_answer}
use Rattle.smp_world.proofs.Cases.{by_if}

abbrev pub Kind : Type 1
Kind = Meant → Type 0

abbrev pub AsksFor : Kind → Next → Type 0
AsksFor Q (asks r) = Q r
AsksFor Q (ends e) = Unit {0}

-- a packet of a request of the kind
pub record IsOfKind (Q : Kind) (m : Message) : Type 0 where
  pub sequence : ℕ
  pub request : Meant
  pub kind : Q request
  pub packet : m ≡ packet_of sequence request

pub record HasKind (Q : Kind) (c : Client) : Type 0 where
  pub job : (answers : List Told) → AsksFor Q (next c.job answers)
  pub packet : IsOfKind Q c.request.packet

abbrev pub SendsKind : Kind → Option Message → Type 0
SendsKind Q None = Unit {0}
SendsKind Q (Some m) = IsOfKind Q m

abbrev pub TurnKind : Kind → Turn → Type 0
TurnKind Q t = HasKind Q t.client × SendsKind Q t.packet

stops_kind : (Q : Kind) (c : Client) (e : End) → HasKind Q c → TurnKind Q (stops c e)
stops_kind Q c e k = (record { job = k.job; packet = k.packet }, tt)

sends_kind : (Q : Kind) (c : Client) → HasKind Q c → TurnKind Q (sends c)
sends_kind Q c k =
    by_if (TurnKind Q) (may_send c.job c.sent) (record { client = record c { sent = c.sent + 1 }; packet = Some c.request.packet }) (stops c stalled)
    (λ _. (record { job = k.job; packet = k.packet }, k.packet)) (λ _. stops_kind Q c stalled k)

wait_kind : (Q : Kind) (c : Client) → HasKind Q c → TurnKind Q (after_moved c (wait_ends c.request))
wait_kind Q c k =
    by_if (λ (m : Moved). TurnKind Q (after_moved c m)) (c.request.waits == 8) (requests.moved c.request requests.no_answer) (requests.moved (record c.request { waits = c.request.waits + 1; strangers = 0 }) requests.sends)
    (λ _. stops_kind Q c no_answer k)
    (λ _. sends_kind Q (record c { request = record c.request { waits = c.request.waits + 1; strangers = 0 } }) (record { job = k.job; packet = k.packet }))

strange_kind : (Q : Kind) (c : Client) → HasKind Q c → TurnKind Q (after_moved c (is_strange c.request))
strange_kind Q c k =
    by_if (λ (m : Moved). TurnKind Q (after_moved c m)) (c.request.strangers == 63) (wait_ends c.request) (requests.moved (record c.request { strangers = c.request.strangers + 1 }) requests.waits)
    (λ _. wait_kind Q c k) (λ _. (record { job = k.job; packet = k.packet }, tt))

goes_kind : (Q : Kind) (c : Client) (n : Next) → HasKind Q c → AsksFor Q n → TurnKind Q (goes_on c n)
goes_kind Q c (asks r) k q = sends_kind Q (asks_for c r) (record { job = k.job; packet = record { sequence = (c.request.packet.sequence + 1) % 256; request = r; kind = q; packet = refl } })
goes_kind Q c (ends e) k q = stops_kind Q c e k

pub hears_kind : (Q : Kind) (c : Client) (m : Message) → HasKind Q c → TurnKind Q (client_hears c m)
hears_kind Q c m k = by_told (answer_by c.request.packet c.request.asked m)
  where
    by_told : (a : Option Told) → TurnKind Q (after_moved c (by_answer c.request a))
    by_told None = strange_kind Q c k
    by_told (Some t) = goes_kind Q (with_answer c t) (next c.job (t ∷ c.answers)) (record { job = k.job; packet = k.packet }) (k.job (t ∷ c.answers))

pub waited_kind : (Q : Kind) (c : Client) → HasKind Q c → TurnKind Q (client_waited c)
waited_kind Q c k = wait_kind Q c k

-- What each job asks for.
put_asks : (Q : Kind) (name file : List ℕ) → Q (put_start name file) → ((off : ℕ) → Q (put_part name file off)) → (off : ℕ) (b : Bool) → Q (if b then put_start name file else put_part name file off)
put_asks Q name file s p off true = s
put_asks Q name file s p off false = p off

pub put_kind : (Q : Kind) (name file : List ℕ) → Q (put_start name file) → ((off : ℕ) → Q (put_part name file off)) → (answers : List Told) → AsksFor Q (next_of_put name file answers)
put_kind Q name file s p (told.refused group n ∷ earlier) = tt
put_kind Q name file s p (told.offset off m ∷ earlier) =
    by_if (AsksFor Q) _ (ends done) (asks (if is_outside off file then put_start name file else put_part name file off)) (λ _. tt) (λ _. put_asks Q name file s p off (is_outside off file))
put_kind Q name file s p [] = s
put_kind Q name file s p (told.done ∷ earlier) = s
put_kind Q name file s p (told.echo t ∷ earlier) = s
put_kind Q name file s p (told.images l ∷ earlier) = s
put_kind Q name file s p (told.file_part a b c ∷ earlier) = s

get_by : (Q : Kind) (name : List ℕ) → ((off : ℕ) → Q (meant.file_read off name)) → (answers : List Told)
    → AsksFor Q (if is_all (got answers).held (got answers).len then ends done else asks (meant.file_read (length (got answers).held) name))
get_by Q name q answers =
    by_if (AsksFor Q) (is_all (got answers).held (got answers).len) (ends done) (asks (meant.file_read (length (got answers).held) name)) (λ _. tt) (λ _. q (length (got answers).held))

pub get_kind : (Q : Kind) (name : List ℕ) → ((off : ℕ) → Q (meant.file_read off name)) → (answers : List Told) → AsksFor Q (next_of_get name answers)
get_kind Q name q (told.refused group n ∷ earlier) = tt
get_kind Q name q [] = get_by Q name q []
get_kind Q name q (told.done ∷ earlier) = get_by Q name q (told.done ∷ earlier)
get_kind Q name q (told.echo t ∷ earlier) = get_by Q name q (told.echo t ∷ earlier)
get_kind Q name q (told.images l ∷ earlier) = get_by Q name q (told.images l ∷ earlier)
get_kind Q name q (told.offset a b ∷ earlier) = get_by Q name q (told.offset a b ∷ earlier)
get_kind Q name q (told.file_part a b c ∷ earlier) = get_by Q name q (told.file_part a b c ∷ earlier)

pub one_kind : (Q : Kind) (m : Meant) → Q m → (answers : List Told) → AsksFor Q (next_of_one m answers)
one_kind Q m q [] = q
one_kind Q m q (told.refused group n ∷ earlier) = tt
one_kind Q m q (told.done ∷ earlier) = tt
one_kind Q m q (told.echo t ∷ earlier) = tt
one_kind Q m q (told.images l ∷ earlier) = tt
one_kind Q m q (told.offset a b ∷ earlier) = tt
one_kind Q m q (told.file_part a b c ∷ earlier) = tt

-- by the count of answers
pub set_kind : (Q : Kind) (settings : List Setting) → ((n : ℕ) → AsksFor Q (nth_of_set settings n)) → (answers : List Told) → AsksFor Q (next_of_set settings answers)
set_kind Q settings q [] = q (length {A = Told} [])
set_kind Q settings q (told.refused group n ∷ earlier) = tt
set_kind Q settings q (told.done ∷ earlier) = q (length (told.done ∷ earlier))
set_kind Q settings q (told.echo t ∷ earlier) = q (length (told.echo t ∷ earlier))
set_kind Q settings q (told.images l ∷ earlier) = q (length (told.images l ∷ earlier))
set_kind Q settings q (told.offset a b ∷ earlier) = q (length (told.offset a b ∷ earlier))
set_kind Q settings q (told.file_part a b c ∷ earlier) = q (length (told.file_part a b c ∷ earlier))

-- an upload: its start, its parts and its mark
pub record UploadKind (Q : Kind) (j : UploadJob) : Type 0 where
  pub start : Q (start_of j)
  pub part : (off : ℕ) → 0 < off → off ≤ length j.file → Q (part_of j off)
  pub mark : Q (mark_of j)

end_kind : (Q : Kind) (j : UploadJob) (e : Ending) → UploadKind Q j → AsksFor Q (at_end j e)
end_kind Q j endings.Only k = tt
end_kind Q j endings.Test k = k.mark
end_kind Q j endings.Confirm k = k.mark

start_or_part : (Q : Kind) (j : UploadJob) → UploadKind Q j → (off : ℕ) (b : Bool) → is_outside off j.file ≡ b → Q (if b then start_of j else part_of j off)
start_or_part Q j k off true e = k.start
start_or_part Q j k off false e = k.part off (grind (arith, nat_tests, e)) (grind (arith, nat_tests, e))

offset_kind : (Q : Kind) (j : UploadJob) → UploadKind Q j → (off : ℕ) → AsksFor Q (at_offset j off)
offset_kind Q j k off =
    by_if (AsksFor Q) (off == length j.file) (at_end j j.ending) (asks (if is_outside off j.file then start_of j else part_of j off))
    (λ _. end_kind Q j j.ending k) (λ _. start_or_part Q j k off (is_outside off j.file) refl)

from_kind : (Q : Kind) (j : UploadJob) → UploadKind Q j → (off : ℕ) (m : Option Bool) → AsksFor Q (from_offset j off m)
from_kind Q j k off (Some false) = tt
from_kind Q j k off (Some true) = offset_kind Q j k off
from_kind Q j k off None = offset_kind Q j k off

pub upload_kind : (Q : Kind) (j : UploadJob) → UploadKind Q j → (answers : List Told) → AsksFor Q (next_of_upload j answers)
upload_kind Q j k [] = k.start
upload_kind Q j k (told.refused group n ∷ earlier) = tt
upload_kind Q j k (told.offset off m ∷ earlier) = from_kind Q j k off m
upload_kind Q j k (told.done ∷ earlier) = tt
upload_kind Q j k (told.echo t ∷ earlier) = k.start
upload_kind Q j k (told.images l ∷ earlier) = k.start
upload_kind Q j k (told.file_part a b c ∷ earlier) = k.start
