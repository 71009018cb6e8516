-- Where an upload stands whose packets and answers are delivered once, in order: a packet of it is due at the device, or an
-- answer at its client, or it is over.
use Rattle.std.proofs.Common.{◌≡◌, ◌⊎◌, ◌≤◌, ◌<◌, ◌+◌, ◌-◌, ℕ, List, length, true, false, Some, None, ap, ◌∙◌, arith}
use Rattle.std.specs.Prelude.{All}
use Rattle.smp_header.specs.Message.{Message}
use Rattle.smp_model.specs.declared.device.AbstractDevice.{AbstractDevice}
use Rattle.smp_model.specs.Laws.{OnImage}
use Rattle.smp_model.specs.declared.device.Sizes.{Sizes}
use Rattle.smp_model.specs.Does.{does}
use Rattle.smp_model.specs.Meant.{Meant}
use Rattle.smp_model.specs.Said.{is_error}
use Rattle.smp_reply.specs.declared.answer.Asked.TheVariants as kinds
use Rattle.smp_reply.specs.Told.{Told}
use Rattle.smp_jobs.specs.Clients.{Client, packet_of, stops, goes_on, with_answer, client_hears}
use Rattle.smp_jobs.specs.Jobs.{UploadJob, uploads, done, at_offset, mark_of}
use Rattle.smp_world.specs.Deliveries.{newest, count_of, enough_packets}
use Rattle.smp_world.specs.Runs.{Mail, State, nth}
use Rattle.smp_world.specs.UploadJobs.{IsFront, upload_of}
use Rattle.smp_world.proofs.UploadClients.{IsPartOf}
use Rattle.smp_world.proofs.Numbered.{Each}
use Rattle.smp_world.proofs.OtherRequests.{IsOther}
use Rattle.smp_world.proofs.PartsTaken.{WentOn}
use Rattle.smp_world.proofs.ClientKinds.{IsOfKind, HasKind}
use Rattle.smp_world.proofs.FewPackets.{steps_of}
use Rattle.smp_world.proofs.OtherJobs.{Clean, SameSides, clean_same, mail_of}

-- The upload's client goes on.
pub record Base (j : UploadJob) (s : State) (c : Client) : Type 0 where
  pub up : s.up ≡ true
  pub client : nth s.clients 1 ≡ Some c
  pub going : c.ended ≡ None
  pub job : c.job ≡ uploads j
  pub others : Each (λ n x. (n ≡ 1 → ⊥) → HasKind IsOther x) s.clients
  pub mails : All (λ (p : Mail). (p.client ≡ 1 → ⊥) → IsOfKind IsOther p.message) s.packets
  pub newest : newest 1 s.packets ≡ Some (mail_of c)
  pub sent : count_of 1 s.packets ≡ c.sent
  pub answers : length c.answers + 1 ≡ c.sent

-- a part is due at the device
pub record PartWaits (sizes : Sizes) (j : UploadJob) (d : AbstractDevice) (c : Client) : Type 0 where
  pub sequence : ℕ
  pub request : Meant
  pub held : List ℕ
  pub parts : ℕ
  pub part : IsPartOf j request
  pub packet : c.request.packet ≡ packet_of sequence request
  pub asked : c.request.asked ≡ kinds.Offset
  pub from_file : Clean j d
  pub goes : (e : AbstractDevice) → SameSides d e → is_error (does sizes e request).reply ≡ false → WentOn j e held (does sizes e request)
  pub far : length j.file ≤ length held + (j.chunk - 7) + steps_of parts (j.chunk - 7)
  pub few : c.sent + parts + 1 ≤ enough_packets j

-- its answer is due at the client
pub record PartAnswered (j : UploadJob) (d : AbstractDevice) (replies : List Mail) (c : Client) : Type 0 where
  pub held : List ℕ
  pub parts : ℕ
  pub reply : Message
  pub told : Told
  pub last : newest 1 replies ≡ Some (record { client = 1; message = reply })
  pub turn : client_hears c reply ≡ goes_on (with_answer c told) (at_offset j (length held))
  pub some : 0 < length held
  pub from_file : Clean j d
  pub upload : OnImage j.image (λ t. t.upload ≡ upload_of j held) d
  pub front : IsFront held j.file
  pub far : (length held ≡ length j.file) ⊎ (length j.file ≤ length held + steps_of parts (j.chunk - 7))
  pub few : c.sent + parts + 1 ≤ enough_packets j

-- the mark is due at the device
pub record MarkWaits (j : UploadJob) (d : AbstractDevice) (c : Client) : Type 0 where
  pub sequence : ℕ
  pub packet : c.request.packet ≡ packet_of sequence (mark_of j)
  pub asked : c.request.asked ≡ kinds.Done
  pub from_file : Clean j d
  pub few : c.sent ≤ enough_packets j

-- its answer is due at the client
pub record MarkAnswered (j : UploadJob) (d : AbstractDevice) (replies : List Mail) (c : Client) : Type 0 where
  pub reply : Message
  pub told : Told
  pub last : newest 1 replies ≡ Some (record { client = 1; message = reply })
  pub turn : client_hears c reply ≡ stops (with_answer c told) done
  pub from_file : Clean j d
  pub few : c.sent ≤ enough_packets j

pub data Phase (sizes : Sizes) (j : UploadJob) (d : AbstractDevice) (replies : List Mail) (c : Client) : Type 0 where
  part_waits : count_of 1 replies + 1 ≡ c.sent → PartWaits sizes j d c → Phase sizes j d replies c
  part_answered : count_of 1 replies ≡ c.sent → PartAnswered j d replies c → Phase sizes j d replies c
  mark_waits : count_of 1 replies + 1 ≡ c.sent → MarkWaits j d c → Phase sizes j d replies c
  mark_answered : count_of 1 replies ≡ c.sent → MarkAnswered j d replies c → Phase sizes j d replies c

pub phase_file : (sizes : Sizes) (j : UploadJob) (d : AbstractDevice) (replies : List Mail) (c : Client) → Phase sizes j d replies c → Clean j d
phase_file sizes j d replies c (part_waits n p) = p.from_file
phase_file sizes j d replies c (part_answered n p) = p.from_file
phase_file sizes j d replies c (mark_waits n p) = p.from_file
phase_file sizes j d replies c (mark_answered n p) = p.from_file

pub phase_few : (sizes : Sizes) (j : UploadJob) (d : AbstractDevice) (replies : List Mail) (c : Client) → Phase sizes j d replies c → c.sent ≤ enough_packets j
phase_few sizes j d replies c (part_waits n p) = let few = p.few in omega (arith, few)
phase_few sizes j d replies c (part_answered n p) = let few = p.few in omega (arith, few)
phase_few sizes j d replies c (mark_waits n p) = p.few
phase_few sizes j d replies c (mark_answered n p) = p.few

-- another reply changes nothing of it
pub phase_replies : (sizes : Sizes) (j : UploadJob) (d : AbstractDevice) (one two : List Mail) (c : Client) → newest 1 two ≡ newest 1 one → count_of 1 two ≡ count_of 1 one → Phase sizes j d one c → Phase sizes j d two c
phase_replies sizes j d one two c e n (part_waits k p) = part_waits (ap (λ (x : ℕ). x + 1) n ∙ k) p
phase_replies sizes j d one two c e n (part_answered k p) = part_answered (n ∙ k) (record {
  held = p.held;
  parts = p.parts;
  reply = p.reply;
  told = p.told;
  last = e ∙ p.last;
  turn = p.turn;
  some = p.some;
  from_file = p.from_file;
  upload = p.upload;
  front = p.front;
  far = p.far;
  few = p.few;
})
phase_replies sizes j d one two c e n (mark_waits k p) = mark_waits (ap (λ (x : ℕ). x + 1) n ∙ k) p
phase_replies sizes j d one two c e n (mark_answered k p) = mark_answered (n ∙ k) (record { reply = p.reply; told = p.told; last = e ∙ p.last; turn = p.turn; from_file = p.from_file; few = p.few })

-- nor do other slots
pub upload_same : (j : UploadJob) (held : List ℕ) (d e : AbstractDevice) → SameSides d e → OnImage j.image (λ t. t.upload ≡ upload_of j held) d → OnImage j.image (λ t. t.upload ≡ upload_of j held) e
upload_same j held d e same u = record { side = u.side; found = same j.image ∙ u.found; fact = u.fact }

pub phase_moves : (sizes : Sizes) (j : UploadJob) (d e : AbstractDevice) (replies : List Mail) (c : Client) → SameSides d e → Phase sizes j d replies c → Phase sizes j e replies c
phase_moves sizes j d e replies c same (part_waits k p) = part_waits k (record {
  sequence = p.sequence;
  request = p.request;
  held = p.held;
  parts = p.parts;
  part = p.part;
  packet = p.packet;
  asked = p.asked;
  from_file = clean_same j d e same p.from_file;
  goes = λ f more. p.goes f (λ i. more i ∙ same i);
  far = p.far;
  few = p.few;
})
phase_moves sizes j d e replies c same (part_answered k p) = part_answered k (record {
  held = p.held;
  parts = p.parts;
  reply = p.reply;
  told = p.told;
  last = p.last;
  turn = p.turn;
  some = p.some;
  from_file = clean_same j d e same p.from_file;
  upload = upload_same j p.held d e same p.upload;
  front = p.front;
  far = p.far;
  few = p.few;
})
phase_moves sizes j d e replies c same (mark_waits k p) = mark_waits k (record { sequence = p.sequence; packet = p.packet; asked = p.asked; from_file = clean_same j d e same p.from_file; few = p.few })
phase_moves sizes j d e replies c same (mark_answered k p) =
    mark_answered k (record { reply = p.reply; told = p.told; last = p.last; turn = p.turn; from_file = clean_same j d e same p.from_file; few = p.few })

-- it is over
pub record Over (j : UploadJob) (s : State) : Type 0 where
  pub client : Client
  pub at : nth s.clients 1 ≡ Some client
  pub ended : client.ended ≡ Some done
  pub few : client.sent ≤ enough_packets j

pub record Going (sizes : Sizes) (j : UploadJob) (s : State) : Type 0 where
  pub client : Client
  pub base : Base j s client
  pub phase : Phase sizes j s.device s.replies client
