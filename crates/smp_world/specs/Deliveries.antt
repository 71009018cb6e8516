-- An upload over a link that delivers each packet and each answer once, in order, to a device that accepts: alone, and among other
-- jobs.
use Rattle.std.specs.Prelude.{◌≡◌, ◌≢◌, ◌⊎◌, ◌<◌, ◌≤◌, ◌+◌, ◌-◌, ◌/◌, ◌==◌, if◌then◌else◌, ℕ, zero, suc, List, [], ◌∷◌, length, false, Option, Some, None, IfSome}
use Rattle.smp_model.specs.declared.device.Sizes.{Sizes}
use Rattle.smp_model.specs.Said.{Said, is_error}
use Rattle.smp_reply.specs.Held.{CanSay}
use Rattle.smp_jobs.specs.Clients.{Client}
use Rattle.smp_jobs.specs.Jobs.{UploadJob, uploads, lists, sets, puts, gets, echoes, done}
use Rattle.smp_world.specs.Runs.{Event, begins, raw, up, down, quiet, arms, boot, new, Mail, State, Moment, nth, number_of}

-- Uploads over a link that delivers. The device accepts: its replies are no errors, and what they say fits its fields.
abbrev pub IsAccepted : Option Said → Type 0
IsAccepted None = ⊥
IsAccepted (Some said) = (is_error said ≡ false) × CanSay said

abbrev pub AreAccepted : List Moment → Type 0
AreAccepted [] = Unit {0}
AreAccepted (m ∷ moments) = IfSome m.request (λ r. IsAccepted m.reply) × AreAccepted moments

-- so many times the newest packet comes to the device, and then the newest reply to its client
abbrev pub delivered : ℕ → List Event
delivered zero = []
delivered (suc n) = up new ∷ down new ∷ delivered n

-- as many packets as an upload takes at most there
abbrev pub enough_packets : UploadJob → ℕ
enough_packets j = length j.file / (j.chunk - 7) + 3

-- what such an upload needs: write units of 1 to 8 bytes, and chunks that are not too small
pub record HasRoom (sizes : Sizes) (j : UploadJob) : Type 0 where
  pub unit : 0 < sizes.unit
  pub few : sizes.unit ≤ 8
  pub chunk : 32 ≤ j.chunk

-- the only client is done, and sent no more packets than that
pub record IsDoneSoon (j : UploadJob) (s : State) : Type 0 where
  pub client : Client
  pub clients : s.clients ≡ client ∷ []
  pub ended : client.ended ≡ Some done
  pub packets : length s.packets ≤ enough_packets j

-- Among other jobs.
abbrev pub later : Option Mail → Option Mail → Option Mail
later (Some p) q = Some p
later None q = q

-- the newest mail of a client, and the count of them
abbrev pub newest : ℕ → List Mail → Option Mail
newest k [] = None
newest k (p ∷ ps) = later (newest k ps) (if p.client == k then Some p else None)

abbrev pub count_of : ℕ → List Mail → ℕ
count_of k [] = 0
count_of k (p ∷ ps) = (if p.client == k then 1 else 0) + count_of k ps

-- a packet of the client comes up once: it is the newest, and has no answer yet; the device accepts it
abbrev pub UpOnce : ℕ → State → Option Mail → Moment → Type 0
UpOnce k s None m = Unit {0}
UpOnce k s (Some p) m = p.client ≡ k → (newest k s.packets ≡ Some p) × (count_of k s.replies + 1 ≡ count_of k s.packets) × IsAccepted m.reply

-- an answer comes down once: it is the newest, and the client has sent nothing since
abbrev pub DownOnce : ℕ → State → Option Mail → Type 0
DownOnce k s None = Unit {0}
DownOnce k s (Some r) = r.client ≡ k → (newest k s.replies ≡ Some r) × (count_of k s.replies ≡ count_of k s.packets)

abbrev pub IsOrderly : ℕ → State → Event → Moment → Type 0
IsOrderly k s (begins job) m = Unit {0}
IsOrderly k s (raw bytes) m = Unit {0}
IsOrderly k s (up which) m = UpOnce k s (nth s.packets (number_of s.packets which)) m
IsOrderly k s (down which) m = DownOnce k s (nth s.replies (number_of s.replies which))
IsOrderly k s (quiet n) m = n ≢ k
IsOrderly k s (arms arm) m = Unit {0}
IsOrderly k s boot m = Unit {0}

-- that is asked while the job has not ended
abbrev pub WhileGoing : ℕ → State → Type 0 → Type 0
WhileGoing k s P = (c : Client) → nth s.clients k ≡ Some c → c.ended ≡ None → P

abbrev pub AreOrderly : ℕ → State → List Event → List Moment → Type 0
AreOrderly k s (e ∷ events) (m ∷ moments) = (m.struck ≡ false) × WhileGoing k s (IsOrderly k s e m) × AreOrderly k m.state events moments
AreOrderly k s events moments = Unit {0}

-- no raw bytes, and no further upload
abbrev pub NoUpload : Event → Type 0
NoUpload (begins (uploads j)) = ⊥
NoUpload (begins lists) = Unit {0}
NoUpload (begins (sets settings)) = Unit {0}
NoUpload (begins (puts name file)) = Unit {0}
NoUpload (begins (gets name)) = Unit {0}
NoUpload (begins (echoes text)) = Unit {0}
NoUpload (raw bytes) = ⊥
NoUpload (up which) = Unit {0}
NoUpload (down which) = Unit {0}
NoUpload (quiet client) = Unit {0}
NoUpload (arms arm) = Unit {0}
NoUpload boot = Unit {0}

-- the first client has sent no more packets than an upload takes at most, and is done, or was given an answer to each packet
-- but the newest
pub record GoesWell (j : UploadJob) (s : State) : Type 0 where
  pub client : Client
  pub at : nth s.clients 1 ≡ Some client
  pub few : client.sent ≤ enough_packets j
  pub ended : ((client.ended ≡ None) × (length client.answers + 1 ≡ client.sent)) ⊎ (client.ended ≡ Some done)
