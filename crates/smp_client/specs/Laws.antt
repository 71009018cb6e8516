-- What is so of every request, in words of its own: what an answer is, how often a packet is sent, and when a wait ends.
use Rattle.std.specs.Prelude.{◌≡◌, ◌<◌, ℕ, zero, suc, ◌+◌, List, [], ◌∷◌, length, Some, None}
use Rattle.std.specs.List.{All}
use Rattle.smp_header.specs.Message.{Message, packet}
use Rattle.smp_reply.specs.declared.answer.Asked.{Asked}
use Rattle.smp_reply.specs.Told.{Told, told}
use Rattle.smp_client.specs.Requests.{Open, opened, sends, waits, answers, no_answer, Moved, moved, wait_ends, answer_of_bytes, hears_bytes}

pub record IsReplyTo (request m : Message) : Type 0 where
  pub sequence : m.sequence ≡ request.sequence
  pub group : m.group ≡ request.group
  pub command : m.command ≡ request.command
  pub operation : m.op ≡ request.op + 1
  pub version : m.version < 2

-- bytes that are a reply to the request, whose data is that answer of the kind that was asked for
pub record IsAnswer (o : Open) (bytes : List ℕ) (answer : Told) : Type 0 where
  pub reply : Message
  pub is_packet : packet bytes ≡ Some reply
  pub is_reply : IsReplyTo o.packet reply
  pub is_told : told o.asked reply.bytes ≡ Some answer

-- a request is answered by an answer alone
abbrev pub AnswersAreReplies : Type 0
AnswersAreReplies = (o : Open) (bytes : List ℕ) (answer : Told) → (hears_bytes o bytes).reaction ≡ answers answer → IsAnswer o bytes answer

-- a request after so many waits that ended
abbrev pub after_waits : ℕ → Open → Open
after_waits zero o = o
after_waits (suc n) o = (wait_ends (after_waits n o)).request

-- each of the first eight waits sends the packet again, and the ninth is the last
abbrev pub NineWaits : Type 0
NineWaits = (m : Message) (asked : Asked)
    → ((n : ℕ) → n < 8 → (wait_ends (after_waits n (opened m asked))).reaction ≡ sends)
    × ((wait_ends (after_waits 8 (opened m asked))).reaction ≡ no_answer)

-- what comes of the last of some packets that are heard one after another
abbrev pub hears_each : Open → List ℕ → List (List ℕ) → Moved
hears_each o bytes [] = hears_bytes o bytes
hears_each o bytes (next ∷ more) = hears_each (hears_bytes o bytes).request next more

abbrev pub IsStranger : Open → List ℕ → Type 0
IsStranger o bytes = answer_of_bytes o.packet o.asked bytes ≡ None

-- 64 packets that are no answers, heard from a wait's begin on, end it as quiet ends it then
abbrev pub StrangersEndWaits : Type 0
StrangersEndWaits = (o : Open) (first : List ℕ) (more : List (List ℕ)) → IsStranger o first → All (IsStranger o) more
    → o.strangers ≡ 0 → length more ≡ 63 → hears_each o first more ≡ wait_ends (record o { strangers = 63 })

-- fewer of them leave the wait as it is, but for their count
abbrev pub FewStrangersWait : Type 0
FewStrangersWait = (o : Open) (first : List ℕ) (more : List (List ℕ)) → IsStranger o first → All (IsStranger o) more
    → o.strangers ≡ 0 → length more < 63 → hears_each o first more ≡ moved (record o { strangers = length more + 1 }) waits
