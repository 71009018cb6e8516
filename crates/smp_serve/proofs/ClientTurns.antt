-- A client's turn, and what its job tells of it.
use Rattle.std.proofs.Common.{◌≡◌, ◌+◌, ℕ, Bool, true, false, List, ◌∷◌, Option, Some, None, refl, sym, subst}
use Rattle.std.specs.Prelude.{if◌then◌else◌}
use Rattle.smp_edge.specs.declared.scripts.Scripted.{Scripted}
use Rattle.smp_edge.specs.declared.scripts.Scripted.TheVariants as items
use Rattle.smp_header.specs.Message.{Message, packet}
use Rattle.smp_model.specs.Packets.{packet_bytes}
use Rattle.smp_client.specs.Requests as reactions
use Rattle.smp_client.specs.Requests.{Open, Reaction, Moved, answer_of_packet, by_answer, hears_bytes, wait_ends}
use Rattle.smp_jobs.specs.Clients.{Client, Turn, after_moved, after_reaction, asks_for, client_hears_bytes, goes_on, stops, with_answer}
use Rattle.smp_jobs.specs.Jobs.{End, Next, asks, ends, next, done, no_answer, refused, mismatch, stalled, may_send}
use Rattle.smp_jobs.specs.States.{HearsWant, JobState, Stands, StandsBy, Turns, WantsMemory, packet_in, told_by}
use Rattle.smp_jobs.specs.declared.moves.JobMove.{JobMove}
use Rattle.smp_jobs.specs.declared.moves.JobMove.TheVariants as moves
use Rattle.smp_serve.specs.Driving.{turn_of}

-- What a client does at bytes goes by the packet that they are.
pub at_packet : (c : Client) (held bytes : List ℕ) (job : JobState) (move : JobMove) → packet held ≡ packet bytes
    → Turns (HearsWant c bytes) job move (client_hears_bytes c bytes) → Turns (HearsWant c held) job move (client_hears_bytes c held)
at_packet c held bytes job move same turns =
    let by : Option Message → Moved = λ p. by_answer c.request (answer_of_packet c.request.packet c.request.asked p) in
    subst (λ (p : Option Message). Turns (WantsMemory (by p).reaction (after_moved c (by p))) job move (after_moved c (by p))) (sym same) turns

-- a job that stands for a client that has not ended
pub running : (s : JobState) (c : Client) → c.ended ≡ None → Stands s c → StandsBy None s c
running s c goes stands = subst (λ (e : Option End). StandsBy e s c) goes stands

pub is_running : (s : JobState) (c : Client) → c.ended ≡ None → Stands s c → s.is_over ≡ false
is_running s c goes stands = (running s c goes stands).0

pub packet_is : (s : JobState) (c : Client) → c.ended ≡ None → Stands s c → packet_in s ≡ packet_bytes c.request.packet
packet_is s c goes stands = (running s c goes stands).2.held.bytes

pub done_prints : (s : JobState) (c : Client) → c.ended ≡ Some done → Stands s c → StandsBy (Some done) s c
done_prints s c ended stands = subst (λ (e : Option End). StandsBy e s c) ended stands

-- what the moves tell
pub told_sends : (e : Option End) (p : Option Message) → told_by e p ≡ moves.Send → (e ≡ None) × ((m : Message) × (p ≡ Some m))
told_sends None (Some m) h = (refl, (m, refl))
told_sends None None h = cc
told_sends (Some done) p h = cc
told_sends (Some no_answer) p h = cc
told_sends (Some (refused group number)) p h = cc
told_sends (Some mismatch) p h = cc
told_sends (Some stalled) p h = cc

pub told_waits : (e : Option End) (p : Option Message) → told_by e p ≡ moves.Wait → (e ≡ None) × (p ≡ None)
told_waits None (Some m) h = cc
told_waits None None h = (refl, refl)
told_waits (Some done) p h = cc
told_waits (Some no_answer) p h = cc
told_waits (Some (refused group number)) p h = cc
told_waits (Some mismatch) p h = cc
told_waits (Some stalled) p h = cc

pub told_done : (e : Option End) (p : Option Message) → told_by e p ≡ moves.Done → e ≡ Some done
told_done None (Some m) h = cc
told_done None None h = cc
told_done (Some done) p h = refl
told_done (Some no_answer) p h = cc
told_done (Some (refused group number)) p h = cc
told_done (Some mismatch) p h = cc
told_done (Some stalled) p h = cc

pub never_over : (e : Option End) (p : Option Message) → told_by e p ≡ moves.Over → ⊥
never_over None (Some m) h = cc
never_over None None h = cc
never_over (Some done) p h = cc
never_over (Some no_answer) p h = cc
never_over (Some (refused group number)) p h = cc
never_over (Some mismatch) p h = cc
never_over (Some stalled) p h = cc

-- a client that ends sends nothing, and one that sends sends the packet of its request
pub record SendsOwn (t : Turn) : Type 0 where
  pub own : (m : Message) → t.packet ≡ Some m → m ≡ t.client.request.packet
  pub none : (e : End) → t.client.ended ≡ Some e → t.packet ≡ None

sent_or_stalled : (b : Bool) (c : Client) → c.ended ≡ None
    → SendsOwn (if b then record { client = record c { sent = c.sent + 1 }; packet = Some c.request.packet } else stops c stalled)
sent_or_stalled true c goes = record { own = λ m h. cc; none = λ e h. cc }
sent_or_stalled false c goes = record { own = λ m h. cc; none = λ e h. refl }

after_next : (c : Client) (n : Next) → c.ended ≡ None → SendsOwn (goes_on c n)
after_next c (asks m) goes = sent_or_stalled (may_send c.job c.sent) (asks_for c m) goes
after_next c (ends e) goes = record { own = λ m h. cc; none = λ e h. refl }

after_react : (c : Client) (r : Reaction) → c.ended ≡ None → SendsOwn (after_reaction c r)
after_react c reactions.sends goes = sent_or_stalled (may_send c.job c.sent) c goes
after_react c reactions.waits goes = record { own = λ m h. cc; none = λ e h. refl }
after_react c (reactions.answers answer) goes = after_next (with_answer c answer) (next c.job (answer ∷ c.answers)) goes
after_react c reactions.no_answer goes = record { own = λ m h. cc; none = λ e h. refl }

pub sends_own : (c : Client) (item : Scripted) → c.ended ≡ None → SendsOwn (turn_of c item)
sends_own c (items.Packet from held) goes = after_react (record c { request = (hears_bytes c.request held).request }) (hears_bytes c.request held).reaction goes
sends_own c items.Quiet goes = after_react (record c { request = (wait_ends c.request).request }) (wait_ends c.request).reaction goes
