-- A client that is driven, turn by turn.
use Rattle.std.proofs.Common.{◌≡◌, ◌⊎◌, ℕ, Bool, true, false, inl, inr, List, [], ◌∷◌, ◌++◌, Option, Some, None, Ok, Err, refl, ap, sym, ◌∙◌, subst}
use Rattle.std.proofs.lemmas.List.{map-append}
use Rattle.smp_edge.specs.Link.{with_sent}
use Rattle.smp_edge.specs.declared.link.Peer.{Peer}
use Rattle.smp_edge.specs.declared.scripts.Scripted.{Scripted}
use Rattle.smp_edge.specs.declared.scripts.Sent.{Sent}
use Rattle.smp_header.specs.Message.{Message}
use Rattle.smp_model.specs.Packets.{packet_bytes}
use Rattle.smp_jobs.specs.Clients.{Client, Turn}
use Rattle.smp_jobs.specs.Jobs.{End, done, no_answer, refused, mismatch, stalled}
use Rattle.smp_jobs.specs.States.{JobState, Stands, Turns, packet_in, told_as, told_by}
use Rattle.smp_jobs.specs.declared.moves.JobEnd.{JobEnd}
use Rattle.smp_jobs.specs.declared.moves.JobEnd.TheVariants as job_ends
use Rattle.smp_jobs.specs.declared.moves.JobMove.{JobMove}
use Rattle.smp_jobs.specs.declared.moves.JobMove.TheVariants as moves
use Rattle.smp_serve.specs.Hearing.{LinkState, HearsAll, HearsOne, with_all}
use Rattle.smp_serve.specs.Driving.{DrivesTo, DrivesToEnd, Drove, DroveToEnd, HearsAt, IsRunning, TurnedOn, TurnedToEnd, TurnStarved, TurnUnheard, TurnUnsent, TurnsTo, TurnsToEnd, WantsAt, bytes_sent, sends_first, takes_turn, to_peer, turn_of}
use Rattle.smp_serve.specs.declared.driving.ClientFault.{ClientFault}
use Rattle.smp_serve.specs.declared.driving.ClientFault.TheVariants as faults
use Rattle.smp_serve.proofs.ClientTurns.{done_prints, never_over, packet_is, sends_own, told_done, told_sends, told_waits}
use Rattle.smp_serve.proofs.Heard.{hears_more, nothing_heard, sends_more, sends_nothing}

-- One turn.

told_move : (c : Client) (job : JobState) (move : JobMove) (item : Scripted) → move ≡ moves.Send → Turns (WantsAt c item) job move (turn_of c item)
    → (moves.Send ≡ told_as (turn_of c item)) × Stands job (turn_of c item).client
told_move c job move item e turns = subst (λ (m : JobMove). Turns (WantsAt c item) job m (turn_of c item)) e turns

not_over : (c : Client) (job : JobState) (move : JobMove) (item : Scripted) → move ≡ moves.Over → Turns (WantsAt c item) job move (turn_of c item)
    → (moves.Over ≡ told_as (turn_of c item)) × Stands job (turn_of c item).client
not_over c job move item e turns = subst (λ (m : JobMove). Turns (WantsAt c item) job m (turn_of c item)) e turns

pub is_never_over : (c : Client) (job : JobState) (move : JobMove) (item : Scripted) → Turns (WantsAt c item) job move (turn_of c item) → move ≡ moves.Over → ⊥
is_never_over c job move item turns e = never_over (turn_of c item).client.ended (turn_of c item).packet (sym (not_over c job move item e turns).0)

-- what is sent of the packet of a turn
own_sent : (c : Client) (item : Scripted) (job : JobState) (m : Message) (bytes : List ℕ) → c.ended ≡ None → (turn_of c item).client.ended ≡ None → (turn_of c item).packet ≡ Some m
    → Stands job (turn_of c item).client → bytes ≡ packet_in job → bytes ≡ packet_bytes m
own_sent c item job m bytes goes on packet stands e =
    e ∙ packet_is job (turn_of c item).client on stands ∙ ap packet_bytes (sym ((sends_own c item goes).own m packet))

pub sends_turn : (c : Client) (peer : Peer) (job : JobState) (move : JobMove) (a b d : LinkState) (bytes : List ℕ) → c.ended ≡ None → move ≡ moves.Send
    → HearsAt c job move a.script b.script → b.sent ≡ a.sent → bytes ≡ packet_in job → d.sent ≡ with_sent b.sent peer bytes → d.script ≡ b.script → TurnedOn c peer job a d
sends_turn c peer job move a b d bytes goes e heard same own sent script =
    let told = told_move c job move heard.item e heard.turns in
    let sends = told_sends (turn_of c heard.item).client.ended (turn_of c heard.item).packet (sym told.0) in
    let is : bytes ≡ packet_bytes sends.1.0 = own_sent c heard.item job sends.1.0 bytes goes sends.0 sends.1.1 told.1 own in
    record {
      item = heard.item;
      hears = record { told = heard.hears.told; left = script ∙ heard.hears.left };
      goes = sends.0;
      sends = sent ∙ ap (λ (s : Option (List Sent)). with_sent s peer bytes) same ∙ ap (λ (p : List ℕ). with_sent a.sent peer p) is
          ∙ ap (λ (p : Option Message). with_all a.sent (to_peer peer (bytes_sent p))) (sym sends.1.1);
      stands = told.1;
    }

pub unsent_turn : (c : Client) (peer : Peer) (job : JobState) (move : JobMove) (a b d : LinkState) (bytes : List ℕ) → c.ended ≡ None → move ≡ moves.Send
    → HearsAt c job move a.script b.script → b.sent ≡ a.sent → bytes ≡ packet_in job → (d.sent ≡ b.sent) ⊎ (d.sent ≡ with_sent b.sent peer bytes) → d.script ≡ b.script
    → TurnUnsent c peer job a d
unsent_turn c peer job move a b d bytes goes e heard same own sent script =
    let told = told_move c job move heard.item e heard.turns in
    let sends = told_sends (turn_of c heard.item).client.ended (turn_of c heard.item).packet (sym told.0) in
    let is : bytes ≡ packet_bytes sends.1.0 = own_sent c heard.item job sends.1.0 bytes goes sends.0 sends.1.1 told.1 own in
    record {
      item = heard.item;
      hears = record { told = heard.hears.told; left = script ∙ heard.hears.left };
      goes = sends.0;
      message = sends.1.0;
      packet = sends.1.1;
      sends = elim sent [
        | inl h ↦ inl (h ∙ same)
        | inr h ↦ inr (h ∙ ap (λ (s : Option (List Sent)). with_sent s peer bytes) same ∙ ap (λ (p : List ℕ). with_sent a.sent peer p) is)
      ];
      stands = told.1;
    }

pub waits_turn : (c : Client) (peer : Peer) (job : JobState) (move : JobMove) (a b : LinkState) → move ≡ moves.Wait
    → HearsAt c job move a.script b.script → b.sent ≡ a.sent → TurnedOn c peer job a b
waits_turn c peer job move a b e heard same =
    let t : Turn = turn_of c heard.item in
    let told : (moves.Wait ≡ told_as t) × Stands job t.client = subst (λ (m : JobMove). Turns (WantsAt c heard.item) job m t) e heard.turns in
    let waits = told_waits t.client.ended t.packet (sym told.0) in
    record {
      item = heard.item;
      hears = heard.hears;
      goes = waits.0;
      sends = same ∙ sends_nothing a.sent ∙ ap (λ (p : Option Message). with_all a.sent (to_peer peer (bytes_sent p))) (sym waits.1);
      stands = told.1;
    }

pub done_turn : (c : Client) (job : JobState) (move : JobMove) (a b : LinkState) → move ≡ moves.Done
    → HearsAt c job move a.script b.script → b.sent ≡ a.sent → TurnedToEnd c job moves.Done a b
done_turn c job move a b e heard same =
    let t : Turn = turn_of c heard.item in
    let told : (moves.Done ≡ told_as t) × Stands job t.client = subst (λ (m : JobMove). Turns (WantsAt c heard.item) job m t) e heard.turns in
    record { item = heard.item; hears = heard.hears; ended = sym told.0; sends = same; stands = told.1 }

failing_turn : (c : Client) (job : JobState) (told : JobEnd) (a b : LinkState) (item : Scripted) → HearsOne a.script b.script item → b.sent ≡ a.sent
    → Turns (WantsAt c item) job (moves.Failed told) (turn_of c item) → TurnsToEnd told c job a b
failing_turn c job job_ends.OutOfMemory a b item hears same turns = record { item = item; hears = hears; wants = turns.0; sends = same; over = turns.1; printed = turns.2 }
failing_turn c job job_ends.NoAnswer a b item hears same turns = record { item = item; hears = hears; ended = sym turns.0; sends = same; stands = turns.1 }
failing_turn c job (job_ends.Refused group number) a b item hears same turns = record { item = item; hears = hears; ended = sym turns.0; sends = same; stands = turns.1 }
failing_turn c job job_ends.Mismatch a b item hears same turns = record { item = item; hears = hears; ended = sym turns.0; sends = same; stands = turns.1 }
failing_turn c job job_ends.Stalled a b item hears same turns = record { item = item; hears = hears; ended = sym turns.0; sends = same; stands = turns.1 }

pub failed_turn : (c : Client) (job : JobState) (move : JobMove) (told : JobEnd) (a b : LinkState) → move ≡ moves.Failed told
    → HearsAt c job move a.script b.script → b.sent ≡ a.sent → TurnsToEnd told c job a b
failed_turn c job move told a b e heard same =
    failing_turn c job told a b heard.item heard.hears same
    (subst (λ (m : JobMove). Turns (WantsAt c heard.item) job m (turn_of c heard.item)) e heard.turns)

pub runs_on : (c : Client) (peer : Peer) (job : JobState) (a b : LinkState) → TurnedOn c peer job a b → IsRunning job
runs_on c peer job a b t = record { client = (turn_of c t.item).client; goes = t.goes; stands = t.stands }

-- Turns in a row.

-- it was driven up to here, and goes on
pub record Conversing (c : Client) (peer : Peer) (job : JobState) (a b : LinkState) : Type 0 where
  pub now : Client
  pub goes : now.ended ≡ None
  pub drove : Drove c peer job now a b

pub begins : (c : Client) (peer : Peer) (job : JobState) (a b : LinkState) (bytes : List ℕ) → c.ended ≡ None → Stands job c → bytes ≡ packet_in job
    → b.sent ≡ with_sent a.sent peer bytes → b.script ≡ a.script → Conversing c peer job a b
begins c peer job a b bytes goes stands own sent script = record {
  now = c;
  goes = goes;
  drove = record {
    heard = [];
    packets = packet_bytes c.request.packet ∷ [];
    drives = sends_first c c [] (packet_bytes c.request.packet ∷ []) refl refl refl;
    hears = subst (λ (s : Option (List Scripted)). HearsAll a.script s []) (sym script) (nothing_heard a.script);
    sends = sent ∙ ap (λ (p : List ℕ). with_sent a.sent peer p) (own ∙ packet_is job c goes stands);
    stands = stands;
  };
}

pub begins_unsent : (c : Client) (peer : Peer) (job : JobState) (a b : LinkState) (bytes : List ℕ) → c.ended ≡ None → Stands job c → bytes ≡ packet_in job
    → (b.sent ≡ a.sent) ⊎ (b.sent ≡ with_sent a.sent peer bytes) → b.script ≡ a.script → DrivesTo (Err faults.Link) c peer job a b
begins_unsent c peer job a b bytes goes stands own sent script = inr record {
  now = c;
  heard = [];
  packets = [];
  last = packet_bytes c.request.packet;
  drives = sends_first c c [] (packet_bytes c.request.packet ∷ []) refl refl refl;
  goes = goes;
  hears = subst (λ (s : Option (List Scripted)). HearsAll a.script s []) (sym script) (nothing_heard a.script);
  sends = elim sent [
    | inl h ↦ inl (h ∙ sends_nothing a.sent)
    | inr h ↦ inr (h ∙ ap (λ (p : List ℕ). with_sent a.sent peer p) (own ∙ packet_is job c goes stands))
  ];
  stands = stands;
}

more_sent : (a b d : Option (List Sent)) (peer : Peer) (packets more : List (List ℕ)) → b ≡ with_all a (to_peer peer packets) → d ≡ with_all b (to_peer peer more)
    → d ≡ with_all a (to_peer peer (packets ++ more))
more_sent a b d peer packets more one then =
    then ∙ ap (λ (s : Option (List Sent)). with_all s (to_peer peer more)) one ∙ sends_more a (to_peer peer packets) (to_peer peer more)
    ∙ ap (with_all a) (sym (map-append (λ (p : List ℕ). record { to = peer; held = p }) packets more))

keeps_on : (c : Client) (peer : Peer) (old new : JobState) (a b d : LinkState) → Conversing c peer old a b
    → ((n : Client) → n.ended ≡ None → Stands old n → TurnedOn n peer new b d) → Conversing c peer new a d
keeps_on c peer old new a b d v turn =
    let o = turn v.now v.goes v.drove.stands in
    let t : Turn = turn_of v.now o.item in
    record {
      now = t.client;
      goes = o.goes;
      drove = record {
        heard = v.drove.heard ++ o.item ∷ [];
        packets = v.drove.packets ++ bytes_sent t.packet;
        drives = takes_turn c v.now t.client v.drove.heard _ o.item v.drove.packets _ v.drove.drives v.goes refl refl refl;
        hears = hears_more a.script b.script d.script v.drove.heard o.item v.drove.hears o.hears;
        sends = more_sent a.sent b.sent d.sent peer v.drove.packets (bytes_sent t.packet) v.drove.sends o.sends;
        stands = o.stands;
      };
    }

-- the last turn, in which the client ended
ended_so : (c : Client) (peer : Peer) (old new : JobState) (a b d : LinkState) (v : Conversing c peer old a b) (item : Scripted) (e : End) → HearsOne b.script d.script item
    → (turn_of v.now item).client.ended ≡ Some e → d.sent ≡ b.sent → Stands new (turn_of v.now item).client → Drove c peer new (turn_of v.now item).client a d
ended_so c peer old new a b d v item e hears ended sent stands =
    let t : Turn = turn_of v.now item in
    let quiet : t.packet ≡ None = (sends_own v.now item v.goes).none e ended in
    record {
      heard = v.drove.heard ++ item ∷ [];
      packets = v.drove.packets ++ bytes_sent t.packet;
      drives = takes_turn c v.now t.client v.drove.heard _ item v.drove.packets _ v.drove.drives v.goes refl refl refl;
      hears = hears_more a.script b.script d.script v.drove.heard item v.drove.hears hears;
      sends = more_sent a.sent b.sent d.sent peer v.drove.packets (bytes_sent t.packet) v.drove.sends
          (sent ∙ sends_nothing b.sent ∙ ap (λ (p : Option Message). with_all b.sent (to_peer peer (bytes_sent p))) (sym quiet));
      stands = stands;
    }

fails_so : (e : Option End) (p : Option Message) (x : JobEnd) → told_by e p ≡ moves.Failed x → (y : End) × ((e ≡ Some y) × (told_by e None ≡ moves.Failed x))
fails_so None (Some m) x h = cc
fails_so None None x h = cc
fails_so (Some done) p x h = cc
fails_so (Some no_answer) p x h = (no_answer, (refl, h))
fails_so (Some (refused group number)) p x h = (refused group number, (refl, h))
fails_so (Some mismatch) p x h = (mismatch, (refl, h))
fails_so (Some stalled) p x h = (stalled, (refl, h))

fails : (c : Client) (peer : Peer) (old new : JobState) (a b d : LinkState) (told : JobEnd) (v : Conversing c peer old a b) → TurnedToEnd v.now new (moves.Failed told) b d
    → DroveToEnd c peer new told a d
fails c peer old new a b d told v o =
    let f = fails_so (turn_of v.now o.item).client.ended (turn_of v.now o.item).packet told o.ended in
    record { now = (turn_of v.now o.item).client; drove = ended_so c peer old new a b d v o.item f.0 o.hears f.1.0 o.sends o.stands; ended = f.1.1 }

starves : (c : Client) (peer : Peer) (old new : JobState) (a b d : LinkState) (v : Conversing c peer old a b) → TurnStarved v.now new b d
    → DrivesToEnd job_ends.OutOfMemory c peer new a d
starves c peer old new a b d v o = record {
  before = v.now;
  earlier = v.drove.heard;
  item = o.item;
  packets = v.drove.packets;
  drives = v.drove.drives;
  goes = v.goes;
  wants = o.wants;
  hears = hears_more a.script b.script d.script v.drove.heard o.item v.drove.hears o.hears;
  sends = o.sends ∙ v.drove.sends;
  over = o.over;
  printed = o.printed;
}

ends_by : (c : Client) (peer : Peer) (old new : JobState) (a b d : LinkState) (told : JobEnd) (v : Conversing c peer old a b) → TurnsToEnd told v.now new b d
    → DrivesToEnd told c peer new a d
ends_by c peer old new a b d job_ends.OutOfMemory v o = starves c peer old new a b d v o
ends_by c peer old new a b d job_ends.NoAnswer v o = fails c peer old new a b d job_ends.NoAnswer v o
ends_by c peer old new a b d (job_ends.Refused group number) v o = fails c peer old new a b d (job_ends.Refused group number) v o
ends_by c peer old new a b d job_ends.Mismatch v o = fails c peer old new a b d job_ends.Mismatch v o
ends_by c peer old new a b d job_ends.Stalled v o = fails c peer old new a b d job_ends.Stalled v o

unheard : (c : Client) (peer : Peer) (old new : JobState) (a b d : LinkState) (v : Conversing c peer old a b) → TurnUnheard v.now new b d → DrivesTo (Err faults.Link) c peer new a d
unheard c peer old new a b d v o = inl record {
  now = v.now;
  heard = v.drove.heard;
  packets = v.drove.packets;
  drives = v.drove.drives;
  goes = v.goes;
  hears = record { middle = b.script; hears = v.drove.hears; left = o.left };
  sends = o.sends ∙ v.drove.sends;
  stands = o.stands;
}

unsent : (c : Client) (peer : Peer) (old new : JobState) (a b d : LinkState) (v : Conversing c peer old a b) → TurnUnsent v.now peer new b d → DrivesTo (Err faults.Link) c peer new a d
unsent c peer old new a b d v o =
    let t : Turn = turn_of v.now o.item in
    inr record {
      now = t.client;
      heard = v.drove.heard ++ o.item ∷ [];
      packets = v.drove.packets;
      last = packet_bytes o.message;
      drives = takes_turn c v.now t.client v.drove.heard _ o.item v.drove.packets _ v.drove.drives v.goes refl
          (ap (λ (p : Option Message). v.drove.packets ++ bytes_sent p) (sym o.packet)) refl;
      goes = o.goes;
      hears = hears_more a.script b.script d.script v.drove.heard o.item v.drove.hears o.hears;
      sends = elim o.sends [
        | inl h ↦ inl (h ∙ v.drove.sends)
        | inr h ↦ inr (more_sent a.sent b.sent d.sent peer v.drove.packets (packet_bytes o.message ∷ []) v.drove.sends h)
      ];
      stands = o.stands;
    }

pub ends_with : (c : Client) (peer : Peer) (old new : JobState) (a b d : LinkState) (fault : ClientFault) → Conversing c peer old a b
    → ((n : Client) → n.ended ≡ None → Stands old n → TurnsTo (Err fault) n peer new b d) → DrivesTo (Err fault) c peer new a d
ends_with c peer old new a b d faults.Link v turn =
    elim (turn v.now v.goes v.drove.stands) [
      | inl o ↦ unheard c peer old new a b d v o
      | inr o ↦ unsent c peer old new a b d v o
    ]
ends_with c peer old new a b d faults.Write v turn = absurd (turn v.now v.goes v.drove.stands)
ends_with c peer old new a b d (faults.End told) v turn = ends_by c peer old new a b d told v (turn v.now v.goes v.drove.stands)

is_done : (c : Client) (peer : Peer) (old new : JobState) (a b d : LinkState) → Conversing c peer old a b
    → ((n : Client) → n.ended ≡ None → Stands old n → TurnedToEnd n new moves.Done b d) → DrivesTo (Ok tt) c peer new a d
is_done c peer old new a b d v turn =
    let o = turn v.now v.goes v.drove.stands in
    let ended = told_done (turn_of v.now o.item).client.ended (turn_of v.now o.item).packet o.ended in
    record { now = (turn_of v.now o.item).client; drove = ended_so c peer old new a b d v o.item done o.hears ended o.sends o.stands; done = ended; text = (done_prints new (turn_of v.now o.item).client ended o.stands).1 }

-- by whether the turn goes on
pub goes_on : (c : Client) (peer : Peer) (old new : JobState) (a b d : LinkState) (on : Bool) → on ≡ true → Conversing c peer old a b
    → ((n : Client) → n.ended ≡ None → Stands old n → TurnsTo (Ok on) n peer new b d) → Conversing c peer new a d
goes_on c peer old new a b d on e v turn =
    keeps_on c peer old new a b d v (λ n goes stands. subst (λ (x : Bool). TurnsTo (Ok x) n peer new b d) e (turn n goes stands))

pub comes_to_end : (c : Client) (peer : Peer) (old new : JobState) (a b d : LinkState) (on : Bool) → on ≡ false → Conversing c peer old a b
    → ((n : Client) → n.ended ≡ None → Stands old n → TurnsTo (Ok on) n peer new b d) → DrivesTo (Ok tt) c peer new a d
comes_to_end c peer old new a b d on e v turn =
    is_done c peer old new a b d v (λ n goes stands. subst (λ (x : Bool). TurnsTo (Ok x) n peer new b d) e (turn n goes stands))
