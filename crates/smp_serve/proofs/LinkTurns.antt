-- Turns of a device that serves over a link.
use Rattle.std.proofs.Common.{◌≡◌, ◌+◌, ◌<◌, ◌≤◌, ℕ, Bool, true, false, inl, inr, List, [], ◌∷◌, ◌++◌, length, map, Option, Some, None, Err, refl, ap, sym, ◌∙◌, subst, arith, length-append}
use Rattle.std.specs.Prelude.{is_some, if◌then◌else◌}
use Rattle.std.specs.List.{flat_map}
use Rattle.std.proofs.lemmas.List.{append-nil, map-append, length_push}
use Rattle.std.proofs.lemmas.Grind.{flat_map-append}
use Rattle.smp_edge.specs.declared.link.Peer.{Peer}
use Rattle.smp_edge.specs.declared.scripts.Scripted.{Scripted}
use Rattle.smp_edge.specs.declared.scripts.Scripted.TheVariants as items
use Rattle.smp_edge.specs.declared.scripts.Sent.{Sent}
use Rattle.smp_header.specs.Message.{packet}
use Rattle.smp_serve.specs.Hearing.{HearsOne, LinkState, with_all}
use Rattle.smp_serve.specs.Links.{Answers, AnswersStop, Datagram, Letter, LinkEnds, LinkServes, LinkSession, SendsLast, TurnEnds, TurnPasses, TurnStops, datagram_in, datagram_of, exchange_of, reply_to, sent_if}
use Rattle.smp_serve.specs.Sessions.{Exchange, Point, Serves, Stop, Stops, exchange, fell, packet_at, stop_fault, unsent, unstarted}
use Rattle.smp_serve.specs.declared.fault.ServeFault.{ServeFault}
use Rattle.smp_serve.specs.declared.fault.ServeFault.TheVariants as faults
use Rattle.smp_serve.specs.declared.link_serving.Served.{Served}
use Rattle.smp_serve.proofs.Heard.{HearsPacket, hears_more, nothing_heard, sends_more, sends_nothing}
use Rattle.smp_serve.proofs.Packets.{at_alike, passes_alike, serves_more, serves_nothing, serves_one}

-- what is counted of a datagram
abbrev pub counted_answer : Bool → ℕ
counted_answer answered = if answered then 1 else 0

abbrev pub counted_drop : Bool → ℕ
counted_drop answered = if answered then 0 else 1

abbrev letter : Peer → List ℕ → Option (List ℕ) → Letter
letter from held reply = record { from = from; exchange = exchange held reply }

count_one : (from : Peer) (held : List ℕ) (reply : Option (List ℕ)) → counted_answer (is_some reply) ≡ length (flat_map reply_to (letter from held reply ∷ []))
count_one from held None = refl
count_one from held (Some reply) = refl

sum_one : (answered : Bool) (n m : ℕ) → n ≡ counted_answer answered → m ≡ counted_drop answered → n + m ≡ 1
sum_one true n m h k = omega arith
sum_one false n m h k = omega arith

pub turn_passes : (answered : Bool) (served : Served) (from : Peer) (bytes : List ℕ) (a b : Point) (x y : LinkState) (z : Option (List Sent))
    → served.answered ≡ counted_answer answered → served.dropped ≡ counted_drop answered
    → HearsPacket x.script y.script from bytes → z ≡ x.sent → Answers from bytes answered a b z y.sent → TurnPasses served a b x y
turn_passes answered served from bytes a b x y z n m p same h =
    let l : Letter = letter from p.held h.reply in
    record {
      item = items.Packet from p.held;
      letters = l ∷ [];
      hears = p.hears;
      serves = serves_one a b (exchange p.held h.reply) (passes_alike bytes p.held h.reply a b p.same h.passes);
      datagrams = refl;
      sends = h.sends ∙ ap (λ (s : Option (List Sent)). with_all s (sent_if from h.reply)) same ∙ ap (with_all x.sent) (sym (append-nil (sent_if from h.reply)));
      answered = n ∙ ap counted_answer h.told ∙ count_one from p.held h.reply;
      all = sum_one answered served.answered served.dropped n m;
      one = omega arith;
    }

pub turn_quiet : (served : Served) (a : Point) (x y : LinkState) → served.answered ≡ 0 → served.dropped ≡ 0 → HearsOne x.script y.script items.Quiet → y.sent ≡ x.sent → TurnPasses served a a x y
turn_quiet served a x y n m hears same = record {
  item = items.Quiet;
  letters = [];
  hears = hears;
  serves = serves_nothing a;
  datagrams = refl;
  sends = same ∙ sends_nothing x.sent;
  answered = n;
  all = omega arith;
  one = omega arith;
}

-- the datagram at which a session stops, as it was sent
record StopsWith (held : List ℕ) (fault : ServeFault) (from : Peer) (a b : Point) (old new : Option (List Sent)) : Type 0 where
  stop : Stop
  packet_is : packet_at stop ≡ held
  told : fault ≡ stop_fault faults.Link stop
  stops : Stops stop a b
  sends : SendsLast stop from old new

stops_with : (held : List ℕ) (fault : ServeFault) (from : Peer) (a b : Point) (old new : Option (List Sent)) (stop : Stop) → packet held ≡ packet (packet_at stop)
    → fault ≡ stop_fault faults.Link stop → Stops stop a b → SendsLast stop from old new → StopsWith held fault from a b old new
stops_with held fault from a b old new (unsent bytes reply) same told stops sends = record {
  stop = unsent held reply;
  packet_is = refl;
  told = told;
  stops = record { handled = stops.handled; out = stops.out; handles = at_alike bytes held stops.out _ a b same stops.handles; reply_is = stops.reply_is };
  sends = sends;
}
stops_with held fault from a b old new (fell bytes down) same told stops sends = record {
  stop = fell held down;
  packet_is = refl;
  told = told;
  stops = record { out = stops.out; handles = at_alike bytes held stops.out _ a b same stops.handles };
  sends = sends;
}
stops_with held fault from a b old new (unstarted bytes reply start) same told stops sends = record {
  stop = unstarted held reply start;
  packet_is = refl;
  told = told;
  stops = record { middle = stops.middle; handles = at_alike bytes held reply _ a stops.middle same stops.handles; starts = stops.starts };
  sends = sends;
}

pub turn_stops : (fault : ServeFault) (from : Peer) (bytes : List ℕ) (a b : Point) (x y : LinkState) (z : Option (List Sent))
    → HearsPacket x.script y.script from bytes → z ≡ x.sent → AnswersStop from bytes fault a b z y.sent → TurnStops fault a b x y
turn_stops fault from bytes a b x y z p same h =
    let w = stops_with p.held fault from a b z y.sent h.stop (p.same ∙ ap packet (sym h.packet_is)) h.told h.stops h.sends in
    record {
      stop = w.stop;
      told = w.told;
      from = from;
      hears = subst (λ (held : List ℕ). HearsOne x.script y.script (items.Packet from held)) (sym w.packet_is) p.hears;
      stops = w.stops;
      sends = subst (λ (s : Option (List Sent)). SendsLast w.stop from s y.sent) same w.sends;
    }

-- Turns in a row.

pub no_turns : (served : Served) (a : Point) (x : LinkState) → served.answered ≡ 0 → served.dropped ≡ 0 → LinkServes 0 served a a x x
no_turns served a x n m = record {
  heard = [];
  letters = [];
  session = record { serves = serves_nothing a; hears = nothing_heard x.script; datagrams = refl; sends = sends_nothing x.sent };
  turns_are = refl;
  answered = n;
  all = omega arith;
}

session_more : (a b c : Point) (x y z : LinkState) (heard : List Scripted) (letters : List Letter) (served : Served) → LinkSession a b x y heard letters
    → (t : TurnPasses served b c y z) → LinkSession a c x z (heard ++ t.item ∷ []) (letters ++ t.letters)
session_more a b c x y z heard letters served s t = record {
  serves = subst (λ (xs : List Exchange). Serves a xs c) (sym (map-append exchange_of letters t.letters)) (serves_more a b c _ _ s.serves t.serves);
  hears = hears_more x.script y.script z.script heard t.item s.hears t.hears;
  datagrams = flat_map-append datagram_in heard (t.item ∷ []) ∙ ap (λ (ds : List Datagram). flat_map datagram_in heard ++ ds) (append-nil (datagram_in t.item) ∙ t.datagrams)
      ∙ ap (λ (ds : List Datagram). ds ++ map datagram_of t.letters) s.datagrams ∙ sym (map-append datagram_of letters t.letters);
  sends = t.sends ∙ ap (λ (o : Option (List Sent)). with_all o (flat_map reply_to t.letters)) s.sends ∙ sends_more x.sent (flat_map reply_to letters) (flat_map reply_to t.letters)
      ∙ ap (with_all x.sent) (sym (flat_map-append reply_to letters t.letters));
}

pub serves_turn : (n : ℕ) (served turned after : Served) (a b c : Point) (x y z : LinkState) → LinkServes n served a b x y → TurnPasses turned b c y z
    → after.answered ≡ served.answered + turned.answered → after.dropped ≡ served.dropped + turned.dropped → LinkServes (n + 1) after a c x z
serves_turn n served turned after a b c x y z s t m k = record {
  heard = s.heard ++ t.item ∷ [];
  letters = s.letters ++ t.letters;
  session = session_more a b c x y z s.heard s.letters turned s.session t;
  turns_are = length_push s.heard t.item ∙ ap (λ (i : ℕ). i + 1) s.turns_are;
  answered = m ∙ ap (λ (i : ℕ). i + turned.answered) s.answered ∙ ap (λ (i : ℕ). length (flat_map reply_to s.letters) + i) t.answered
      ∙ sym (ap length (flat_map-append reply_to s.letters t.letters) ∙ length-append (flat_map reply_to s.letters) (flat_map reply_to t.letters));
  all = let both : length (s.letters ++ t.letters) ≡ length s.letters + length t.letters = length-append s.letters t.letters in
      let one : served.answered + served.dropped ≡ length s.letters = s.all in let two : turned.answered + turned.dropped ≡ length t.letters = t.all in omega arith;
}

pub few_more : (answered dropped n m done size : ℕ) → answered + dropped ≤ done → n + m ≡ size → size ≤ 1 → (answered + n) + (dropped + m) ≤ done + 1
few_more answered dropped n m done size few all one = omega arith

pub turn_ends : (turns n : ℕ) (served : Served) (fault : ServeFault) (a b c : Point) (x y z : LinkState) → n < turns → LinkServes n served a b x y → TurnEnds (Err fault) b c y z
    → LinkEnds turns (Err fault) a c x z
turn_ends turns n served fault a b c x y z more s (inl t) = inl (
  t.0,
  record {
    heard = s.heard;
    letters = s.letters;
    middle = y;
    session = subst (λ (p : Point). LinkSession a p x y s.heard s.letters) (sym t.1.point) s.session;
    turns_left = subst (λ (i : ℕ). i < turns) (sym s.turns_are) more;
    hears = t.1.hears;
    sends = t.1.sends;
  },
)
turn_ends turns n served fault a b c x y z more s (inr t) = inr (record {
  stop = t.stop;
  told = t.told;
  stops = record {
    heard = s.heard;
    letters = s.letters;
    before = b;
    middle = y;
    session = s.session;
    turns_left = subst (λ (i : ℕ). i < turns) (sym s.turns_are) more;
    from = t.from;
    hears = t.hears;
    stops = t.stops;
    sends = t.sends;
  };
})
