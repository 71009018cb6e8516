-- Pieces of text that a device serves.
use Rattle.std.proofs.Common.{◌≡◌, ◌+◌, ◌<◌, ◌≤◌, ℕ, Bool, true, false, List, [], ◌∷◌, ◌++◌, length, map, take, drop, Option, Some, None, Err, refl, ap, sym, ◌∙◌, subst, arith, append_assoc, length-append, take-append-drop}
use Rattle.std.specs.Prelude.{not}
use Rattle.std.specs.Io.KnownBytes.{IsAtEnd, append_known, prepend_known}
use Rattle.std.specs.List.{flat_map}
use Rattle.std.proofs.lemmas.List.{append-nil, map-append, length-take-le, length_push, take_all}
use Rattle.std.proofs.lemmas.Grind.{flat_map-append}
use Rattle.smp_console.specs.Frames.{frames}
use Rattle.smp_console.specs.Lines.{split}
use Rattle.smp_console.specs.Receiving.{Feeds, HasText, Received, list_if}
use Rattle.smp_console.specs.declared.receiving.Fed.{Fed}
use Rattle.smp_upload.specs.declared.states.UploadFault.{UploadFault}
use Rattle.smp_upload.specs.declared.states.UploadFault.TheVariants as starts
use Rattle.smp_device.specs.declared.answering.Down.{Down}
use Rattle.smp_device.specs.declared.answering.Down.TheVariants as downs
use Rattle.smp_serve.specs.Consoles.{ArePieces, ConsoleEnds, ConsoleSession, ConsoleServes, ConsoleSpent, ConsoleStops, ConsoleUnread, IsAtPacket, PieceEnds, PieceServes, PieceStops, PiecesServed, Replies, RepliesStop, TakesPiece, joined, most_pieces, packet_in, reply_text, text_if}
use Rattle.smp_serve.specs.Sessions.{Exchange, Point, Serves, down_fault, exchange, packet_at, start_fault}
use Rattle.smp_serve.specs.declared.fault.ServeFault.{ServeFault}
use Rattle.smp_serve.specs.declared.fault.ServeFault.TheVariants as faults
use Rattle.smp_serve.proofs.Packets.{serves_more, serves_nothing, serves_one}

pub writes_nothing : (a : Option (List ℕ)) → a ≡ append_known a []
writes_nothing None = refl
writes_nothing (Some xs) = ap Some (sym (append-nil xs))

writes_more : (a : Option (List ℕ)) (one more : List ℕ) → append_known (append_known a one) more ≡ append_known a (one ++ more)
writes_more None one more = refl
writes_more (Some xs) one more = ap Some (append_assoc xs one more)

reads_nothing : (a : Option (List ℕ)) → prepend_known [] a ≡ a
reads_nothing None = refl
reads_nothing (Some xs) = refl

reads_more : (a : Option (List ℕ)) (one more : List ℕ) → prepend_known one (prepend_known more a) ≡ prepend_known (one ++ more) a
reads_more None one more = refl
reads_more (Some xs) one more = ap Some (sym (append_assoc one more xs))

pub starts_are_at_packets : (fault : UploadFault) → IsAtPacket {T = Unit {0}} (Err (start_fault fault))
starts_are_at_packets starts.Unformatted = tt
starts_are_at_packets (starts.Fault operation) = tt
starts_are_at_packets starts.Off = tt
starts_are_at_packets starts.Worn = tt

pub downs_are_at_packets : (down : Down) → IsAtPacket {T = Unit {0}} (Err (down_fault down))
downs_are_at_packets downs.Off = tt
downs_are_at_packets downs.Unformatted = tt

-- The packets of one piece.

-- it was served up to here
pub record PieceGoes (text piece rest : List ℕ) (receiver : Received) (a b : Point) (old new : Option (List ℕ)) : Type 0 where
  pub done : List ℕ
  pub cut : piece ≡ done ++ rest
  pub exchanges : List Exchange
  pub serves : Serves a exchanges b
  pub packets : frames (text ++ done) ≡ frames text ++ map packet_in exchanges
  pub writes : new ≡ append_known old (flat_map reply_text exchanges)
  pub holds : HasText receiver (text ++ done)

pub piece_begins : (text piece : List ℕ) (receiver : Received) (a : Point) (old : Option (List ℕ)) → HasText receiver text → PieceGoes text piece piece receiver a a old old
piece_begins text piece receiver a old h = record {
  done = [];
  cut = refl;
  exchanges = [];
  serves = serves_nothing a;
  packets = ap frames (append-nil text) ∙ sym (append-nil (frames text));
  writes = writes_nothing old;
  holds = subst (λ (t : List ℕ). HasText receiver t) (sym (append-nil text)) h;
}

cut_on : (piece done rest : List ℕ) (n : ℕ) → piece ≡ done ++ rest → piece ≡ (done ++ take n rest) ++ drop n rest
cut_on piece done rest n cut = cut ∙ ap (λ (t : List ℕ). done ++ t) (sym (take-append-drop n rest)) ∙ sym (append_assoc done (take n rest) (drop n rest))

found_on : (text done rest : List ℕ) (old new : Received) (fed : Fed) → Feeds old new rest fed → HasText old (text ++ done) → fed.packet ≡ true
    → frames (text ++ (done ++ take fed.used rest)) ≡ frames (text ++ done) ++ new.packet ∷ []
found_on text done rest old new fed feeds holds found =
    ap frames (sym (append_assoc text done (take fed.used rest))) ∙ feeds.found (text ++ done) holds
    ∙ ap (λ (b : Bool). frames (text ++ done) ++ list_if b new.packet) found

holds_on : (text done rest : List ℕ) (old new : Received) (fed : Fed) → Feeds old new rest fed → HasText old (text ++ done) → HasText new (text ++ (done ++ take fed.used rest))
holds_on text done rest old new fed feeds holds =
    subst (λ (t : List ℕ). HasText new t) (append_assoc text done (take fed.used rest)) (feeds.holds (text ++ done) holds)

pub piece_goes : (text piece rest after packet : List ℕ) (old new : Received) (fed : Fed) (a b c : Point) (w x y : Option (List ℕ)) → PieceGoes text piece rest old a b w x
    → Feeds old new rest fed → fed.packet ≡ true → after ≡ drop fed.used rest → packet ≡ new.packet → Replies packet b c x y → PieceGoes text piece after new a c w y
piece_goes text piece rest after packet old new fed a b c w x y p feeds found left is r =
    let e : Exchange = exchange packet r.reply in
    record {
      done = p.done ++ take fed.used rest;
      cut = cut_on piece p.done rest fed.used p.cut ∙ ap (λ (t : List ℕ). (p.done ++ take fed.used rest) ++ t) (sym left);
      exchanges = p.exchanges ++ e ∷ [];
      serves = serves_more a b c p.exchanges (e ∷ []) p.serves (serves_one b c e r.passes);
      packets = found_on text p.done rest old new fed feeds p.holds found ∙ ap (λ (fs : List (List ℕ)). fs ++ new.packet ∷ []) p.packets
          ∙ append_assoc (frames text) (map packet_in p.exchanges) (new.packet ∷ [])
          ∙ ap (λ (q : List ℕ). frames text ++ (map packet_in p.exchanges ++ q ∷ [])) (sym is)
          ∙ ap (λ (ps : List (List ℕ)). frames text ++ ps) (sym (map-append packet_in p.exchanges (e ∷ [])));
      writes = r.writes ∙ ap (λ (k : Option (List ℕ)). append_known k (text_if r.reply)) p.writes ∙ writes_more w (flat_map reply_text p.exchanges) (text_if r.reply)
          ∙ ap (λ (t : List ℕ). append_known w (flat_map reply_text p.exchanges ++ t)) (sym (append-nil (text_if r.reply)))
          ∙ ap (append_known w) (sym (flat_map-append reply_text p.exchanges (e ∷ [])));
      holds = holds_on text p.done rest old new fed feeds p.holds;
    }

pub piece_ends : (text piece rest : List ℕ) (old new : Received) (fed : Fed) (a b : Point) (w x : Option (List ℕ)) → PieceGoes text piece rest old a b w x
    → Feeds old new rest fed → fed.packet ≡ false → PieceServes text piece new a b w x
piece_ends text piece rest old new fed a b w x p feeds none =
    let all : take fed.used rest ≡ rest = take_all fed.used rest (let e : fed.used ≡ length rest = feeds.all none in omega arith) in
    let whole : (text ++ p.done) ++ take fed.used rest ≡ text ++ piece =
    append_assoc text p.done (take fed.used rest) ∙ ap (λ (t : List ℕ). text ++ (p.done ++ t)) all ∙ ap (λ (t : List ℕ). text ++ t) (sym p.cut) in
    record {
      exchanges = p.exchanges;
      serves = p.serves;
      packets = ap frames (sym whole) ∙ feeds.found (text ++ p.done) p.holds ∙ ap (λ (b : Bool). frames (text ++ p.done) ++ list_if b new.packet) none
          ∙ append-nil (frames (text ++ p.done)) ∙ p.packets;
      writes = p.writes;
      holds = subst (λ (t : List ℕ). HasText new t) whole (feeds.holds (text ++ p.done) p.holds);
    }

pub piece_stops : (text piece rest after packet : List ℕ) (old new : Received) (fed : Fed) (fault : ServeFault) (a b c : Point) (w x y : Option (List ℕ)) → PieceGoes text piece rest old a b w x
    → Feeds old new rest fed → fed.packet ≡ true → after ≡ drop fed.used rest → packet ≡ new.packet → RepliesStop packet fault b c x y → PieceStops text piece fault a c w y
piece_stops text piece rest after packet old new fed fault a b c w x y p feeds found left is r = record {
  done = p.done ++ take fed.used rest;
  behind = after;
  cut = cut_on piece p.done rest fed.used p.cut ∙ ap (λ (t : List ℕ). (p.done ++ take fed.used rest) ++ t) (sym left);
  exchanges = p.exchanges;
  before = b;
  between = x;
  serves = p.serves;
  stop = r.stop;
  packets = found_on text p.done rest old new fed feeds p.holds found ∙ ap (λ (fs : List (List ℕ)). fs ++ new.packet ∷ []) p.packets
      ∙ append_assoc (frames text) (map packet_in p.exchanges) (new.packet ∷ [])
      ∙ ap (λ (q : List ℕ). frames text ++ (map packet_in p.exchanges ++ q ∷ [])) (sym is ∙ sym r.packet_is);
  writes = p.writes;
  told = r.told;
  stops = r.stops;
  writes_last = r.writes;
}

-- Pieces in a row.

pub record PiecesGo (n : ℕ) (receiver : Received) (a b : Point) (left rest old new : Option (List ℕ)) : Type 0 where
  pub pieces : List (List ℕ)
  pub are : ArePieces pieces
  pub count : length pieces ≡ n
  pub exchanges : List Exchange
  pub session : ConsoleSession a b (joined pieces) exchanges old new
  pub reads : left ≡ prepend_known (joined pieces) rest
  pub holds : HasText receiver (joined pieces)

no_frames : frames [] ≡ []
unfolding split
no_frames = refl

pub pieces_begin : (receiver : Received) (a : Point) (left old : Option (List ℕ)) → HasText receiver [] → PiecesGo 0 receiver a a left left old old
pieces_begin receiver a left old h = record {
  pieces = [];
  are = tt;
  count = refl;
  exchanges = [];
  session = record { serves = serves_nothing a; packets = no_frames; writes = writes_nothing old };
  reads = sym (reads_nothing left);
  holds = h;
}

are_more : (pieces : List (List ℕ)) (piece : List ℕ) → ArePieces pieces → 1 ≤ length piece → length piece ≤ 512 → ArePieces (pieces ++ piece ∷ [])
are_more [] piece are some fits = (some, fits, tt)
are_more (p ∷ ps) piece are some fits = (are.0, are.1, are_more ps piece are.2 some fits)

joined_more : (pieces : List (List ℕ)) (piece : List ℕ) → joined (pieces ++ piece ∷ []) ≡ joined pieces ++ piece
joined_more pieces piece = flat_map-append (λ (p : List ℕ). p) pieces (piece ∷ []) ∙ ap (λ (t : List ℕ). joined pieces ++ t) (append-nil piece)

read_on : (pieces : List (List ℕ)) (piece : List ℕ) (left rest after : Option (List ℕ)) → left ≡ prepend_known (joined pieces) rest → rest ≡ prepend_known piece after
    → left ≡ prepend_known (joined pieces ++ piece) after
read_on pieces piece left rest after reads taken = reads ∙ ap (prepend_known (joined pieces)) taken ∙ reads_more after (joined pieces) piece

pub pieces_more : (n : ℕ) (piece : List ℕ) (old new : Received) (a b c : Point) (left rest after w x y : Option (List ℕ)) → PiecesGo n old a b left rest w x
    → 1 ≤ length piece → length piece ≤ 512 → rest ≡ prepend_known piece after
    → ((text : List ℕ) → HasText old text → PieceServes text piece new b c x y) → PiecesGo (n + 1) new a c left after w y
pieces_more n piece old new a b c left rest after w x y p some fits taken serve =
    let s = serve (joined p.pieces) p.holds in
    let join : joined (p.pieces ++ piece ∷ []) ≡ joined p.pieces ++ piece = joined_more p.pieces piece in
    record {
      pieces = p.pieces ++ piece ∷ [];
      are = are_more p.pieces piece p.are some fits;
      count = length_push p.pieces piece ∙ ap (λ (i : ℕ). i + 1) p.count;
      exchanges = p.exchanges ++ s.exchanges;
      session = record {
        serves = serves_more a b c p.exchanges s.exchanges p.session.serves s.serves;
        packets = ap frames join ∙ s.packets ∙ ap (λ (fs : List (List ℕ)). fs ++ map packet_in s.exchanges) p.session.packets ∙ sym (map-append packet_in p.exchanges s.exchanges);
        writes = s.writes ∙ ap (λ (k : Option (List ℕ)). append_known k (flat_map reply_text s.exchanges)) p.session.writes
            ∙ writes_more w (flat_map reply_text p.exchanges) (flat_map reply_text s.exchanges) ∙ ap (append_known w) (sym (flat_map-append reply_text p.exchanges s.exchanges));
      };
      reads = read_on p.pieces piece left rest after p.reads taken ∙ ap (λ (t : List ℕ). prepend_known t after) (sym join);
      holds = subst (λ (t : List ℕ). HasText new t) (sym join) s.holds;
    }

pub pieces_served : (n : ℕ) (receiver : Received) (a b : Point) (left rest old new : Option (List ℕ)) → n ≤ most_pieces → (p : PiecesGo n receiver a b left rest old new) → PiecesServed p.pieces a b old new
pieces_served n receiver a b left rest old new few p = record { are = p.are; few = subst (λ (i : ℕ). i ≤ most_pieces) (sym p.count) few; exchanges = p.exchanges; session = p.session }

pub takes_none : (into : List ℕ) (left rest : Option (List ℕ)) (n : ℕ) → n ≡ 0 → left ≡ prepend_known (take n into) rest → rest ≡ left
takes_none into left rest n e h = sym (h ∙ ap (λ (k : ℕ). prepend_known (take k into) rest) e ∙ reads_nothing rest)

-- what was taken, by whether it is a piece
pub takes_end : (into : List ℕ) (left rest : Option (List ℕ)) (o : Option ℕ) → o ≡ None → TakesPiece into left rest o → IsAtEnd left × (rest ≡ left)
takes_end into left rest o e h = subst (λ (x : Option ℕ). TakesPiece into left rest x) e h

pub takes_some : (into : List ℕ) (left rest : Option (List ℕ)) (o : Option ℕ) (n : ℕ) → o ≡ Some n → TakesPiece into left rest o
    → (1 ≤ n) × (n ≤ 512) × (left ≡ prepend_known (take n into) rest)
takes_some into left rest o n e h = subst (λ (x : Option ℕ). TakesPiece into left rest x) e h

pub piece_length : (into : List ℕ) (n : ℕ) → length into ≡ 512 → n ≤ 512 → length (take n into) ≡ n
piece_length into n size fits = length-take-le n into (omega arith)

pub not_false : (b : Bool) → not b ≡ false → b ≡ true
not_false true h = refl
not_false false h = sym h

pub not_true : (b : Bool) → not b ≡ true → b ≡ false
not_true true h = sym h
not_true false h = refl

pub pieces_end : (n : ℕ) (receiver : Received) (a b : Point) (left rest after old new : Option (List ℕ)) → n ≤ most_pieces → PiecesGo n receiver a b left rest old new
    → IsAtEnd rest × (after ≡ rest) → ConsoleServes a b left after old new
pieces_end n receiver a b left rest after old new few p t =
    let same : rest ≡ after = sym t.1 in
    let ends : IsAtEnd rest = t.0 in
    record {
      pieces = p.pieces;
      served = pieces_served n receiver a b left rest old new few p;
      reads = p.reads ∙ ap (prepend_known (joined p.pieces)) same;
      ends = subst (λ (k : Option (List ℕ)). IsAtEnd k) same ends;
    }

pub pieces_unread : (n : ℕ) (receiver : Received) (a b : Point) (left rest after old new : Option (List ℕ)) → n ≤ most_pieces → PiecesGo n receiver a b left rest old new
    → after ≡ rest → ConsoleUnread a b left after old new
pieces_unread n receiver a b left rest after old new few p same = record {
  pieces = p.pieces;
  served = pieces_served n receiver a b left rest old new few p;
  reads = p.reads ∙ ap (prepend_known (joined p.pieces)) (sym same);
}

pub pieces_spent : (n : ℕ) (receiver : Received) (further : List ℕ) (a b : Point) (left rest after old new : Option (List ℕ)) → n ≡ most_pieces → PiecesGo n receiver a b left rest old new
    → 1 ≤ length further → length further ≤ 512 → rest ≡ prepend_known further after → ConsoleSpent a b left after old new
pieces_spent n receiver further a b left rest after old new all p some fits taken = record {
  pieces = p.pieces;
  served = pieces_served n receiver a b left rest old new (omega arith) p;
  all = p.count ∙ all;
  further = further;
  is_piece = (some, fits, tt);
  reads = read_on p.pieces further left rest after p.reads taken;
}

last_part : (piece done behind : List ℕ) → piece ≡ done ++ behind → length piece ≤ 512 → length behind ≤ 512
last_part piece done behind cut fits =
    let e : length piece ≡ length done + length behind = ap length cut ∙ length-append done behind in omega arith

stops_in : (n : ℕ) (piece : List ℕ) (fault : ServeFault) (old : Received) (a b c : Point) (left rest after w x y : Option (List ℕ)) → n < most_pieces → PiecesGo n old a b left rest w x
    → 1 ≤ length piece → length piece ≤ 512 → rest ≡ prepend_known piece after
    → ((text : List ℕ) → HasText old text → PieceStops text piece fault b c x y) → ConsoleStops fault a c left after w y
stops_in n piece fault old a b c left rest after w x y few p some fits taken serve =
    let s = serve (joined p.pieces) p.holds in
    let join : joined (p.pieces ++ piece ∷ []) ≡ joined p.pieces ++ piece = joined_more p.pieces piece in
    record {
      pieces = p.pieces ++ piece ∷ [];
      are = are_more p.pieces piece p.are some fits;
      few = let k : length (p.pieces ++ piece ∷ []) ≡ n + 1 = length_push p.pieces piece ∙ ap (λ (i : ℕ). i + 1) p.count in omega arith;
      front = joined p.pieces ++ s.done;
      behind = s.behind;
      cut = join ∙ ap (λ (t : List ℕ). joined p.pieces ++ t) s.cut ∙ sym (append_assoc (joined p.pieces) s.done s.behind);
      last = last_part piece s.done s.behind s.cut fits;
      stop = s.stop;
      told = s.told;
      stops = record {
        exchanges = p.exchanges ++ s.exchanges;
        before = s.before;
        between = s.between;
        serves = serves_more a b s.before p.exchanges s.exchanges p.session.serves s.serves;
        packets = s.packets ∙ ap (λ (fs : List (List ℕ)). fs ++ (map packet_in s.exchanges ++ packet_at s.stop ∷ [])) p.session.packets
            ∙ sym (append_assoc (map packet_in p.exchanges) (map packet_in s.exchanges) (packet_at s.stop ∷ []))
            ∙ ap (λ (ps : List (List ℕ)). ps ++ packet_at s.stop ∷ []) (sym (map-append packet_in p.exchanges s.exchanges));
        writes = s.writes ∙ ap (λ (k : Option (List ℕ)). append_known k (flat_map reply_text s.exchanges)) p.session.writes
            ∙ writes_more w (flat_map reply_text p.exchanges) (flat_map reply_text s.exchanges) ∙ ap (append_known w) (sym (flat_map-append reply_text p.exchanges s.exchanges));
        stops = s.stops;
        writes_last = s.writes_last;
      };
      reads = read_on p.pieces piece left rest after p.reads taken ∙ ap (λ (t : List ℕ). prepend_known t after) (sym join);
    }

pub pieces_stop : (n : ℕ) (piece : List ℕ) (fault : ServeFault) (old new : Received) (a b c : Point) (left rest after w x y : Option (List ℕ)) → n < most_pieces → PiecesGo n old a b left rest w x
    → 1 ≤ length piece → length piece ≤ 512 → rest ≡ prepend_known piece after → IsAtPacket {T = Unit {0}} (Err fault)
    → ((text : List ℕ) → HasText old text → PieceEnds text piece (Err fault) new b c x y) → ConsoleEnds (Err fault) a c left after w y
pieces_stop n piece faults.Read old new a b c left rest after w x y few p some fits taken at serve = absurd at
pieces_stop n piece faults.Spent old new a b c left rest after w x y few p some fits taken at serve = absurd at
pieces_stop n piece faults.Link old new a b c left rest after w x y few p some fits taken at serve = absurd at
pieces_stop n piece faults.Write old new a b c left rest after w x y few p some fits taken at serve = stops_in n piece faults.Write old a b c left rest after w x y few p some fits taken serve
pieces_stop n piece faults.FlashFault old new a b c left rest after w x y few p some fits taken at serve = stops_in n piece faults.FlashFault old a b c left rest after w x y few p some fits taken serve
pieces_stop n piece faults.FlashOff old new a b c left rest after w x y few p some fits taken at serve = stops_in n piece faults.FlashOff old a b c left rest after w x y few p some fits taken serve
pieces_stop n piece faults.Unformatted old new a b c left rest after w x y few p some fits taken at serve = stops_in n piece faults.Unformatted old a b c left rest after w x y few p some fits taken serve
pieces_stop n piece faults.Worn old new a b c left rest after w x y few p some fits taken at serve = stops_in n piece faults.Worn old a b c left rest after w x y few p some fits taken serve
