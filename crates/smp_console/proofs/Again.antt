-- The text of a packet gives that packet.
use Rattle.std.proofs.Common.{◌≡◌, ℕ, zero, suc, ◌+◌, ◌-◌, ◌*◌, ◌/◌, ◌%◌, ◌^◌, ◌<◌, ◌≤◌, Bool, true, false, nat_lt, ◌==◌, inl, inr, List, [], ◌∷◌, ◌++◌, take, drop, length, Option, Some, None, refl, sym, ap, ◌∙◌, subst, arith, append_assoc, length-append, take-append-drop, lit<}
use Rattle.std.specs.List.{fold}
use Rattle.std.specs.Option.{option_to_list}
use Rattle.std.specs.Int.{w16, to_be_bytes}
use Rattle.std.proofs.lemmas.Bool.{cases_lt, cases_Bool, eqb-true, ltb-false}
use Rattle.std.proofs.lemmas.List.{append-nil, take_all, length-take, length-drop, take_at, drop_at, get_or_append_left, get_or-drop, get_or-take, drop-drop}
use Rattle.std.proofs.lemmas.List.Sums.{fold-append}
use Rattle.smp_line.specs.Crc.{crc_of}
use Rattle.smp_line.specs.Line.{first, next, content, line_of, text_line, AreBytes, HasNoNewline}
use Rattle.smp_console.proofs.LineLaws.{LineLaws}
use Rattle.smp_console.specs.Lines.{Split, split, lines, unended}
use Rattle.smp_console.specs.Frames.{number_at, more, whole, checked_packet, collection, Outcome, outcome, outcome_by_content, outcome_by_collection, outcome_of, outcome_of_next, Progress, at_start, after_line, progress, frames}
use Rattle.smp_console.specs.Framing.{sent_bytes, pieces_of, piece_count, text_of_pieces, frame}
use Rattle.smp_console.proofs.Cuts.{split-nil, split-append, split_line, join}
use Rattle.smp_console.proofs.Putting.{pieces_of-suc, pieces_of-zero, text_of_pieces-cons, text_of_pieces-nil}

-- the lines of the text of some pieces
unfoldable wire : Bool → List (List ℕ) → List (List ℕ)
wire is_first [] = []
wire is_first (piece ∷ later) = (line_of is_first piece) ∷ wire false later

no_newline : (laws : LineLaws) (is_first : Bool) (piece : List ℕ) → HasNoNewline (line_of is_first piece)
no_newline laws is_first piece i = laws.no_newline is_first piece i

-- one line in front
line_split : (laws : LineLaws) (is_first : Bool) (piece : List ℕ) → split (text_line is_first piece) ≡ record { lines = (line_of is_first piece) ∷ []; rest = [] }
line_split laws is_first piece =
    let line : List ℕ = line_of is_first piece in
    split_line [] line (no_newline laws is_first piece) ∙ ap (λ (s : Split). let t : Split = record { lines = s.lines ++ (s.rest ++ line) ∷ []; rest = [] } in t) split-nil

front_of : (line : List ℕ) (lines : List (List ℕ)) → join (line ∷ []) [] lines [] ≡ record { lines = line ∷ lines; rest = [] }
front_of line [] = refl
front_of line (m ∷ ms) = refl

text_split : (laws : LineLaws) (is_first : Bool) (ps : List (List ℕ)) → split (text_of_pieces is_first ps) ≡ record { lines = wire is_first ps; rest = [] }
unfolding wire
text_split laws is_first [] = ap split (text_of_pieces-nil is_first) ∙ split-nil
text_split laws is_first (p ∷ ps) =
    let later : List ℕ = text_of_pieces false ps in
    ap split (text_of_pieces-cons is_first p ps)
    ∙ split-append (text_line is_first p) later
    ∙ ap (λ (s : Split). join s.lines s.rest (split later).lines (split later).rest) (line_split laws is_first p)
    ∙ ap (λ (s : Split). join ((line_of is_first p) ∷ []) [] s.lines s.rest) (text_split laws false ps)
    ∙ front_of (line_of is_first p) (wire false ps)

-- ---- what is collected

high_low : (n : ℕ) → n < 2 ^ 16 → n / 256 % 256 * 256 + n % 256 ≡ n
high_low n h = omega arith

sent_length : (packet : List ℕ) → length (sent_bytes packet) ≡ length packet + 4
sent_length packet =
    let a : List ℕ = to_be_bytes w16 (length packet + 2) in
    let c : List ℕ = to_be_bytes w16 (crc_of packet) in
    omega (arith, length-append (a ++ packet) c, length-append a packet)

number_of_sent : (packet : List ℕ) → length packet ≤ 2048 → number_at (sent_bytes packet) 0 ≡ length packet + 2
number_of_sent packet h = high_low (length packet + 2) (omega arith)

-- the number of a front
pub number_of_front : (front rest : List ℕ) → 2 ≤ length front → number_at (front ++ rest) 0 ≡ number_at front 0
number_of_front front rest h =
    let a = get_or_append_left front rest 0 0 (omega arith) in
    let b = get_or_append_left front rest 0 1 (omega arith) in
    rw (a, b) refl

-- fewer bytes than are sent
front_is_more : (packet front rest : List ℕ) → length packet ≤ 2048 → sent_bytes packet ≡ front ++ rest → 2 ≤ length front → 0 < length rest → collection front ≡ more
front_is_more packet front rest fits is two some =
    let k : number_at front 0 ≡ length packet + 2 = sym (number_of_front front rest two) ∙ ap (λ (b : List ℕ). number_at b 0) (sym is) ∙ number_of_sent packet fits in
    let size : length front + length rest ≡ length packet + 4 = omega (arith, length-append front rest, ap length is, sent_length packet) in
    let one : nat_lt (length packet + 2) 2 ≡ false = grind arith in
    let two_k : nat_lt 2050 (length packet + 2) ≡ false = grind arith in
    let three : nat_lt (length packet + 2 + 2) (length front) ≡ false = grind arith in
    let four : (length front == (length packet + 2 + 2)) ≡ false = grind arith in
    rw (k, one, two_k, three, four) refl

-- the number at a place is the first of what stands from there on
number_from : (b : List ℕ) (n : ℕ) → number_at (drop n b) 0 ≡ number_at b n
number_from b n =
    let e = get_or-drop n b 0 0 in
    let f = get_or-drop n b 1 0 in
    let z : n + 0 ≡ n = omega arith in
    rw (e, f, z) refl

number_behind : (front : List ℕ) (n crc : ℕ) → length front ≡ n → crc < 2 ^ 16 → number_at (front ++ to_be_bytes w16 crc) n ≡ crc
number_behind front n crc size small =
    sym (number_from (front ++ to_be_bytes w16 crc) n)
    ∙ ap (λ (b : List ℕ). number_at b 0) (drop_at front (to_be_bytes w16 crc) n size)
    ∙ high_low crc small

-- the CRC behind the packet
crc_at_end : (laws : LineLaws) (packet : List ℕ) → AreBytes packet → number_at (sent_bytes packet) (length packet + 2) ≡ crc_of packet
crc_at_end laws packet bytes =
    let a : List ℕ = to_be_bytes w16 (length packet + 2) in
    number_behind (a ++ packet) (length packet + 2) (crc_of packet) (omega (arith, length-append a packet)) (laws.small packet bytes)

packet_within : (packet : List ℕ) → take (length packet) (drop 2 (sent_bytes packet)) ≡ packet
packet_within packet = take_at packet (to_be_bytes w16 (crc_of packet)) (length packet) refl

whole_from : (b packet : List ℕ) → length packet ≤ 2048 → number_at b 0 ≡ length packet + 2 → length b ≡ length packet + 4
    → take (length packet) (drop 2 b) ≡ packet → number_at b (length packet + 2) ≡ crc_of packet → collection b ≡ whole packet
whole_from b packet fits k size middle crc =
    let one : nat_lt (length packet + 2) 2 ≡ false = grind arith in
    let two_k : nat_lt 2050 (length packet + 2) ≡ false = grind arith in
    let three : nat_lt (length packet + 2 + 2) (length b) ≡ false = grind arith in
    let four : (length b == (length packet + 2 + 2)) ≡ true = grind arith in
    let n : length packet + 2 - 2 ≡ length packet = omega arith in
    let same : (crc_of packet == crc_of packet) ≡ true = grind arith in
    rw (k, one, two_k, three, four, n, middle, crc, same) refl

whole_is_whole : (laws : LineLaws) (packet : List ℕ) → length packet ≤ 2048 → AreBytes packet → collection (sent_bytes packet) ≡ whole packet
whole_is_whole laws packet fits bytes =
    whole_from (sent_bytes packet) packet fits (number_of_sent packet fits) (sent_length packet) (packet_within packet) (crc_at_end laws packet bytes)

-- ---- the bytes that are sent

bytes_rest : (n : ℕ) (xs : List ℕ) → AreBytes xs → AreBytes (drop n xs)
bytes_rest n xs h i = rw (get_or-drop n xs i 0) (h (n + i))

bytes_front : (n : ℕ) (xs : List ℕ) → AreBytes xs → AreBytes (take n xs)
bytes_front zero xs h i = omega arith
bytes_front (suc n) [] h i = h i
bytes_front (suc n) (x ∷ xs) h zero = h 0
bytes_front (suc n) (x ∷ xs) h (suc i) = bytes_front n xs (λ k. h (suc k)) i

bytes_both : (xs ys : List ℕ) → AreBytes xs → AreBytes ys → AreBytes (xs ++ ys)
bytes_both [] ys hx hy i = hy i
bytes_both (x ∷ xs) ys hx hy zero = hx 0
bytes_both (x ∷ xs) ys hx hy (suc i) = bytes_both xs ys (λ k. hx (suc k)) hy i

bytes_of_number : (n : ℕ) → AreBytes (to_be_bytes w16 n)
bytes_of_number n zero = omega arith
bytes_of_number n (suc zero) = omega arith
bytes_of_number n (suc (suc i)) = omega arith

bytes_of_sent : (packet : List ℕ) → AreBytes packet → AreBytes (sent_bytes packet)
bytes_of_sent packet bytes =
    let a : List ℕ = to_be_bytes w16 (length packet + 2) in
    let c : List ℕ = to_be_bytes w16 (crc_of packet) in
    bytes_both (a ++ packet) c (bytes_both a packet (bytes_of_number (length packet + 2)) bytes) (bytes_of_number (crc_of packet))

-- ---- the lines one by one

-- a first line begins anew; another goes on with what was collected
abbrev Starts : Bool → Option (List ℕ) → List ℕ → Type 0
Starts true s c = c ≡ []
Starts false s c = s ≡ Some c

line_collects : (laws : LineLaws) (is_first : Bool) (s : Option (List ℕ)) (c p : List ℕ) → Starts is_first s c → length p ≤ 93 → AreBytes p → 2 ≤ length (c ++ p)
    → outcome s (line_of is_first p) ≡ outcome_of (c ++ p)
line_collects laws true s c p start short bytes two =
    let held : content (line_of true p) ≡ first p = laws.held true p bytes (omega arith) in
    let enough : nat_lt (length p) 2 ≡ false = let l : 2 ≤ length p = subst (λ (x : List ℕ). 2 ≤ length (x ++ p)) start two in grind arith in
    ap (outcome_by_content s) held ∙ rw enough refl ∙ ap (λ (x : List ℕ). outcome_of (x ++ p)) (sym start)
line_collects laws false s c p start short bytes two =
    let held : content (line_of false p) ≡ next p = laws.held false p bytes (omega arith) in
    ap (outcome_by_content s) held ∙ ap (λ (o : Option (List ℕ)). outcome_of_next o p) start

wire-cons : (is_first : Bool) (p : List ℕ) (ps : List (List ℕ)) → wire is_first (p ∷ ps) ≡ line_of is_first p ∷ wire false ps
unfolding wire
wire-cons is_first p ps = refl

wire-nil : (is_first : Bool) → wire is_first [] ≡ []
unfolding wire
wire-nil is_first = refl

abbrev at : Option (List ℕ) → List (List ℕ) → Progress
at s qs = record { collected = s; packets = qs }

all_lines : (laws : LineLaws) (n : ℕ) (is_first : Bool) (s : Option (List ℕ)) (qs : List (List ℕ)) (c rest packet : List ℕ) → length packet ≤ 2048 → AreBytes packet → AreBytes rest
    → sent_bytes packet ≡ c ++ rest → Starts is_first s c → 0 < length rest → length rest ≤ 93 * n → 93 * n < length rest + 93
    → fold after_line (at s qs) (wire is_first (pieces_of n rest)) ≡ at None (qs ++ packet ∷ [])
all_lines laws zero is_first s qs c rest packet fits bytes rest_bytes is start some enough least = absurd (omega arith)
all_lines laws (suc n) is_first s qs c rest packet fits bytes rest_bytes is start some enough least =
    let p : List ℕ = take 93 rest in
    let later : List ℕ = drop 93 rest in
    let total : length c + length rest ≡ length packet + 4 = omega (arith, length-append c rest, ap length is, sent_length packet) in
    let two : 2 ≤ length (c ++ p) = omega (arith, length-append c p, length-take 93 rest) in
    let line = line_collects laws is_first s c p start (omega (arith, length-take 93 rest)) (bytes_front 93 rest rest_bytes) two in
    let step : (g : Outcome) → outcome s (line_of is_first p) ≡ g
    → fold after_line (at s qs) (wire is_first (pieces_of (suc n) rest)) ≡ fold after_line (at g.collected (qs ++ option_to_list g.packet)) (wire false (pieces_of n later)) = λ g e.
    ap (λ (ls : List (List ℕ)). fold after_line (at s qs) ls) (ap (wire is_first) (pieces_of-suc n rest) ∙ wire-cons is_first p (pieces_of n later))
    ∙ ap (λ (x : Outcome). fold after_line (at x.collected (qs ++ option_to_list x.packet)) (wire false (pieces_of n later))) e in
    elim (cases_lt 93 (length rest)) [
      | inl long ↦
          let joined : sent_bytes packet ≡ (c ++ p) ++ later =
          is ∙ ap (λ (r : List ℕ). c ++ r) (sym (take-append-drop 93 rest)) ∙ sym (append_assoc c p later) in
          let left : 0 < length later = omega (arith, length-drop 93 rest) in
          let g = line ∙ ap (outcome_by_collection (c ++ p)) (front_is_more packet (c ++ p) later fits joined two left) in
          step (record { collected = Some (c ++ p); packet = None }) g
          ∙ ap (λ (l : List (List ℕ)). fold after_line (at (Some (c ++ p)) l) (wire false (pieces_of n later))) (append-nil qs)
          ∙ all_lines laws n false (Some (c ++ p)) qs (c ++ p) later packet fits bytes (bytes_rest 93 rest rest_bytes) joined refl left
          (omega (arith, length-drop 93 rest)) (omega (arith, length-drop 93 rest))
      | inr short ↦
          let all : c ++ p ≡ sent_bytes packet = ap (λ (r : List ℕ). c ++ r) (take_all 93 rest short) ∙ sym is in
          let found : collection (c ++ p) ≡ whole packet = ap collection all ∙ whole_is_whole laws packet fits bytes in
          let g = line ∙ ap (outcome_by_collection (c ++ p)) found in
          let none : n ≡ 0 = omega arith in
          let end : wire false (pieces_of n later) ≡ [] = ap (λ (k : ℕ). wire false (pieces_of k later)) none ∙ ap (wire false) (pieces_of-zero later) ∙ wire-nil false in
          step (record { collected = None; packet = Some packet }) g
          ∙ ap (λ (ls : List (List ℕ)). fold after_line (at None (qs ++ packet ∷ [])) ls) end
    ]

-- whatever stood before, as long as its last line has ended
pub frame_after : (laws : LineLaws) (text packet : List ℕ) → length packet ≤ 2048 → AreBytes packet → unended text ≡ []
    → (frames (text ++ frame packet) ≡ frames text ++ packet ∷ []) × (unended (text ++ frame packet) ≡ [])
frame_after laws text packet fits bytes ended =
    let all : List ℕ = sent_bytes packet in
    let n : ℕ = piece_count all in
    let ps : List (List ℕ) = pieces_of n all in
    let size = sent_length packet in
    let cut : split (text ++ frame packet) ≡ join (lines text) [] (wire true ps) [] =
    split-append text (frame packet)
    ∙ ap (λ (s : Split). join (lines text) (unended text) s.lines s.rest) (text_split laws true ps)
    ∙ ap (λ (r : List ℕ). join (lines text) r (wire true ps) []) ended in
    let joined : join (lines text) [] (wire true ps) [] ≡ record { lines = lines text ++ wire true ps; rest = [] } = join_ended (lines text) (wire true ps) in
    let p : progress (text ++ frame packet) ≡ at None (frames text ++ packet ∷ []) =
    ap (λ (s : Split). fold after_line at_start s.lines) (cut ∙ joined)
    ∙ fold-append after_line at_start (lines text) (wire true ps)
    ∙ all_lines laws n true (progress text).collected (frames text) [] all packet fits bytes (bytes_of_sent packet bytes) refl refl (omega arith) (omega arith) (omega arith) in
    (ap (λ (x : Progress). x.packets) p, ap (λ (s : Split). s.rest) (cut ∙ joined))
  where
    join_ended : (ls ms : List (List ℕ)) → join ls [] ms [] ≡ record { lines = ls ++ ms; rest = [] }
    join_ended ls [] = ap (λ (l : List (List ℕ)). let s : Split = record { lines = l; rest = [] } in s) (sym (append-nil ls))
    join_ended ls (m ∷ ms) = refl

pub frame_alone : (laws : LineLaws) (packet : List ℕ) → length packet ≤ 2048 → AreBytes packet → frames (frame packet) ≡ packet ∷ []
frame_alone laws packet fits bytes =
    let nothing_before : frames [] ≡ [] = ap (λ (s : Split). (fold after_line at_start s.lines).packets) split-nil in
    let ended : unended [] ≡ [] = ap (λ (s : Split). s.rest) split-nil in
    (frame_after laws [] packet fits bytes ended).0 ∙ ap (λ (l : List (List ℕ)). l ++ packet ∷ []) nothing_before

-- ---- collected bytes are whole only where they are what is sent

two_bytes : (l : List ℕ) → length l ≡ 2 → AreBytes l → to_be_bytes w16 (number_at l 0) ≡ l
two_bytes [] h fit = absurd (omega arith)
two_bytes (x ∷ []) h fit = absurd (omega arith)
two_bytes (x ∷ y ∷ []) h fit =
    let fx = fit 0 in
    let fy = fit 1 in
    let a : (x * 256 + y) / 256 % 256 ≡ x = omega arith in
    let b : (x * 256 + y) % 256 ≡ y = omega arith in
    rw (a, b) refl
two_bytes (x ∷ y ∷ z ∷ rest) h fit = absurd (omega arith)

-- what the tests of a collection say where they all pass
pub record Whole (b p : List ℕ) : Type 0 where
  pub least : 2 ≤ number_at b 0
  pub greatest : number_at b 0 ≤ 2050
  pub size : length b ≡ number_at b 0 + 2
  pub packet : p ≡ take (number_at b 0 - 2) (drop 2 b)
  pub crc : crc_of p ≡ number_at b (number_at b 0)

checked_whole : (packet p : List ℕ) (crc : ℕ) → checked_packet packet crc ≡ whole p → (packet ≡ p) × (crc_of packet ≡ crc)
checked_whole packet p crc h = elim (cases_Bool (crc_of packet == crc)) [
  | inl is ↦ let e : whole packet ≡ whole p = rw is at h in (cc e, eqb-true (crc_of packet) crc is)
  | inr is_not ↦ cc (rw is_not at h)
]

pub whole_facts : (b p : List ℕ) → collection b ≡ whole p → Whole b p
whole_facts b p h =
    let k : ℕ = number_at b 0 in
    elim (cases_Bool (nat_lt k 2)) [
      | inl small ↦ cc (rw small at h)
      | inr least ↦ elim (cases_Bool (nat_lt 2050 k)) [
        | inl large ↦ cc (rw (least, large) at h)
        | inr greatest ↦ elim (cases_Bool (nat_lt (k + 2) (length b))) [
          | inl long ↦ cc (rw (least, greatest, long) at h)
          | inr fits ↦ elim (cases_Bool (length b == (k + 2))) [
            | inl all ↦
                let e = checked_whole (take (k - 2) (drop 2 b)) p (number_at b k) (rw (least, greatest, fits, all) at h) in
                record {
                  least = ltb-false k 2 least;
                  greatest = ltb-false 2050 k greatest;
                  size = eqb-true (length b) (k + 2) all;
                  packet = sym e.0;
                  crc = ap crc_of (sym e.0) ∙ e.1;
                }
            | inr few ↦ cc (rw (least, greatest, fits, few) at h)
          ]
        ]
      ]
    ]

pub whole_is_sent : (b p : List ℕ) → AreBytes b → collection b ≡ whole p → (b ≡ sent_bytes p) × (length p ≤ 2048)
whole_is_sent b p fit h =
    let w = whole_facts b p h in
    let k : ℕ = number_at b 0 in
    let least = w.least in
    let greatest = w.greatest in
    let size = w.size in
    let len : length p + 2 ≡ k = omega (arith, ap length w.packet, length-take (k - 2) (drop 2 b), length-drop 2 b) in
    let n0 = get_or-take 2 b 0 0 (lit< tt) in
    let n1 = get_or-take 2 b 1 0 (lit< tt) in
    let number : number_at (take 2 b) 0 ≡ length p + 2 = let e : number_at (take 2 b) 0 ≡ k = rw (n0, n1) refl in e ∙ sym len in
    let head : take 2 b ≡ to_be_bytes w16 (length p + 2) =
    sym (two_bytes (take 2 b) (omega (arith, length-take 2 b)) (bytes_front 2 b fit)) ∙ ap (to_be_bytes w16) number in
    let place : 2 + (k - 2) ≡ k = omega arith in
    let tail_at : drop (k - 2) (drop 2 b) ≡ drop k b = drop-drop (k - 2) 2 b ∙ ap (λ (i : ℕ). drop i b) place in
    let tail : drop k b ≡ to_be_bytes w16 (crc_of p) =
    sym (two_bytes (drop k b) (omega (arith, length-drop k b)) (bytes_rest k b fit)) ∙ ap (to_be_bytes w16) (number_from b k ∙ sym w.crc) in
    let middle : drop 2 b ≡ p ++ to_be_bytes w16 (crc_of p) =
    sym (take-append-drop (k - 2) (drop 2 b)) ∙ ap (λ (r : List ℕ). r ++ drop (k - 2) (drop 2 b)) (sym w.packet) ∙ ap (λ (r : List ℕ). p ++ r) (tail_at ∙ tail) in (
      sym (take-append-drop 2 b) ∙ ap (λ (r : List ℕ). r ++ drop 2 b) head ∙ ap (λ (r : List ℕ). to_be_bytes w16 (length p + 2) ++ r) middle
          ∙ sym (append_assoc (to_be_bytes w16 (length p + 2)) p (to_be_bytes w16 (crc_of p))),
      omega arith,
    )

pub sent_is_whole : (laws : LineLaws) (b p : List ℕ) → length p ≤ 2048 → AreBytes p → b ≡ sent_bytes p → collection b ≡ whole p
sent_is_whole laws b p fits bytes is = ap collection is ∙ whole_is_whole laws p fits bytes
