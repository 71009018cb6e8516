-- What is put out while a packet is framed.
use Rattle.std.proofs.Common.{◌≡◌, ℕ, zero, suc, ◌+◌, ◌-◌, ◌*◌, ◌/◌, ◌<◌, ◌≤◌, min, Bool, true, false, inl, inr, ◌==◌, List, [], ◌∷◌, ◌++◌, take, drop, length, Option, Some, None, refl, sym, ap, ◌∙◌, arith, append_assoc, length-append}
use Rattle.std.specs.Io.KnownBytes.{append_known}
use Rattle.std.proofs.lemmas.Bool.{cases_lt}
use Rattle.std.proofs.lemmas.List.{append-nil, drop-drop, drop-append-le, drop_all, take_min}
use Rattle.std.proofs.Math.Seq.{drop-append-add, take-append-add}
use Rattle.smp_edge.specs.Sink.{AppendsFront}
use Rattle.std.specs.Int.{w16, to_be_bytes}
use Rattle.smp_line.specs.Crc.{crc_of}
use Rattle.smp_line.specs.Line.{text_line}
use Rattle.smp_console.specs.Framing.{sent_bytes, pieces_of, piece_count, text_of_pieces}

-- nothing more
known_none : (old : Option (List ℕ)) → old ≡ append_known old []
known_none None = refl
known_none (Some xs) = ap (λ (x : List ℕ). Some x) (sym (append-nil xs))

-- two appends are one
known_twice : (old : Option (List ℕ)) (a b : List ℕ) → append_known (append_known old a) b ≡ append_known old (a ++ b)
known_twice None a b = refl
known_twice (Some xs) a b = ap (λ (x : List ℕ). Some x) (append_assoc xs a b)

-- a part of a list of two parts
drop_both : (n : ℕ) (xs ys : List ℕ) → drop n (xs ++ ys) ≡ drop n xs ++ drop (n - length xs) ys
drop_both n xs ys = elim (cases_lt (length xs) n) [
  | inl more ↦
      let m : ℕ = n - length xs in
      let e : length xs + m ≡ n = omega arith in
      let s : drop n (xs ++ ys) ≡ drop m ys = rw e at (drop-append-add xs ys m) in
      s ∙ rw (drop_all n xs (omega arith)) refl
  | inr less ↦
      let z : n - length xs ≡ 0 = omega arith in
      drop-append-le n xs ys less ∙ rw z refl
]

take_front : (n : ℕ) (xs ys : List ℕ) → take n (take n xs ++ ys) ≡ take n (xs ++ ys)
take_front zero xs ys = refl
take_front (suc n) [] ys = refl
take_front (suc n) (x ∷ xs) ys = ap (λ (r : List ℕ). x ∷ r) (take_front n xs ys)

-- a piece of three parts, that are added in turn
pub filled_piece : (n at : ℕ) (a b c one two three : List ℕ) → length a ≡ 2 → one ≡ take n ([] ++ drop at a) → two ≡ take n (one ++ drop (at - 2) b)
    → three ≡ take n (two ++ drop (at - (2 + length b)) c) → three ≡ take n (drop at (a ++ b ++ c))
filled_piece n at a b c one two three size first second third =
    let da : List ℕ = drop at a in
    let db : List ℕ = drop (at - 2) b in
    let dc : List ℕ = drop (at - (2 + length b)) c in
    let ab : two ≡ take n (da ++ db) = second ∙ ap (λ (r : List ℕ). take n (r ++ db)) first ∙ take_front n da db in
    let abc : three ≡ take n ((da ++ db) ++ dc) = third ∙ ap (λ (r : List ℕ). take n (r ++ dc)) ab ∙ take_front n (da ++ db) dc in
    let l : length (a ++ b) ≡ 2 + length b = omega (arith, length-append a b) in
    let front : drop at (a ++ b) ≡ da ++ db = drop_both at a b ∙ rw size refl in
    let all : drop at (a ++ b ++ c) ≡ (da ++ db) ++ dc = drop_both at (a ++ b) c ∙ rw (l, front) refl in
    abc ∙ ap (take n) (sym all)

-- what is added where there is something left
pub added_part : (items bytes left now : List ℕ) (from room : ℕ) → left ≡ drop from bytes → room + length items ≡ 93 → now ≡ items ++ take (min room (length left)) left
    → now ≡ take 93 (items ++ drop from bytes)
added_part items bytes left now from room is fits now_is =
    let e : length items + room ≡ 93 = omega arith in
    now_is ∙ ap (λ (r : List ℕ). items ++ r) (take_min room left) ∙ sym (rw e at (take-append-add items left room)) ∙ ap (λ (r : List ℕ). take 93 (items ++ r)) is

pub pieces_of-suc : (n : ℕ) (bytes : List ℕ) → pieces_of (suc n) bytes ≡ take 93 bytes ∷ pieces_of n (drop 93 bytes)
unfolding pieces_of
pieces_of-suc n bytes = refl

pub pieces_of-zero : (bytes : List ℕ) → pieces_of 0 bytes ≡ []
unfolding pieces_of
pieces_of-zero bytes = refl

pub text_of_pieces-cons : (is_first : Bool) (piece : List ℕ) (later : List (List ℕ)) → text_of_pieces is_first (piece ∷ later) ≡ text_line is_first piece ++ text_of_pieces false later
unfolding text_of_pieces
text_of_pieces-cons is_first piece later = refl

pub text_of_pieces-nil : (is_first : Bool) → text_of_pieces is_first [] ≡ []
unfolding text_of_pieces
text_of_pieces-nil is_first = refl

-- the text of the pieces from one on
abbrev pub text_from : ℕ → List ℕ → ℕ → List ℕ
text_from n bytes i = text_of_pieces (i == 0) (pieces_of (n - i) (drop (93 * i) bytes))

-- of a text of so many pieces, those before one were put, and no fault was met
pub record PutTo (old now : Option (List ℕ)) (faults before_it : ℕ) (n : ℕ) (bytes : List ℕ) (i : ℕ) : Type 0 where
  pub done : List ℕ
  pub split : text_of_pieces true (pieces_of n bytes) ≡ done ++ text_from n bytes i
  pub put : now ≡ append_known old done
  pub same : faults ≡ before_it

pub put_none : (old : Option (List ℕ)) (faults n : ℕ) (bytes : List ℕ) → PutTo old old faults faults n bytes 0
put_none old faults n bytes = record {
  done = [];
  split = let e : 93 * 0 ≡ 0 = omega arith in let f : n - 0 ≡ n = omega arith in rw (e, f) refl;
  put = known_none old;
  same = refl;
}

-- the text from a piece on is its line, and the text from the next
text_step : (n : ℕ) (bytes : List ℕ) (i : ℕ) → i < n
    → text_from n bytes i ≡ text_line (i == 0) (take 93 (drop (93 * i) bytes)) ++ text_from n bytes (i + 1)
text_step n bytes i lt =
    let left : n - i ≡ suc (n - (i + 1)) = omega arith in
    let next : drop 93 (drop (93 * i) bytes) ≡ drop (93 * (i + 1)) bytes =
    drop-drop 93 (93 * i) bytes ∙ ap (λ (k : ℕ). drop k bytes) (let e : 93 * i + 93 ≡ 93 * (i + 1) = omega arith in e) in
    let later : ((i + 1) == 0) ≡ false = grind arith in
    ap (λ (k : ℕ). text_of_pieces (i == 0) (pieces_of k (drop (93 * i) bytes))) left
    ∙ ap (text_of_pieces (i == 0)) (pieces_of-suc (n - (i + 1)) (drop (93 * i) bytes))
    ∙ text_of_pieces-cons (i == 0) (take 93 (drop (93 * i) bytes)) (pieces_of (n - (i + 1)) (drop 93 (drop (93 * i) bytes)))
    ∙ rw (next, later) refl

pub put_more : (old mid now : Option (List ℕ)) (faults faults_now before_it n : ℕ) (bytes : List ℕ) (i : ℕ) → PutTo old mid faults before_it n bytes i
    → i < n → now ≡ append_known mid (text_line (i == 0) (take 93 (drop (93 * i) bytes))) → faults_now ≡ faults
    → PutTo old now faults_now before_it n bytes (i + 1)
put_more old mid now faults faults_now before_it n bytes i h lt put same =
    let line : List ℕ = text_line (i == 0) (take 93 (drop (93 * i) bytes)) in
    record {
      done = h.done ++ line;
      split = h.split ∙ ap (λ (r : List ℕ). h.done ++ r) (text_step n bytes i lt) ∙ sym (append_assoc h.done line (text_from n bytes (i + 1)));
      put = put ∙ ap (λ (o : Option (List ℕ)). append_known o line) h.put ∙ known_twice old h.done line;
      same = same ∙ h.same;
    }

pub put_all : (old now : Option (List ℕ)) (faults before_it n : ℕ) (bytes : List ℕ) (i : ℕ) → PutTo old now faults before_it n bytes i → n ≤ i
    → now ≡ append_known old (text_of_pieces true (pieces_of n bytes))
put_all old now faults before_it n bytes i h end =
    let left : n - i ≡ 0 = omega arith in
    let none : text_from n bytes i ≡ [] =
    ap (λ (k : ℕ). text_of_pieces (i == 0) (pieces_of k (drop (93 * i) bytes))) left
    ∙ ap (text_of_pieces (i == 0)) (pieces_of-zero (drop (93 * i) bytes)) ∙ text_of_pieces-nil (i == 0) in
    let whole : text_of_pieces true (pieces_of n bytes) ≡ h.done = h.split ∙ ap (λ (r : List ℕ). h.done ++ r) none ∙ append-nil h.done in
    h.put ∙ ap (append_known old) (sym whole)

pub put_front : (old mid now : Option (List ℕ)) (faults before_it n : ℕ) (bytes : List ℕ) (i : ℕ) → PutTo old mid faults before_it n bytes i
    → i < n → AppendsFront mid now (text_line (i == 0) (take 93 (drop (93 * i) bytes))) → AppendsFront old now (text_of_pieces true (pieces_of n bytes))
put_front old mid now faults before_it n bytes i h lt front =
    let later : List ℕ = text_from n bytes (i + 1) in
    record {
      front = h.done ++ front.front;
      rest = front.rest ++ later;
      split =
          h.split ∙ ap (λ (r : List ℕ). h.done ++ r) (text_step n bytes i lt ∙ ap (λ (r : List ℕ). r ++ later) front.split
          ∙ append_assoc front.front front.rest later)
          ∙ sym (append_assoc h.done front.front (front.rest ++ later));
      appended = front.appended ∙ ap (λ (o : Option (List ℕ)). append_known o front.front) h.put ∙ known_twice old h.done front.front;
    }

-- how many pieces there are
pub count_is : (packet a c : List ℕ) → length a ≡ 2 → length c ≡ 2 → (length packet + 96) / 93 ≡ piece_count (a ++ packet ++ c)
count_is packet a c la lc =
    let l : length (a ++ packet ++ c) ≡ length packet + 4 = omega (arith, length-append (a ++ packet) c, length-append a packet) in
    rw l (let e : length packet + 96 ≡ length packet + 4 + 92 = omega arith in ap (λ (k : ℕ). k / 93) e)

pub count_of_sent : (packet : List ℕ) → (length packet + 96) / 93 ≡ piece_count (sent_bytes packet)
count_of_sent packet = count_is packet (to_be_bytes w16 (length packet + 2)) (to_be_bytes w16 (crc_of packet)) refl refl

-- the piece from a place on
pub piece_of_sent : (packet number crc held piece : List ℕ) (value i : ℕ) → number ≡ to_be_bytes w16 (length packet + 2) → crc ≡ to_be_bytes w16 value
    → value ≡ crc_of packet → held ≡ take 93 (drop (93 * i) (number ++ packet ++ crc)) → piece ≡ held → piece ≡ take 93 (drop (93 * i) (sent_bytes packet))
piece_of_sent packet number crc held piece value i number_is crc_is value_is held_is is =
    let last : crc ≡ to_be_bytes w16 (crc_of packet) = crc_is ∙ ap (to_be_bytes w16) value_is in
    is ∙ held_is ∙ ap (λ (a : List ℕ). take 93 (drop (93 * i) (a ++ packet ++ crc))) number_is
    ∙ ap (λ (a : List ℕ). take 93 (drop (93 * i) (to_be_bytes w16 (length packet + 2) ++ packet ++ a))) last
