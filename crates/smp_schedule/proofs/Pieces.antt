-- What is put, one piece after another.
use Rattle.std.proofs.Common.{◌≡◌, ℕ, ◌≤◌, ◌<◌, ◌+◌, ◌/◌, ◌%◌, slice_index, Bor, length, get_or, map, take, drop, codes, List, [], ◌∷◌, ◌++◌, Option, Some, None, Result, Ok, Err, refl, sym, ap, ◌∙◌, append_assoc, append-nil, arith}
use Rattle.std.specs.Prelude.{IsErr}
use Rattle.std.specs.Fmt.{decimal}
use Rattle.std.specs.Io.KnownBytes.{append_known}
use Rattle.hex.specs.Hex.{encode_with, encode_lower, lower_digits}
use Rattle.smp_edge.specs.Faults.{HasCause}
use Rattle.smp_edge.specs.Sink.{AppendsFront}
use Rattle.smp_edge.specs.declared.sink.Failed.{Failed}
use Rattle.std.proofs.lemmas.List.{take-append-drop, drop_more, drop_all}
use Rattle.smp_schedule.specs.Puts.{Puts, PutSome}
use Rattle.smp_model.specs.declared.setting.Setting.{Setting}
use Rattle.smp_schedule.specs.declared.event.Event.{Event}
use Rattle.smp_schedule.specs.Written.{client_start, ended, line_of, value_word, pair_words, event_words, event_lines}

-- nothing more
known_none : (old : Option (List ℕ)) → old ≡ append_known old []
known_none None = refl
known_none (Some xs) = ap Some (sym (append-nil xs))

-- two appends are one
known_twice : (old : Option (List ℕ)) (a b : List ℕ) → append_known (append_known old a) b ≡ append_known old (a ++ b)
known_twice None a b = refl
known_twice (Some xs) a b = ap Some (append_assoc xs a b)

then_known : (old mid new : Option (List ℕ)) (a b : List ℕ) → mid ≡ append_known old a → new ≡ append_known mid b
    → new ≡ append_known old (a ++ b)
then_known old mid new a b first second = second ∙ ap (λ (o : Option (List ℕ)). append_known o b) first ∙ known_twice old a b

-- nothing was put yet
pub none_put : (old : Option (List ℕ)) (before : ℕ) (bytes : List ℕ) → PutSome old old before before bytes bytes
none_put old before bytes = record { front = []; split = refl; appended = known_none old; same = refl }

-- a piece more
pub more_put : (old mid new : Option (List ℕ)) (before between now : ℕ) (r : Result (Unit {0}) Failed) (bytes rest piece left : List ℕ)
    → PutSome old mid before between bytes rest → r ≡ Ok tt → Puts mid new between now r piece → rest ≡ piece ++ left → PutSome old new before now bytes left
more_put old mid new before between now (Ok t) bytes rest piece left some is put e = record {
  front = some.front ++ piece;
  split = some.split ∙ ap (λ (xs : List ℕ). some.front ++ xs) e ∙ sym (append_assoc some.front piece left);
  appended = then_known old mid new some.front piece some.appended put.all;
  same = put.cause.kept ∙ some.same;
}
more_put old mid new before between now (Err f) bytes rest piece left some is put e = absurd cc

-- a front of a piece more, behind which the sink failed; or all of it, and that is the last
fronts : (old mid new : Option (List ℕ)) (bytes front rest piece left : List ℕ) → bytes ≡ front ++ rest → mid ≡ append_known old front → rest ≡ piece ++ left
    → AppendsFront mid new piece → AppendsFront old new bytes
fronts old mid new bytes front rest piece left split appended e next = record {
  front = front ++ next.front;
  rest = next.rest ++ left;
  split = split ∙ ap (λ (xs : List ℕ). front ++ xs) (e ∙ ap (λ (xs : List ℕ). xs ++ left) next.split ∙ append_assoc next.front next.rest left)
      ∙ sym (append_assoc front next.front (next.rest ++ left));
  appended = then_known old mid new front next.front appended next.appended;
}

failed_cause : (before between now : ℕ) (e f : Failed) → between ≡ before → HasCause {T = Unit {0}} between now (Err e) → HasCause {T = Unit {0}} before now (Err f)
failed_cause before between now e f same put = record { later = rw same at put.later; failed = rw same at put.failed; kept = tt }

pub put_fails : (old mid new : Option (List ℕ)) (before between now : ℕ) (e : Failed) (piece_put r : Result (Unit {0}) Failed) (bytes rest piece left : List ℕ)
    → PutSome old mid before between bytes rest → piece_put ≡ Err e → Puts mid new between now piece_put piece → rest ≡ piece ++ left → IsErr r
    → Puts old new before now r bytes
put_fails old mid new before between now e piece_put (Ok t) bytes rest piece left some is put split err = absurd cc
put_fails old mid new before between now e (Ok t) (Err f) bytes rest piece left some is put split err = absurd cc
put_fails old mid new before between now e (Err g) (Err f) bytes rest piece left some is put split err = record {
  all = tt;
  front = fronts old mid new bytes some.front rest piece left some.split some.appended split put.front;
  cause = failed_cause before between now g f some.same put.cause;
}

pub last_put : (old mid new : Option (List ℕ)) (before between now : ℕ) (r : Result (Unit {0}) Failed) (bytes rest : List ℕ)
    → PutSome old mid before between bytes rest → Puts mid new between now r rest → Puts old new before now r bytes
last_put old mid new before between now (Ok t) bytes rest some put = record {
  all = then_known old mid new some.front rest some.appended put.all ∙ ap (append_known old) (sym some.split);
  front = fronts old mid new bytes some.front rest rest [] some.split some.appended (sym (append-nil rest)) put.front;
  cause = rw some.same at put.cause;
}
last_put old mid new before between now (Err e) bytes rest some put = record {
  all = tt;
  front = fronts old mid new bytes some.front rest rest [] some.split some.appended (sym (append-nil rest)) put.front;
  cause = rw some.same at put.cause;
}

-- some bytes, and then the last
pub then_put : (old mid new : Option (List ℕ)) (before between now : ℕ) (first r : Result (Unit {0}) Failed) (xs ys : List ℕ)
    → first ≡ Ok tt → Puts old mid before between first xs → Puts mid new between now r ys → Puts old new before now r (xs ++ ys)
then_put old mid new before between now first r xs ys is put next =
    last_put old mid new before between now r (xs ++ ys) ys
    (more_put old old mid before before between first (xs ++ ys) (xs ++ ys) xs ys (none_put old before (xs ++ ys)) is put refl) next

-- what is left of fields, from one on
pub fields_left : (fields : List (Bor (List ℕ))) (i : ℕ) (other : Bor (List ℕ)) → i < length fields
    → ended (map (λ f. f.now) (drop i fields)) ≡ (32 ∷ (get_or fields i other).now) ++ ended (map (λ f. f.now) (drop (i + 1) fields))
fields_left fields i other h = ap (λ (fs : List (Bor (List ℕ))). ended (map (λ f. f.now) fs)) (drop_more fields i other h)

pub no_fields_left : (fields : List (Bor (List ℕ))) (i : ℕ) → length fields ≤ i → ended (map (λ f. f.now) (drop i fields)) ≡ codes "\n"
no_fields_left fields i h = ap (λ (fs : List (Bor (List ℕ))). ended (map (λ f. f.now) fs)) (drop_all i fields h)

encode_append : (digits xs ys : List ℕ) → encode_with digits (xs ++ ys) ≡ encode_with digits xs ++ encode_with digits ys
unfolding encode_with
encode_append digits [] ys = refl
encode_append digits (x ∷ xs) ys =
    ap (λ (more : List ℕ). slice_index digits (x / 16) ∷ slice_index digits (x % 16) ∷ more) (encode_append digits xs ys)

-- the hex of a piece, and of what is behind it
pub hex_left : (rest piece more : List ℕ) (n : ℕ) → piece ≡ take n rest → more ≡ drop n rest → encode_lower rest ≡ encode_lower piece ++ encode_lower more
hex_left rest piece more n is behind =
    rw (is, behind) (ap encode_lower (sym (take-append-drop n rest)) ∙ encode_append lower_digits (take n rest) (drop n rest))

-- the first of some pieces, behind which the sink failed
pub first_fails : (old new : Option (List ℕ)) (before now : ℕ) (e : Failed) (piece_put r : Result (Unit {0}) Failed) (bytes piece left : List ℕ)
    → piece_put ≡ Err e → Puts old new before now piece_put piece → bytes ≡ piece ++ left → IsErr r → Puts old new before now r bytes
first_fails old new before now e piece_put r bytes piece left is put split err =
    put_fails old old new before before now e piece_put r bytes bytes piece left (none_put old before bytes) is put split err

-- and the first of some pieces, all of it
pub first_put : (old new : Option (List ℕ)) (before now : ℕ) (r : Result (Unit {0}) Failed) (bytes piece left : List ℕ)
    → r ≡ Ok tt → Puts old new before now r piece → bytes ≡ piece ++ left → PutSome old new before now bytes left
first_put old new before now r bytes piece left is put split =
    more_put old old new before before now r bytes bytes piece left (none_put old before bytes) is put split

-- a value that is not empty
pub value_is_hex : (bytes : List ℕ) → (bytes ≡ [] → ⊥) → value_word bytes ≡ encode_lower bytes
value_is_hex [] some = absurd (some refl)
value_is_hex (b ∷ bytes) some = refl

-- what is left of settings, and of events, from one on
pub pairs_left : (pairs : List Setting) (i : ℕ) (pair : Setting) → i < length pairs → pair ≡ get_or pairs i pair
    → ended (pair_words (drop i pairs)) ≡ ((32 ∷ pair.name) ++ (32 ∷ value_word pair.val)) ++ ended (pair_words (drop (i + 1) pairs))
pairs_left pairs i pair h is =
    ap (λ (ps : List Setting). ended (pair_words ps)) (drop_more pairs i pair h ∙ ap (λ (p : Setting). p ∷ drop (i + 1) pairs) (sym is))
    ∙ sym (append_assoc (32 ∷ pair.name) (32 ∷ value_word pair.val) (ended (pair_words (drop (i + 1) pairs))))

pub no_pairs_left : (pairs : List Setting) (i : ℕ) → length pairs ≤ i → ended (pair_words (drop i pairs)) ≡ codes "\n"
no_pairs_left pairs i h = ap (λ (ps : List Setting). ended (pair_words ps)) (drop_all i pairs h)

pub events_left : (events : List Event) (i : ℕ) (event : Event) → i < length events → event ≡ get_or events i event
    → event_lines (drop i events) ≡ line_of (event_words event) ++ event_lines (drop (i + 1) events)
events_left events i event h is =
    ap event_lines (drop_more events i event h ∙ ap (λ (e : Event). e ∷ drop (i + 1) events) (sym is))

pub no_events_left : (events : List Event) (i : ℕ) → length events ≤ i → event_lines (drop i events) ≡ []
no_events_left events i h = ap event_lines (drop_all i events h)

-- and where nothing is left, all was put
pub all_put : (old new : Option (List ℕ)) (before now : ℕ) (bytes rest : List ℕ) → PutSome old new before now bytes rest → rest ≡ []
    → Puts old new before now (Ok tt) bytes
all_put old new before now bytes rest some none =
    let whole : bytes ≡ some.front = some.split ∙ ap (λ (xs : List ℕ). some.front ++ xs) none ∙ append-nil some.front in
    record {
      all = some.appended ∙ ap (append_known old) (sym whole);
      front = record { front = some.front; rest = []; split = whole ∙ sym (append-nil some.front); appended = some.appended };
      cause = record { later = omega (arith, some.same); failed = tt; kept = some.same };
    }

-- the front of a client's line, and what is behind it
pub started_line : (number : ℕ) (job : List ℕ) (words : List (List ℕ))
    → line_of (codes "client" ∷ decimal number ∷ job ∷ words) ≡ client_start number job ++ ended words
started_line number job words =
    sym (append_assoc (codes "client") ((32 ∷ decimal number) ++ (32 ∷ job)) (ended words)
    ∙ ap (λ (xs : List ℕ). codes "client" ++ xs) (append_assoc (32 ∷ decimal number) (32 ∷ job) (ended words)))
