-- What reading a piece does, after any text.
use Rattle.std.proofs.Common.{◌≡◌, ℕ, zero, suc, ◌+◌, ◌-◌, ◌≤◌, Bool, true, false, inl, inr, List, [], ◌∷◌, ◌++◌, length, take, Option, None, refl, ap, sym, ◌∙◌, subst, min, arith, append_assoc, length-append}
use Rattle.std.specs.List.{fold}
use Rattle.std.specs.Option.{option_to_list}
use Rattle.std.proofs.lemmas.List.Sums.{fold-append}
use Rattle.std.proofs.lemmas.Bool.{cases_lt}
use Rattle.std.proofs.lemmas.List.{take_all, take-append-le, take_at, take_min, append-nil}
use Rattle.std.proofs.Math.Seq.{take-append-add}
use Rattle.smp_line.specs.Line.{HasNoNewline, content}
use Rattle.smp_console.proofs.LineLaws.{FrontTells}
use Rattle.smp_console.specs.Lines.{Split, lines, unended}
use Rattle.smp_console.specs.Frames.{Outcome, outcome, outcome_by_content, Progress, at_start, after_line, progress, frames}
use Rattle.smp_console.specs.Receiving.{Received, HasText, Gathered, EndsLine, TakesLine, Feeds, HasRead, nothing_yet, one_more, some_if, list_if}
use Rattle.smp_console.proofs.Cuts.{split-nil, split_more, split_line}

pub progress_more : (text xs : List ℕ) → HasNoNewline xs → progress (text ++ xs) ≡ progress text
progress_more text xs h = ap (λ (s : Split). fold after_line at_start s.lines) (split_more text xs h)

pub progress_line : (text xs : List ℕ) → HasNoNewline xs → progress (text ++ (xs ++ 10 ∷ [])) ≡ after_line (progress text) (unended text ++ xs)
progress_line text xs h =
    ap (λ (s : Split). fold after_line at_start s.lines) (split_line text xs h)
    ∙ fold-append after_line at_start (lines text) ((unended text ++ xs) ∷ [])

-- a front of a front
take_front : (n : ℕ) (xs ys : List ℕ) → take n (take n xs ++ ys) ≡ take n (xs ++ ys)
take_front zero xs ys = refl
take_front (suc n) [] ys = refl
take_front (suc n) (x ∷ xs) ys = ap (λ (r : List ℕ). x ∷ r) (take_front n xs ys)

pub nothing_read : (r : Received) → r.line ≡ [] → r.collected ≡ None → HasText r []
nothing_read r line collected = record {
  line = line ∙ sym (ap (λ (s : Split). take 516 s.rest) split-nil);
  collected = collected ∙ sym (ap (λ (s : Split). (fold after_line at_start s.lines).collected) split-nil);
}

given_front : (tells : FrontTells) (collected : Option (List ℕ)) (xs ys : List ℕ) → outcome collected (take 516 xs ++ ys) ≡ outcome collected (xs ++ ys)
given_front tells collected xs ys =
    let e : content (take 516 xs ++ ys) ≡ content (xs ++ ys) =
    sym (tells (take 516 xs ++ ys)) ∙ ap content (take_front 516 xs ys) ∙ tells (xs ++ ys) in
    ap (outcome_by_content collected) e

option_found : (is_found : Bool) (packet : List ℕ) → option_to_list (some_if is_found packet) ≡ list_if is_found packet
option_found true packet = refl
option_found false packet = refl

-- a line that ends
pub line_given : (tells : FrontTells) (old now : Received) (xs text : List ℕ) (is_found : Bool) → HasNoNewline xs → EndsLine old now xs is_found → HasText old text
    → HasText now (text ++ (xs ++ 10 ∷ [])) × (frames (text ++ (xs ++ 10 ∷ [])) ≡ frames text ++ list_if is_found now.packet)
line_given tells old now xs text is_found none ends held =
    let u : List ℕ = unended text in
    let same : outcome (progress text).collected (u ++ xs) ≡ record { collected = now.collected; packet = some_if is_found now.packet } =
    sym (given_front tells (progress text).collected u xs) ∙ rw (held.collected, held.line) at ends.given in
    let p = progress_line text xs none in (
      record {
        line = ends.line ∙ sym (ap (λ (s : Split). take 516 s.rest) (split_line text xs none));
        collected = sym (ap (λ (x : Progress). x.collected) p ∙ ap (λ (g : Outcome). g.collected) same);
      },
      ap (λ (x : Progress). x.packets) p ∙ ap (λ (g : Outcome). frames text ++ option_to_list g.packet) same
          ∙ ap (λ (x : List (List ℕ)). frames text ++ x) (option_found is_found now.packet),
    )

-- text with no newline
pub text_kept : (old now : Received) (xs text : List ℕ) → HasNoNewline xs → now.line ≡ take 516 (old.line ++ xs) → now.collected ≡ old.collected
    → HasText old text → HasText now (text ++ xs) × (frames (text ++ xs) ≡ frames text)
text_kept old now xs text none line collected held =
    let p = progress_more text xs none in (
      record {
        line = line ∙ ap (λ (l : List ℕ). take 516 (l ++ xs)) held.line ∙ take_front 516 (unended text) xs
            ∙ sym (ap (λ (s : Split). take 516 s.rest) (split_more text xs none));
        collected = collected ∙ held.collected ∙ sym (ap (λ (x : Progress). x.collected) p);
      },
      ap (λ (x : Progress). x.packets) p,
    )

-- What reading a front of a piece does, after any text, where it completes no packet.
pub record Passes (old now : Received) (done : List ℕ) : Type 0 where
  pub holds : (text : List ℕ) → HasText old text → HasText now (text ++ done)
  pub none : (text : List ℕ) (n : ℕ) → HasText old text → frames (text ++ take n done) ≡ frames text
  pub kept : now.packet ≡ old.packet

-- A piece, by what of it was read.
pub record Goes (old now : Received) (piece rest : List ℕ) : Type 0 where
  pub done : List ℕ
  pub joined : piece ≡ done ++ rest
  pub passes : Passes old now done

-- text that goes to a line, as far as there is room
pub filled : (line text now : List ℕ) (room : ℕ) → room + length line ≡ 516 → now ≡ line ++ take (min room (length text)) text
    → now ≡ take 516 (line ++ text)
filled line text now room fits is =
    let e : length line + room ≡ 516 = omega arith in
    is ∙ ap (λ (r : List ℕ). line ++ r) (take_min room text) ∙ sym (rw e at (take-append-add line text room))

-- a line that ends behind its front
pub front_ends : (tells : FrontTells) (old now : Received) (before_it after_it : Gathered) (kept text : List ℕ) (is_found : Bool)
    → old.collected ≡ before_it.collected → old.packet ≡ before_it.packet → now.line ≡ [] → now.collected ≡ after_it.collected → now.packet ≡ after_it.packet
    → kept ≡ take 516 (old.line ++ text) → TakesLine before_it after_it kept is_found → EndsLine old now text is_found
front_ends tells old now b a kept text is_found collected packet empty now_collected now_packet is takes = record {
  line = empty;
  given =
      let front : outcome old.collected (take 516 (old.line ++ text)) ≡ outcome old.collected (old.line ++ text) =
      ap (outcome_by_content old.collected) (tells (old.line ++ text)) in
      sym front ∙ rw (collected, sym is, now_collected, now_packet) takes.given;
  kept = λ f. now_packet ∙ takes.kept f ∙ sym packet;
}

-- a front of text that gives nothing, and then no newline
pub gives_nothing : (text done xs tail : List ℕ) (n : ℕ) → ((m : ℕ) → frames (text ++ take m done) ≡ frames text) → HasNoNewline xs
    → n ≤ length done + length xs → frames (text ++ take n (done ++ (xs ++ tail))) ≡ frames text
gives_nothing text done xs tail n none no_newline h = elim (cases_lt (length done) n) [
  | inl later ↦
      let m : ℕ = n - length done in
      let split_n : length done + m ≡ n = omega arith in
      let front : take n (done ++ (xs ++ tail)) ≡ done ++ take m (xs ++ tail) = rw split_n at (take-append-add done (xs ++ tail) m) in
      let short : take m (xs ++ tail) ≡ take m xs = take-append-le m xs tail (omega arith) in
      let whole : frames (text ++ done) ≡ frames text = rw (take_all (length done) done (omega arith)) at (none (length done)) in
      ap (λ (r : List ℕ). frames (text ++ r)) (front ∙ ap (λ (r : List ℕ). done ++ r) short)
      ∙ ap frames (sym (append_assoc text done (take m xs)))
      ∙ ap (λ (p : Progress). p.packets) (progress_more (text ++ done) (take m xs) (front_has_none xs m no_newline))
      ∙ whole
  | inr early ↦ ap (λ (r : List ℕ). frames (text ++ r)) (take-append-le n done (xs ++ tail) early) ∙ none n
] where
  front_has_none : (ys : List ℕ) (k : ℕ) → HasNoNewline ys → HasNoNewline (take k ys)
  front_has_none ys zero f i = λ e. cc e
  front_has_none [] (suc k) f i = f i
  front_has_none (y ∷ ys) (suc k) f zero = f 0
  front_has_none (y ∷ ys) (suc k) f (suc i) = front_has_none ys k (λ j. f (suc j)) i

all_of : (text done : List ℕ) → ((m : ℕ) → frames (text ++ take m done) ≡ frames text) → frames (text ++ done) ≡ frames text
all_of text done none = rw (take_all (length done) done (omega arith)) at (none (length done))

-- what was read, with one more line
read_on : (piece done rest text after : List ℕ) → piece ≡ done ++ rest → rest ≡ text ++ 10 ∷ after → piece ≡ (done ++ (text ++ 10 ∷ [])) ++ after
read_on piece done rest text after e f =
    e ∙ ap (λ (r : List ℕ). done ++ r) (f ∙ sym (append_assoc text (10 ∷ []) after)) ∙ sym (append_assoc done (text ++ 10 ∷ []) after)

after_more : (tells : FrontTells) (old mid now : Received) (done xs text : List ℕ) (is_found : Bool) → Passes old mid done → HasNoNewline xs → EndsLine mid now xs is_found
    → HasText old text → HasText now (text ++ (done ++ (xs ++ 10 ∷ []))) × (frames (text ++ (done ++ (xs ++ 10 ∷ []))) ≡ frames text ++ list_if is_found now.packet)
after_more tells old mid now done xs text is_found passes none ends held =
    let line = line_given tells mid now xs (text ++ done) is_found none ends (passes.holds text held) in
    let whole = all_of text done (λ m. passes.none text m held) in
    let e = append_assoc text done (xs ++ 10 ∷ []) in (
      subst (λ (t : List ℕ). HasText now t) e line.0,
      ap frames (sym e) ∙ line.1 ∙ ap (λ (l : List (List ℕ)). l ++ list_if is_found now.packet) whole,
    )

-- a line that gives no packet
pub goes_on : (tells : FrontTells) (old mid now : Received) (piece rest text after : List ℕ) (is_found : Bool) → Goes old mid piece rest
    → (rest ≡ text ++ 10 ∷ after) × HasNoNewline text → EndsLine mid now text is_found → is_found ≡ false → Goes old now piece after
goes_on tells old mid now piece rest text after is_found goes cut ends not_found =
    let d : List ℕ = goes.done ++ (text ++ 10 ∷ []) in
    let whole : (t : List ℕ) → HasText old t → frames (t ++ d) ≡ frames t = λ t held.
    (after_more tells old mid now goes.done text t is_found goes.passes cut.1 ends held).1 ∙ rw not_found (append-nil (frames t)) in
    record {
      done = d;
      joined = read_on piece goes.done rest text after goes.joined cut.0;
      passes = record {
        holds = λ t held. (after_more tells old mid now goes.done text t is_found goes.passes cut.1 ends held).0;
        none = λ t n held. elim (cases_lt (length goes.done + length text) n) [
          | inl all ↦
              let e : take n d ≡ d = take_all n d (omega (arith, length-append goes.done (text ++ 10 ∷ []), length-append text (10 ∷ []))) in
              ap (λ (r : List ℕ). frames (t ++ r)) e ∙ whole t held
          | inr part ↦ gives_nothing t goes.done text (10 ∷ []) n (λ m. goes.passes.none t m held) cut.1 part
        ];
        kept = ends.kept not_found ∙ goes.passes.kept;
      };
    }

-- a line that gives a packet
pub finds : (tells : FrontTells) (old mid now : Received) (piece rest text after : List ℕ) (is_found : Bool) → Goes old mid piece rest
    → (rest ≡ text ++ 10 ∷ after) × HasNoNewline text → EndsLine mid now text is_found → is_found ≡ true
    → Feeds old now piece (record { used = length piece - length after; packet = true })
finds tells old mid now piece rest text after is_found goes cut ends is =
    let d : List ℕ = goes.done ++ (text ++ 10 ∷ []) in
    let joined : piece ≡ d ++ after = read_on piece goes.done rest text after goes.joined cut.0 in
    let size : length d ≡ length goes.done + length text + 1 = omega (arith, length-append goes.done (text ++ 10 ∷ []), length-append text (10 ∷ [])) in
    let used : length d ≡ length piece - length after = omega (arith, ap length joined, length-append d after) in
    let front : take (length piece - length after) piece ≡ d = rw joined (take_at d after _ (omega (arith, length-append d after))) in
    record {
      used = omega arith;
      all = λ f. cc f;
      some = λ t. omega arith;
      holds = λ t held. rw front (after_more tells old mid now goes.done text t is_found goes.passes cut.1 ends held).0;
      found = λ t held. rw front ((after_more tells old mid now goes.done text t is_found goes.passes cut.1 ends held).1
          ∙ ap (λ (b : Bool). frames t ++ list_if b now.packet) is);
      first = λ t n held below.
          let part : take n piece ≡ take n d = rw joined (take-append-le n d after (omega arith)) in
          ap (λ (r : List ℕ). frames (t ++ r)) part
          ∙ gives_nothing t goes.done text (10 ∷ []) n (λ m. goes.passes.none t m held) cut.1 (omega arith);
      kept = λ f. cc f;
    }

-- the end of a piece
pub ends_piece : (old mid now : Received) (piece rest : List ℕ) → Goes old mid piece rest → HasNoNewline rest
    → now.line ≡ take 516 (mid.line ++ rest) → now.collected ≡ mid.collected → now.packet ≡ mid.packet
    → Feeds old now piece (record { used = length piece; packet = false })
ends_piece old mid now piece rest goes none line collected packet =
    let front : take (length piece) piece ≡ goes.done ++ rest = take_all (length piece) piece (omega arith) ∙ goes.joined in
    let size : length piece ≡ length goes.done + length rest = omega (arith, ap length goes.joined, length-append goes.done rest) in
    let nothing_more : (t : List ℕ) (n : ℕ) → HasText old t → n ≤ length piece → frames (t ++ take n piece) ≡ frames t = λ t n held h.
    let joined : piece ≡ goes.done ++ (rest ++ []) = goes.joined ∙ ap (λ (r : List ℕ). goes.done ++ r) (sym (append-nil rest)) in
    ap (λ (r : List ℕ). frames (t ++ take n r)) joined
    ∙ gives_nothing t goes.done rest [] n (λ m. goes.passes.none t m held) none (omega arith) in
    record {
      used = omega arith;
      all = λ f. refl;
      some = λ t. cc t;
      holds = λ t held.
          rw front (subst (λ (r : List ℕ). HasText now r) (append_assoc t goes.done rest)
          (text_kept mid now rest (t ++ goes.done) none line collected (goes.passes.holds t held)).0);
      found = λ t held. nothing_more t (length piece) held (omega arith) ∙ sym (append-nil (frames t));
      first = λ t n held below. nothing_more t n held (omega arith);
      kept = λ f. packet ∙ goes.passes.kept;
    }

-- before a piece is read
pub goes_nowhere : (r : Received) (piece : List ℕ) → Goes r r piece piece
goes_nowhere r piece = record {
  done = [];
  joined = refl;
  passes = record {
    holds = λ t held. subst (λ (x : List ℕ). HasText r x) (sym (append-nil t)) held;
    none = λ t n held. ap frames (ap (λ (x : List ℕ). t ++ x) (take_all n [] (omega arith)) ∙ append-nil t);
    kept = refl;
  };
}

-- what was read holds, and the packets are its frames
pub has_read : (text : List ℕ) (packets : List (List ℕ)) (r : Received) → HasRead text packets r → HasText r text × (packets ≡ frames text)
has_read text packets r (nothing_yet _ _ _ no_text no_packets is) =
    let held = nothing_read r (ap (λ (x : Received). x.line) is) (ap (λ (x : Received). x.collected) is) in
    let none : frames [] ≡ [] = ap (λ (s : Split). (fold after_line at_start s.lines).packets) split-nil in
    (subst (λ (t : List ℕ). HasText r t) (sym no_text) held, no_packets ∙ sym (ap frames no_text ∙ none))
has_read text packets now (one_more start _ earlier _ old _ piece fed read feeds more found_more) =
    let ih = has_read start earlier old read in (
      subst (λ (t : List ℕ). HasText now t) (sym more) (feeds.holds start ih.0),
      found_more ∙ ap (λ (l : List (List ℕ)). l ++ list_if fed.packet now.packet) ih.1 ∙ sym (ap frames more ∙ feeds.found start ih.0),
    )
