-- The packets that a text gives are those that lines of it send.
use Rattle.std.proofs.Common.{◌≡◌, ℕ, zero, suc, ◌+◌, ◌<◌, ◌≤◌, true, false, nat_lt, ◌==◌, ◌⊎◌, inl, inr, List, [], ◌∷◌, ◌++◌, get_or, length, Option, Some, None, refl, sym, ap, ◌∙◌, subst, arith, append_assoc, length-append, lit<}
use Rattle.std.specs.List.{fold, Contains}
use Rattle.std.specs.Option.{option_to_list}
use Rattle.std.proofs.lemmas.Bool.{cases_lt, cases_Bool, ltb-false}
use Rattle.std.proofs.lemmas.List.{append-nil, nil_from_length}
use Rattle.std.proofs.lemmas.List.Sums.{fold-append}
use Rattle.std.proofs.lemmas.List.Elements.{Contains-append_left, Contains-append_right, Contains-append_cases}
use Rattle.smp_line.specs.Line.{Content, first, next, bad, foreign, content}
use Rattle.smp_console.specs.Frames.{number_at, Collection, more, lost, whole, collection, Outcome, outcome, outcome_by_content, outcome_by_collection, outcome_of, outcome_of_first, outcome_of_next, Progress, at_start, after_line}
use Rattle.smp_console.specs.Runs.{Adds, no_line, foreign_line, next_line, Sends, IsSent}
use Rattle.smp_console.proofs.Again.{whole_facts, number_of_front}

-- a front of a whole collection has too few bytes
front_more : (c rest packet : List ℕ) → collection (c ++ rest) ≡ whole packet → 2 ≤ length c → 0 < length rest → collection c ≡ more
front_more c rest packet h two some =
    let w = whole_facts (c ++ rest) packet h in
    let k : number_at (c ++ rest) 0 ≡ number_at c 0 = number_of_front c rest two in
    let least = w.least in
    let greatest = w.greatest in
    let size = w.size in
    let joined = length-append c rest in
    let one : nat_lt (number_at c 0) 2 ≡ false = grind arith in
    let two_k : nat_lt 2050 (number_at c 0) ≡ false = grind arith in
    let three : nat_lt (number_at c 0 + 2) (length c) ≡ false = grind arith in
    let four : (length c == (number_at c 0 + 2)) ≡ false = grind arith in
    rw (one, two_k, three, four) refl

-- packets that were given stay
stays : (lines : List (List ℕ)) (s : Progress) (packet : List ℕ) → Contains s.packets packet → Contains (fold after_line s lines).packets packet
stays [] s packet h = h
stays (line ∷ lines) s packet h =
    stays lines (after_line s line) packet (Contains-append_left s.packets (option_to_list (outcome s.collected line).packet) packet h)

-- ---- lines that send a packet give it

state : Progress → Outcome → Progress
state s g = record { collected = g.collected; packets = s.packets ++ option_to_list g.packet }

given_last : (s : Progress) (line packet : List ℕ) → outcome s.collected line ≡ record { collected = None; packet = Some packet }
    → Contains (after_line s line).packets packet
given_last s line packet g =
    let e : (after_line s line).packets ≡ s.packets ++ packet ∷ [] = ap (λ (x : Outcome). s.packets ++ option_to_list x.packet) g in
    subst (λ (ps : List (List ℕ)). Contains ps packet) (sym e) (Contains-append_right s.packets (packet ∷ []) packet (0, lit< tt, refl))

adds_gives : (later : List (List ℕ)) (rest packet : List ℕ) → Adds later rest → (c : List ℕ) (s : Progress) → s.collected ≡ Some c → 2 ≤ length c
    → collection (c ++ rest) ≡ whole packet → 0 < length rest → Contains (fold after_line s later).packets packet
adds_gives later rest packet (no_line _ _ none no_bytes) c s held two all some = absurd (omega (arith, ap length no_bytes))
adds_gives later rest packet (foreign_line _ more_lines line _ is holds adds) c s held two all some =
    let g : outcome s.collected line ≡ record { collected = s.collected; packet = None } = ap (outcome_by_content s.collected) holds in
    let next_held : (after_line s line).collected ≡ Some c = ap (λ (x : Outcome). x.collected) g ∙ held in
    subst (λ (ls : List (List ℕ)). Contains (fold after_line s ls).packets packet) (sym is)
    (adds_gives more_lines rest packet adds c (after_line s line) next_held two all some)
adds_gives later rest packet (next_line _ more_lines line _ piece left is joined holds adds) c s held two all some =
    let g : outcome s.collected line ≡ outcome_of (c ++ piece) =
    ap (outcome_by_content s.collected) holds ∙ ap (λ (o : Option (List ℕ)). outcome_of_next o piece) held in
    let whole_joined : collection ((c ++ piece) ++ left) ≡ whole packet =
    ap collection (append_assoc c piece left ∙ ap (λ (r : List ℕ). c ++ r) (sym joined)) ∙ all in
    let size : 2 ≤ length (c ++ piece) = omega (arith, length-append c piece) in
    subst (λ (ls : List (List ℕ)). Contains (fold after_line s ls).packets packet) (sym is)
    (elim (cases_lt 0 (length left)) [
      | inl yet ↦
          let few = front_more (c ++ piece) left packet whole_joined size yet in
          let next_held : (after_line s line).collected ≡ Some (c ++ piece) =
          ap (λ (x : Outcome). x.collected) (g ∙ ap (outcome_by_collection (c ++ piece)) few) in
          adds_gives more_lines left packet adds (c ++ piece) (after_line s line) next_held size whole_joined yet
      | inr done ↦
          let empty : left ≡ [] = nil_from_length left (omega arith) in
          let full : collection (c ++ piece) ≡ whole packet =
          ap collection (sym (append-nil (c ++ piece)) ∙ ap (λ (r : List ℕ). (c ++ piece) ++ r) (sym empty)) ∙ whole_joined in
          stays more_lines (after_line s line) packet (given_last s line packet (g ∙ ap (outcome_by_collection (c ++ piece)) full))
    ])

not_below : (n : ℕ) → 2 ≤ n → nat_lt n 2 ≡ false
not_below n h = grind arith

sends_gives : (lines : List (List ℕ)) (packet : List ℕ) (s : Progress) → Sends lines packet → Contains (fold after_line s lines).packets packet
sends_gives lines packet s h =
    let b : List ℕ = h.bytes in
    let long = not_below (length b) h.enough in
    let g : outcome s.collected h.line ≡ outcome_of b = ap (outcome_by_content s.collected) h.begins ∙ rw long refl in
    subst (λ (ls : List (List ℕ)). Contains (fold after_line s ls).packets packet) (sym h.all)
    (elim (cases_lt 0 (length h.rest)) [
      | inl yet ↦
          let few = front_more b h.rest packet h.whole h.enough yet in
          let held : (after_line s h.line).collected ≡ Some b = ap (λ (x : Outcome). x.collected) (g ∙ ap (outcome_by_collection b) few) in
          adds_gives h.later h.rest packet h.adds b (after_line s h.line) held h.enough h.whole yet
      | inr done ↦
          let empty : h.rest ≡ [] = nil_from_length h.rest (omega arith) in
          let full : collection b ≡ whole packet = ap collection (sym (append-nil b) ∙ ap (λ (r : List ℕ). b ++ r) (sym empty)) ∙ h.whole in
          stays h.later (after_line s h.line) packet (given_last s h.line packet (g ∙ ap (outcome_by_collection b) full))
    ])

pub sent_gives : (lines : List (List ℕ)) (packet : List ℕ) → IsSent lines packet → Contains (fold after_line at_start lines).packets packet
sent_gives lines packet h =
    let s : Progress = fold after_line at_start h.front in
    let front_run : fold after_line at_start (h.front ++ h.run) ≡ fold after_line s h.run = fold-append after_line at_start h.front h.run in
    let all : fold after_line at_start lines ≡ fold after_line (fold after_line s h.run) h.back =
    ap (fold after_line at_start) h.cut ∙ fold-append after_line at_start (h.front ++ h.run) h.back ∙ ap (λ (x : Progress). fold after_line x h.back) front_run in
    subst (λ (x : Progress). Contains x.packets packet) (sym all)
    (stays h.back (fold after_line s h.run) packet (sends_gives h.run packet s h.sends))

-- ---- a packet that is given was sent

adds_next : (later : List (List ℕ)) (rest line piece : List ℕ) → Adds later rest → content line ≡ next piece → Adds (later ++ line ∷ []) (rest ++ piece)
adds_next later rest line piece (no_line _ _ none no_bytes) holds =
    next_line (later ++ line ∷ []) [] line (rest ++ piece) piece [] (ap (λ (ls : List (List ℕ)). ls ++ line ∷ []) none)
    (ap (λ (r : List ℕ). r ++ piece) no_bytes ∙ sym (append-nil piece)) holds (no_line [] [] refl refl)
adds_next later rest line piece (foreign_line _ more_lines first_one _ is held adds) holds =
    foreign_line (later ++ line ∷ []) (more_lines ++ line ∷ []) first_one (rest ++ piece) (ap (λ (ls : List (List ℕ)). ls ++ line ∷ []) is) held
    (adds_next more_lines rest line piece adds holds)
adds_next later rest line piece (next_line _ more_lines first_one _ part left is joined held adds) holds =
    next_line (later ++ line ∷ []) (more_lines ++ line ∷ []) first_one (rest ++ piece) part (left ++ piece) (ap (λ (ls : List (List ℕ)). ls ++ line ∷ []) is)
    (ap (λ (r : List ℕ). r ++ piece) joined ∙ append_assoc part left piece) held (adds_next more_lines left line piece adds holds)

adds_foreign : (later : List (List ℕ)) (rest line : List ℕ) → Adds later rest → content line ≡ foreign → Adds (later ++ line ∷ []) rest
adds_foreign later rest line (no_line _ _ none no_bytes) holds =
    foreign_line (later ++ line ∷ []) [] line rest (ap (λ (ls : List (List ℕ)). ls ++ line ∷ []) none) holds (no_line [] rest refl no_bytes)
adds_foreign later rest line (foreign_line _ more_lines first_one _ is held adds) holds =
    foreign_line (later ++ line ∷ []) (more_lines ++ line ∷ []) first_one rest (ap (λ (ls : List (List ℕ)). ls ++ line ∷ []) is) held
    (adds_foreign more_lines rest line adds holds)
adds_foreign later rest line (next_line _ more_lines first_one _ part left is joined held adds) holds =
    next_line (later ++ line ∷ []) (more_lines ++ line ∷ []) first_one rest part left (ap (λ (ls : List (List ℕ)). ls ++ line ∷ []) is)
    joined held (adds_foreign more_lines left line adds holds)

-- the collected bytes are those of the last lines
record Begun (lines : List (List ℕ)) (c : List ℕ) : Type 0 where
  front : List (List ℕ)
  line : List ℕ
  later : List (List ℕ)
  bytes : List ℕ
  rest : List ℕ
  cut : lines ≡ front ++ line ∷ later
  begins : content line ≡ first bytes
  enough : 2 ≤ length bytes
  adds : Adds later rest
  joined : c ≡ bytes ++ rest

abbrev IfBegun : List (List ℕ) → Option (List ℕ) → Type 0
IfBegun lines None = Unit {0}
IfBegun lines (Some c) = Begun lines c

record Sound (lines : List (List ℕ)) (s : Progress) : Type 0 where
  given : (packet : List ℕ) → Contains s.packets packet → IsSent lines packet
  begun : IfBegun lines s.collected

sent_before : (lines : List (List ℕ)) (line packet : List ℕ) → IsSent lines packet → IsSent (lines ++ line ∷ []) packet
sent_before lines line packet h = record {
  front = h.front;
  run = h.run;
  back = h.back ++ line ∷ [];
  cut = ap (λ (ls : List (List ℕ)). ls ++ line ∷ []) h.cut ∙ append_assoc (h.front ++ h.run) h.back (line ∷ []);
  sends = h.sends;
}

-- no packet more
none_more : (seen : List (List ℕ)) (s : Progress) (line : List ℕ) → Sound seen s → (packet : List ℕ) → Contains (s.packets ++ []) packet → IsSent (seen ++ line ∷ []) packet
none_more seen s line h packet within =
    sent_before seen line packet (h.given packet (subst (λ (ps : List (List ℕ)). Contains ps packet) (append-nil s.packets) within))

begun_sends : (lines : List (List ℕ)) (c packet : List ℕ) → Begun lines c → collection c ≡ whole packet → IsSent lines packet
begun_sends lines c packet b all = record {
  front = b.front;
  run = b.line ∷ b.later;
  back = [];
  cut = b.cut ∙ sym (append-nil (b.front ++ b.line ∷ b.later));
  sends = record {
    line = b.line;
    later = b.later;
    bytes = b.bytes;
    rest = b.rest;
    all = refl;
    begins = b.begins;
    enough = b.enough;
    adds = b.adds;
    whole = ap collection (sym b.joined) ∙ all;
  };
}

-- a packet of a longer list is an earlier one or the last
contains_last : (xs : List (List ℕ)) (last packet : List ℕ) → Contains (xs ++ last ∷ []) packet → Contains xs packet ⊎ (last ≡ packet)
contains_last xs last packet h = elim (Contains-append_cases xs (last ∷ []) packet h) [
  | inl earlier ↦ inl earlier
  | inr here ↦ inr (only here.0 here.1 here.2)
] where
  only : (k : ℕ) → k < 1 → get_or (last ∷ []) k packet ≡ packet → last ≡ packet
  only zero l e = e
  only (suc k) l e = absurd (omega arith)

by_collected : (seen : List (List ℕ)) (s : Progress) (line c : List ℕ) → Sound seen s → Begun (seen ++ line ∷ []) c → (col : Collection) → collection c ≡ col
    → Sound (seen ++ line ∷ []) (record { collected = (outcome_by_collection c col).collected; packets = s.packets ++ option_to_list (outcome_by_collection c col).packet })
by_collected seen s line c h b more is = record { given = none_more seen s line h; begun = b }
by_collected seen s line c h b lost is = record { given = none_more seen s line h; begun = tt }
by_collected seen s line c h b (whole found) is = record {
  given = λ packet within. elim (contains_last s.packets found packet within) [
    | inl earlier ↦ sent_before seen line packet (h.given packet earlier)
    | inr new ↦ subst (λ (p : List ℕ). IsSent (seen ++ line ∷ []) p) new (begun_sends (seen ++ line ∷ []) c found b is)
  ];
  begun = tt;
}

by_held : (seen : List (List ℕ)) (s : Progress) (line : List ℕ) → Sound seen s → (held : Content) → content line ≡ held
    → Sound (seen ++ line ∷ []) (record { collected = (outcome_by_content s.collected held).collected; packets = s.packets ++ option_to_list (outcome_by_content s.collected held).packet })
by_held seen s line h bad is = record { given = none_more seen s line h; begun = tt }
by_held seen s line h foreign is = record { given = none_more seen s line h; begun = begun_still s.collected h.begun }
  where
    begun_still : (o : Option (List ℕ)) → IfBegun seen o → IfBegun (seen ++ line ∷ []) o
    begun_still None b = tt
    begun_still (Some c) b = record {
      front = b.front;
      line = b.line;
      later = b.later ++ line ∷ [];
      bytes = b.bytes;
      rest = b.rest;
      cut = ap (λ (ls : List (List ℕ)). ls ++ line ∷ []) b.cut ∙ append_assoc b.front (b.line ∷ b.later) (line ∷ []);
      begins = b.begins;
      enough = b.enough;
      adds = adds_foreign b.later b.rest line b.adds is;
      joined = b.joined;
    }
by_held seen s line h (first bytes) is = begins_at (cases_Bool (nat_lt (length bytes) 2))
  where
    begins_at : (nat_lt (length bytes) 2 ≡ true) ⊎ (nat_lt (length bytes) 2 ≡ false)
        → Sound (seen ++ line ∷ []) (record { collected = (outcome_of_first bytes).collected; packets = s.packets ++ option_to_list (outcome_of_first bytes).packet })
    begins_at (inl short) = rw short (record { given = none_more seen s line h; begun = tt })
    begins_at (inr long) =
        let b : Begun (seen ++ line ∷ []) bytes = record {
          front = seen;
          line = line;
          later = [];
          bytes = bytes;
          rest = [];
          cut = refl;
          begins = is;
          enough = ltb-false (length bytes) 2 long;
          adds = no_line [] [] refl refl;
          joined = sym (append-nil bytes);
        } in
        rw long (by_collected seen s line bytes h b (collection bytes) refl)
by_held seen s line h (next bytes) is = goes_on s.collected h.begun
  where
    goes_on : (o : Option (List ℕ)) → IfBegun seen o
        → Sound (seen ++ line ∷ []) (record { collected = (outcome_of_next o bytes).collected; packets = s.packets ++ option_to_list (outcome_of_next o bytes).packet })
    goes_on None b = record { given = none_more seen s line h; begun = tt }
    goes_on (Some c) b =
        let n : Begun (seen ++ line ∷ []) (c ++ bytes) = record {
          front = b.front;
          line = b.line;
          later = b.later ++ line ∷ [];
          bytes = b.bytes;
          rest = b.rest ++ bytes;
          cut = ap (λ (ls : List (List ℕ)). ls ++ line ∷ []) b.cut ∙ append_assoc b.front (b.line ∷ b.later) (line ∷ []);
          begins = b.begins;
          enough = b.enough;
          adds = adds_next b.later b.rest line bytes b.adds is;
          joined = ap (λ (r : List ℕ). r ++ bytes) b.joined ∙ append_assoc b.bytes b.rest bytes;
        } in
        by_collected seen s line (c ++ bytes) h n (collection (c ++ bytes)) refl

all_sound : (lines seen : List (List ℕ)) (s : Progress) → Sound seen s → Sound (seen ++ lines) (fold after_line s lines)
all_sound [] seen s h = subst (λ (ls : List (List ℕ)). Sound ls s) (sym (append-nil seen)) h
all_sound (line ∷ lines) seen s h =
    subst (λ (ls : List (List ℕ)). Sound ls (fold after_line (after_line s line) lines)) (append_assoc seen (line ∷ []) lines)
    (all_sound lines (seen ++ line ∷ []) (after_line s line) (by_held seen s line h (content line) refl))

nothing_sent : Sound [] at_start
nothing_sent = record { given = λ packet within. absurd (let l = within.1 in omega arith); begun = tt }

pub gives_sent : (lines : List (List ℕ)) (packet : List ℕ) → Contains (fold after_line at_start lines).packets packet → IsSent lines packet
gives_sent lines packet within = let h = all_sound lines [] at_start nothing_sent in h.given packet within
