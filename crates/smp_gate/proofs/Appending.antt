-- A cell is appended: what that does to the side, and to the bank.
use Rattle.std.proofs.Common.{◌≡◌, ◌≢◌, ◌⊎◌, inl, inr, ℕ, ◌+◌, ◌-◌, ◌*◌, ◌^◌, ◌<◌, ◌≤◌, Bool, true, false, Option, Some, None, List, [], ◌∷◌, ◌++◌, length, take, drop, refl, sym, ◌∙◌, ap, subst, arith, length-append}
use Rattle.std.specs.Prelude.{IfSome, IsErrOf, Result, ◌↔◌}
use Rattle.smp_gate.specs.declared.fault.BankFault.{BankFault}
use Rattle.smp_gate.specs.declared.fault.BankFault.TheVariants.{Full}
use Rattle.std.specs.Str.{bytes_eq}
use Rattle.std.proofs.lemmas.Bool.{cases_Bool}
use Rattle.std.proofs.lemmas.List.{append-nil}
use Rattle.std.proofs.lemmas.Slice.Eq.{bytes_eq-Decides}
use Rattle.smp_flash.specs.Area.{area, blank, spot, Clear, Keeps, Told}
use Rattle.smp_flash.specs.Region.{gate}
use Rattle.smp_flash.specs.declared.layout.BankPlace.{BankPlace}
use Rattle.smp_flash.specs.declared.geometry.Geometry.{Geometry}
use Rattle.smp_flash.specs.Geometry.{size_of}
use Rattle.smp_flash.specs.State.{FlashState, End}
use Rattle.smp_flash.specs.Calls.{Calls}
use Rattle.smp_flash.proofs.Areas.{area-area, blank_within, blank_first}
use Rattle.smp_flash.proofs.Passing.{Calls-wider, Covers-within}
use Rattle.smp_flash.proofs.Telling.{IfSome-map, Told-with, Told-four}
use Rattle.smp_gate.specs.Side.{ValidSide, generation_in, length_in, is_valid, side_by, valid_side, AtMost}
use Rattle.smp_gate.specs.Cells.{filled, span, cells_at, places, counted, cells_in, cell_of, place_of, standing, Used}
use Rattle.smp_gate.specs.Newest.{Apart, Content, newest_side, newest_bytes, newest_generation, generation_by, content_of, AgesAtMost, SameNewest, Added, SameOrAdded, HasCell, FullSide, IsFull, Fits, sides}
use Rattle.smp_gate.specs.Bank.{BankState, BankSays, Stands, bar, current, other, next_cell}
use Rattle.smp_gate.proofs.Sides.{newest-Stands}
use Rattle.smp_gate.proofs.Contents.{bytes-Stands, content-Stands, says_content}
use Rattle.smp_gate.proofs.Choosing.{current_Calls}
use Rattle.smp_gate.proofs.Standing.{cell_used}
use Rattle.smp_gate.proofs.Ranges.{Touched, cells_touched, cells_used, used_more, place_fits}

-- a side whose head and body stayed
side_by_same : (is : Bool) (head new old : List ℕ) → take (length_in head) (drop 16 new) ≡ take (length_in head) (drop 16 old) → side_by is head new ≡ side_by is head old
side_by_same true head new old same = ap (λ (body : List ℕ). Some (record { generation = generation_in head; body = body })) same
side_by_same false head new old same = refl

valid_same : (size : ℕ) (new old : List ℕ) → length_in (take 16 old) ≡ size → take 16 new ≡ take 16 old → take size (drop 16 new) ≡ take size (drop 16 old)
    → valid_side new ≡ valid_side old
valid_same size new old is head body =
    ap (λ (h : List ℕ). side_by (is_valid h) h new) head
    ∙ side_by_same (is_valid (take 16 old)) (take 16 old) new old
    (ap (λ (n : ℕ). take n (drop 16 new)) is ∙ body ∙ ap (λ (n : ℕ). take n (drop 16 old)) (sym is))

-- What a change of the next cell's bytes alone does to the newest side.
pub touched_by : (bank : BankState) (old new : List ℕ) → bank.size ≤ 4080 → length bank.gates < places bank.cell bank.size
    → Keeps (spot (next_cell bank) (span bank.cell)) old new
    → Touched bank.cell bank.size (length bank.gates) (area (current bank.place bank.second) 4096 old) (area (current bank.place bank.second) 4096 new)
touched_by bank old new fits low keeps =
    let at : ℕ = current bank.place bank.second in
    let inside = place_fits bank.cell bank.size (length bank.gates) fits low in
    record {
      before = λ p n le. area-area p n at 4096 new (omega (arith, inside)) ∙ keeps.apart (at + p) n (inl (omega arith), tt) ∙ sym (area-area p n at 4096 old (omega (arith, inside)));
      behind = λ p n lo hi. area-area p n at 4096 new hi ∙ keeps.apart (at + p) n (inr (omega arith), tt) ∙ sym (area-area p n at 4096 old hi);
    }

-- the other side lies apart from the next cell
other_apart : (bank : BankState) → Apart bank.place → bank.size ≤ 4080 → length bank.gates < places bank.cell bank.size
    → Clear (spot (next_cell bank) (span bank.cell)) (other bank.place bank.second) 4096
other_apart bank apart fits low =
    let inside = place_fits bank.cell bank.size (length bank.gates) fits low in
    go bank.second (cells_at bank.size + length bank.gates * span bank.cell) inside
  where
    go : (second : Bool) (at : ℕ) → at + span bank.cell ≤ 4096 → Clear (spot (current bank.place second + at) (span bank.cell)) (other bank.place second) 4096
    go true at inside = (elim apart [ inl before ↦ inl (omega arith) | inr after ↦ inr (omega arith) ], tt)
    go false at inside = (elim apart [ inl before ↦ inr (omega arith) | inr after ↦ inl (omega arith) ], tt)

pub stands_appended : (bank : BankState) (old new : List ℕ) → Apart bank.place → bank.size ≤ 4080 → length bank.gates < places bank.cell bank.size
    → Keeps (spot (next_cell bank) (span bank.cell)) old new → (says : BankSays bank old) → Stands bank.place bank.second bank.generation says.body new
stands_appended bank old new apart fits low keeps says =
    let touched = touched_by bank old new fits low keeps in
    let at : ℕ = current bank.place bank.second in
    record {
      found = valid_same bank.size (area at 4096 new) (area at 4096 old) says.size (touched.before 0 16 (omega arith)) (touched.before 16 bank.size (omega arith)) ∙ says.stands.found;
      behind = subst (AtMost (bar bank.second bank.generation)) (sym (ap valid_side (keeps.apart (other bank.place bank.second) 4096 (other_apart bank apart fits low)))) says.stands.behind;
      positive = says.stands.positive;
    }

-- the length in the head stays
size_appended : (bank : BankState) (old new : List ℕ) → bank.size ≤ 4080 → length bank.gates < places bank.cell bank.size
    → Keeps (spot (next_cell bank) (span bank.cell)) old new → BankSays bank old → length_in (take 16 (area (current bank.place bank.second) 4096 new)) ≡ bank.size
size_appended bank old new fits low keeps says =
    ap length_in ((touched_by bank old new fits low keeps).before 0 16 (omega arith)) ∙ says.size

-- the bank's content then
content_touched : (bank : BankState) (old new : List ℕ) → Apart bank.place → bank.size ≤ 4080 → length bank.gates < places bank.cell bank.size
    → Keeps (spot (next_cell bank) (span bank.cell)) old new → (says : BankSays bank old)
    → content_of bank.place bank.cell new ≡ Some (record {
      body = says.body;
      cells = cells_in bank.cell bank.size (area (current bank.place bank.second) 4096 old)
          ++ counted (bytes_eq (area (next_cell bank + filled bank.cell) 8 new) gate) (area (next_cell bank) bank.cell new) [];
    })
content_touched bank old new apart fits low keeps says =
    let at : ℕ = current bank.place bank.second in
    let side : List ℕ = area at 4096 new in
    let k : ℕ = cells_at bank.size + length bank.gates * span bank.cell in
    let inside = place_fits bank.cell bank.size (length bank.gates) fits low in
    let g : area (k + filled bank.cell) 8 side ≡ area (next_cell bank + filled bank.cell) 8 new =
    area-area (k + filled bank.cell) 8 at 4096 new (omega (arith, inside)) ∙ (let e : at + (k + filled bank.cell) ≡ at + k + filled bank.cell = omega arith in ap (λ (p : ℕ). area p 8 new) e) in
    let x : area k bank.cell side ≡ area (next_cell bank) bank.cell new = area-area k bank.cell at 4096 new (omega (arith, inside)) in
    content-Stands bank.place bank.cell bank.second bank.generation says.body new (stands_appended bank old new apart fits low keeps says)
    ∙ ap (λ (n : ℕ). Some (record { body = says.body; cells = cells_in bank.cell n side })) (size_appended bank old new fits low keeps says)
    ∙ ap (λ (cells : List (List ℕ)). Some (record { body = says.body; cells = cells }))
    (cells_touched bank.cell bank.size bank.gates (area at 4096 old) side fits low says.used (touched_by bank old new fits low keeps)
    ∙ (λ i. cells_in bank.cell bank.size (area at 4096 old) ++ counted (bytes_eq (g i) gate) (x i) []))

-- a cell whose gate stands is added
pub added_by : (bank : BankState) (cell old new : List ℕ) → Apart bank.place → bank.size ≤ 4080 → length bank.gates < places bank.cell bank.size
    → Keeps (spot (next_cell bank) (span bank.cell)) old new → BankSays bank old
    → area (next_cell bank + filled bank.cell) 8 new ≡ gate → area (next_cell bank) bank.cell new ≡ cell → Added bank.place bank.cell cell old new
added_by bank cell old new apart fits low keeps says opened stands c was =
    let same : c ≡ record { body = says.body; cells = cells_in bank.cell bank.size (area (current bank.place bank.second) 4096 old) } = cc (sym was ∙ says_content bank old says) in
    let open_ : bytes_eq (area (next_cell bank + filled bank.cell) 8 new) gate ≡ true = ap (λ (xs : List ℕ). bytes_eq xs gate) opened in
    content_touched bank old new apart fits low keeps says
    ∙ (λ i. Some (record { body = says.body; cells = cells_in bank.cell bank.size (area (current bank.place bank.second) 4096 old) ++ counted (open_ i) (stands i) [] }))
    ∙ ap (λ (d : Content). Some (record { body = d.body; cells = d.cells ++ (cell ∷ []) })) (sym same)

-- one whose gate is missing is not
pub either_by : (bank : BankState) (cell old new : List ℕ) → Apart bank.place → bank.size ≤ 4080 → length bank.gates < places bank.cell bank.size → BankSays bank old
    → Keeps (spot (next_cell bank) (span bank.cell)) old new
    → (area (next_cell bank + filled bank.cell) 8 new ≡ gate → area (next_cell bank) bank.cell new ≡ cell) → SameOrAdded bank.place bank.cell cell old new
either_by bank cell old new apart fits low says keeps whole = elim (cases_Bool (bytes_eq (area (next_cell bank + filled bank.cell) 8 new) gate)) [
  | inl is ↦
      (let opened : area (next_cell bank + filled bank.cell) 8 new ≡ gate = (bytes_eq-Decides (area (next_cell bank + filled bank.cell) 8 new) gate).0 is in
      inr (added_by bank cell old new apart fits low keeps says opened (whole opened)))
  | inr other ↦
      inl (content_touched bank old new apart fits low keeps says
      ∙ ap (λ (b : Bool). Some (record {
        body = says.body;
        cells = cells_in bank.cell bank.size (area (current bank.place bank.second) 4096 old) ++ counted b (area (next_cell bank) bank.cell new) [];
      })) other
      ∙ ap (λ (cells : List (List ℕ)). Some (record { body = says.body; cells = cells })) (append-nil (cells_in bank.cell bank.size (area (current bank.place bank.second) 4096 old)))
      ∙ sym (says_content bank old says))
]

pub newest_appended : (bank : BankState) (old new : List ℕ) → Apart bank.place → bank.size ≤ 4080 → length bank.gates < places bank.cell bank.size → BankSays bank old
    → Keeps (spot (next_cell bank) (span bank.cell)) old new → SameNewest bank.place old new
newest_appended bank old new apart fits low says keeps =
    newest-Stands bank.place bank.second bank.generation says.body new (stands_appended bank old new apart fits low keeps says)
    ∙ sym (newest-Stands bank.place bank.second bank.generation says.body old says.stands)

pub ages_appended : (place : BankPlace) (old new : List ℕ) → SameNewest place old new → AgesAtMost 0 place old new
ages_appended place old new same =
    let e : newest_generation place new ≡ newest_generation place old = ap generation_by same in record { kept = omega (arith, e); most = omega (arith, e) }

-- what the bank's value says once the gate stands
pub says_appended : (bank : BankState) (old new : List ℕ) → Apart bank.place → bank.size ≤ 4080 → length bank.gates < places bank.cell bank.size → BankSays bank old
    → Keeps (spot (next_cell bank) (span bank.cell)) old new → area (next_cell bank + filled bank.cell) 8 new ≡ gate
    → BankSays (record bank { gates = bank.gates ++ (true ∷ []) }) new
says_appended bank old new apart fits low says keeps opened =
    let at : ℕ = current bank.place bank.second in
    let k : ℕ = cells_at bank.size + length bank.gates * span bank.cell in
    let inside = place_fits bank.cell bank.size (length bank.gates) fits low in
    let g : area (k + filled bank.cell) 8 (area at 4096 new) ≡ gate =
    area-area (k + filled bank.cell) 8 at 4096 new (omega (arith, inside)) ∙ (let e : at + (k + filled bank.cell) ≡ at + k + filled bank.cell = omega arith in ap (λ (p : ℕ). area p 8 new) e) ∙ opened in
    record {
      body = says.body;
      stands = stands_appended bank old new apart fits low keeps says;
      size = size_appended bank old new fits low keeps says;
      used = used_more bank.cell bank.size bank.gates (area at 4096 old) (area at 4096 new) fits low says.used (touched_by bank old new fits low keeps) g;
    }

nat_cases : (a b : ℕ) → a ≤ b → (a ≡ b) ⊎ (a < b)
nat_cases a b le = grind arith

-- the newest side has no free cell exactly where all places were begun
pub full_by : (bank : BankState) (bytes : List ℕ) → BankSays bank bytes → IsFull bank.place bank.cell bytes ↔ (length bank.gates ≡ places bank.cell bank.size)
full_by bank bytes says =
    let side : List ℕ = area (current bank.place bank.second) 4096 bytes in
    let is : newest_bytes bank.place bytes ≡ Some side = bytes-Stands bank.place bank.second bank.generation says.body bytes says.stands in
    let P : ℕ → Type 0 = λ n. (places bank.cell n ≡ 0) ⊎ (area (cells_at n + (places bank.cell n - 1) * span bank.cell) (span bank.cell) side ≢ blank (span bank.cell)) in (
      (λ full. all_used bank side says.used (subst P says.size (subst (FullSide bank.cell) is full))),
      (λ all. subst (FullSide bank.cell) (sym is) (subst P (sym says.size) (no_free bank side says.used all))),
    )
  where
    all_used : (bank : BankState) (side : List ℕ) → Used bank.cell bank.size bank.gates side
        → (places bank.cell bank.size ≡ 0) ⊎ (area (cells_at bank.size + (places bank.cell bank.size - 1) * span bank.cell) (span bank.cell) side ≢ blank (span bank.cell))
        → length bank.gates ≡ places bank.cell bank.size
    all_used bank side used full = elim (nat_cases (length bank.gates) (places bank.cell bank.size) used.most) [
      | inl same ↦ same
      | inr low ↦ absurd (
          (let n : ℕ = places bank.cell bank.size in
          let k : ℕ = length bank.gates in
          let s : ℕ = span bank.cell in
          let e : (n - k) * s ≡ (n - 1 - k) * s + s = (let m : n - k ≡ n - 1 - k + 1 = omega arith in ap (λ (x : ℕ). x * s) m ∙ omega arith) in
          let p : cells_at bank.size + k * s + (n - 1 - k) * s ≡ cells_at bank.size + (n - 1) * s =
          (let m : n - 1 ≡ k + (n - 1 - k) = omega arith in omega (arith, ap (λ (x : ℕ). x * s) m)) in
          let last : area (cells_at bank.size + (n - 1) * s) s side ≡ blank s =
          subst (λ (q : ℕ). area q s side ≡ blank s) p (blank_within (cells_at bank.size + k * s) ((n - k) * s) ((n - 1 - k) * s) s side (omega (arith, e)) used.free) in
          elim full [ inl none ↦ omega (arith, none, low) | inr begun ↦ begun last ]))
    ]

    no_free : (bank : BankState) (side : List ℕ) → Used bank.cell bank.size bank.gates side → length bank.gates ≡ places bank.cell bank.size
        → (places bank.cell bank.size ≡ 0) ⊎ (area (cells_at bank.size + (places bank.cell bank.size - 1) * span bank.cell) (span bank.cell) side ≢ blank (span bank.cell))
    no_free bank side used all = elim (nat_cases 0 (places bank.cell bank.size) (omega arith)) [
      | inl none ↦ inl (sym none)
      | inr some ↦ inr (subst (λ (n : ℕ). area (cells_at bank.size + (n - 1) * span bank.cell) (span bank.cell) side ≢ blank (span bank.cell)) all (used.last (omega (arith, all, some))))
    ]

-- What the code knows of a call that adds a cell, at every exit.
pub record Adds (bank : BankState) (cell : List ℕ) (x y : Option (List ℕ)) : Type 0 where
  pub apart : Apart bank.place
  pub fits : bank.size ≤ 4080
  pub low : length bank.gates < places bank.cell bank.size
  pub says : IfSome x (BankSays bank)
  pub keeps : Told (Keeps (spot (next_cell bank) (span bank.cell))) x y
  pub whole : IfSome y (λ held. area (next_cell bank + filled bank.cell) 8 held ≡ gate → area (next_cell bank) bank.cell held ≡ cell)

adds_at : (bank : BankState) (cell : List ℕ) (at : ℕ) (x y : Option (List ℕ)) → at ≡ next_cell bank → length cell ≡ bank.cell → Apart bank.place → bank.size ≤ 4080
    → length bank.gates < places bank.cell bank.size → IfSome x (BankSays bank) → Told (Keeps (spot at (span (length cell)))) x y
    → IfSome y (λ held. area (at + filled (length cell)) 8 held ≡ gate → area at (length cell) held ≡ cell) → Adds bank cell x y
adds_at bank cell at x y is long apart fits low says keeps whole = record {
  apart = apart;
  fits = fits;
  low = low;
  says = says;
  keeps = subst (λ (n : ℕ). Told (Keeps (spot (next_cell bank) (span n))) x y) long (subst (λ (p : ℕ). Told (Keeps (spot p (span (length cell)))) x y) is keeps);
  whole = subst (λ (n : ℕ). IfSome y (λ held. area (next_cell bank + filled n) 8 held ≡ gate → area (next_cell bank) n held ≡ cell)) long
      (subst (λ (p : ℕ). IfSome y (λ held. area (p + filled (length cell)) 8 held ≡ gate → area p (length cell) held ≡ cell)) is whole);
}

-- as the code finds it, which has opened the bank's value `now` into the fields of `bank`
pub adds_of : (bank now : BankState) (cell : List ℕ) (at side used : ℕ) (x y : Option (List ℕ)) → bank ≡ now → side ≡ current bank.place bank.second → used ≡ length bank.gates
    → at ≡ side + (cells_at bank.size + used * span bank.cell) → length cell ≡ now.cell → Apart now.place → bank.size ≤ 4080
    → length bank.gates < places bank.cell bank.size → IfSome x (BankSays now) → Told (Keeps (spot at (span (length cell)))) x y
    → IfSome y (λ held. area (at + filled (length cell)) 8 held ≡ gate → area at (length cell) held ≡ cell) → Adds now cell x y
adds_of bank now cell at side used x y same here count is long apart fits low says keeps whole =
    subst (λ (b : BankState). Adds b cell x y) same
    (adds_at bank cell at x y (is ∙ (λ i. here i + (cells_at bank.size + count i * span bank.cell))) (long ∙ sym (λ i. (same i).cell))
    (subst (λ (b : BankState). Apart b.place) (sym same) apart) fits low (subst (λ (b : BankState). IfSome x (BankSays b)) (sym same) says) keeps whole)

pub told_either : (bank : BankState) (cell : List ℕ) (x y : Option (List ℕ)) → Adds bank cell x y → Told (SameOrAdded bank.place bank.cell cell) x y
told_either bank cell None None a = tt
told_either bank cell None (Some v) a = absurd a.keeps
told_either bank cell (Some u) None a = absurd a.keeps
told_either bank cell (Some u) (Some v) a = either_by bank cell u v a.apart a.fits a.low a.says a.keeps a.whole

pub told_newest_same : (bank : BankState) (cell : List ℕ) (x y : Option (List ℕ)) → Adds bank cell x y → Told (SameNewest bank.place) x y
told_newest_same bank cell None None a = tt
told_newest_same bank cell None (Some v) a = absurd a.keeps
told_newest_same bank cell (Some u) None a = absurd a.keeps
told_newest_same bank cell (Some u) (Some v) a = newest_appended bank u v a.apart a.fits a.low a.says a.keeps

pub told_ages_same : (bank : BankState) (cell : List ℕ) (x y : Option (List ℕ)) → Adds bank cell x y → Told (AgesAtMost 0 bank.place) x y
told_ages_same bank cell None None a = tt
told_ages_same bank cell None (Some v) a = absurd a.keeps
told_ages_same bank cell (Some u) None a = absurd a.keeps
told_ages_same bank cell (Some u) (Some v) a = ages_appended bank.place u v (newest_appended bank u v a.apart a.fits a.low a.says a.keeps)

-- once the gate stands
pub told_added : (bank : BankState) (cell : List ℕ) (x y : Option (List ℕ)) → Adds bank cell x y → IfSome y (λ held. area (next_cell bank + filled bank.cell) 8 held ≡ gate)
    → Told (Added bank.place bank.cell cell) x y
told_added bank cell None None a opened = tt
told_added bank cell None (Some v) a opened = absurd a.keeps
told_added bank cell (Some u) None a opened = absurd a.keeps
told_added bank cell (Some u) (Some v) a opened = added_by bank cell u v a.apart a.fits a.low a.keeps a.says opened (a.whole opened)

pub told_says_more : (bank : BankState) (cell : List ℕ) (x y : Option (List ℕ)) → Adds bank cell x y → IfSome y (λ held. area (next_cell bank + filled bank.cell) 8 held ≡ gate)
    → IfSome y (BankSays (record bank { gates = bank.gates ++ (true ∷ []) }))
told_says_more bank cell None None a opened = tt
told_says_more bank cell None (Some v) a opened = absurd a.keeps
told_says_more bank cell (Some u) None a opened = tt
told_says_more bank cell (Some u) (Some v) a opened = says_appended bank u v a.apart a.fits a.low a.says a.keeps opened

-- the gate's place, as the code writes it
pub opened_at : (bank now : BankState) (n at side used : ℕ) (y : Option (List ℕ)) → bank ≡ now → side ≡ current bank.place bank.second → used ≡ length bank.gates
    → at ≡ side + (cells_at bank.size + used * span bank.cell) → n ≡ now.cell → IfSome y (λ held. area (at + filled n) 8 held ≡ gate)
    → IfSome y (λ held. area (next_cell now + filled now.cell) 8 held ≡ gate)
opened_at bank now n at side used y same here count is long opened =
    let place : at ≡ next_cell now = is ∙ (λ i. here i + (cells_at bank.size + count i * span bank.cell)) ∙ (λ i. next_cell (same i)) in
    subst (λ (m : ℕ). IfSome y (λ held. area (next_cell now + filled m) 8 held ≡ gate)) long (subst (λ (p : ℕ). IfSome y (λ held. area (p + filled n) 8 held ≡ gate)) place opened)

-- the next cell is free
pub told_free : (bank now : BankState) (n at side used : ℕ) (x : Option (List ℕ)) → bank ≡ now → side ≡ current bank.place bank.second → used ≡ length bank.gates
    → at ≡ side + (cells_at bank.size + used * span bank.cell) → n ≡ now.cell → bank.size ≤ 4080 → length bank.gates < places bank.cell bank.size → IfSome x (BankSays now)
    → IfSome x (λ held. area at (span n) held ≡ blank (span n))
told_free bank now n at side used None same here count is long fits low says = tt
told_free bank now n at side used (Some held) same here count is long fits low says =
    let up : BankSays bank held = subst (λ (b : BankState). BankSays b held) (sym same) says in
    let cell : n ≡ bank.cell = long ∙ sym (λ i. (same i).cell) in
    let place : at ≡ next_cell bank = is ∙ (λ i. here i + (cells_at bank.size + count i * span bank.cell)) in
    let inside = place_fits bank.cell bank.size (length bank.gates) fits low in
    let k : ℕ = cells_at bank.size + length bank.gates * span bank.cell in
    let m : (places bank.cell bank.size - length bank.gates) * span bank.cell ≡ span bank.cell + (places bank.cell bank.size - length bank.gates - 1) * span bank.cell =
    (let e : places bank.cell bank.size - length bank.gates ≡ 1 + (places bank.cell bank.size - length bank.gates - 1) = omega (arith, low) in ap (λ (x : ℕ). x * span bank.cell) e ∙ omega arith) in
    let first : area k (span bank.cell) (area (current bank.place bank.second) 4096 held) ≡ blank (span bank.cell) =
    blank_first k ((places bank.cell bank.size - length bank.gates) * span bank.cell) (span bank.cell) (area (current bank.place bank.second) 4096 held) (omega (arith, m)) up.used.free in
    subst (λ (p : ℕ). area p (span n) held ≡ blank (span n)) (sym place) (subst (λ (j : ℕ). area (next_cell bank) (span j) held ≡ blank (span j)) (sym cell)
    (sym (area-area k (span bank.cell) (current bank.place bank.second) 4096 held (omega (arith, inside))) ∙ first))

-- full or not, by the bytes
pub told_full : (bank now : BankState) (r : Result (Unit {0}) BankFault) (x : Option (List ℕ)) → bank ≡ now → IfSome x (BankSays now)
    → (IsErrOf r Full → length bank.gates ≡ places bank.cell bank.size) → (length bank.gates ≡ places bank.cell bank.size → IsErrOf r Full)
    → IfSome x (λ held. IsErrOf r Full ↔ IsFull now.place now.cell held)
told_full bank now r None same says to from = tt
told_full bank now r (Some held) same says to from =
    let f = full_by now held says in
    let e : (length bank.gates ≡ places bank.cell bank.size) ↔ (length now.gates ≡ places now.cell now.size) =
    ((λ p. subst (λ (b : BankState). length b.gates ≡ places b.cell b.size) same p), (λ p. subst (λ (b : BankState). length b.gates ≡ places b.cell b.size) (sym same) p)) in
    ((λ p. f.1 (e.0 (to p))), (λ full. from (e.1 (f.0 full))))

-- the side that is appended to is within both
pub appended_Calls : (bank now : BankState) (at side n : ℕ) (end : End) (a b : FlashState) → bank ≡ now → side ≡ current bank.place bank.second → side ≤ at → at + n ≤ side + 4096
    → Calls (spot at n) end a b → Calls (sides now.place) end a b
appended_Calls bank now at side n end a b same here low high f =
    subst (λ (s : BankState). Calls (sides s.place) end a b) same
    (current_Calls bank.place bank.second side end a b here (Calls-wider (spot side 4096) (spot at n) end a b (Covers-within at n side 4096 low high) f))

-- a cell that is read
pub told_cell : (bank now : BankState) (n at side index size : ℕ) (found : List ℕ) (x y : Option (List ℕ)) → bank ≡ now → side ≡ current bank.place bank.second → index ≡ place_of n bank.gates
    → index < length bank.gates → at ≡ side + (cells_at bank.size + index * span bank.cell) → size ≡ now.cell → n < standing now.gates → bank.size ≤ 4080 → y ≡ x
    → IfSome x (BankSays now) → IfSome x (λ held. found ≡ area at size held) → IfSome y (HasCell now.place now.cell n found)
told_cell bank now n at side index size found x None same here which low is long some fits kept says read = tt
told_cell bank now n at side index size found None (Some held) same here which low is long some fits kept says read = absurd (cc kept)
told_cell bank now n at side index size found (Some old) (Some held) same here which low is long some fits kept says read = λ c content.
    let e : old ≡ held = cc (sym kept) in
    let up : BankSays bank held = subst (λ (h : List ℕ). BankSays bank h) e (subst (λ (b : BankState). BankSays b old) (sym same) says) in
    let cell : size ≡ bank.cell = long ∙ sym (λ i. (same i).cell) in
    let count : n < standing bank.gates = subst (λ (b : BankState). n < standing b.gates) (sym same) some in
    let sidebytes : List ℕ = area (current bank.place bank.second) 4096 held in
    let most = up.used.most in
    let inside = place_fits bank.cell bank.size index fits (omega (arith, most, low)) in
    let k : ℕ = cells_at bank.size + index * span bank.cell in
    let was : content_of bank.place bank.cell held ≡ Some c = subst (λ (b : BankState). content_of b.place b.cell held ≡ Some c) (sym same) content in
    let is_c : c ≡ record { body = up.body; cells = cells_in bank.cell bank.size sidebytes } = cc (sym was ∙ says_content bank held up) in
    let there : cell_of n (cells_in bank.cell bank.size sidebytes) ≡ Some (area k bank.cell sidebytes) =
    cell_used bank.cell bank.size n bank.gates sidebytes up.used (cells_used bank.cell bank.size bank.gates sidebytes up.used) count
    ∙ ap (λ (i : ℕ). Some (area (cells_at bank.size + i * span bank.cell) bank.cell sidebytes)) (sym which) in
    let bytes : area k bank.cell sidebytes ≡ found =
    area-area k bank.cell (current bank.place bank.second) 4096 held (omega (arith, inside))
    ∙ (λ i. area (sym here i + k) (sym cell i) held) ∙ ap (λ (p : ℕ). area p size held) (sym is) ∙ ap (area at size) (sym e) ∙ sym read in
    ap (λ (d : Content). cell_of n d.cells) is_c ∙ there ∙ ap Some bytes

-- a side begins within the flash
pub side_small : (bank now : BankState) (side : ℕ) (g : Geometry) → bank ≡ now → side ≡ current bank.place bank.second → Fits now.place g → size_of g ≤ 2 ^ 25 → side ≤ 2 ^ 25
side_small bank now side g same here fits most = go now.place now.second fits (here ∙ (λ i. current (same i).place (same i).second))
  where
    go : (place : BankPlace) (second : Bool) → Fits place g → side ≡ current place second → side ≤ 2 ^ 25
    go place true fits is = let inside = fits.second_inside in omega (arith, is, inside, most)
    go place false fits is = let inside = fits.first_inside in omega (arith, is, inside, most)

pub cell_inside : (bank now : BankState) (at n side : ℕ) → bank ≡ now → n ≡ now.cell → at + span bank.cell ≤ side + 4096 → at + span n ≤ side + 4096
cell_inside bank now at n side same long inside = subst (λ (k : ℕ). at + span k ≤ side + 4096) ((λ i. (same i).cell) ∙ sym long) inside

-- the bank's value with one gate more, as the code makes it
pub says_opened : (bank now : BankState) (b : Bool) (gates : List Bool) (y : Option (List ℕ)) → bank ≡ now → gates ≡ bank.gates ++ (b ∷ []) → IfSome y (BankSays (record now { gates = now.gates ++ (b ∷ []) }))
    → IfSome y (BankSays (record bank { gates = gates }))
says_opened bank now b gates y same is says =
    subst (λ (gs : List Bool). IfSome y (BankSays (record bank { gates = gs }))) (sym is)
    (subst (λ (s : BankState). IfSome y (BankSays (record s { gates = s.gates ++ (b ∷ []) }))) (sym same) says)

pub cell_short : (bank now : BankState) (at n side : ℕ) → bank ≡ now → n ≡ now.cell → at + span bank.cell ≤ side + 4096 → at + n ≤ side + 4096
cell_short bank now at n side same long inside = let e : n ≡ bank.cell = long ∙ sym (λ i. (same i).cell) in omega (arith, e, inside)
