-- What is found of a side's cells, cell by cell.
use Rattle.std.proofs.Common.{◌≡◌, ◌≢◌, ℕ, zero, suc, ◌+◌, ◌-◌, ◌*◌, ◌<◌, ◌≤◌, Bool, true, false, Option, Some, None, List, [], ◌∷◌, ◌++◌, length, take, drop, refl, sym, ◌∙◌, ap, subst, arith, length-append}
use Rattle.std.specs.Prelude.{IfSome, IsTrue, ◌↔◌}
use Rattle.std.specs.Str.{bytes_eq}
use Rattle.std.proofs.lemmas.List.{drop-take, drop-drop, length-replicate}
use Rattle.smp_flash.specs.Area.{area, blank}
use Rattle.smp_flash.specs.Region.{gate}
use Rattle.smp_flash.proofs.Areas.{area-area, blank-add}
use Rattle.std.proofs.Math.Nat.{mul-le-mul_left}
use Rattle.smp_gate.specs.Cells.{filled, span, cells_at, places, gates_from, gate_reads, Used}
use Rattle.smp_gate.specs.Opening.{PlaceIs, LastFound, LastIs}
use Rattle.smp_gate.specs.declared.opening.Place.{Place}
use Rattle.smp_gate.specs.declared.opening.Place.TheVariants.{Free, Begun}
use Rattle.smp_gate.specs.declared.opening.Last.{Last}
use Rattle.smp_gate.proofs.Ranges.{places_fit, gates_split, gates_area}

-- a place that was read, and was begun
pub found_begun : (cell at size : ℕ) (part : List ℕ) (stands : Bool) (x : Option (List ℕ)) → size ≡ span cell → IfSome x (λ held. part ≡ area at size held)
    → (part ≢ blank (length part)) → stands ≡ bytes_eq (drop (filled cell) part) gate → IfSome x (PlaceIs cell at (Begun stands))
found_begun cell at size part stands None long read dirty is = tt
found_begun cell at size part stands (Some held) long read dirty is =
    let n : ℕ = filled cell in
    let whole : part ≡ area at (n + 8) held = read ∙ ap (λ (k : ℕ). area at k held) long in
    let behind : drop n part ≡ area (at + n) 8 held = ap (drop n) whole ∙ drop-take n 8 (drop at held) ∙ ap (take 8) (drop-drop n at held) in (
      (λ free. let e : part ≡ blank (span cell) = whole ∙ free in dirty (e ∙ ap blank (sym (ap length e ∙ length-replicate (span cell) 255)))),
      is ∙ ap (λ (xs : List ℕ). bytes_eq xs gate) behind,
    )

-- the last cells are free
abbrev pub FreeBehind : ℕ → ℕ → ℕ → ℕ → List ℕ → Type 0
FreeBehind cell at count n held = area (at + (count - n) * span cell) (n * span cell) held ≡ blank (n * span cell)

pub none_behind : (cell at count : ℕ) (x : Option (List ℕ)) → IfSome x (FreeBehind cell at count 0)
none_behind cell at count None = tt
none_behind cell at count (Some held) = let e : 0 * span cell ≡ 0 = omega arith in rw e refl

-- one more, from the end on
pub one_behind : (cell at count i : ℕ) (side place : ℕ) (x y : Option (List ℕ)) → y ≡ x → i < count → place ≡ at + (count - 1 - i) * span cell
    → IfSome x (FreeBehind cell at count i) → IfSome y (PlaceIs cell place Free) → IfSome x (FreeBehind cell at count (i + 1))
one_behind cell at count i side place None y same low is behind free = tt
one_behind cell at count i side place (Some x) None same low is behind free = absurd (cc same)
one_behind cell at count i side place (Some x) (Some y) same low is behind free =
    let s : ℕ = span cell in
    let e : y ≡ x = cc same in
    let from : at + (count - (i + 1)) * s ≡ place = (let m : count - (i + 1) ≡ count - 1 - i = omega arith in ap (λ (k : ℕ). at + k * s) m ∙ sym is) in
    let next : at + (count - i) * s ≡ place + s = (let m : count - i ≡ count - 1 - i + 1 = omega arith in omega (arith, ap (λ (k : ℕ). k * s) m, is)) in
    let long : (i + 1) * s ≡ s + i * s = omega arith in
    let first : area place s x ≡ blank s = sym (ap (area place s) e) ∙ free in
    let rest : area (place + s) (i * s) x ≡ blank (i * s) = subst (λ (p : ℕ). area p (i * s) x ≡ blank (i * s)) next behind in
    let both : area place (s + i * s) x ≡ blank (s + i * s) = blank-add place s (i * s) x first rest in
    subst (λ (p : ℕ). area p ((i + 1) * s) x ≡ blank ((i + 1) * s)) (sym from) (subst (λ (n : ℕ). area place n x ≡ blank n) (sym long) both)

-- all of them
pub all_free : (cell at count i : ℕ) (x : Option (List ℕ)) → i ≡ count → IfSome x (FreeBehind cell at count i) → IfSome x (LastIs cell at count None)
all_free cell at count i None is behind = tt
all_free cell at count i (Some x) is behind =
    let from : at + (count - i) * span cell ≡ at = (let m : count - i ≡ 0 = omega arith in omega (arith, ap (λ (k : ℕ). k * span cell) m)) in
    subst (λ (n : ℕ). area at (n * span cell) x ≡ blank (n * span cell)) is (subst (λ (p : ℕ). area p (i * span cell) x ≡ blank (i * span cell)) from behind)

-- the last that was begun
pub last_found : (cell at count i index : ℕ) (stands : Bool) (place : ℕ) (x y : Option (List ℕ)) → y ≡ x → i < count → index ≡ count - 1 - i → place ≡ at + index * span cell
    → IfSome x (FreeBehind cell at count i) → IfSome y (PlaceIs cell place (Begun stands)) → IfSome x (LastIs cell at count (Some (record { index = index; stands = stands })))
last_found cell at count i index stands place None y same low which is behind found = tt
last_found cell at count i index stands place (Some x) None same low which is behind found = absurd (cc same)
last_found cell at count i index stands place (Some x) (Some y) same low which is behind found =
    let s : ℕ = span cell in
    let e : x ≡ y = cc (sym same) in
    let m : count - i ≡ index + 1 = omega arith in
    let n : count - (index + 1) ≡ i = omega arith in
    record {
      begun = λ free. found.0 (ap (λ (p : ℕ). area p s y) is ∙ sym (ap (area (at + index * s) s) e) ∙ free);
      stands = found.1 ∙ (λ j. bytes_eq (area (is j + filled cell) 8 y) gate) ∙ (λ j. bytes_eq (area (at + index * s + filled cell) 8 (sym e j)) gate);
      free = subst (λ (k : ℕ). area (at + (index + 1) * s) (k * s) x ≡ blank (k * s)) (sym n) (subst (λ (k : ℕ). area (at + k * s) (i * s) x ≡ blank (i * s)) m behind);
    }

-- the gates that were read so far
pub gates_none : (cell at : ℕ) (gates : List Bool) (x : Option (List ℕ)) → gates ≡ [] → IfSome x (λ held. gates ≡ gates_from cell at 0 held)
gates_none cell at gates None none = tt
gates_none cell at gates (Some held) none = none

pub gates_next : (cell at i place : ℕ) (gates now : List Bool) (stands : Bool) (x y : Option (List ℕ)) → y ≡ x → place ≡ at + i * span cell + filled cell → now ≡ gates ++ (stands ∷ [])
    → IfSome x (λ held. gates ≡ gates_from cell at i held) → IfSome y (λ held. stands ≡ bytes_eq (area place 8 held) gate) → IfSome x (λ held. now ≡ gates_from cell at (i + 1) held)
gates_next cell at i place gates now stands None y same is push before one = tt
gates_next cell at i place gates now stands (Some x) None same is push before one = absurd (cc same)
gates_next cell at i place gates now stands (Some x) (Some y) same is push before one =
    let e : y ≡ x = cc same in
    let here : stands ≡ bytes_eq (area (at + i * span cell + filled cell) 8 x) gate = one ∙ (λ j. bytes_eq (area (is j) 8 (e j)) gate) in
    push ∙ (λ j. before j ++ (here j ∷ [])) ∙ sym (gates_split cell at i 1 x)

-- a side of which no cell was begun
pub used_by_none : (cell side size : ℕ) (gates : List Bool) (x : Option (List ℕ)) → size ≤ 4080 → gates ≡ [] → IfSome x (LastIs cell (side + cells_at size) (places cell size) None)
    → IfSome x (λ held. Used cell size gates (area side 4096 held))
used_by_none cell side size gates None fits none free = tt
used_by_none cell side size gates (Some held) fits none free =
    let n : ℕ = places cell size in
    let a : ℕ = cells_at size in
    let s : ℕ = span cell in
    let all = places_fit cell size fits in
    let p : a + 0 * s ≡ a = omega arith in
    let e : (n - 0) * s ≡ n * s = (let m : n - 0 ≡ n = omega arith in ap (λ (x : ℕ). x * s) m) in
    subst (λ (gs : List Bool). Used cell size gs (area side 4096 held)) (sym none) (record {
      most = omega arith;
      stand = refl;
      free = (λ i. area (p i) (e i) (area side 4096 held)) ∙ area-area a (n * s) side 4096 held (omega (arith, all)) ∙ free ∙ ap blank (sym e);
      last = λ some. absurd (omega (arith, some));
    })

-- and one of which some were
pub used_by_some : (cell side size : ℕ) (last : Last) (gates now : List Bool) (x y : Option (List ℕ)) → size ≤ 4080 → y ≡ x → last.index < places cell size → length gates ≡ last.index
    → now ≡ gates ++ (last.stands ∷ [])
    → IfSome x (LastIs cell (side + cells_at size) (places cell size) (Some last)) → IfSome y (λ held. gates ≡ gates_from cell (side + cells_at size) last.index held)
    → IfSome x (λ held. Used cell size now (area side 4096 held))
used_by_some cell side size last gates now None y fits same low long push found read = tt
used_by_some cell side size last gates now (Some x) None fits same low long push found read = absurd (cc same)
used_by_some cell side size last gates now (Some x) (Some y) fits same low long push found read =
    let n : ℕ = places cell size in
    let a : ℕ = cells_at size in
    let s : ℕ = span cell in
    let k : ℕ = last.index in
    let e : y ≡ x = cc same in
    let all = places_fit cell size fits in
    let more : k * s + (s + (n - (k + 1)) * s) ≡ n * s = (let m : n ≡ k + (1 + (n - (k + 1))) = omega arith in omega (arith, ap (λ (x : ℕ). x * s) m)) in
    let count : length now ≡ k + 1 = ap length push ∙ length-append gates (last.stands ∷ []) ∙ omega (arith, long) in
    let place : ℕ = a + k * s in
    let gate_is : area (place + filled cell) 8 (area side 4096 x) ≡ area (side + a + k * s + filled cell) 8 x =
    area-area (place + filled cell) 8 side 4096 x (omega (arith, all, more)) ∙ (let p : side + (place + filled cell) ≡ side + a + k * s + filled cell = omega arith in ap (λ (q : ℕ). area q 8 x) p) in
    let stand : gates_from cell a (k + 1) (area side 4096 x) ≡ now =
    gates_split cell a k 1 (area side 4096 x)
    ∙ (λ i. (gates_area cell side a k x (omega (arith, all, more)) ∙ sym (read ∙ ap (gates_from cell (side + a) k) e)) i ++ (bytes_eq (gate_is i) gate ∷ []))
    ∙ (λ i. gates ++ (sym found.stands i ∷ [])) ∙ sym push in
    let free : area (a + (k + 1) * s) ((n - (k + 1)) * s) (area side 4096 x) ≡ blank ((n - (k + 1)) * s) =
    area-area (a + (k + 1) * s) ((n - (k + 1)) * s) side 4096 x (omega (arith, all, more))
    ∙ (let p : side + (a + (k + 1) * s) ≡ side + a + (k + 1) * s = omega arith in ap (λ (q : ℕ). area q ((n - (k + 1)) * s) x) p) ∙ found.free in
    record {
      most = omega (arith, count);
      stand = subst (λ (j : ℕ). gates_from cell a j (area side 4096 x) ≡ now) (sym count) stand;
      free = subst (λ (j : ℕ). area (a + j * s) ((n - j) * s) (area side 4096 x) ≡ blank ((n - j) * s)) (sym count) free;
      last = λ some blank_. found.begun
          ((let p : side + (a + (length now - 1) * s) ≡ side + a + k * s = (let m : length now - 1 ≡ k = omega (arith, count) in omega (arith, ap (λ (x : ℕ). x * s) m)) in
          sym (ap (λ (q : ℕ). area q s x) p) ∙ sym (area-area (a + (length now - 1) * s) s side 4096 x (let m : length now - 1 ≡ k = omega (arith, count) in omega (arith, all, more, ap (λ (x : ℕ). x * s) m))) ∙ blank_));
    }

-- the reads of the cells that were begun, the last of them whole, and of those that are free
pub reads_all : (n k s : ℕ) → k < n → 8 ≤ s → (n - k) * s + k * 8 ≤ n * s
reads_all n k s low least =
    let m : n ≡ (n - k) + k = omega arith in
    let e : n * s ≡ (n - k) * s + k * s = ap (λ (x : ℕ). x * s) m ∙ omega arith in
    let le : k * 8 ≤ k * s = mul-le-mul_left k least in
    omega (arith, e, le)

pub reads_counted : (cell n k : ℕ) (gates : List Bool) (b : Bool) (now : List Bool) → length gates ≡ k → now ≡ gates ++ (b ∷ []) → k < n
    → (n - k) * span cell + k * 8 ≡ gate_reads cell n (length now)
reads_counted cell n k gates b now long is low =
    let count : length now ≡ suc k = ap length is ∙ length-append gates (b ∷ []) ∙ omega (arith, long) in
    ((omega arith) ∙ sym (ap (gate_reads cell n) count))
