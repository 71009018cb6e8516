-- The cells of a side: those of a split range, of an erased one, and what a further cell adds.
use Rattle.std.proofs.Common.{◌≡◌, ◌≢◌, inl, inr, ℕ, zero, suc, ◌+◌, ◌-◌, ◌*◌, ◌/◌, ◌%◌, ◌<◌, ◌≤◌, Bool, true, false, List, [], ◌∷◌, ◌++◌, length, take, drop, replicate, refl, sym, ◌∙◌, ap, subst, arith, length-append}
use Rattle.std.specs.Str.{bytes_eq}
use Rattle.std.proofs.lemmas.List.{append-nil, append_assoc, take_at, drop_at, length-replicate, take-replicate}
use Rattle.std.proofs.Math.Nat.{div-mul-le_self, mul-le-mul_right, mul-le-mul_left}
use Rattle.std.proofs.lemmas.Slice.Eq.{bytes_eq-Decides}
use Rattle.smp_flash.specs.Area.{area, blank}
use Rattle.smp_flash.specs.Region.{gate}
use Rattle.smp_flash.proofs.Areas.{blank_within, area-area}
use Rattle.smp_gate.specs.Side.{padding, side_bytes, whole_side}
use Rattle.smp_gate.specs.Cells.{filled, span, cells_at, places, counted, gates_from, cells_from, cells_in, Used}

-- all cells lie on the side
pub places_fit : (cell size : ℕ) → size ≤ 4080 → cells_at size + places cell size * span cell ≤ 4096
places_fit cell size fits = omega (arith, div-mul-le_self (4096 - cells_at size) (span cell))

pub place_fits : (cell size k : ℕ) → size ≤ 4080 → k < places cell size → cells_at size + k * span cell + span cell ≤ 4096
place_fits cell size k fits low =
    omega (arith, places_fit cell size fits, mul-le-mul_right (span cell) (let le : k + 1 ≤ places cell size = omega arith in le))

-- a cell of at least one byte takes at least 16, so there are at most 255
pub places_few : (cell size : ℕ) → 1 ≤ cell → size ≤ 4080 → places cell size ≤ 255
places_few cell size some fits =
    let long : 16 ≤ span cell = omega arith in
    let less : places cell size * 16 ≤ places cell size * span cell = mul-le-mul_left (places cell size) long in
    omega (arith, places_fit cell size fits, less)

-- gates on a side, by the bytes of the whole flash
pub gates_area : (cell side at n : ℕ) (held : List ℕ) → at + n * span cell ≤ 4096 → gates_from cell at n (area side 4096 held) ≡ gates_from cell (side + at) n held
gates_area cell side at zero held le = refl
gates_area cell side at (suc n) held le =
    let p : side + (at + filled cell) ≡ side + at + filled cell = omega arith in
    let q : side + (at + span cell) ≡ side + at + span cell = omega arith in
    let g : area (at + filled cell) 8 (area side 4096 held) ≡ area (side + at + filled cell) 8 held =
    area-area (at + filled cell) 8 side 4096 held (omega arith) ∙ ap (λ (x : ℕ). area x 8 held) p in
    let rest : gates_from cell (at + span cell) n (area side 4096 held) ≡ gates_from cell (side + at + span cell) n held =
    gates_area cell side (at + span cell) n held (omega arith) ∙ ap (λ (x : ℕ). gates_from cell x n held) q in
    (λ i. bytes_eq (g i) gate ∷ rest i)

pub turns : (i n s : ℕ) → i < n → i * s + s ≤ n * s
turns i n s low = let le : i + 1 ≤ n = omega (arith, low) in omega (arith, mul-le-mul_right s le)

-- cells begin at multiples of 8
filled_eights : (n : ℕ) → filled n % 8 ≡ 0
filled_eights n = omega arith

times_eights : (k s : ℕ) → s % 8 ≡ 0 → (k * s) % 8 ≡ 0
times_eights k s z = let e : s ≡ 8 * (s / 8) = omega (arith, z) in subst (λ (x : ℕ). (k * x) % 8 ≡ 0) (sym e) (omega arith)

pub cell_eights : (side cell size k : ℕ) → side % 8 ≡ 0 → (side + (cells_at size + k * span cell)) % 8 ≡ 0
cell_eights side cell size k z =
    let a = filled_eights size in
    let s : span cell % 8 ≡ 0 = (let f = filled_eights cell in omega (arith, f)) in
    let t = times_eights k (span cell) s in
    sum_eights side (16 + filled size) (k * span cell) z (omega (arith, a)) t
  where
    sum_eights : (x y w : ℕ) → x % 8 ≡ 0 → y % 8 ≡ 0 → w % 8 ≡ 0 → (x + (y + w)) % 8 ≡ 0
    sum_eights x y w a b c = omega (arith, a, b, c)

counted_append : (b : Bool) (x : List ℕ) (ys zs : List (List ℕ)) → counted b x (ys ++ zs) ≡ counted b x ys ++ zs
counted_append true x ys zs = refl
counted_append false x ys zs = refl

-- a range of cells in two parts
pub cells_split : (cell at m n : ℕ) (side : List ℕ) → cells_from cell at (m + n) side ≡ cells_from cell at m side ++ cells_from cell (at + m * span cell) n side
cells_split cell at zero n side =
    let e : 0 + n ≡ n = omega arith in
    let p : at ≡ at + 0 * span cell = omega arith in
    (λ i. cells_from cell (p i) (e i) side)
cells_split cell at (suc m) n side =
    let e : suc m + n ≡ suc (m + n) = omega arith in
    let p : at + span cell + m * span cell ≡ at + suc m * span cell = omega arith in
    let b : Bool = bytes_eq (area (at + filled cell) 8 side) gate in
    let x : List ℕ = area at cell side in
    ap (λ (k : ℕ). cells_from cell at k side) e
    ∙ ap (counted b x) (cells_split cell (at + span cell) m n side)
    ∙ counted_append b x (cells_from cell (at + span cell) m side) (cells_from cell (at + span cell + m * span cell) n side)
    ∙ ap (λ (q : ℕ). counted b x (cells_from cell (at + span cell) m side) ++ cells_from cell q n side) p

pub gates_split : (cell at m n : ℕ) (side : List ℕ) → gates_from cell at (m + n) side ≡ gates_from cell at m side ++ gates_from cell (at + m * span cell) n side
gates_split cell at zero n side =
    let e : 0 + n ≡ n = omega arith in
    let p : at ≡ at + 0 * span cell = omega arith in
    (λ i. gates_from cell (p i) (e i) side)
gates_split cell at (suc m) n side =
    let e : suc m + n ≡ suc (m + n) = omega arith in
    let p : at + span cell + m * span cell ≡ at + suc m * span cell = omega arith in
    let b : Bool = bytes_eq (area (at + filled cell) 8 side) gate in
    ap (λ (k : ℕ). gates_from cell at k side) e
    ∙ ap (λ (bs : List Bool). b ∷ bs) (gates_split cell (at + span cell) m n side)
    ∙ ap (λ (q : ℕ). (b ∷ gates_from cell (at + span cell) m side) ++ gates_from cell q n side) p

-- cells whose bytes stayed
pub cells_same : (cell at n : ℕ) (old new : List ℕ) → ((p k : ℕ) → at ≤ p → p + k ≤ at + n * span cell → area p k new ≡ area p k old)
    → cells_from cell at n new ≡ cells_from cell at n old
cells_same cell at zero old new same = refl
cells_same cell at (suc n) old new same =
    let g : area (at + filled cell) 8 new ≡ area (at + filled cell) 8 old = same (at + filled cell) 8 (omega arith) (omega arith) in
    let x : area at cell new ≡ area at cell old = same at cell (omega arith) (omega arith) in
    let rest : cells_from cell (at + span cell) n new ≡ cells_from cell (at + span cell) n old =
    cells_same cell (at + span cell) n old new (λ p k low high. same p k (omega arith) (omega arith)) in
    (λ i. counted (bytes_eq (g i) gate) (x i) (rest i))

pub gates_same : (cell at n : ℕ) (old new : List ℕ) → ((p k : ℕ) → at ≤ p → p + k ≤ at + n * span cell → area p k new ≡ area p k old)
    → gates_from cell at n new ≡ gates_from cell at n old
gates_same cell at zero old new same = refl
gates_same cell at (suc n) old new same =
    let g : area (at + filled cell) 8 new ≡ area (at + filled cell) 8 old = same (at + filled cell) 8 (omega arith) (omega arith) in
    let rest : gates_from cell (at + span cell) n new ≡ gates_from cell (at + span cell) n old =
    gates_same cell (at + span cell) n old new (λ p k low high. same p k (omega arith) (omega arith)) in
    (λ i. bytes_eq (g i) gate ∷ rest i)

-- cells that are all FF don't count
pub cells_free : (cell at n : ℕ) (side : List ℕ) → area at (n * span cell) side ≡ blank (n * span cell) → cells_from cell at n side ≡ []
cells_free cell at zero side is = refl
cells_free cell at (suc n) side is =
    let g : area (at + filled cell) 8 side ≡ blank 8 = blank_within at (suc n * span cell) (filled cell) 8 side (omega arith) is in
    let none : bytes_eq (area (at + filled cell) 8 side) gate ≡ false = ap (λ (xs : List ℕ). bytes_eq xs gate) g in
    let rest : area (at + span cell) (n * span cell) side ≡ blank (n * span cell) = blank_within at (suc n * span cell) (span cell) (n * span cell) side (omega arith) is in
    ap (λ (b : Bool). counted b (area at cell side) (cells_from cell (at + span cell) n side)) none ∙ cells_free cell (at + span cell) n side rest

-- What became of a side in which only the next cell was touched.
pub record Touched (cell size k : ℕ) (old new : List ℕ) : Type 0 where
  pub before : (p n : ℕ) → p + n ≤ cells_at size + k * span cell → area p n new ≡ area p n old
  pub behind : (p n : ℕ) → cells_at size + k * span cell + span cell ≤ p → p + n ≤ 4096 → area p n new ≡ area p n old

-- all cells that count are among those that were begun
pub cells_used : (cell size : ℕ) (gates : List Bool) (side : List ℕ) → Used cell size gates side → cells_in cell size side ≡ cells_from cell (cells_at size) (length gates) side
cells_used cell size gates side used =
    let k : ℕ = length gates in
    let most = used.most in
    let n : places cell size ≡ k + (places cell size - k) = omega (arith, most) in
    ap (λ (i : ℕ). cells_from cell (cells_at size) i side) n ∙ cells_split cell (cells_at size) k (places cell size - k) side
    ∙ ap (λ (xs : List (List ℕ)). cells_from cell (cells_at size) k side ++ xs) (cells_free cell (cells_at size + k * span cell) (places cell size - k) side used.free)
    ∙ append-nil (cells_from cell (cells_at size) k side)

-- the cells then: those of before, and this one where its gate stands
pub cells_touched : (cell size : ℕ) (gates : List Bool) (old new : List ℕ) → size ≤ 4080 → length gates < places cell size → Used cell size gates old
    → Touched cell size (length gates) old new
    → cells_in cell size new ≡ cells_in cell size old ++ counted (bytes_eq (area (cells_at size + length gates * span cell + filled cell) 8 new) gate)
    (area (cells_at size + length gates * span cell) cell new) []
cells_touched cell size gates old new fits low used touched =
    let a : ℕ = cells_at size in
    let k : ℕ = length gates in
    let m : ℕ = places cell size - k - 1 in
    let at : ℕ = a + k * span cell in
    let n : places cell size ≡ k + suc m = omega arith in
    let all = places_fit cell size fits in
    let behind_at : at + span cell + m * span cell ≡ a + places cell size * span cell = omega (arith, ap (λ (x : ℕ). x * span cell) n) in
    let free : area at ((places cell size - k) * span cell) old ≡ blank ((places cell size - k) * span cell) = used.free in
    let rest : (places cell size - k) * span cell ≡ suc m * span cell = (let e : places cell size - k ≡ suc m = omega arith in ap (λ (x : ℕ). x * span cell) e) in
    let free_all : area at (suc m * span cell) old ≡ blank (suc m * span cell) = subst (λ (x : ℕ). area at x old ≡ blank x) rest free in
    let free_rest : area (at + span cell) (m * span cell) old ≡ blank (m * span cell) = blank_within at (suc m * span cell) (span cell) (m * span cell) old (omega arith) free_all in
    let b : Bool = bytes_eq (area (at + filled cell) 8 new) gate in
    let x : List ℕ = area at cell new in
    let front : cells_from cell a k new ≡ cells_from cell a k old = cells_same cell a k old new (λ p i lo hi. touched.before p i hi) in
    let last : cells_from cell (at + span cell) m new ≡ [] =
    cells_same cell (at + span cell) m old new (λ p i lo hi. touched.behind p i lo (omega (arith, behind_at))) ∙ cells_free cell (at + span cell) m old free_rest in
    let was : cells_in cell size old ≡ cells_from cell a k old =
    ap (λ (i : ℕ). cells_from cell a i old) n ∙ cells_split cell a k (suc m) old ∙ ap (λ (xs : List (List ℕ)). cells_from cell a k old ++ xs) (cells_free cell at (suc m) old free_all)
    ∙ append-nil (cells_from cell a k old) in
    ap (λ (i : ℕ). cells_from cell a i new) n ∙ cells_split cell a k (suc m) new
    ∙ (λ i. front i ++ counted b x (last i))
    ∙ ap (λ (xs : List (List ℕ)). xs ++ counted b x []) (sym was)

-- the next cell is used once its gate stands
pub used_more : (cell size : ℕ) (gates : List Bool) (old new : List ℕ) → size ≤ 4080 → length gates < places cell size → Used cell size gates old
    → Touched cell size (length gates) old new → area (cells_at size + length gates * span cell + filled cell) 8 new ≡ gate
    → Used cell size (gates ++ (true ∷ [])) new
used_more cell size gates old new fits low used touched opened =
    let a : ℕ = cells_at size in
    let k : ℕ = length gates in
    let at : ℕ = a + k * span cell in
    let long : length (gates ++ (true ∷ [])) ≡ k + 1 = length-append gates (true ∷ []) in
    let n : ℕ = places cell size in
    let all = places_fit cell size fits in
    let more : n * span cell ≡ k * span cell + ((n - k) * span cell) = (let e : n ≡ k + (n - k) = omega arith in ap (λ (x : ℕ). x * span cell) e ∙ omega arith) in
    let less : (n - k) * span cell ≡ span cell + (n - (k + 1)) * span cell = (let e : n - k ≡ 1 + (n - (k + 1)) = omega arith in ap (λ (x : ℕ). x * span cell) e ∙ omega arith) in
    let stand : gates_from cell a (k + 1) new ≡ gates ++ (true ∷ []) =
    gates_split cell a k 1 new
    ∙ (λ i. (gates_same cell a k old new (λ p j lo hi. touched.before p j hi) ∙ used.stand) i ++ (bytes_eq (opened i) gate ∷ [])) in
    let was : area (at + span cell) ((n - (k + 1)) * span cell) old ≡ blank ((n - (k + 1)) * span cell) =
    blank_within at ((n - k) * span cell) (span cell) ((n - (k + 1)) * span cell) old (omega (arith, less)) used.free in
    let free : area (a + (k + 1) * span cell) ((n - (k + 1)) * span cell) new ≡ blank ((n - (k + 1)) * span cell) =
    (let p : a + (k + 1) * span cell ≡ at + span cell = omega arith in
    ap (λ (q : ℕ). area q ((n - (k + 1)) * span cell) new) p ∙ touched.behind (at + span cell) ((n - (k + 1)) * span cell) (omega arith) (omega (arith, more, less)) ∙ was) in
    record {
      most = omega (arith, long);
      stand = subst (λ (j : ℕ). gates_from cell a j new ≡ gates ++ (true ∷ [])) (sym long) stand;
      free = subst (λ (j : ℕ). area (a + j * span cell) ((n - j) * span cell) new ≡ blank ((n - j) * span cell)) (sym long) free;
      last = λ some. subst (λ (j : ℕ). area (a + (j - 1) * span cell) (span cell) new ≢ blank (span cell)) (sym long)
          (λ all_blank.
          let p : a + (k + 1 - 1) * span cell ≡ at = (let e : k + 1 - 1 ≡ k = omega arith in ap (λ (x : ℕ). a + x * span cell) e) in
          let whole : area at (span cell) new ≡ blank (span cell) = subst (λ (q : ℕ). area q (span cell) new ≡ blank (span cell)) p all_blank in
          let shut : area (at + filled cell) 8 new ≡ blank 8 = blank_within at (span cell) (filled cell) 8 new (omega arith) whole in
          cc (sym (ap (λ (xs : List ℕ). bytes_eq xs gate) shut) ∙ ap (λ (xs : List ℕ). bytes_eq xs gate) opened));
    }

-- a side that was filled has no cells
whole_free : (g n : ℕ) (body : List ℕ) → length body ≤ 4080 → cells_at (length body) + n ≤ 4096 → area (cells_at (length body)) n (whole_side g body) ≡ blank n
whole_free g n body fits le =
    let text : List ℕ = side_bytes g body in
    let zeros : List ℕ = replicate (padding (length body)) 0 in
    let long : length text ≡ 8 + filled (length body) = omega (arith, length-append body zeros, length-replicate {A = ℕ} (padding (length body)) 0) in
    let front : length (gate ++ text) ≡ cells_at (length body) = length-append gate text ∙ omega (arith, long) in
    ap (λ (xs : List ℕ). area (cells_at (length body)) n xs) (sym (append_assoc gate text (blank (4088 - length text))))
    ∙ ap (take n) (drop_at (gate ++ text) (blank (4088 - length text)) (cells_at (length body)) front)
    ∙ take-replicate n (4088 - length text) 255 (omega (arith, long))

pub cells_whole : (cell g : ℕ) (body : List ℕ) → length body ≤ 4080 → cells_in cell (length body) (whole_side g body) ≡ []
cells_whole cell g body fits =
    cells_free cell (cells_at (length body)) (places cell (length body)) (whole_side g body)
    (whole_free g (places cell (length body) * span cell) body fits (places_fit cell (length body) fits))

pub used_none : (cell g : ℕ) (body : List ℕ) → length body ≤ 4080 → Used cell (length body) [] (whole_side g body)
used_none cell g body fits =
    let a : ℕ = cells_at (length body) in
    let n : ℕ = places cell (length body) in
    let p : a + 0 * span cell ≡ a = omega arith in
    let e : (n - 0) * span cell ≡ n * span cell = (let m : n - 0 ≡ n = omega arith in ap (λ (x : ℕ). x * span cell) m) in
    record {
      most = omega arith;
      stand = refl;
      free = (λ i. area (p i) (e i) (whole_side g body)) ∙ whole_free g (n * span cell) body fits (places_fit cell (length body) fits) ∙ ap blank (sym e);
      last = λ some. absurd (omega (arith, some));
    }
