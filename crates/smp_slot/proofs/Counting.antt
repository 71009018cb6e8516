-- The pages that bytes enter and begin, one page after the other.
use Rattle.std.proofs.Common.{◌≡◌, ◌⊎◌, inl, inr, ℕ, zero, suc, ◌+◌, ◌-◌, ◌*◌, ◌/◌, ◌%◌, ◌<◌, ◌≤◌, Option, Some, None, List, refl, sym, ◌∙◌, ap, subst, arith}
use Rattle.std.specs.Prelude.{IfSome}
use Rattle.smp_flash.specs.Calls.{ChangesAtMost, ReadsAtMost}
use Rattle.smp_flash.specs.Geometry.{IsPage, room}
use Rattle.smp_flash.specs.State.{Changes}
use Rattle.smp_flash.proofs.Passing.{changes_add, changes_more, reads_add, reads_more}
use Rattle.smp_flash.proofs.Places.{page_plus, page_next}
use Rattle.std.proofs.Math.Nat.{mul-le-mul_right}
use Rattle.smp_flash.proofs.Sizes.{each_page}
use Rattle.smp_slot.specs.Costs.{entered, begun}

-- whole pages and a part of one more
record Steps (page : ℕ) : Type 0 where
  first : (r count : ℕ) → 0 < count → r + count ≤ page → (r + count + page - 1) / page ≡ 1
  next : (s count : ℕ) → s % page ≡ 0 → 0 < count → count ≤ page → (s + page - 1) / page + 1 ≡ (s + count + page - 1) / page
  part : (r : ℕ) → 0 < r → r < page → (r + page - 1) / page ≡ 1
  more : (s t : ℕ) → s ≤ t → (s + page - 1) / page ≤ (t + page - 1) / page
  small : (at : ℕ) → at % page < page
  sum : (at n : ℕ) → (at + n) % page ≡ 0 → (at % page + n) % page ≡ 0

steps : (page : ℕ) → IsPage page → Steps page
steps page is = each_page Steps
    (record { first = λ r k a b. omega arith; next = λ s k z a b. omega arith; part = λ r a b. omega arith; more = λ s t le. omega arith; small = λ at. omega arith; sum = λ at n z. omega arith })
    (record { first = λ r k a b. omega arith; next = λ s k z a b. omega arith; part = λ r a b. omega arith; more = λ s t le. omega arith; small = λ at. omega arith; sum = λ at n z. omega arith })
    (record { first = λ r k a b. omega arith; next = λ s k z a b. omega arith; part = λ r a b. omega arith; more = λ s t le. omega arith; small = λ at. omega arith; sum = λ at n z. omega arith })
    (record { first = λ r k a b. omega arith; next = λ s k z a b. omega arith; part = λ r a b. omega arith; more = λ s t le. omega arith; small = λ at. omega arith; sum = λ at n z. omega arith })
    page is

some_entered : (page at n : ℕ) → 0 < n → entered page at n ≡ (at % page + n + page - 1) / page
some_entered page at zero some = absurd (omega (arith, some))
some_entered page at (suc n) some = refl

-- the place is the first one or begins a page
abbrev pub IsTurn : ℕ → ℕ → ℕ → Type 0
IsTurn page at done = (done ≡ 0) ⊎ ((at + done) % page ≡ 0)

next_entered : (page at done count : ℕ) → IsPage page → (at + done) % page ≡ 0 → 0 < done → 0 < count → count ≤ page → entered page at done + 1 ≡ entered page at (done + count)
next_entered page at done count is whole begun some most =
    let e : at % page + (done + count) ≡ at % page + done + count = omega arith in
    ap (λ (n : ℕ). n + 1) (some_entered page at done begun) ∙ (steps page is).next (at % page + done) count ((steps page is).sum at done whole) some most
    ∙ ap (λ (n : ℕ). (n + page - 1) / page) (sym e) ∙ sym (some_entered page at (done + count) (omega (arith, some)))

first_entered : (page at count : ℕ) → IsPage page → 0 < count → at % page + count ≤ page → 1 ≡ entered page at count
first_entered page at count is some most = sym (some_entered page at count some ∙ (steps page is).first (at % page) count some most)

pub turn_entered : (page at done count r : ℕ) → IsPage page → IsTurn page at done → r ≡ room page (at + done) → 0 < count → count ≤ r → entered page at done + 1 ≡ entered page at (done + count)
turn_entered page at zero count r is turn same some most =
    let e : at + 0 ≡ at = omega arith in
    let small = (steps page is).small at in
    let here : r ≡ page - at % page = same ∙ ap (λ (n : ℕ). page - n % page) e in
    let z : count ≡ 0 + count = omega arith in
    first_entered page at count is some (omega (arith, here, most, small)) ∙ ap (entered page at) z
turn_entered page at (suc n) count r is turn same some most = elim turn [
  | inl none ↦ absurd (omega (arith, none))
  | inr whole ↦ next_entered page at (suc n) count is whole (omega arith) some (omega (arith, most, same, whole))
]

pub turn_begun : (page at done count : ℕ) → IsPage page → (at + done) % page ≡ 0 → 0 < count → count ≤ page → begun page at done + 1 ≡ begun page at (done + count)
turn_begun page at done count is whole some most =
    let e : at % page + (done + count) ≡ at % page + done + count = omega arith in
    let up = (steps page is).next (at % page + done) count ((steps page is).sum at done whole) some most in
    let low = (steps page is).more (at % page) (at % page + done) (omega arith) in
    let f : (at % page + (done + count) + page - 1) / page ≡ (at % page + done + count + page - 1) / page = ap (λ (n : ℕ). (n + page - 1) / page) e in
    omega (arith, up, low, f)

pub inner_begun : (page at count : ℕ) → IsPage page → 0 < at % page → at % page + count ≤ page → begun page at count ≡ 0
inner_begun page at count is part most =
    let top = (steps page is).more (at % page + count) page most in
    let one = (steps page is).part (at % page) part ((steps page is).small at) in
    let whole = (steps page is).first 0 page (omega (arith, part, most)) (omega arith) in
    let e : (0 + page + page - 1) / page ≡ (page + page - 1) / page = ap (λ (n : ℕ). (n + page - 1) / page) (let z : 0 + page ≡ page = omega arith in z) in
    omega (arith, top, one, whole, e)

pub entered_most : (page at m n : ℕ) → IsPage page → m ≤ n → entered page at m ≤ entered page at n
entered_most page at zero n is le = omega arith
entered_most page at (suc m) zero is le = absurd (omega (arith, le))
entered_most page at (suc m) (suc n) is le = (steps page is).more (at % page + suc m) (at % page + suc n) (omega (arith, le))

pub begun_most : (page at m n : ℕ) → IsPage page → m ≤ n → begun page at m ≤ begun page at n
begun_most page at m n is le = let up = (steps page is).more (at % page + m) (at % page + n) (omega (arith, le)) in omega (arith, up)

zero_or_some : (n : ℕ) → (n ≡ 0) ⊎ (0 < n)
zero_or_some zero = inl refl
zero_or_some (suc n) = inr (omega arith)

-- What one turn adds: a page that is entered, and, where it begins there, a page that is begun.
record Turn (page at done count r : ℕ) : Type 0 where
  entered_more : entered page at done + 1 ≡ entered page at (done + count)
  begun_more : (begun page at done + 1 ≡ begun page at (done + count)) ⊎ ((r < page) × (begun page at done ≤ begun page at (done + count)))

turned : (page at done count r n : ℕ) → IsPage page → done < n → ((done ≡ n) ⊎ IsTurn page at done) → r ≡ room page (at + done) → 0 < count → count ≤ r → Turn page at done count r
turned page at done count r n is low turn same some most = elim turn [
  | inl all ↦ absurd (omega (arith, all, low))
  | inr turn ↦ record {
    entered_more = turn_entered page at done count r is turn same some most;
    begun_more = elim (zero_or_some ((at + done) % page)) [
      | inl whole ↦ inl (turn_begun page at done count is whole some (omega (arith, most, same, whole)))
      | inr part ↦ inr (omega (arith, same, part, (steps page is).small (at + done)), begun_most page at done (done + count) is (omega arith))
    ];
  }
]

pub turn_changes : (page at done count r n : ℕ) (p q s : Option Changes) → IsPage page → done < n → ((done ≡ n) ⊎ IsTurn page at done) → r ≡ room page (at + done) → 0 < count → count ≤ r
    → ChangesAtMost (entered page at done) (begun page at done) p q → ChangesAtMost 1 1 q s → (r < page → ChangesAtMost 1 0 q s)
    → ChangesAtMost (entered page at (done + count)) (begun page at (done + count)) p s
turn_changes page at done count r n p q s is low turn same some most before whole part =
    let t = turned page at done count r n is low turn same some most in
    let e = t.entered_more in
    elim t.begun_more [
      | inl b ↦ changes_more (entered page at done + 1) (entered page at (done + count)) (begun page at done + 1) (begun page at (done + count)) p s (omega (arith, e)) (omega (arith, b))
          (changes_add (entered page at done) 1 (begun page at done) 1 p q s before whole)
      | inr b ↦ changes_more (entered page at done + 1) (entered page at (done + count)) (begun page at done + 0) (begun page at (done + count)) p s (omega (arith, e)) (omega (arith, b.1))
          (changes_add (entered page at done) 1 (begun page at done) 0 p q s before (part b.0))
    ]

pub turn_reads : (page at done count r n : ℕ) (p q s : Option ℕ) → IsPage page → done < n → ((done ≡ n) ⊎ IsTurn page at done) → r ≡ room page (at + done) → 0 < count → count ≤ r
    → ReadsAtMost (begun page at done * page) p q → ReadsAtMost page q s → (r < page → ReadsAtMost 0 q s)
    → ReadsAtMost (begun page at (done + count) * page) p s
turn_reads page at done count r n p q s is low turn same some most before whole part =
    let t = turned page at done count r n is low turn same some most in
    let x : ℕ = begun page at done in
    elim t.begun_more [
      | inl b ↦ (let e : (x + 1) * page ≡ x * page + page = omega arith in
          subst (λ (k : ℕ). ReadsAtMost k p s) (sym e ∙ ap (λ (k : ℕ). k * page) b) (reads_add (x * page) page p q s before whole))
      | inr b ↦ reads_more (x * page + 0) (begun page at (done + count) * page) p s (omega (arith, mul-le-mul_right page b.1)) (reads_add (x * page) 0 p q s before (part b.0))
    ]

pub all_changes : (page at m n : ℕ) (p q : Option Changes) → IsPage page → m ≤ n → ChangesAtMost (entered page at m) (begun page at m) p q → ChangesAtMost (entered page at n) (begun page at n) p q
all_changes page at m n p q is le f = changes_more (entered page at m) (entered page at n) (begun page at m) (begun page at n) p q (entered_most page at m n is le) (begun_most page at m n is le) f

pub all_reads : (page at m n : ℕ) (p q : Option ℕ) → IsPage page → m ≤ n → ReadsAtMost (begun page at m * page) p q → ReadsAtMost (begun page at n * page) p q
all_reads page at m n p q is le f = reads_more (begun page at m * page) (begun page at n * page) p q (mul-le-mul_right page (begun_most page at m n is le)) f

pub next_turn : (page at done count n r : ℕ) → IsPage page → r ≡ room page (at + done) → (count ≡ n - done) ⊎ (count ≡ r) → done ≤ n → (done + count ≡ n) ⊎ IsTurn page at (done + count)
next_turn page at done count n r is same either le = elim either [
  | inl all ↦ inl (omega arith)
  | inr full ↦ inr (inr (ap (λ (k : ℕ). k % page) (let e : at + (done + count) ≡ at + done + room page (at + done) = omega arith in e) ∙ page_next page (at + done) is))
]

-- the costs in a slot are those of the flash
pub entered_in_slot : (page s at n : ℕ) → IsPage page → s % page ≡ 0 → entered page (s + at) n ≡ entered page at n
entered_in_slot page s at zero is begins = refl
entered_in_slot page s at (suc n) is begins = ap (λ (k : ℕ). (k + suc n + page - 1) / page) (page_plus page s at is begins)

pub begun_in_slot : (page s at n : ℕ) → IsPage page → s % page ≡ 0 → begun page (s + at) n ≡ begun page at n
begun_in_slot page s at n is begins = ap (λ (k : ℕ). (k + n + page - 1) / page - (k + page - 1) / page) (page_plus page s at is begins)

pub changes_in_slot : (page s at n : ℕ) (p q : Option Changes) → IsPage page → s % page ≡ 0 → ChangesAtMost (entered page (s + at) n) (begun page (s + at) n) p q → ChangesAtMost (entered page at n) (begun page at n) p q
changes_in_slot page s at n p q is begins f =
    subst (λ (k : ℕ). ChangesAtMost (entered page at n) k p q) (begun_in_slot page s at n is begins)
    (subst (λ (k : ℕ). ChangesAtMost k (begun page (s + at) n) p q) (entered_in_slot page s at n is begins) f)

pub reads_in_slot : (page s at n : ℕ) (p q : Option ℕ) → IsPage page → s % page ≡ 0 → ReadsAtMost (begun page (s + at) n * page) p q → ReadsAtMost (begun page at n * page) p q
reads_in_slot page s at n p q is begins f = subst (λ (k : ℕ). ReadsAtMost (k * page) p q) (begun_in_slot page s at n is begins) f

-- writes behind erases that depend on what was held
pub erases_then : (x : Option (List ℕ)) (n : ℕ) (f : List ℕ → ℕ) (p q r : Option Changes) → IfSome x (λ held. ChangesAtMost 0 (f held) p q) → ChangesAtMost n 0 q r → IfSome x (λ held. ChangesAtMost n (f held) p r)
erases_then None n f p q r a b = tt
erases_then (Some held) n f p q r a b =
    let e : f held + 0 ≡ f held = omega arith in
    let w : 0 + n ≡ n = omega arith in
    subst (λ (k : ℕ). ChangesAtMost n k p r) e (subst (λ (k : ℕ). ChangesAtMost k (f held + 0) p r) w (changes_add 0 n (f held) 0 p q r a b))

pub erases_more : (x : Option (List ℕ)) (m n : ℕ) (f : List ℕ → ℕ) (p q : Option Changes) → m ≤ n → IfSome x (λ held. ChangesAtMost m (f held) p q) → IfSome x (λ held. ChangesAtMost n (f held) p q)
erases_more None m n f p q le a = tt
erases_more (Some held) m n f p q le a = changes_more m n (f held) (f held) p q le (omega arith) a
