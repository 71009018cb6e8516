-- Bytes are put page by page: what a turn of the loop erases, and in which order the pages change.
use Rattle.std.proofs.Common.{◌≡◌, ◌⊎◌, inl, inr, ℕ, zero, suc, ◌+◌, ◌-◌, ◌*◌, ◌/◌, ◌%◌, ◌<◌, ◌≤◌, Option, Some, None, List, length, take, refl, sym, ◌∙◌, ap, subst, arith}
use Rattle.std.specs.Prelude.{IfSome}
use Rattle.std.proofs.lemmas.List.{length-take-le, take_all}
use Rattle.smp_flash.specs.Area.{area, dirty, dirty_pages, spot, Keeps, Told}
use Rattle.smp_flash.specs.Calls.{ChangesAtMost}
use Rattle.smp_flash.specs.Geometry.{IsPage, room, tail}
use Rattle.smp_flash.specs.State.{Changes}
use Rattle.smp_flash.proofs.Passing.{changes_add, changes_more, changes_none}
use Rattle.smp_flash.proofs.Places.{tail_zero, tail_room}
use Rattle.smp_flash.proofs.Sizes.{each_page}
use Rattle.smp_flash.proofs.Telling.{Told-trans, Told-map}
use Rattle.smp_slot.specs.Costs.{entered, begun, dirty_begun}
use Rattle.smp_slot.specs.Laid.{Laid}
use Rattle.smp_slot.specs.Order.{PutInOrder}
use Rattle.smp_slot.proofs.Counting.{IsTurn, turn_entered, turn_begun, entered_most, begun_most, entered_in_slot}
use Rattle.smp_slot.proofs.Wiping.{dirty_more, dirty_most}

-- where the next page begins, as one of those that the bytes begin
begun_place : (page at done : ℕ) → IsPage page → (at + done) % page ≡ 0 → at + done ≡ at + tail page at + begun page at done * page
begun_place page at done is whole = each_page (λ p. (at + done) % p ≡ 0 → at + done ≡ at + tail p at + begun p at done * p) (λ z. omega (arith, z)) (λ z. omega (arith, z)) (λ z. omega (arith, z)) (λ z. omega (arith, z)) page is whole

zero_or_some : (n : ℕ) → (n ≡ 0) ⊎ (0 < n)
zero_or_some zero = inl refl
zero_or_some (suc n) = inr (omega arith)

-- a page that the bytes begin is as it was before the call
page_as_before : (page at done : ℕ) (bytes old mid : List ℕ) → IsPage page → done ≤ length bytes → (at + done) % page ≡ 0 → Laid at (tail page (at + done)) (take done bytes) old mid
    → area (at + done) page mid ≡ area (at + done) page old
page_as_before page at done bytes old mid is le whole laid =
    let long : length (take done bytes) ≡ done = length-take-le done bytes le in
    let none : tail page (at + done) ≡ 0 = tail_zero page (at + done) is whole in
    laid.keeps.apart (at + done) page (inr (omega (arith, long, none)), tt)

begun_erases : (page at done : ℕ) (bytes old mid : List ℕ) (p q s : Option Changes) → IsPage page → done ≤ length bytes → (at + done) % page ≡ 0
    → Laid at (tail page (at + done)) (take done bytes) old mid → ChangesAtMost (entered page at done) (dirty_begun page at done old) p q
    → ChangesAtMost 1 (dirty page (area (at + done) page mid)) q s → ChangesAtMost (entered page at done + 1) (dirty_pages page (at + tail page at) (begun page at done + 1) old) p s
begun_erases page at done bytes old mid p q s is le whole laid before one =
    let n : ℕ = begun page at done in
    let first : ℕ = at + tail page at in
    let same : area (at + done) page mid ≡ area (first + n * page) page old =
    page_as_before page at done bytes old mid is le whole laid ∙ ap (λ (k : ℕ). area k page old) (begun_place page at done is whole) in
    let here : ChangesAtMost 1 (dirty page (area (first + n * page) page old)) q s = subst (λ (xs : List ℕ). ChangesAtMost 1 (dirty page xs) q s) same one in
    subst (λ (k : ℕ). ChangesAtMost (entered page at done + 1) k p s) (sym (dirty_more page first n old))
    (changes_add (entered page at done) 1 (dirty_pages page first n old) (dirty page (area (first + n * page) page old)) p q s before here)

-- one turn
turn_held : (page at done count r : ℕ) (bytes old mid : List ℕ) (p q s : Option Changes) → IsPage page → done ≤ length bytes → IsTurn page at done → r ≡ room page (at + done) → 0 < count → count ≤ r
    → Laid at (tail page (at + done)) (take done bytes) old mid → ChangesAtMost (entered page at done) (dirty_begun page at done old) p q
    → ChangesAtMost 1 (dirty r (area (at + done) r mid)) q s → (r < page → ChangesAtMost 1 0 q s)
    → ChangesAtMost (entered page at (done + count)) (dirty_begun page at (done + count) old) p s
turn_held page at done count r bytes old mid p q s is le turn same some most laid before one inner =
    let e : entered page at done + 1 ≡ entered page at (done + count) = turn_entered page at done count r is turn same some most in
    elim (zero_or_some ((at + done) % page)) [
      | inl whole ↦ (
          let full : r ≡ page = omega (arith, same, whole) in
          let b : begun page at done + 1 ≡ begun page at (done + count) = turn_begun page at done count is whole some (omega (arith, most, full)) in
          let here : ChangesAtMost 1 (dirty page (area (at + done) page mid)) q s = subst (λ (k : ℕ). ChangesAtMost 1 (dirty k (area (at + done) k mid)) q s) full one in
          subst (λ (k : ℕ). ChangesAtMost (entered page at (done + count)) (dirty_pages page (at + tail page at) k old) p s) b
          (subst (λ (k : ℕ). ChangesAtMost k (dirty_pages page (at + tail page at) (begun page at done + 1) old) p s) e
          (begun_erases page at done bytes old mid p q s is le whole laid before here)))
      | inr part ↦ (
          let more : dirty_begun page at done old ≤ dirty_begun page at (done + count) old = dirty_most page (at + tail page at) (begun page at done) (begun page at (done + count)) old (begun_most page at done (done + count) is (omega arith)) in
          changes_more (entered page at done + 1) (entered page at (done + count)) (dirty_begun page at done old + 0) (dirty_begun page at (done + count) old) p s (omega (arith, e)) (omega (arith, more))
          (changes_add (entered page at done) 1 (dirty_begun page at done old) 0 p q s before (inner (omega (arith, same, part, page_over page (at + done) is)))))
    ]
  where
    page_over : (page at : ℕ) → IsPage page → at % page < page
    page_over page at is = each_page (λ p. at % p < p) (omega arith) (omega arith) (omega arith) (omega arith) page is

-- where the bytes are told
pub turn_erases : (page at done count r : ℕ) (bytes : List ℕ) (x y : Option (List ℕ)) (p q s : Option Changes) → IsPage page → done < length bytes → ((done ≡ length bytes) ⊎ IsTurn page at done)
    → r ≡ room page (at + done) → 0 < count → count ≤ r → Told (Laid at (tail page (at + done)) (take done bytes)) x y
    → IfSome x (λ held. ChangesAtMost (entered page at done) (dirty_begun page at done held) p q)
    → IfSome y (λ held. ChangesAtMost 1 (dirty r (area (at + done) r held)) q s) → (r < page → ChangesAtMost 1 0 q s)
    → IfSome x (λ held. ChangesAtMost (entered page at (done + count)) (dirty_begun page at (done + count) held) p s)
turn_erases page at done count r bytes None None p q s is low turn same some most laid before one inner = tt
turn_erases page at done count r bytes None (Some v) p q s is low turn same some most laid before one inner = absurd laid
turn_erases page at done count r bytes (Some u) None p q s is low turn same some most laid before one inner = absurd laid
turn_erases page at done count r bytes (Some u) (Some v) p q s is low turn same some most laid before one inner = elim turn [
  | inl all ↦ absurd (omega (arith, all, low))
  | inr turn ↦ turn_held page at done count r bytes u v p q s is (omega (arith, low)) turn same some most laid before one inner
]

pub all_erases : (page at m n : ℕ) (x : Option (List ℕ)) (p q : Option Changes) → IsPage page → m ≤ n
    → IfSome x (λ held. ChangesAtMost (entered page at m) (dirty_begun page at m held) p q) → IfSome x (λ held. ChangesAtMost (entered page at n) (dirty_begun page at n held) p q)
all_erases page at m n None p q is le f = tt
all_erases page at m n (Some x) p q is le f =
    changes_more (entered page at m) (entered page at n) (dirty_begun page at m x) (dirty_begun page at n x) p q (entered_most page at m n is le)
    (dirty_most page (at + tail page at) (begun page at m) (begun page at n) x (begun_most page at m n is le)) f

pub no_erases : (page at : ℕ) (x : Option (List ℕ)) (p : Option Changes) → IfSome x (λ held. ChangesAtMost (entered page at 0) (dirty_begun page at 0 held) p p)
no_erases page at None p = tt
no_erases page at (Some x) p = changes_more 0 0 0 (dirty_begun page at 0 x) p p (omega arith) (omega arith) (changes_none p)

-- the costs in a slot are those of the flash
pub erases_in_slot : (page s at n : ℕ) (x : Option (List ℕ)) (p q : Option Changes) → IsPage page → s % page ≡ 0
    → IfSome x (λ held. ChangesAtMost (entered page (s + at) n) (dirty_begun page (s + at) n held) p q) → IfSome x (λ held. ChangesAtMost (entered page at n) (dirty_begun page (s + at) n held) p q)
erases_in_slot page s at n None p q is begins f = tt
erases_in_slot page s at n (Some x) p q is begins f = subst (λ (k : ℕ). ChangesAtMost k (dirty_begun page (s + at) n x) p q) (entered_in_slot page s at n is begins) f

-- the order: what stands before the page that is written, and what is as before behind it
put_order : (page at done : ℕ) (bytes old mid new : List ℕ) → IsPage page → done ≤ length bytes → ((done ≡ length bytes) ⊎ IsTurn page at done)
    → Laid at (tail page (at + done)) (take done bytes) old mid → Keeps (spot (at + done) (room page (at + done))) mid new → PutInOrder page at bytes old new
put_order page at done bytes old mid new is le turn laid k =
    let long : length (take done bytes) ≡ done = length-take-le done bytes le in
    let least : tail page (at + done) ≤ 0 + (room page (at + done) - 0) = tail_room page (at + done) is 0 in
    record {
      done = done;
      turn = turn;
      most = le;
      stand = k.apart at done (inl (omega arith), tt) ∙ subst (λ (n : ℕ). area at n mid ≡ take done bytes) long laid.holds;
      behind = λ p n low. k.apart p n (inr low, tt) ∙ laid.keeps.apart p n (inr (omega (arith, low, long, least)), tt);
    }

pub told_order : (page at done r : ℕ) (bytes : List ℕ) (x y z : Option (List ℕ)) → IsPage page → r ≡ room page (at + done) → done ≤ length bytes → ((done ≡ length bytes) ⊎ IsTurn page at done)
    → Told (Laid at (tail page (at + done)) (take done bytes)) x y → Told (Keeps (spot (at + done) r)) y z → Told (PutInOrder page at bytes) x z
told_order page at done r bytes x y z is same le turn f k =
    Told-trans (Laid at (tail page (at + done)) (take done bytes)) (Keeps (spot (at + done) r)) (PutInOrder page at bytes) x y z
    (λ u v w laid keeps. put_order page at done bytes u v w is le turn laid (subst (λ (n : ℕ). Keeps (spot (at + done) n) v w) same keeps)) f k

-- all of them
laid_order : (page at : ℕ) (bytes old new : List ℕ) → IsPage page → Laid at (tail page (at + length bytes)) bytes old new → PutInOrder page at bytes old new
laid_order page at bytes old new is laid =
    let least : tail page (at + length bytes) ≤ 0 + (room page (at + length bytes) - 0) = tail_room page (at + length bytes) is 0 in
    record {
      done = length bytes;
      turn = inl refl;
      most = omega arith;
      stand = laid.holds ∙ sym (take_all (length bytes) bytes (omega arith));
      behind = λ p n low. laid.keeps.apart p n (inr (omega (arith, low, least)), tt);
    }

pub told_all_order : (page at done : ℕ) (bytes : List ℕ) (x y : Option (List ℕ)) → IsPage page → done ≡ length bytes → Told (Laid at (tail page (at + done)) (take done bytes)) x y
    → Told (PutInOrder page at bytes) x y
told_all_order page at done bytes x y is all f =
    Told-map (Laid at (tail page (at + done)) (take done bytes)) (PutInOrder page at bytes) x y
    (λ u v laid. laid_order page at bytes u v is
    (subst (λ (xs : List ℕ). Laid at (tail page (at + length bytes)) xs u v) (take_all (length bytes) bytes (omega arith)) (subst (λ (n : ℕ). Laid at (tail page (at + n)) (take n bytes) u v) all laid))) f
