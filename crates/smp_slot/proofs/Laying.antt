-- Bytes are laid into erased parts, one behind the other.
use Rattle.std.proofs.Common.{◌≡◌, ◌⊎◌, inl, inr, ℕ, zero, ◌+◌, ◌-◌, ◌*◌, ◌%◌, ◌<◌, ◌≤◌, Option, Some, None, List, [], ◌∷◌, ◌++◌, length, take, drop, replicate, refl, sym, ◌∙◌, ap, subst, arith, length-append, length-take, length-drop}
use Rattle.std.specs.Prelude.{IfSome}
use Rattle.std.proofs.lemmas.List.{length-take-le, take-take, take_at, drop_at, drop-drop, drop-take, take_all, take-replicate, drop-replicate, length-replicate, replicate-append-replicate}
use Rattle.std.proofs.Math.Seq.{take-add}
use Rattle.std.proofs.lemmas.Slice.{take-put_mid}
use borrow.Rule.Slice.PartMut.{put_mid}
use Rattle.smp_flash.specs.Area.{area, blank, spot, Clear, Keeps, Holds, Told}
use Rattle.smp_slot.specs.Laid.{Laid}
use Rattle.smp_flash.specs.Geometry.{IsPage, IsUnit, room, tail}
use Rattle.smp_flash.proofs.Sizes.{each_unit, each_page}
use Rattle.smp_flash.proofs.Places.{page_next, page_small, room_below, tail_inner, tail_room}
use Rattle.smp_flash.proofs.Areas.{area-add, blank_within, blank_first, blank-add, area-area, Keeps-refl, Keeps-trans, Keeps-wider, Clear-within}
use Rattle.smp_flash.proofs.Telling.{Told-with, Told-trans}
use Rattle.smp_flash.proofs.Passing.{Calls-after, Calls-wider, Covers-within}
use Rattle.smp_flash.specs.State.{FlashState, End}
use Rattle.smp_flash.specs.State.End.{Went}
use Rattle.smp_flash.specs.Calls.{Calls}

-- two writes, one behind the other
pub filled : (n pad k : ℕ) (into h z : List ℕ) → length h ≡ n → length z ≡ pad → take (n + pad) (put_mid n k (h ++ drop n into) z) ≡ h ++ z
filled n pad k into h z long rest =
    let y : List ℕ = h ++ drop n into in
    let front : n ≤ length y = omega (arith, length-append h (drop n into)) in
    take-put_mid n k y z (n + pad) (omega arith) front
    ∙ ap (λ (xs : List ℕ). xs ++ z) (take_at h (drop n into) n long)

-- a write of bytes and FF behind them into an erased part
pub Laid-padded : (at pad size : ℕ) (bytes old new : List ℕ) → length bytes + pad ≤ size → area at size old ≡ blank size
    → Holds at (bytes ++ blank pad) old new → Laid at (size - length bytes) bytes old new
Laid-padded at pad size bytes old new le shut h =
    let n : ℕ = length bytes in
    let text : List ℕ = bytes ++ blank pad in
    let long : length text ≡ n + pad = omega (arith, length-append bytes (blank pad), length-replicate {A = ℕ} pad 255) in
    let whole : area at (n + pad) new ≡ text = ap (λ (k : ℕ). area at k new) (sym long) ∙ h.holds in
    let rest : ℕ = size - n - pad in
    let split : size - n ≡ pad + rest = omega arith in
    let near : area (at + n) pad new ≡ blank pad =
    sym (area-area n pad at (n + pad) new (omega arith)) ∙ ap (λ (xs : List ℕ). take pad (drop n xs)) whole
    ∙ ap (take pad) (drop_at bytes (blank pad) n refl) ∙ take-replicate pad pad 255 (omega arith) in
    let same : area (at + n + pad) rest new ≡ area (at + n + pad) rest old = h.keeps.apart (at + n + pad) rest (inr (omega arith), tt) in
    let far : area (at + n + pad) rest new ≡ blank rest =
    same ∙ ap (λ (p : ℕ). area p rest old) (let e : at + n + pad ≡ at + (n + pad) = omega arith in e) ∙ blank_within at size (n + pad) rest old (omega arith) shut in
    record {
      keeps = Keeps-wider (spot at (length text)) (spot at (n + (size - n))) old new (λ p m clear. Clear-within at (length text) at (n + (size - n)) (omega arith) (omega arith) p m clear) h.keeps;
      holds = sym (take-take n (n + pad) (drop at new) (omega arith)) ∙ ap (take n) whole ∙ take_at bytes (blank pad) n refl;
      clean = ap (λ (k : ℕ). area (at + n) k new) split ∙ blank-add (at + n) pad rest new near far ∙ ap blank (sym split);
    }

pub Laid-written : (at pad size : ℕ) (bytes text old new : List ℕ) → text ≡ bytes ++ blank pad → length bytes + pad ≤ size → area at size old ≡ blank size
    → Holds at text old new → Laid at (size - length bytes) bytes old new
Laid-written at pad size bytes text old new is le shut h =
    Laid-padded at pad size bytes old new le shut (subst (λ (xs : List ℕ). Holds at xs old new) is h)

-- nothing yet
pub Laid-none : (at rest : ℕ) (old : List ℕ) → area at rest old ≡ blank rest → Laid at rest [] old old
Laid-none at rest old clean = record { keeps = Keeps-refl (spot at (0 + rest)) old; holds = refl; clean = ap (λ (p : ℕ). area p rest old) (let e : at + 0 ≡ at = omega arith in e) ∙ clean }

-- further bytes behind the first ones
pub Laid-more : (at t rest : ℕ) (xs ys old mid new : List ℕ) → t ≤ length ys + rest → Laid at t xs old mid → Laid (at + length xs) rest ys mid new → Laid at rest (xs ++ ys) old new
Laid-more at t rest xs ys old mid new le f g =
    let m : ℕ = length xs in
    let n : ℕ = length ys in
    let long : length (xs ++ ys) ≡ m + n = length-append xs ys in
    record {
      keeps = Keeps-trans (spot at (length (xs ++ ys) + rest)) old mid new
          (Keeps-wider (spot at (m + t)) (spot at (length (xs ++ ys) + rest)) old mid (λ p k clear. Clear-within at (m + t) at (length (xs ++ ys) + rest) (omega arith) (omega arith) p k clear) f.keeps)
          (Keeps-wider (spot (at + m) (n + rest)) (spot at (length (xs ++ ys) + rest)) mid new (λ p k clear. Clear-within (at + m) (n + rest) at (length (xs ++ ys) + rest) (omega arith) (omega arith) p k clear) g.keeps);
      holds = ap (λ (k : ℕ). area at k new) long ∙ area-add at m n new
          ∙ ap (λ (zs : List ℕ). zs ++ area (at + m) n new) (g.keeps.apart at m (inl (omega arith), tt) ∙ f.holds)
          ∙ ap (λ (zs : List ℕ). xs ++ zs) g.holds;
      clean = ap (λ (p : ℕ). area p rest new) (let e : at + length (xs ++ ys) ≡ at + m + n = omega (arith, long) in e) ∙ g.clean;
    }

-- where the bytes are told
pub told_none : (at rest : ℕ) (x : Option (List ℕ)) → IfSome x (λ held. area at rest held ≡ blank rest) → Told (Laid at rest []) x x
told_none at rest x clean = Told-with (λ held. area at rest held ≡ blank rest) (λ u v. v ≡ u) (Laid at rest []) x x
    (λ u v is same. subst (λ (w : List ℕ). Laid at rest [] u w) (sym same) (Laid-none at rest u is)) clean (same_told x)
  where
    same_told : (x : Option (List ℕ)) → Told (λ u v. v ≡ u) x x
    same_told x = elim x as (λ o. Told (λ u v. v ≡ u) o o) [ None ↦ tt | Some u ↦ refl ]

pub told_more : (at t rest done : ℕ) (xs ys all : List ℕ) (x y z : Option (List ℕ)) → t ≤ length ys + rest → length xs ≡ done → xs ++ ys ≡ all
    → Told (Laid at t xs) x y → Told (Laid (at + done) rest ys) y z → Told (Laid at rest all) x z
told_more at t rest done xs ys all x y z le long is f g =
    Told-trans (Laid at t xs) (Laid (at + done) rest ys) (Laid at rest all) x y z
    (λ u v w p q. subst (λ (zs : List ℕ). Laid at rest zs u w) is (Laid-more at t rest xs ys u v w le p (subst (λ (k : ℕ). Laid (at + k) rest ys v w) (sym long) q))) f g

-- whole units within what is left of a page
pub units_fit : (unit n room count : ℕ) → IsUnit unit → n ≤ room → room % unit ≡ 0 → count % unit ≡ 0 → count < n + unit → count ≤ room
units_fit unit n room count is le whole also lt = each_unit (λ u. room % u ≡ 0 → count % u ≡ 0 → count < n + u → count ≤ room)
    (λ a b c. omega arith) (λ a b c. omega arith) (λ a b c. omega arith) (λ a b c. omega arith) unit is whole also lt

-- the next page begins at a whole unit
pub whole_place : (unit page at : ℕ) → IsUnit unit → IsPage page → at % page ≡ 0 → at % unit ≡ 0
whole_place unit page at is pages = each_unit (λ u. at % page ≡ 0 → at % u ≡ 0)
    (λ z. omega arith)
    (each_page (λ p. at % p ≡ 0 → at % 2 ≡ 0) (λ z. omega arith) (λ z. omega arith) (λ z. omega arith) (λ z. omega arith) page pages)
    (each_page (λ p. at % p ≡ 0 → at % 4 ≡ 0) (λ z. omega arith) (λ z. omega arith) (λ z. omega arith) (λ z. omega arith) page pages)
    (each_page (λ p. at % p ≡ 0 → at % 8 ≡ 0) (λ z. omega arith) (λ z. omega arith) (λ z. omega arith) (λ z. omega arith) page pages)
    unit is

pub next_place : (unit page at done count n r : ℕ) → IsUnit unit → IsPage page → r ≡ room page (at + done) → (count ≡ n - done) ⊎ (count ≡ r) → done ≤ n
    → (done + count ≡ n) ⊎ ((at + (done + count)) % unit ≡ 0)
next_place unit page at done count n r is pages same either le = elim either [
  | inl all ↦ inl (omega arith)
  | inr full ↦ inr (whole_place unit page (at + (done + count)) is pages
      (ap (λ (k : ℕ). k % page) (let e : at + (done + count) ≡ at + done + room page (at + done) = omega arith in e) ∙ page_next page (at + done) pages))
]

pub page_Calls : (page at done n r : ℕ) (end : End) (a b c : FlashState) → IsPage page → r ≡ room page (at + done) → done < n → Calls (spot at (n + tail page (at + n))) Went a b
    → Calls (spot (at + done) r) end b c → Calls (spot at (n + tail page (at + n))) end a c
page_Calls page at done n r end a b c is same lt f g =
    let below : at + done + room page (at + done) ≤ at + n + tail page (at + n) = room_below page (at + done) (at + n) is (omega arith) in
    Calls-after (spot at (n + tail page (at + n))) end a b c f
    (Calls-wider (spot at (n + tail page (at + n))) (spot (at + done) r) end b c
    (Covers-within (at + done) r at (n + tail page (at + n)) (omega arith) (omega arith)) g)

-- a further page
pub page_laid : (page at done count r : ℕ) (bytes ys : List ℕ) (x y z : Option (List ℕ)) → IsPage page → r ≡ room page (at + done) → 0 < count → count ≤ r → done + count ≤ length bytes
    → ys ≡ take count (drop done bytes) → Told (Laid at (tail page (at + done)) (take done bytes)) x y → Told (Laid (at + done) (r - length ys) ys) y z
    → Told (Laid at (tail page (at + (done + count))) (take (done + count) bytes)) x z
page_laid page at done count r bytes ys x y z is same some fits within part f g =
    let here : ℕ = at + done in
    let small : here % page < page = page_small page here is in
    let long : length ys ≡ count = ap length part ∙ length-take-le count (drop done bytes) (omega (arith, length-drop done bytes)) in
    let e : tail page (at + (done + count)) ≡ r - length ys =
    ap (tail page) (let s : at + (done + count) ≡ here + count = omega arith in s) ∙ tail_inner page here count is some (omega arith) ∙ (λ i. sym same i - sym long i) in
    let le : tail page here ≤ length ys + (r - length ys) = subst (λ (k : ℕ). tail page here ≤ length ys + (k - length ys)) (sym same) (tail_room page here is (length ys)) in
    let P : ℕ → Type 0 = λ rest. Told (Laid at rest (take (done + count) bytes)) x z in
    subst P (sym e) (told_more at (tail page here) (r - length ys) done (take done bytes) ys (take (done + count) bytes) x y z le
    (length-take-le done bytes (omega arith))
    (ap (λ (zs : List ℕ). take done bytes ++ zs) part ∙ sym (take-add done count bytes)) f g)
