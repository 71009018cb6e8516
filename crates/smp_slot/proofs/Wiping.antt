-- Pages are erased, one behind the other.
use Rattle.std.proofs.Common.{◌≡◌, inl, inr, ℕ, zero, suc, ◌+◌, ◌-◌, ◌*◌, ◌/◌, ◌%◌, ◌<◌, ◌≤◌, Option, Some, None, List, ◌++◌, take, drop, refl, sym, ◌∙◌, ap, subst, arith}
use Rattle.std.proofs.lemmas.List.{replicate-append-replicate, drop-drop}
use Rattle.std.proofs.Math.Seq.{take-add}
use Rattle.smp_flash.specs.Area.{area, blank, dirty, dirty_pages, spot, Fades, Erased, Told}
use Rattle.smp_flash.specs.Geometry.{IsPage}
use Rattle.smp_flash.specs.State.{FlashState, End, Changes}
use Rattle.smp_flash.specs.State.End.{Went}
use Rattle.smp_flash.specs.Calls.{Calls, ChangesAtMost}
use Rattle.smp_flash.proofs.Areas.{Keeps-refl, Keeps-trans, Keeps-wider, Clear-within, Faded-refl, Faded-trans}
use Rattle.smp_flash.proofs.Passing.{Calls-after, Calls-wider, Covers-within, changes_add, changes_more, changes_none}
use Rattle.smp_flash.proofs.Sizes.{each_page}
use Rattle.smp_flash.proofs.Telling.{Told-trans, Told-map, Told-same}
use Rattle.std.specs.Prelude.{IfSome}
use Rattle.smp_slot.specs.Order.{ErasedInOrder}

-- the first bytes of the part are erased, and those behind them are as before
pub record Partly (at size done : ℕ) (old new : List ℕ) : Type 0 where
  pub fades : Fades at size old new
  pub erased : area at done new ≡ blank done
  pub behind : (p n : ℕ) → done ≤ p → p + n ≤ size → area (at + p) n new ≡ area (at + p) n old

Partly-none : (at size : ℕ) (old : List ℕ) → Partly at size 0 old old
Partly-none at size old = record { fades = record { keeps = Keeps-refl (spot at size) old; faded = Faded-refl old }; erased = refl; behind = λ p n low high. refl }

-- a further page, whatever became of it
Fades-then : (at size done page : ℕ) (old mid new : List ℕ) → done + page ≤ size → Fades at size old mid → Fades (at + done) page mid new → Fades at size old new
Fades-then at size done page old mid new le f g = record {
  keeps = Keeps-trans (spot at size) old mid new f.keeps
      (Keeps-wider (spot (at + done) page) (spot at size) mid new (λ p m clear. Clear-within (at + done) page at size (omega arith) (omega arith) p m clear) g.keeps);
  faded = Faded-trans old mid new f.faded g.faded;
}

Partly-more : (at size done page : ℕ) (old mid new : List ℕ) → done + page ≤ size → Partly at size done old mid → Erased (at + done) page mid new → Partly at size (done + page) old new
Partly-more at size done page old mid new le p e = record {
  fades = Fades-then at size done page old mid new le p.fades e.fades;
  erased =
      take-add done page (drop at new)
      ∙ ap (λ (xs : List ℕ). xs ++ take page (drop done (drop at new))) (e.fades.keeps.apart at done (inl (omega arith), tt) ∙ p.erased)
      ∙ ap (λ (xs : List ℕ). blank done ++ take page xs) (drop-drop done at new)
      ∙ ap (λ (xs : List ℕ). blank done ++ xs) e.erased
      ∙ replicate-append-replicate done page 255;
  behind = λ q n low high. e.fades.keeps.apart (at + q) n (inr (omega arith), tt) ∙ p.behind q n (omega arith) high;
}

-- a page fits where there is one more to do
pub page_fits : (page done size : ℕ) → IsPage page → done % page ≡ 0 → size % page ≡ 0 → done < size → done + page ≤ size
page_fits page done size is a b lt = each_page (λ p. done % p ≡ 0 → size % p ≡ 0 → done + p ≤ size) (λ x y. omega (arith, lt)) (λ x y. omega (arith, lt)) (λ x y. omega (arith, lt)) (λ x y. omega (arith, lt)) page is a b

pub page_whole : (page done : ℕ) → IsPage page → done % page ≡ 0 → (done + page) % page ≡ 0
page_whole page done is a = each_page (λ p. done % p ≡ 0 → (done + p) % p ≡ 0) (λ x. omega arith) (λ x. omega arith) (λ x. omega arith) (λ x. omega arith) page is a

pub page_begins : (page at done : ℕ) → IsPage page → at % page ≡ 0 → done % page ≡ 0 → (at + done) % page ≡ 0
page_begins page at done is a b = each_page (λ p. at % p ≡ 0 → done % p ≡ 0 → (at + done) % p ≡ 0) (λ x y. omega arith) (λ x y. omega arith) (λ x y. omega arith) (λ x y. omega arith) page is a b

pub page_more : (page done : ℕ) → IsPage page → done / page + 1 ≡ (done + page) / page
page_more page done is = each_page (λ p. done / p + 1 ≡ (done + p) / p) (omega arith) (omega arith) (omega arith) (omega arith) page is

pub pages_most : (page done size : ℕ) → IsPage page → done ≤ size → done / page ≤ size / page
pages_most page done size is le = each_page (λ p. done / p ≤ size / p) (omega arith) (omega arith) (omega arith) (omega arith) page is

pub page_Calls : (at size done page : ℕ) (end : End) (a b c : FlashState) → done + page ≤ size → Calls (spot at size) Went a b → Calls (spot (at + done) page) end b c → Calls (spot at size) end a c
page_Calls at size done page end a b c le f g =
    Calls-after (spot at size) end a b c f (Calls-wider (spot at size) (spot (at + done) page) end b c (Covers-within (at + done) page at size (omega arith) (omega arith)) g)

-- where the bytes are told
pub told_none : (at size : ℕ) (x : Option (List ℕ)) → Told (Partly at size 0) x x
told_none at size x = Told-same (Partly at size 0) x x (λ u. Partly-none at size u) refl

pub told_more : (at size done page : ℕ) (x y z : Option (List ℕ)) → done + page ≤ size → Told (Partly at size done) x y → Told (Erased (at + done) page) y z → Told (Partly at size (done + page)) x z
told_more at size done page x y z le f g = Told-trans (Partly at size done) (Erased (at + done) page) (Partly at size (done + page)) x y z (λ u v w p e. Partly-more at size done page u v w le p e) f g

pub told_fades : (at size done page : ℕ) (x y z : Option (List ℕ)) → done + page ≤ size → Told (Partly at size done) x y → Told (Fades (at + done) page) y z → Told (Fades at size) x z
told_fades at size done page x y z le f g = Told-trans (Partly at size done) (Fades (at + done) page) (Fades at size) x y z (λ u v w p e. Fades-then at size done page u v w le p.fades e) f g

pub told_all : (at size done : ℕ) (x y : Option (List ℕ)) → done ≡ size → Told (Partly at size done) x y → Told (Erased at size) x y
told_all at size done x y all f = Told-map (Partly at size done) (Erased at size) x y (λ u v p. record { fades = p.fades; erased = subst (λ (n : ℕ). area at n v ≡ blank n) all p.erased }) f

pub told_faded : (at size done : ℕ) (x y : Option (List ℕ)) → Told (Partly at size done) x y → Told (Fades at size) x y
told_faded at size done x y f = Told-map (Partly at size done) (Fades at size) x y (λ u v p. p.fades) f

pub none_whole : (page : ℕ) → IsPage page → 0 % page ≡ 0
none_whole page is = each_page (λ p. 0 % p ≡ 0) refl refl refl refl page is

pub none_more : (page : ℕ) → IsPage page → 0 ≡ 0 / page
none_more page is = each_page (λ p. 0 ≡ 0 / p) refl refl refl refl page is

-- a page that is torn leaves those behind it
pub told_order : (at size done page : ℕ) (x y z : Option (List ℕ)) → done % page ≡ 0 → Told (Partly at size done) x y → Told (Fades (at + done) page) y z → Told (ErasedInOrder page at size) x z
told_order at size done page x y z whole f g =
    Told-trans (Partly at size done) (Fades (at + done) page) (ErasedInOrder page at size) x y z
    (λ u v w p e. record {
      done = done;
      whole = whole;
      erased = e.keeps.apart at done (inl (omega arith), tt) ∙ p.erased;
      behind = λ q n low high. e.keeps.apart (at + q) n (inr (omega arith), tt) ∙ p.behind q n (omega arith) high;
    }) f g

pub told_all_order : (at size done page : ℕ) (x y : Option (List ℕ)) → done % page ≡ 0 → Told (Partly at size done) x y → Told (ErasedInOrder page at size) x y
told_all_order at size done page x y whole f =
    Told-map (Partly at size done) (ErasedInOrder page at size) x y (λ u v p. record { done = done; whole = whole; erased = p.erased; behind = λ q n low high. p.behind q n (omega arith) high }) f

-- dirty pages, one after the other
pub dirty_more : (page at n : ℕ) (bytes : List ℕ) → dirty_pages page at (n + 1) bytes ≡ dirty_pages page at n bytes + dirty page (area (at + n * page) page bytes)
dirty_more page at zero bytes =
    let e : at ≡ at + 0 * page = omega arith in
    ap (λ (p : ℕ). dirty page (area p page bytes) + 0) e ∙ omega arith
dirty_more page at (suc n) bytes =
    let e : at + page + n * page ≡ at + suc n * page = omega arith in
    let m : suc n + 1 ≡ suc (n + 1) = omega arith in
    ap (λ (k : ℕ). dirty_pages page at k bytes) m
    ∙ ap (λ (k : ℕ). dirty page (area at page bytes) + k) (dirty_more page (at + page) n bytes)
    ∙ ap (λ (p : ℕ). dirty page (area at page bytes) + (dirty_pages page (at + page) n bytes + dirty page (area p page bytes))) e
    ∙ omega arith

pub dirty_most : (page at n m : ℕ) (bytes : List ℕ) → n ≤ m → dirty_pages page at n bytes ≤ dirty_pages page at m bytes
dirty_most page at zero m bytes le = omega arith
dirty_most page at (suc n) zero bytes le = absurd (omega (arith, le))
dirty_most page at (suc n) (suc m) bytes le = omega (arith, dirty_most page (at + page) n m bytes (omega (arith, le)))

-- whole pages
pub pages_back : (page done : ℕ) → IsPage page → done % page ≡ 0 → done / page * page ≡ done
pages_back page done is whole = each_page (λ p. done % p ≡ 0 → done / p * p ≡ done) (λ z. omega arith) (λ z. omega arith) (λ z. omega arith) (λ z. omega arith) page is whole

-- the erases of one page more, which was as it is at the start
pub erases_page : (at size done page : ℕ) (x y : Option (List ℕ)) (p q r : Option Changes) → IsPage page → done % page ≡ 0 → done + page ≤ size → Told (Partly at size done) x y
    → IfSome x (λ held. ChangesAtMost 0 (dirty_pages page at (done / page) held) p q)
    → IfSome y (λ held. ChangesAtMost 0 (dirty page (area (at + done) page held)) q r)
    → IfSome x (λ held. ChangesAtMost 0 (dirty_pages page at ((done + page) / page) held) p r)
erases_page at size done page None None p q r is whole le partly before one = tt
erases_page at size done page None (Some y) p q r is whole le partly before one = absurd partly
erases_page at size done page (Some x) None p q r is whole le partly before one = absurd partly
erases_page at size done page (Some x) (Some y) p q r is whole le partly before one =
    let same : area (at + done) page y ≡ area (at + done) page x = partly.behind done page (omega arith) le in
    let place : at + done ≡ at + done / page * page = ap (λ (k : ℕ). at + k) (sym (pages_back page done is whole)) in
    let here : ChangesAtMost 0 (dirty page (area (at + done / page * page) page x)) q r =
    subst (λ (k : ℕ). ChangesAtMost 0 (dirty page (area k page x)) q r) place (subst (λ (xs : List ℕ). ChangesAtMost 0 (dirty page xs) q r) same one) in
    subst (λ (n : ℕ). ChangesAtMost 0 n p r) (sym (dirty_more page at (done / page) x) ∙ ap (λ (k : ℕ). dirty_pages page at k x) (page_more page done is))
    (changes_add 0 0 (dirty_pages page at (done / page) x) (dirty page (area (at + done / page * page) page x)) p q r before here)

pub erases_all : (at page m n : ℕ) (x : Option (List ℕ)) (p q : Option Changes) → m ≤ n → IfSome x (λ held. ChangesAtMost 0 (dirty_pages page at m held) p q)
    → IfSome x (λ held. ChangesAtMost 0 (dirty_pages page at n held) p q)
erases_all at page m n None p q le f = tt
erases_all at page m n (Some x) p q le f = changes_more 0 0 (dirty_pages page at m x) (dirty_pages page at n x) p q (omega arith) (dirty_most page at m n x le) f

pub erases_none : (at page : ℕ) (x : Option (List ℕ)) (p : Option Changes) → IsPage page → IfSome x (λ held. ChangesAtMost 0 (dirty_pages page at (0 / page) held) p p)
erases_none at page None p is = tt
erases_none at page (Some x) p is = subst (λ (n : ℕ). ChangesAtMost 0 (dirty_pages page at n x) p p) (none_more page is) (changes_none p)
