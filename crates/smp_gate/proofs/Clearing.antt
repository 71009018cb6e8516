-- A side is erased page by page.
use Rattle.std.proofs.Common.{◌≡◌, inl, inr, ℕ, zero, suc, sym, subst, Some, None, ◌+◌, ◌*◌, ◌/◌, ◌%◌, ◌<◌, ◌≤◌, Option, List, ◌++◌, take, drop, refl, ◌∙◌, ap, arith}
use Rattle.std.proofs.lemmas.List.{replicate-append-replicate, drop-drop}
use Rattle.std.proofs.Math.Seq.{take-add}
use Rattle.std.proofs.Math.Nat.{mul-le-mul_right, mul_comm}
use Rattle.std.proofs.lemmas.Nat.{rows}
use Rattle.smp_flash.specs.Area.{area, blank, dirty, dirty_pages, spot, Fades, Erased, Told}
use Rattle.smp_flash.proofs.Areas.{Keeps-refl, Keeps-trans, Keeps-wider, Clear-within, Faded-refl, Faded-trans, Faded-area}
use Rattle.smp_flash.proofs.Telling.{Told-trans, Told-map, Told-same}
use Rattle.std.specs.Prelude.{IfSome}
use Rattle.smp_flash.specs.State.{Changes}
use Rattle.smp_flash.specs.Calls.{ChangesAtMost}
use Rattle.smp_flash.proofs.Passing.{changes_add, changes_more, changes_none}
use Rattle.smp_gate.specs.Step.{InOrder, Quiet}
use Rattle.smp_gate.proofs.Sides.{AtMost-faded}

-- the first bytes of the side are erased, the others as before or erased
pub record Partly (at done : ℕ) (old new : List ℕ) : Type 0 where
  pub fades : Fades at 4096 old new
  pub erased : area at done new ≡ blank done
  pub behind : (p n : ℕ) → done ≤ p → p + n ≤ 4096 → area (at + p) n new ≡ area (at + p) n old

pub Partly-none : (at : ℕ) (old : List ℕ) → Partly at 0 old old
Partly-none at old = record { fades = record { keeps = Keeps-refl (spot at 4096) old; faded = Faded-refl old }; erased = refl; behind = λ p n low high. refl }

-- a further page, whatever became of it
pub Fades-then : (at done page : ℕ) (old mid new : List ℕ) → done + page ≤ 4096 → Fades at 4096 old mid → Fades (at + done) page mid new → Fades at 4096 old new
Fades-then at done page old mid new le f g = record {
  keeps = Keeps-trans (spot at 4096) old mid new f.keeps
      (Keeps-wider (spot (at + done) page) (spot at 4096) mid new (λ p m clear. Clear-within (at + done) page at 4096 (omega arith) (omega arith) p m clear) g.keeps);
  faded = Faded-trans old mid new f.faded g.faded;
}

pub Partly-more : (at done page : ℕ) (old mid new : List ℕ) → done + page ≤ 4096 → Partly at done old mid → Erased (at + done) page mid new → Partly at (done + page) old new
Partly-more at done page old mid new le p e = record {
  fades = Fades-then at done page old mid new le p.fades e.fades;
  erased =
      take-add done page (drop at new)
      ∙ ap (λ (xs : List ℕ). xs ++ take page (drop done (drop at new))) (e.fades.keeps.apart at done (inl (omega arith), tt) ∙ p.erased)
      ∙ ap (λ (xs : List ℕ). blank done ++ take page xs) (drop-drop done at new)
      ∙ ap (λ (xs : List ℕ). blank done ++ xs) e.erased
      ∙ replicate-append-replicate done page 255;
  behind = λ q n low high. e.fades.keeps.apart (at + q) n (inr (omega arith), tt) ∙ p.behind q n (omega arith) high;
}

pub Quiet-faded : (at : ℕ) (old new : List ℕ) → Fades at 4096 old new → Quiet at old new
Quiet-faded at old new f = record { keeps = f.keeps; most = λ n most. AtMost-faded n (area at 4096 old) (area at 4096 new) (Faded-area at 4096 old new f.faded) most }

-- where the bytes are told
pub told_none : (at : ℕ) (x : Option (List ℕ)) → Told (Partly at 0) x x
told_none at x = Told-same (Partly at 0) x x (λ u. Partly-none at u) refl

pub told_more : (at done page : ℕ) (x y z : Option (List ℕ)) → done + page ≤ 4096 → Told (Partly at done) x y → Told (Erased (at + done) page) y z → Told (Partly at (done + page)) x z
told_more at done page x y z le f g = Told-trans (Partly at done) (Erased (at + done) page) (Partly at (done + page)) x y z (λ u v w p e. Partly-more at done page u v w le p e) f g

pub told_quiet : (at done page : ℕ) (x y z : Option (List ℕ)) → done + page ≤ 4096 → Told (Partly at done) x y → Told (Fades (at + done) page) y z → Told (Quiet at) x z
told_quiet at done page x y z le f g = Told-trans (Partly at done) (Fades (at + done) page) (Quiet at) x y z (λ u v w p e. Quiet-faded at u w (Fades-then at done page u v w le p.fades e)) f g

-- a page that is torn leaves those behind it
pub told_order : (at done page : ℕ) (x y z : Option (List ℕ)) → done + page ≤ 4096 → Told (Partly at done) x y → Told (Fades (at + done) page) y z → Told (InOrder at page) x z
told_order at done page x y z le f g =
    Told-trans (Partly at done) (Fades (at + done) page) (InOrder at page) x y z
    (λ u v w p e. record {
      done = done;
      erased = e.keeps.apart at done (inl (omega arith), tt) ∙ p.erased;
      behind = λ q n low high. e.keeps.apart (at + q) n (inr (omega arith), tt) ∙ p.behind q n (omega arith) high;
    }) f g

pub told_all_order : (at page : ℕ) (x y : Option (List ℕ)) → Told (Partly at 4096) x y → Told (InOrder at page) x y
told_all_order at page x y f =
    Told-map (Partly at 4096) (InOrder at page) x y (λ u v p. record { done = 4096; erased = p.erased; behind = λ q n low high. p.behind q n (omega arith) high }) f

-- dirty pages, one after the other
pub dirty_more : (page at n : ℕ) (bytes : List ℕ) → dirty_pages page at (n + 1) bytes ≡ dirty_pages page at n bytes + dirty page (area (at + n * page) page bytes)
dirty_more page at zero bytes =
    let e : at ≡ at + 0 * page = omega arith in
    ap (λ (p : ℕ). dirty page (area p page bytes) + 0) e ∙ omega arith
dirty_more page at (suc n) bytes =
    let e : at + page + n * page ≡ at + suc n * page = omega arith in
    let m : suc n + 1 ≡ suc (n + 1) = omega arith in
    ap (λ (k : ℕ). dirty_pages page at k bytes) m
    ∙ ap (λ (k : ℕ). dirty page (area at page bytes) + k) (dirty_more page (at + page) n bytes)
    ∙ ap (λ (p : ℕ). dirty page (area at page bytes) + (dirty_pages page (at + page) n bytes + dirty page (area p page bytes))) e
    ∙ omega arith

pub dirty_most : (page at n m : ℕ) (bytes : List ℕ) → n ≤ m → dirty_pages page at n bytes ≤ dirty_pages page at m bytes
dirty_most page at zero m bytes le = omega arith
dirty_most page at (suc n) zero bytes le = absurd (omega (arith, le))
dirty_most page at (suc n) (suc m) bytes le = omega (arith, dirty_most page (at + page) n m bytes (omega (arith, le)))

-- the erases of one page more, which was as it is at the start
pub erases_more : (at page i : ℕ) (x y : Option (List ℕ)) (p q r : Option Changes) → i * page + page ≤ 4096 → Told (Partly at (i * page)) x y
    → IfSome x (λ held. ChangesAtMost 0 (dirty_pages page at i held) p q)
    → IfSome y (λ held. ChangesAtMost 0 (dirty page (area (at + i * page) page held)) q r)
    → IfSome x (λ held. ChangesAtMost 0 (dirty_pages page at (i + 1) held) p r)
erases_more at page i None None p q r le partly before one = tt
erases_more at page i None (Some y) p q r le partly before one = absurd partly
erases_more at page i (Some x) None p q r le partly before one = absurd partly
erases_more at page i (Some x) (Some y) p q r le partly before one =
    let same : area (at + i * page) page y ≡ area (at + i * page) page x = partly.behind (i * page) page (omega arith) le in
    let here : ChangesAtMost 0 (dirty page (area (at + i * page) page x)) q r = subst (λ (xs : List ℕ). ChangesAtMost 0 (dirty page xs) q r) same one in
    subst (λ (n : ℕ). ChangesAtMost 0 n p r) (sym (dirty_more page at i x))
    (changes_add 0 0 (dirty_pages page at i x) (dirty page (area (at + i * page) page x)) p q r before here)

pub erases_less : (at page i n : ℕ) (x : Option (List ℕ)) (p q : Option Changes) → i ≤ n → IfSome x (λ held. ChangesAtMost 0 (dirty_pages page at i held) p q)
    → IfSome x (λ held. ChangesAtMost 0 (dirty_pages page at n held) p q)
erases_less at page i n None p q le f = tt
erases_less at page i n (Some x) p q le f = changes_more 0 0 (dirty_pages page at i x) (dirty_pages page at n x) p q (omega arith) (dirty_most page at i n x le) f

pub erases_none : (at page : ℕ) (x : Option (List ℕ)) (p : Option Changes) → IfSome x (λ held. ChangesAtMost 0 (dirty_pages page at 0 held) p p)
erases_none at page None p = tt
erases_none at page (Some x) p = changes_none p

pub told_erased : (at : ℕ) (x y : Option (List ℕ)) → Told (Partly at 4096) x y → Told (Erased at 4096) x y
told_erased at x y f = Told-map (Partly at 4096) (Erased at 4096) x y (λ u v p. record { fades = p.fades; erased = p.erased }) f

pub told_all_quiet : (at : ℕ) (x y : Option (List ℕ)) → Told (Partly at 4096) x y → Told (Quiet at) x y
told_all_quiet at x y f = Told-map (Partly at 4096) (Quiet at) x y (λ u v p. Quiet-faded at u v p.fades) f

pub page_fits : (i page : ℕ) → 0 < page → i < 4096 / page → i * page + page ≤ 4096
page_fits i page some lt = grind (arith, rows, mul-le-mul_right page (let le : i + 1 ≤ 4096 / page = omega arith in le))

pub pages_end : (i page : ℕ) → 0 < page → 4096 % page ≡ 0 → i ≡ 4096 / page → i * page ≡ 4096
pages_end i page some divides is = grind (arith, rows, ap (λ (k : ℕ). k * page) is, mul_comm page (4096 / page))
