-- The whole last page of a slot, after it was erased and a mark or a flag was written to its end.
use Rattle.std.proofs.Common.{◌≡◌, ◌⊎◌, inl, inr, ℕ, ◌+◌, ◌-◌, ◌≤◌, Option, Some, None, List, ◌++◌, refl, sym, ◌∙◌, ap, subst, arith}
use Rattle.std.specs.Prelude.{IfSome}
use Rattle.smp_flash.specs.Area.{area, blank, spot, Keeps, Holds, Fades, Erased, Told}
use Rattle.smp_flash.specs.declared.geometry.Geometry.{Geometry}
use Rattle.smp_flash.specs.declared.layout.Area.{Area}
use Rattle.smp_flash.proofs.Areas.{area-add, blank_within, blank_first, Keeps-trans, Keeps-wider, Clear-within}
use Rattle.smp_flash.proofs.Telling.{Told-trans, Told-map, Told-new}
use Rattle.smp_model.specs.declared.upload.Mark.{Mark}
use Rattle.smp_model.specs.declared.upload.Mark.TheVariants.{Test, Permanent}
use Rattle.smp_slot.specs.Marks.{trailer_magic, flag_bytes, mark_size, mark_end, marked_page, confirmed_page}
use Rattle.smp_slot.specs.Order.{BlankBut, ErasedThenWritten}
use Rattle.smp_slot.specs.Slots.{last_page}
use Rattle.smp_slot.proofs.Ending.{EndPlaced}

-- a part that was erased, and then written in its n bytes from p on
blank_but : (at size p n : ℕ) (old mid new : List ℕ) → at ≤ p → p + n ≤ at + size → Erased at size old mid → Keeps (spot p n) mid new → BlankBut at size p n old new
blank_but at size p n old mid new low high e k =
    let q : ℕ = p + n - at in
    let place : at + q ≡ p + n = omega arith in
    let rest : at + size - (p + n) ≡ size - q = omega arith in
    let shut : area (p + n) (at + size - (p + n)) mid ≡ blank (at + size - (p + n)) =
    subst (λ (m : ℕ). area (p + n) m mid ≡ blank m) (sym rest) (subst (λ (b : ℕ). area b (size - q) mid ≡ blank (size - q)) place (blank_within at size q (size - q) mid (omega arith) e.erased)) in
    record {
      keeps = Keeps-trans (spot at size) old mid new e.fades.keeps (Keeps-wider (spot p n) (spot at size) mid new (λ b m clear. Clear-within p n at size low high b m clear) k);
      before = k.apart at (p - at) (inl (omega arith), tt) ∙ blank_first at size (p - at) mid (omega arith) e.erased;
      behind = k.apart (p + n) (at + size - (p + n)) (inr (omega arith), tt) ∙ shut;
    }

pub told_written : (at size p n : ℕ) (x y z : Option (List ℕ)) → at ≤ p → p + n ≤ at + size → Told (Erased at size) x y → Told (Keeps (spot p n)) y z → Told (ErasedThenWritten at size p n) x z
told_written at size p n x y z low high f k =
    Told-trans (Erased at size) (Keeps (spot p n)) (ErasedThenWritten at size p n) x y z (λ u v w e h. inr (blank_but at size p n u v w low high e h)) f k

pub told_faded : (at size p n : ℕ) (x y : Option (List ℕ)) → Told (Fades at size) x y → Told (ErasedThenWritten at size p n) x y
told_faded at size p n x y f = Told-map (Fades at size) (ErasedThenWritten at size p n) x y (λ u v e. inl e) f

-- what a mark writes lies in the last 24 bytes
pub mark_size_most : (mark : Mark) → mark_size mark ≤ 24
mark_size_most Test = omega arith
mark_size_most Permanent = omega arith

-- the page in two parts
page_parts : (slot : Area) (g : Geometry) (held : List ℕ) → EndPlaced slot g → area (last_page slot g) g.page held ≡ area (last_page slot g) (g.page - 24) held ++ area (slot.at + slot.length - 24) 24 held
page_parts slot g held p =
    let m : ℕ = g.page - 24 in
    let size : g.page ≡ m + 24 = omega (arith, p.page_some) in
    let place : last_page slot g + m ≡ slot.at + slot.length - 24 = omega (arith, p.page_some, p.fits) in
    ap (λ (k : ℕ). area (last_page slot g) k held) size ∙ area-add (last_page slot g) m 24 held ∙ ap (λ (b : ℕ). area (last_page slot g) m held ++ area b 24 held) place

front_blank : (slot : Area) (g : Geometry) (k n : ℕ) (mid new : List ℕ) → EndPlaced slot g → k ≤ 24 → area (last_page slot g) g.page mid ≡ blank g.page
    → Keeps (spot (slot.at + slot.length - k) n) mid new → area (last_page slot g) (g.page - 24) new ≡ blank (g.page - 24)
front_blank slot g k n mid new p most is h =
    h.apart (last_page slot g) (g.page - 24) (inl (omega (arith, p.page_some, p.fits, most)), tt) ∙ blank_first (last_page slot g) g.page (g.page - 24) mid (omega arith) is

-- a mark
page_marked : (slot : Area) (g : Geometry) (mark : Mark) (mid new : List ℕ) → EndPlaced slot g → area (last_page slot g) g.page mid ≡ blank g.page
    → Keeps (spot (slot.at + slot.length - mark_size mark) (mark_size mark)) mid new → area (slot.at + slot.length - 24) 24 new ≡ mark_end mark → area (last_page slot g) g.page new ≡ marked_page g.page mark
page_marked slot g mark mid new p is h e =
    let front = front_blank slot g (mark_size mark) (mark_size mark) mid new p (mark_size_most mark) is h in
    page_parts slot g new p ∙ (λ i. front i ++ e i)

told_erased : (at size : ℕ) (x y : Option (List ℕ)) → Told (Erased at size) x y → IfSome y (λ held. area at size held ≡ blank size)
told_erased at size x y f = Told-new (Erased at size) (λ held. area at size held ≡ blank size) x y (λ u v e. e.erased) f

pub told_marked : (slot : Area) (g : Geometry) (mark : Mark) (x y z : Option (List ℕ)) → EndPlaced slot g → Told (Erased (last_page slot g) g.page) x y
    → Told (Keeps (spot (slot.at + slot.length - mark_size mark) (mark_size mark))) y z → IfSome z (λ held. area (slot.at + slot.length - 24) 24 held ≡ mark_end mark)
    → IfSome z (λ held. area (last_page slot g) g.page held ≡ marked_page g.page mark)
told_marked slot g mark x y z p f k e = go y z (told_erased (last_page slot g) g.page x y f) k e
  where
    go : (b c : Option (List ℕ)) → IfSome b (λ held. area (last_page slot g) g.page held ≡ blank g.page)
        → Told (Keeps (spot (slot.at + slot.length - mark_size mark) (mark_size mark))) b c → IfSome c (λ held. area (slot.at + slot.length - 24) 24 held ≡ mark_end mark)
        → IfSome c (λ held. area (last_page slot g) g.page held ≡ marked_page g.page mark)
    go None None is h e = tt
    go None (Some w) is h e = absurd h
    go (Some v) None is h e = absurd h
    go (Some v) (Some w) is h e = page_marked slot g mark v w p is h e

-- the last 24 bytes in two parts
end_parts : (slot : Area) (held : List ℕ) → 24 ≤ slot.at + slot.length → area (slot.at + slot.length - 24) 24 held ≡ area (slot.at + slot.length - 24) 8 held ++ area (slot.at + slot.length - 16) 16 held
end_parts slot held long =
    let place : slot.at + slot.length - 24 + 8 ≡ slot.at + slot.length - 16 = omega (arith, long) in
    area-add (slot.at + slot.length - 24) 8 16 held ∙ ap (λ (b : ℕ). area (slot.at + slot.length - 24) 8 held ++ area b 16 held) place

-- a flag alone
page_confirmed : (slot : Area) (g : Geometry) (mid new : List ℕ) → EndPlaced slot g → area (last_page slot g) g.page mid ≡ blank g.page
    → Holds (slot.at + slot.length - 24) flag_bytes mid new → area (last_page slot g) g.page new ≡ confirmed_page g.page
page_confirmed slot g mid new p is h =
    let long : 24 ≤ slot.at + slot.length = omega (arith, p.page_some, p.fits) in
    let front = front_blank slot g 24 8 mid new p (omega arith) is h.keeps in
    let q : ℕ = g.page - 16 in
    let place : last_page slot g + q ≡ slot.at + slot.length - 16 = omega (arith, p.page_some, p.fits) in
    let shut : area (slot.at + slot.length - 16) 16 mid ≡ blank 16 = subst (λ (b : ℕ). area b 16 mid ≡ blank 16) place (blank_within (last_page slot g) g.page q 16 mid (omega (arith, p.page_some)) is) in
    let back : area (slot.at + slot.length - 16) 16 new ≡ blank 16 = h.keeps.apart (slot.at + slot.length - 16) 16 (inr (omega (arith, long)), tt) ∙ shut in
    let end : area (slot.at + slot.length - 24) 24 new ≡ flag_bytes ++ blank 16 = end_parts slot new long ∙ (λ i. h.holds i ++ back i) in
    page_parts slot g new p ∙ (λ i. front i ++ end i)

pub told_confirmed : (slot : Area) (g : Geometry) (x y z : Option (List ℕ)) → EndPlaced slot g → Told (Erased (last_page slot g) g.page) x y → Told (Holds (slot.at + slot.length - 24) flag_bytes) y z
    → IfSome z (λ held. area (last_page slot g) g.page held ≡ confirmed_page g.page)
told_confirmed slot g x y z p f h = go y z (told_erased (last_page slot g) g.page x y f) h
  where
    go : (b c : Option (List ℕ)) → IfSome b (λ held. area (last_page slot g) g.page held ≡ blank g.page) → Told (Holds (slot.at + slot.length - 24) flag_bytes) b c
        → IfSome c (λ held. area (last_page slot g) g.page held ≡ confirmed_page g.page)
    go None None is h = tt
    go None (Some w) is h = absurd h
    go (Some v) None is h = absurd h
    go (Some v) (Some w) is h = page_confirmed slot g v w p is h

-- the last 24 bytes after the writes of a mark
pub test_end : (slot : Area) (x y : Option (List ℕ)) → 24 ≤ slot.at + slot.length → IfSome x (λ held. area (slot.at + slot.length - 24) 8 held ≡ blank 8)
    → Told (Holds (slot.at + slot.length - 16) trailer_magic) x y → IfSome y (λ held. area (slot.at + slot.length - 24) 24 held ≡ mark_end Test)
test_end slot None None long clean h = tt
test_end slot None (Some v) long clean h = absurd h
test_end slot (Some u) None long clean h = absurd h
test_end slot (Some u) (Some v) long clean h =
    let flag : area (slot.at + slot.length - 24) 8 v ≡ blank 8 = h.keeps.apart (slot.at + slot.length - 24) 8 (inl (omega (arith, long)), tt) ∙ clean in
    end_parts slot v long ∙ (λ i. flag i ++ h.holds i)

pub permanent_end : (slot : Area) (x y z : Option (List ℕ)) → 24 ≤ slot.at + slot.length → Told (Holds (slot.at + slot.length - 24) flag_bytes) x y
    → Told (Holds (slot.at + slot.length - 16) trailer_magic) y z → IfSome z (λ held. area (slot.at + slot.length - 24) 24 held ≡ mark_end Permanent)
permanent_end slot x y z long f h = go y z (Told-new (Holds (slot.at + slot.length - 24) flag_bytes) (λ held. area (slot.at + slot.length - 24) 8 held ≡ flag_bytes) x y (λ u v e. e.holds) f) h
  where
    go : (b c : Option (List ℕ)) → IfSome b (λ held. area (slot.at + slot.length - 24) 8 held ≡ flag_bytes) → Told (Holds (slot.at + slot.length - 16) trailer_magic) b c
        → IfSome c (λ held. area (slot.at + slot.length - 24) 24 held ≡ mark_end Permanent)
    go None None is h = tt
    go None (Some w) is h = absurd h
    go (Some v) None is h = absurd h
    go (Some v) (Some w) is h =
        let flag : area (slot.at + slot.length - 24) 8 w ≡ flag_bytes = h.keeps.apart (slot.at + slot.length - 24) 8 (inl (omega (arith, long)), tt) ∙ is in
        end_parts slot w long ∙ (λ i. flag i ++ h.holds i)

-- what is kept but the last 24 bytes
pub told_end : (slot : Area) (k n : ℕ) (x y : Option (List ℕ)) → 24 ≤ slot.at + slot.length → n ≤ k → k ≤ 24 → Told (Keeps (spot (slot.at + slot.length - k) n)) x y → Told (Keeps (spot (slot.at + slot.length - 24) 24)) x y
told_end slot k n x y long le most f =
    Told-map (Keeps (spot (slot.at + slot.length - k) n)) (Keeps (spot (slot.at + slot.length - 24) 24)) x y
    (λ u v h. Keeps-wider (spot (slot.at + slot.length - k) n) (spot (slot.at + slot.length - 24) 24) u v
    (λ b m clear. Clear-within (slot.at + slot.length - k) n (slot.at + slot.length - 24) 24 (omega (arith, long, most)) (omega (arith, long, le, most)) b m clear) h) f

pub told_both : (slot : Area) (x y z : Option (List ℕ)) → 24 ≤ slot.at + slot.length → Told (Keeps (spot (slot.at + slot.length - 24) 8)) x y → Told (Keeps (spot (slot.at + slot.length - 16) 16)) y z
    → Told (Keeps (spot (slot.at + slot.length - 24) 24)) x z
told_both slot x y z long f h =
    let wide : ℕ = slot.at + slot.length - 24 in
    Told-trans (Keeps (spot wide 24)) (Keeps (spot wide 24)) (Keeps (spot wide 24)) x y z (λ u v w a b. Keeps-trans (spot wide 24) u v w a b)
    (told_end slot 24 8 x y long (omega arith) (omega arith) f) (told_end slot 16 16 y z long (omega arith) (omega arith) h)
