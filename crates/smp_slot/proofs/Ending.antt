-- A slot's last page: what erases, torn or not, and writes at its end leave of the marks.
use Rattle.std.proofs.Common.{◌≡◌, ◌⊎◌, inl, inr, ℕ, ◌+◌, ◌-◌, ◌*◌, ◌%◌, ◌<◌, ◌≤◌, Bool, true, false, Option, Some, None, List, [], ◌∷◌, length, take, drop, refl, sym, ◌∙◌, ap, subst, arith}
use Rattle.std.specs.Prelude.{IfSome}
use Rattle.std.specs.Str.{bytes_eq}
use Rattle.std.proofs.lemmas.Slice.Eq.{bytes_eq-Decides}
use Rattle.std.proofs.lemmas.List.{take-take, drop-take, drop-drop}
use Rattle.smp_flash.specs.Area.{area, blank, spot, Keeps, Holds, Faded, Fades, Erased, Told}
use Rattle.smp_flash.specs.Geometry.{slot_size, size_of, IsPage, IsUnit, Regular}
use Rattle.smp_flash.specs.State.{FlashState, End}
use Rattle.smp_flash.specs.State.End.{Went}
use Rattle.smp_flash.specs.Calls.{Calls}
use Rattle.smp_flash.specs.declared.geometry.Geometry.{Geometry}
use Rattle.smp_flash.specs.declared.layout.Area.{Area}
use Rattle.smp_flash.proofs.Areas.{area-area, blank_within, Faded-area}
use Rattle.smp_flash.proofs.Passing.{Calls-after, Calls-wider, Covers-within}
use Rattle.smp_flash.proofs.Sizes.{each_page, each_unit}
use Rattle.smp_model.specs.declared.upload.Mark.{Mark}
use Rattle.smp_model.specs.declared.upload.Mark.TheVariants.{Test, Permanent}
use Rattle.smp_slot.specs.Marks.{trailer_magic, flag_bytes, is_marked, is_flagged, mark_by, mark_in, MarkOrNone}
use Rattle.smp_slot.specs.Slots.{IsSlot, last_page}

-- where a slot's end lies
pub record EndPlaced (slot : Area) (g : Geometry) : Type 0 where
  pub page_some : 512 ≤ g.page
  pub fits : g.page ≤ slot.length
  pub begins : (slot.at + slot.length - g.page) % g.page ≡ 0
  pub inside : slot.at + slot.length ≤ size_of g
  pub units : (slot.at + slot.length - 24) % g.unit ≡ 0
  pub magic_units : (slot.at + slot.length - 16) % g.unit ≡ 0
  pub small : size_of g ≤ 2 * 16777216

eights : (page s n : ℕ) → IsPage page → s % page ≡ 0 → n % page ≡ 0 → (s + n) % 8 ≡ 0
eights page s n is a b = each_page (λ p. s % p ≡ 0 → n % p ≡ 0 → (s + n) % 8 ≡ 0) (λ x y. omega arith) (λ x y. omega arith) (λ x y. omega arith) (λ x y. omega arith) page is a b

last_begins : (page s n : ℕ) → IsPage page → s % page ≡ 0 → n % page ≡ 0 → page ≤ n → (s + n - page) % page ≡ 0
last_begins page s n is a b = each_page (λ p. s % p ≡ 0 → n % p ≡ 0 → p ≤ n → (s + n - p) % p ≡ 0) (λ x y le. omega arith) (λ x y le. omega arith) (λ x y le. omega arith) (λ x y le. omega arith) page is a b

units_of : (unit e k : ℕ) → IsUnit unit → e % 8 ≡ 0 → (e - 8 * k) % unit ≡ 0
units_of unit e k is z = each_unit (λ u. (e - 8 * k) % u ≡ 0) (omega arith) (omega (arith, z)) (omega (arith, z)) (omega (arith, z)) unit is

pub end_placed : (slot : Area) (g : Geometry) → Regular g → IsSlot slot g → EndPlaced slot g
end_placed slot g r is =
    let long : slot.length % g.page ≡ 0 = ap (λ (n : ℕ). n % g.page) is.long ∙ r.slot_whole in
    let least : 512 ≤ g.page = each_page (λ p. 512 ≤ p) (omega arith) (omega arith) (omega arith) (omega arith) g.page r.is_page in
    let fits : g.page ≤ slot.length = omega (arith, is.long, r.slot_least) in
    let e : (slot.at + slot.length) % 8 ≡ 0 = eights g.page slot.at slot.length r.is_page is.begins long in
    record {
      page_some = least;
      fits = fits;
      begins = last_begins g.page slot.at slot.length r.is_page is.begins long fits;
      inside = is.inside;
      units = units_of g.unit (slot.at + slot.length) 3 r.is_unit e;
      magic_units = units_of g.unit (slot.at + slot.length) 2 r.is_unit e;
      small = omega (arith, r.size_most);
    }

-- a part at the slot's end, as the last bytes of the last page
pub end_blank : (slot : Area) (g : Geometry) (k n : ℕ) (held : List ℕ) → EndPlaced slot g → n ≤ k → k ≤ 24 → area (last_page slot g) g.page held ≡ blank g.page → area (slot.at + slot.length - k) n held ≡ blank n
end_blank slot g k n held p le most is =
    let e : slot.at + slot.length - g.page + (g.page - k) ≡ slot.at + slot.length - k = omega (arith, p.page_some, p.fits) in
    subst (λ (q : ℕ). area q n held ≡ blank n) e (blank_within (last_page slot g) g.page (g.page - k) n held (omega (arith, p.page_some)) is)

pub told_blank : (slot : Area) (g : Geometry) (k n : ℕ) (x y : Option (List ℕ)) → EndPlaced slot g → n ≤ k → k ≤ 24 → Told (Erased (last_page slot g) g.page) x y → IfSome y (λ held. area (slot.at + slot.length - k) n held ≡ blank n)
told_blank slot g k n None None p le most f = tt
told_blank slot g k n None (Some v) p le most f = absurd f
told_blank slot g k n (Some u) None p le most f = absurd f
told_blank slot g k n (Some u) (Some v) p le most f = end_blank slot g k n v p le most f.erased

-- what begins in the last page
pub end_Calls : (slot : Area) (g : Geometry) (k n : ℕ) (end : End) (a b c : FlashState) → EndPlaced slot g → n ≤ k → k ≤ 24 → Calls (spot (last_page slot g) g.page) Went a b
    → Calls (spot (slot.at + slot.length - k) n) end b c → Calls (spot (last_page slot g) g.page) end a c
end_Calls slot g k n end a b c p le most f h =
    Calls-after (spot (last_page slot g) g.page) end a b c f
    (Calls-wider (spot (last_page slot g) g.page) (spot (slot.at + slot.length - k) n) end b c
    (Covers-within (slot.at + slot.length - k) n (last_page slot g) g.page (omega (arith, p.page_some, p.fits)) (omega (arith, p.page_some, p.fits, le, most))) h)

-- a flag that was written
flag_front : (at : ℕ) (held : List ℕ) → area at 8 held ≡ flag_bytes → area at 1 held ≡ 1 ∷ []
flag_front at held is = sym (take-take 1 8 (drop at held) (omega arith)) ∙ ap (take 1) is

eq_is : (xs ys : List ℕ) → xs ≡ ys → bytes_eq xs ys ≡ true
eq_is xs ys e = (bytes_eq-Decides xs ys).1 e

pub flagged_after : (slot : Area) (x y : Option (List ℕ)) → Told (Holds (slot.at + slot.length - 24) flag_bytes) x y → IfSome y (λ held. is_flagged slot held ≡ true)
flagged_after slot None None f = tt
flagged_after slot None (Some v) f = absurd f
flagged_after slot (Some u) None f = absurd f
flagged_after slot (Some u) (Some v) f = eq_is (area (slot.at + slot.length - 24) 1 v) (1 ∷ []) (flag_front (slot.at + slot.length - 24) v f.holds)

-- the mark that the last 24 bytes make
pub mark_read : (slot : Area) (found : List ℕ) (mark : Option Mark) (x : Option (List ℕ)) → 24 ≤ slot.at + slot.length → mark ≡ mark_by (bytes_eq (drop 8 found) trailer_magic) (bytes_eq (take 1 found) (1 ∷ []))
    → IfSome x (λ held. found ≡ area (slot.at + slot.length - 24) 24 held) → IfSome x (λ held. mark ≡ mark_in slot held)
mark_read slot found mark None long by is = tt
mark_read slot found mark (Some x) long by is =
    let p : ℕ = slot.at + slot.length - 24 in
    let e : p + 8 ≡ slot.at + slot.length - 16 = omega (arith, long) in
    let back : drop 8 found ≡ area (slot.at + slot.length - 16) 16 x =
    ap (drop 8) is ∙ drop-take 8 16 (drop p x) ∙ ap (take 16) (drop-drop 8 p x) ∙ ap (λ (q : ℕ). area q 16 x) e in
    let front : take 1 found ≡ area p 1 x = ap (take 1) is ∙ take-take 1 24 (drop p x) (omega arith) in
    by ∙ (λ i. mark_by (bytes_eq (back i) trailer_magic) (bytes_eq (front i) (1 ∷ [])))

-- a permanent mark has its flag
abbrev pub is_permanent : Mark → Bool
is_permanent Test = false
is_permanent Permanent = true

mark_cases : (m f : Bool) (mark : Mark) → f ≡ is_permanent mark → (mark_by m f ≡ None) ⊎ (mark_by m f ≡ Some mark)
mark_cases false f mark e = inl refl
mark_cases true false Test e = inr refl
mark_cases true false Permanent e = absurd (cc e)
mark_cases true true Test e = absurd (cc e)
mark_cases true true Permanent e = inr refl

mark_marked : (f : Bool) (mark : Mark) → f ≡ is_permanent mark → mark_by true f ≡ Some mark
mark_marked false Test e = refl
mark_marked false Permanent e = absurd (cc e)
mark_marked true Test e = absurd (cc e)
mark_marked true Permanent e = refl

-- the magic's write keeps the flag
flag_kept : (slot : Area) (old new : List ℕ) → 24 ≤ slot.at + slot.length → Keeps (spot (slot.at + slot.length - 16) 16) old new → is_flagged slot new ≡ is_flagged slot old
flag_kept slot old new long k = ap (λ (xs : List ℕ). bytes_eq xs (1 ∷ [])) (k.apart (slot.at + slot.length - 24) 1 (inl (omega (arith, long)), tt))

magic_either : (slot : Area) (mark : Mark) (old new : List ℕ) → 24 ≤ slot.at + slot.length → is_flagged slot old ≡ is_permanent mark → Keeps (spot (slot.at + slot.length - 16) 16) old new → MarkOrNone slot mark new
magic_either slot mark old new long flag k = mark_cases (is_marked slot new) (is_flagged slot new) mark (flag_kept slot old new long k ∙ flag)

magic_stands : (slot : Area) (mark : Mark) (old new : List ℕ) → 24 ≤ slot.at + slot.length → is_flagged slot old ≡ is_permanent mark → Holds (slot.at + slot.length - 16) trailer_magic old new → mark_in slot new ≡ Some mark
magic_stands slot mark old new long flag h =
    ap (λ (m : Bool). mark_by m (is_flagged slot new)) (eq_is (area (slot.at + slot.length - 16) 16 new) trailer_magic h.holds)
    ∙ mark_marked (is_flagged slot new) mark (flag_kept slot old new long h.keeps ∙ flag)

-- an erased end is no mark, whatever became of the flag
unmarked_blank : (slot : Area) (held : List ℕ) → area (slot.at + slot.length - 16) 16 held ≡ blank 16 → mark_in slot held ≡ None
unmarked_blank slot held is = ap (λ (xs : List ℕ). mark_by (bytes_eq xs trailer_magic) (is_flagged slot held)) is

unflagged_blank : (slot : Area) (held : List ℕ) → area (slot.at + slot.length - 24) 8 held ≡ blank 8 → is_flagged slot held ≡ false
unflagged_blank slot held is = ap (λ (xs : List ℕ). bytes_eq xs (1 ∷ [])) (sym (take-take 1 8 (drop (slot.at + slot.length - 24) held) (omega arith)) ∙ ap (take 1) is)

magic_apart : (slot : Area) (old new : List ℕ) → 24 ≤ slot.at + slot.length → Keeps (spot (slot.at + slot.length - 24) 8) old new → area (slot.at + slot.length - 16) 16 new ≡ area (slot.at + slot.length - 16) 16 old
magic_apart slot old new long k = k.apart (slot.at + slot.length - 16) 16 (inr (omega (arith, long)), tt)

-- where the bytes are told: a test mark
pub test_either : (slot : Area) (x y : Option (List ℕ)) → 24 ≤ slot.at + slot.length → IfSome x (λ held. area (slot.at + slot.length - 24) 8 held ≡ blank 8)
    → Told (Keeps (spot (slot.at + slot.length - 16) 16)) x y → IfSome y (MarkOrNone slot Test)
test_either slot None None long clean k = tt
test_either slot None (Some v) long clean k = absurd k
test_either slot (Some u) None long clean k = absurd k
test_either slot (Some u) (Some v) long clean k = magic_either slot Test u v long (unflagged_blank slot u clean) k

pub test_stands : (slot : Area) (x y : Option (List ℕ)) → 24 ≤ slot.at + slot.length → IfSome x (λ held. area (slot.at + slot.length - 24) 8 held ≡ blank 8)
    → Told (Holds (slot.at + slot.length - 16) trailer_magic) x y → IfSome y (λ held. mark_in slot held ≡ Some Test)
test_stands slot None None long clean h = tt
test_stands slot None (Some v) long clean h = absurd h
test_stands slot (Some u) None long clean h = absurd h
test_stands slot (Some u) (Some v) long clean h = magic_stands slot Test u v long (unflagged_blank slot u clean) h

-- a permanent one: its flag, torn or not
pub flag_torn : (slot : Area) (x y : Option (List ℕ)) → 24 ≤ slot.at + slot.length → IfSome x (λ held. area (slot.at + slot.length - 16) 16 held ≡ blank 16)
    → Told (Keeps (spot (slot.at + slot.length - 24) 8)) x y → IfSome y (MarkOrNone slot Permanent)
flag_torn slot None None long clean k = tt
flag_torn slot None (Some v) long clean k = absurd k
flag_torn slot (Some u) None long clean k = absurd k
flag_torn slot (Some u) (Some v) long clean k = inl (unmarked_blank slot v (magic_apart slot u v long k ∙ clean))

pub magic_clean : (slot : Area) (x y : Option (List ℕ)) → 24 ≤ slot.at + slot.length → IfSome x (λ held. area (slot.at + slot.length - 16) 16 held ≡ blank 16)
    → Told (Keeps (spot (slot.at + slot.length - 24) 8)) x y → IfSome y (λ held. area (slot.at + slot.length - 16) 16 held ≡ blank 16)
magic_clean slot None None long clean k = tt
magic_clean slot None (Some v) long clean k = absurd k
magic_clean slot (Some u) None long clean k = absurd k
magic_clean slot (Some u) (Some v) long clean k = magic_apart slot u v long k ∙ clean

pub permanent_either : (slot : Area) (x y : Option (List ℕ)) → 24 ≤ slot.at + slot.length → IfSome x (λ held. is_flagged slot held ≡ true)
    → Told (Keeps (spot (slot.at + slot.length - 16) 16)) x y → IfSome y (MarkOrNone slot Permanent)
permanent_either slot None None long flag k = tt
permanent_either slot None (Some v) long flag k = absurd k
permanent_either slot (Some u) None long flag k = absurd k
permanent_either slot (Some u) (Some v) long flag k = magic_either slot Permanent u v long flag k

pub permanent_stands : (slot : Area) (x y : Option (List ℕ)) → 24 ≤ slot.at + slot.length → IfSome x (λ held. is_flagged slot held ≡ true)
    → Told (Holds (slot.at + slot.length - 16) trailer_magic) x y → IfSome y (λ held. mark_in slot held ≡ Some Permanent)
permanent_stands slot None None long flag h = tt
permanent_stands slot None (Some v) long flag h = absurd h
permanent_stands slot (Some u) None long flag h = absurd h
permanent_stands slot (Some u) (Some v) long flag h = magic_stands slot Permanent u v long flag h

-- none of the bytes is an erased one
abbrev NoBlank : List ℕ → Type 0
NoBlank [] = Unit {0}
NoBlank (y ∷ ys) = (y ≡ 255 → ⊥) × NoBlank ys

faded_to : (xs ys : List ℕ) → NoBlank ys → Faded xs ys → xs ≡ ys
faded_to [] [] n f = refl
faded_to [] (y ∷ ys) n f = absurd f
faded_to (x ∷ xs) [] n f = absurd f
faded_to (x ∷ xs) (y ∷ ys) n f = elim f.0 [
  | inl same ↦ (λ i. sym same i ∷ faded_to xs ys n.1 f.1 i)
  | inr erased ↦ absurd (n.0 erased)
]

magic_solid : NoBlank trailer_magic
magic_solid = ((λ e. omega (arith, e)), ((λ e. omega (arith, e)), ((λ e. omega (arith, e)), ((λ e. omega (arith, e)), ((λ e. omega (arith, e)), ((λ e. omega (arith, e)), ((λ e. omega (arith, e)), ((λ e. omega (arith, e)), ((λ e. omega (arith, e)), ((λ e. omega (arith, e)), ((λ e. omega (arith, e)), ((λ e. omega (arith, e)), ((λ e. omega (arith, e)), ((λ e. omega (arith, e)), ((λ e. omega (arith, e)), ((λ e. omega (arith, e)), tt))))))))))))))))

unmarked : (m f : Bool) → mark_by m f ≡ None → m ≡ false
unmarked false f e = refl
unmarked true false e = absurd (cc e)
unmarked true true e = absurd (cc e)

-- what was no magic is none after an erase, however it ended
free_after : (slot : Area) (mark : Mark) (old new : List ℕ) → Faded old new → mark_in slot old ≡ None → MarkOrNone slot mark new
free_after slot mark old new f none = inl (ap (λ (m : Bool). mark_by m (is_flagged slot new)) (go (is_marked slot new) refl))
  where
    go : (b : Bool) → is_marked slot new ≡ b → b ≡ false
    go false e = refl
    go true e =
        let p : ℕ = slot.at + slot.length - 16 in
        let same : area p 16 new ≡ trailer_magic = (bytes_eq-Decides (area p 16 new) trailer_magic).0 e in
        let before : area p 16 old ≡ trailer_magic = faded_to (area p 16 old) trailer_magic magic_solid (subst (λ (zs : List ℕ). Faded (area p 16 old) zs) same (Faded-area p 16 old new f)) in
        absurd (cc (sym (eq_is (area p 16 old) trailer_magic before) ∙ unmarked (is_marked slot old) (is_flagged slot old) none))

pub told_free : (slot : Area) (g : Geometry) (mark : Mark) (x y : Option (List ℕ)) → IfSome x (λ held. mark_in slot held ≡ None) → Told (Fades (last_page slot g) g.page) x y → IfSome y (MarkOrNone slot mark)
told_free slot g mark None None none f = tt
told_free slot g mark None (Some v) none f = absurd f
told_free slot g mark (Some u) None none f = absurd f
told_free slot g mark (Some u) (Some v) none f = free_after slot mark u v f.faded none
