-- What an erase, also a torn one, leaves of a mark.
use Rattle.std.proofs.Common.{◌≡◌, inl, inr, ℕ, ◌+◌, ◌-◌, Bool, true, false, None, List, [], ◌∷◌, refl, sym, ◌∙◌, ap, subst, arith}
use Rattle.std.specs.Str.{bytes_eq}
use Rattle.std.proofs.lemmas.Slice.Eq.{bytes_eq-Decides}
use Rattle.smp_flash.specs.Area.{area, Faded}
use Rattle.smp_flash.specs.Layout.{slot_of}
use Rattle.smp_flash.specs.declared.layout.Area.{Area}
use Rattle.smp_flash.specs.declared.layout.Layout.{Layout}
use Rattle.smp_flash.proofs.Areas.{Faded-area}
use Rattle.smp_slot.specs.Marks.{is_marked, is_flagged, mark_by, trailer_magic}
use Rattle.smp_upload.specs.Bytes.{pending_in}

-- none of the bytes is an erased one
abbrev NoBlank : List ℕ → Type 0
NoBlank [] = Unit {0}
NoBlank (y ∷ ys) = (y ≡ 255 → ⊥) × NoBlank ys

faded_to : (xs ys : List ℕ) → NoBlank ys → Faded xs ys → xs ≡ ys
faded_to [] [] n f = refl
faded_to [] (y ∷ ys) n f = absurd f
faded_to (x ∷ xs) [] n f = absurd f
faded_to (x ∷ xs) (y ∷ ys) n f = elim f.0 [
  | inl same ↦ (λ i. sym same i ∷ faded_to xs ys n.1 f.1 i)
  | inr erased ↦ absurd (n.0 erased)
]

eq_of : (xs ys : List ℕ) → bytes_eq xs ys ≡ true → xs ≡ ys
eq_of xs ys e = (bytes_eq-Decides xs ys).0 e

eq_is : (xs : List ℕ) → bytes_eq xs xs ≡ true
eq_is xs = (bytes_eq-Decides xs xs).1 refl

-- what was not these bytes is not these bytes after an erase
fades_apart : (p n : ℕ) (ys old new : List ℕ) → NoBlank ys → Faded old new → bytes_eq (area p n old) ys ≡ false → bytes_eq (area p n new) ys ≡ false
fades_apart p n ys old new none f was = go (bytes_eq (area p n new) ys) refl
  where
    go : (b : Bool) → bytes_eq (area p n new) ys ≡ b → b ≡ false
    go false e = refl
    go true e =
        let same : area p n new ≡ ys = eq_of (area p n new) ys e in
        let before : area p n old ≡ ys = faded_to (area p n old) ys none (subst (λ (zs : List ℕ). Faded (area p n old) zs) same (Faded-area p n old new f)) in
        absurd (cc (sym (eq_is ys) ∙ ap (λ (zs : List ℕ). bytes_eq zs ys) (sym before) ∙ was))

magic_solid : NoBlank trailer_magic
magic_solid = ((λ e. omega (arith, e)), ((λ e. omega (arith, e)), ((λ e. omega (arith, e)), ((λ e. omega (arith, e)), ((λ e. omega (arith, e)), ((λ e. omega (arith, e)), ((λ e. omega (arith, e)), ((λ e. omega (arith, e)), ((λ e. omega (arith, e)), ((λ e. omega (arith, e)), ((λ e. omega (arith, e)), ((λ e. omega (arith, e)), ((λ e. omega (arith, e)), ((λ e. omega (arith, e)), ((λ e. omega (arith, e)), ((λ e. omega (arith, e)), tt))))))))))))))))

unmarked_fades : (slot : Area) (old new : List ℕ) → Faded old new → is_marked slot old ≡ false → is_marked slot new ≡ false
unmarked_fades slot old new f was = fades_apart (slot.at + slot.length - 16) 16 trailer_magic old new magic_solid f was

unmarked : (m g : Bool) → mark_by m g ≡ None → m ≡ false
unmarked false g e = refl
unmarked true false e = absurd (cc e)
unmarked true true e = absurd (cc e)

-- where nothing is pending, nothing is after an erase, however it ended
pub free_fades : (layout : Layout) (old new : List ℕ) → Faded old new → pending_in layout old ≡ None → pending_in layout new ≡ None
free_fades layout old new f none =
    let slot = slot_of layout 1 in
    let was : is_marked slot old ≡ false = unmarked (is_marked slot old) (is_flagged slot old) none in
    ap (λ (b : Bool). mark_by b (is_flagged slot new)) (unmarked_fades slot old new f was)
