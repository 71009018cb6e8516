-- The regions of the two images of a flash lie apart, and all calls about images begin in them.
use Rattle.std.proofs.Common.{◌≡◌, ◌⊎◌, inl, inr, ℕ, zero, suc, ◌+◌, ◌≤◌, ◌==◌, Bool, true, false, Option, Some, None, List, [], ◌∷◌, ◌++◌, refl, sym, ◌∙◌, ap, subst, arith}
use Rattle.std.proofs.lemmas.Bool.Decides.{nat_tests}
use Rattle.std.specs.Prelude.{IfSome}
use Rattle.smp_flash.specs.Area.{Told, Keeps, Clear}
use Rattle.smp_flash.specs.Geometry.{first_size}
use Rattle.smp_flash.specs.Layout.{geometry_of, image_of, slot_of, progress_of, scratch_of}
use Rattle.smp_flash.specs.Region.{Spares, start_of}
use Rattle.smp_flash.specs.declared.geometry.Geometry.{Geometry}
use Rattle.smp_flash.specs.declared.layout.Layout.{Layout}
use Rattle.smp_flash.specs.declared.region.Region.{Region}
use Rattle.smp_flash.proofs.Passing.{Covers}
use Rattle.smp_flash.proofs.Telling.{Told-map}
use Rattle.smp_gate.specs.Newest.{AgesAtMost}
use Rattle.smp_upload.specs.Bytes.{Apart}
use Rattle.smp_upload.specs.Moves.{KeepsPending, mount_spots}
use Rattle.smp_upload.proofs.Apartness.{ages_clear, pending_by}
use Rattle.smp_device.specs.Places.{Places, ArePlaces, place_at, spots_of, second_spots, AtEach}

pub eq_or_not : (a b : ℕ) → (a ≡ b) ⊎ (a ≡ b → ⊥)
eq_or_not a b = go (a == b) refl
  where
    go : (t : Bool) → (a == b) ≡ t → (a ≡ b) ⊎ (a ≡ b → ⊥)
    go true e = inl (grind (arith, nat_tests, e))
    go false e = inr (λ h. grind (arith, nat_tests, e, h))

-- Apart.

pub first_start : (l : Layout) → image_of l ≡ 0 → start_of (geometry_of l) (image_of l) ≡ 0
first_start l e = ap (start_of (geometry_of l)) e

pub second_start : (l : Layout) → image_of l ≡ 1 → start_of (geometry_of l) (image_of l) ≡ first_size (geometry_of l)
second_start l e = ap (start_of (geometry_of l)) e

behind_first : (first : Layout) (p n : ℕ) → image_of first ≡ 0 → first_size (geometry_of first) ≤ p → Clear (mount_spots first) p n
behind_first first p n e le =
    let s = first_start first e in
    (inr (omega (arith, s, le)), (inr (omega (arith, s, le)), tt))

before_second : (first second : Layout) (p n : ℕ) → geometry_of second ≡ geometry_of first → image_of second ≡ 1 → p + n ≤ first_size (geometry_of first) → Clear (mount_spots second) p n
before_second first second p n g e le =
    let s = second_start second e in
    let f : first_size (geometry_of second) ≡ first_size (geometry_of first) = ap first_size g in
    (inl (omega (arith, s, f, le)), (inl (omega (arith, s, f, le)), tt))

pub apart_second : (first second : Layout) → geometry_of second ≡ geometry_of first → image_of first ≡ 0 → image_of second ≡ 1 → Apart second (mount_spots first)
apart_second first second g a b =
    let s = second_start second b in
    let f : first_size (geometry_of second) ≡ first_size (geometry_of first) = ap first_size g in
    record {
      slot_0 = behind_first first (slot_of second 0).at (slot_of second 0).length a (omega (arith, s, f));
      slot_1 = behind_first first (slot_of second 1).at (slot_of second 1).length a (omega (arith, s, f));
      first = behind_first first (progress_of second).first.at 4096 a (omega (arith, s, f));
      second = behind_first first (progress_of second).second.at 4096 a (omega (arith, s, f));
      scratch = behind_first first (scratch_of second).at (scratch_of second).length a (omega (arith, s, f));
    }

pub apart_first : (first second : Layout) → geometry_of second ≡ geometry_of first → image_of first ≡ 0 → image_of second ≡ 1 → Apart first (mount_spots second)
apart_first first second g a b =
    let s = first_start first a in
    record {
      slot_0 = before_second first second (slot_of first 0).at (slot_of first 0).length g b (omega (arith, s));
      slot_1 = before_second first second (slot_of first 1).at (slot_of first 1).length g b (omega (arith, s));
      first = before_second first second (progress_of first).first.at 4096 g b (omega (arith, s));
      second = before_second first second (progress_of first).second.at 4096 g b (omega (arith, s));
      scratch = before_second first second (scratch_of first).at (scratch_of first).length g b (omega (arith, s));
    }

pub is_second : (g : Geometry) (o : Option Layout) (m : Layout) → IfSome o (λ l. (geometry_of l ≡ g) × (image_of l ≡ 1)) → o ≡ Some m → (geometry_of m ≡ g) × (image_of m ≡ 1)
is_second g o m f e = subst (λ (x : Option Layout). IfSome x (λ l. (geometry_of l ≡ g) × (image_of l ≡ 1))) e f

pub some_is : (l m : Layout) → Some l ≡ Some m → l ≡ m
some_is l m e = cc e

-- each image's regions lie clear of the other's calls
pub apart_of : (g : Geometry) (p : Places) → ArePlaces g p → (i j : ℕ) (l m : Layout) → place_at i p ≡ Some l → place_at j p ≡ Some m → (i ≡ j → ⊥) → Apart m (mount_spots l)
apart_of g p are zero zero l m a b ne = absurd (ne refl)
apart_of g p are zero (suc zero) l m a b ne =
    let f = are.first in
    let h = is_second g p.second m are.second b in
    subst (λ (x : Layout). Apart m (mount_spots x)) (some_is p.first l a) (apart_second p.first m (h.0 ∙ sym f.0) f.1 h.1)
apart_of g p are zero (suc (suc j)) l m a b ne = absurd (cc b)
apart_of g p are (suc zero) zero l m a b ne =
    let f = are.first in
    let h = is_second g p.second l are.second a in
    subst (λ (x : Layout). Apart x (mount_spots l)) (some_is p.first m b) (apart_first p.first l (h.0 ∙ sym f.0) f.1 h.1)
apart_of g p are (suc zero) (suc zero) l m a b ne = absurd (ne refl)
apart_of g p are (suc zero) (suc (suc j)) l m a b ne = absurd (cc b)
apart_of g p are (suc (suc i)) j l m a b ne = absurd (cc a)

-- Within all spots.

clear_left : (xs ys : List (ℕ × ℕ)) (p n : ℕ) → Clear (xs ++ ys) p n → Clear xs p n
clear_left [] ys p n c = tt
clear_left (x ∷ xs) ys p n c = (c.0, clear_left xs ys p n c.1)

clear_right : (xs ys : List (ℕ × ℕ)) (p n : ℕ) → Clear (xs ++ ys) p n → Clear ys p n
clear_right [] ys p n c = c
clear_right (x ∷ xs) ys p n c = clear_right xs ys p n c.1

spares_some_left : (g : Geometry) (r : Region) (xs ys : List (ℕ × ℕ)) → Spares g (Some r) (xs ++ ys) → Spares g (Some r) xs
spares_some_left g r [] ys s = tt
spares_some_left g r (x ∷ xs) ys s = (s.0, spares_some_left g r xs ys s.1)

spares_some_right : (g : Geometry) (r : Region) (xs ys : List (ℕ × ℕ)) → Spares g (Some r) (xs ++ ys) → Spares g (Some r) ys
spares_some_right g r [] ys s = s
spares_some_right g r (x ∷ xs) ys s = spares_some_right g r xs ys s.1

spares_left : (g : Geometry) (aim : Option Region) (xs ys : List (ℕ × ℕ)) → Spares g aim (xs ++ ys) → Spares g aim xs
spares_left g None xs ys s = tt
spares_left g (Some r) xs ys s = spares_some_left g r xs ys s

spares_right : (g : Geometry) (aim : Option Region) (xs ys : List (ℕ × ℕ)) → Spares g aim (xs ++ ys) → Spares g aim ys
spares_right g None xs ys s = tt
spares_right g (Some r) xs ys s = spares_some_right g r xs ys s

pub Covers-left : (xs ys : List (ℕ × ℕ)) → Covers (xs ++ ys) xs
Covers-left xs ys = record { clear = clear_left xs ys; spares = λ g aim. spares_left g aim xs ys }

pub Covers-right : (xs ys : List (ℕ × ℕ)) → Covers (xs ++ ys) ys
Covers-right xs ys = record { clear = clear_right xs ys; spares = λ g aim. spares_right g aim xs ys }

pub covers_at : (p : Places) (i : ℕ) (l : Layout) → place_at i p ≡ Some l → Covers (spots_of p) (mount_spots l)
covers_at p zero l e = subst (λ (x : Layout). Covers (spots_of p) (mount_spots x)) (some_is p.first l e) (Covers-left (mount_spots p.first) (second_spots p.second))
covers_at p (suc zero) l e = subst (λ (x : Option Layout). Covers (mount_spots p.first ++ second_spots x) (mount_spots l)) (sym e) (Covers-right (mount_spots p.first) (mount_spots l))
covers_at p (suc (suc i)) l e = absurd (cc e)

-- The records and marks of each image.

same_place : (p : Places) (i j : ℕ) (l m : Layout) → place_at i p ≡ Some l → place_at j p ≡ Some m → i ≡ j → l ≡ m
same_place p i j l m a b e = some_is l m (sym a ∙ ap (λ (k : ℕ). place_at k p) e ∙ b)

pub ages_each : (g : Geometry) (p : Places) (i : ℕ) (l : Layout) (n : ℕ) (x y : Option (List ℕ)) → ArePlaces g p → place_at i p ≡ Some l
    → Told (AgesAtMost n (progress_of l)) x y → Told (Keeps (mount_spots l)) x y → AtEach (λ m. Told (AgesAtMost n (progress_of m)) x y) p
ages_each g p i l n x y are at ages keeps = λ j m there. elim (eq_or_not i j) [
  | inl same ↦ subst (λ (k : Layout). Told (AgesAtMost n (progress_of k)) x y) (same_place p i j l m at there same) ages
  | inr other ↦ let apart = apart_of g p are i j l m at there other in
      Told-map (Keeps (mount_spots l)) (AgesAtMost n (progress_of m)) x y (λ u v k. ages_clear m n (mount_spots l) u v apart.first apart.second k) keeps
]

pending_clear : (m : Layout) (spots : List (ℕ × ℕ)) (u v : List ℕ) → Apart m spots → Keeps spots u v → KeepsPending m u v
pending_clear m spots u v apart k = record {
  kept = λ is. k.apart (slot_of m 1).at (slot_of m 1).length apart.slot_1;
  still = λ is. pending_by m spots u v apart.slot_1 k;
}

pub pending_each : (g : Geometry) (p : Places) (i : ℕ) (l : Layout) (x y : Option (List ℕ)) → ArePlaces g p → place_at i p ≡ Some l
    → Told (KeepsPending l) x y → Told (Keeps (mount_spots l)) x y → AtEach (λ m. Told (KeepsPending m) x y) p
pending_each g p i l x y are at pending keeps = λ j m there. elim (eq_or_not i j) [
  | inl same ↦ subst (λ (k : Layout). Told (KeepsPending k) x y) (same_place p i j l m at there same) pending
  | inr other ↦ let apart = apart_of g p are i j l m at there other in
      Told-map (Keeps (mount_spots l)) (KeepsPending m) x y (λ u v k. pending_clear m (mount_spots l) u v apart k) keeps
]
