-- A lawful geometry is regular.
use Rattle.std.proofs.Common.{◌≡◌, ◌⊎◌, inl, inr, ℕ, ◌+◌, ◌*◌, ◌%◌, ◌^◌, ◌<◌, ◌≤◌, Bool, true, false, refl, sym, ap, subst, arith}
use Rattle.std.specs.Prelude.{◌&&◌, ◌==◌, if◌then◌else◌, IsTrue}
use Rattle.std.proofs.lemmas.Bool.Decides.{nat_tests}
use Rattle.smp_flash.specs.Geometry.{is_page, is_unit, are_slot_pages, are_images, is_lawful, slot_size, first_size, second_size, of_second, size_of, Regular, IsPage, IsUnit}
use Rattle.smp_flash.specs.declared.geometry.Geometry.{Geometry}

-- a fact of each page size
pub each_page : (P : ℕ → Type 0) → P 512 → P 1024 → P 2048 → P 4096 → (page : ℕ) → IsPage page → P page
each_page P a b c d page is = elim is [
  | inl e ↦ subst P (sym e) a
  | inr more ↦ elim more [
    | inl e ↦ subst P (sym e) b
    | inr more ↦ elim more [ inl e ↦ subst P (sym e) c | inr e ↦ subst P (sym e) d ]
  ]
]

pub each_unit : (P : ℕ → Type 0) → P 1 → P 2 → P 4 → P 8 → (unit : ℕ) → IsUnit unit → P unit
each_unit P a b c d unit is = elim is [
  | inl e ↦ subst P (sym e) a
  | inr more ↦ elim more [
    | inl e ↦ subst P (sym e) b
    | inr more ↦ elim more [ inl e ↦ subst P (sym e) c | inr e ↦ subst P (sym e) d ]
  ]
]

record PageFacts (page : ℕ) : Type 0 where
  some : 0 < page
  most : page ≤ 4096
  divides : 4096 % page ≡ 0
  eights : page % 8 ≡ 0
  units : (unit : ℕ) → IsUnit unit → page % unit ≡ 0
  whole : (k : ℕ) → (page * k) % page ≡ 0
  least : (k : ℕ) → 4 ≤ k → 4 * page ≤ page * k
  slot_most : (k : ℕ) → k ≤ 1024 → page * k ≤ 2 ^ 22

page_facts : (page : ℕ) → IsPage page → PageFacts page
page_facts page is = each_page PageFacts
    (record { some = omega arith; most = omega arith; divides = refl; eights = refl; units = λ u. each_unit (λ n. 512 % n ≡ 0) refl refl refl refl u; whole = λ k. omega arith; least = λ k low. omega arith; slot_most = λ k high. omega arith })
    (record { some = omega arith; most = omega arith; divides = refl; eights = refl; units = λ u. each_unit (λ n. 1024 % n ≡ 0) refl refl refl refl u; whole = λ k. omega arith; least = λ k low. omega arith; slot_most = λ k high. omega arith })
    (record { some = omega arith; most = omega arith; divides = refl; eights = refl; units = λ u. each_unit (λ n. 2048 % n ≡ 0) refl refl refl refl u; whole = λ k. omega arith; least = λ k low. omega arith; slot_most = λ k high. omega arith })
    (record { some = omega arith; most = omega arith; divides = refl; eights = refl; units = λ u. each_unit (λ n. 4096 % n ≡ 0) refl refl refl refl u; whole = λ k. omega arith; least = λ k low. omega arith; slot_most = λ k high. omega arith })
    page is

record UnitFacts (unit : ℕ) : Type 0 where
  some : 0 < unit
  divides : 8 % unit ≡ 0

unit_facts : (unit : ℕ) → IsUnit unit → UnitFacts unit
unit_facts unit is = each_unit UnitFacts (record { some = omega arith; divides = refl }) (record { some = omega arith; divides = refl }) (record { some = omega arith; divides = refl }) (record { some = omega arith; divides = refl }) unit is

page_cases : (page : ℕ) → is_page page ≡ true → IsPage page
page_cases page is = grind (arith, nat_tests)

unit_cases : (unit : ℕ) → is_unit unit ≡ true → IsUnit unit
unit_cases unit is = grind (arith, nat_tests)

slot_cases : (n : ℕ) → are_slot_pages n ≡ true → (4 ≤ n) × (n ≤ 1024)
slot_cases n is = (grind (arith, nat_tests), grind (arith, nat_tests))

image_cases : (n : ℕ) → are_images n ≡ true → (n ≡ 1) ⊎ (n ≡ 2)
image_cases n is = grind (arith, nat_tests)

and_left : (a b : Bool) → (a && b) ≡ true → a ≡ true
and_left true b e = refl
and_left false b e = e

and_right : (a b : Bool) → (a && b) ≡ true → b ≡ true
and_right true b e = e
and_right false b e = absurd (cc e)

-- bytes that a second image has
pub of_two : (g : Geometry) (n : ℕ) → g.images ≡ 2 → of_second g n ≡ n
of_two g n two = (let t : (g.images == 2) ≡ true = grind (arith, nat_tests) in ap (λ (b : Bool). if b then n else 0) t)

pub of_one : (g : Geometry) (n : ℕ) → g.images ≡ 1 → of_second g n ≡ 0
of_one g n one = (let t : (g.images == 2) ≡ false = grind (arith, nat_tests) in ap (λ (b : Bool). if b then n else 0) t)

-- the size of the whole flash
sizes : (g : Geometry) → ((g.images ≡ 1) ⊎ (g.images ≡ 2)) → slot_size g ≤ 2 ^ 22 → g.page ≤ 4096 → size_of g ≤ 2 ^ 25
sizes g images most page = elim images [
  | inl one ↦ omega (arith, of_one g (second_size g) one)
  | inr two ↦ omega (arith, of_two g (second_size g) two)
]

pub regular : (g : Geometry) → IsTrue (is_lawful g) → Regular g
regular g is =
    let rest : (is_unit g.unit && (are_slot_pages g.slot_pages && are_images g.images)) ≡ true = and_right (is_page g.page) _ is in
    let last : (are_slot_pages g.slot_pages && are_images g.images) ≡ true = and_right (is_unit g.unit) _ rest in
    let is_page : IsPage g.page = page_cases g.page (and_left (is_page g.page) _ is) in
    let is_unit : IsUnit g.unit = unit_cases g.unit (and_left (is_unit g.unit) _ rest) in
    let pages = slot_cases g.slot_pages (and_left (are_slot_pages g.slot_pages) _ last) in
    let images = image_cases g.images (and_right (are_slot_pages g.slot_pages) _ last) in
    let p = page_facts g.page is_page in
    let u = unit_facts g.unit is_unit in
    let most : slot_size g ≤ 2 ^ 22 = p.slot_most g.slot_pages pages.1 in
    record {
      is_page = is_page;
      is_unit = is_unit;
      page_some = p.some;
      page_most = p.most;
      page_divides = p.divides;
      page_eights = p.eights;
      page_units = p.units g.unit is_unit;
      unit_some = u.some;
      unit_divides = u.divides;
      slot_whole = p.whole g.slot_pages;
      slot_least = p.least g.slot_pages pages.0;
      slot_most = most;
      images_some = images;
      size_least = omega arith;
      size_two = λ two. ap (λ n. first_size g + n) (of_two g (second_size g) two);
      size_most = sizes g images most p.most;
    }
