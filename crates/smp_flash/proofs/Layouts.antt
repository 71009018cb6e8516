-- Where regions lie: apart, inside the flash, on whole pages; and what counts in them.
use Rattle.std.proofs.Common.{◌≡◌, ◌⊎◌, inl, inr, ℕ, zero, suc, ◌+◌, ◌*◌, ◌%◌, ◌<◌, ◌≤◌, Bool, true, false, refl, sym, ◌∙◌, ap, subst, arith, Some, List, [], ◌∷◌, ◌++◌}
use Rattle.std.specs.Prelude.{nat_le, nat_lt, ◌&&◌, ◌||◌, not}
use Rattle.std.specs.Str.{bytes_eq}
use Rattle.std.specs.Cmp.Derive.{both_true}
use Rattle.std.proofs.lemmas.Bool.Decides.{nat_tests}
use Rattle.smp_flash.specs.Area.{Clear, spot}
use Rattle.smp_flash.specs.Geometry.{slot_size, side_size, first_size, second_size, size_of, IsPage, Regular}
use Rattle.smp_flash.specs.declared.geometry.Geometry.{Geometry}
use Rattle.smp_flash.specs.declared.region.Region.{Region}
use Rattle.smp_flash.specs.Layout.{geometry_of, image_of, slot_of, bank_spots, settings_of, upload_spots, area_spot, image_spots, region_spots, Parted, WholePages, Arranged, ArrangedTogether, CountsInRegions, in_upload, in_settings, in_primary, SparesOthers}
use Rattle.smp_flash.specs.Region.{gate, within, is_any, is_gate, begins_in, counts, counts_write, Spares, start_of, slot_at, progress_at, scratch_at, settings_at, region_at, region_size, slot_region, progress_region, progress_gate_region}
use Rattle.smp_flash.specs.declared.layout.Layout.{Layout}
use Rattle.smp_flash.specs.declared.region.Region.TheVariants.{Any, Slot0, Slot1, Progress, Scratch, Settings, ProgressGate, SettingsGate, Slot2, Slot3, Progress2, Progress2Gate, Scratch2}
use Rattle.smp_flash.proofs.Sizes.{each_page, regular, of_two}

-- an image is 0, or 1 on a flash of two
pub which : (image images : ℕ) → image < images → ((images ≡ 1) ⊎ (images ≡ 2)) → (image ≡ 0) ⊎ ((image ≡ 1) × (images ≡ 2))
which zero images there some = inl refl
which (suc zero) images there some = inr (refl, (elim some [ inl one ↦ absurd (omega (arith, one, there)) | inr two ↦ two ]))
which (suc (suc n)) images there some = absurd (elim some [ inl one ↦ omega (arith, one, there) | inr two ↦ omega (arith, two, there) ])

-- What is known of where an image's regions begin.
record Begins (g : Geometry) (start : ℕ) : Type 0 where
  side : (start + second_size g ≤ settings_at g) ⊎ (settings_at g + 2 * side_size ≤ start)
  inside : start + second_size g ≤ size_of g
  whole : start % g.page ≡ 0

-- sums of whole pages are whole pages
whole_sum : (page : ℕ) → IsPage page → (a b : ℕ) → a % page ≡ 0 → b % page ≡ 0 → (a + b) % page ≡ 0
whole_sum page is = each_page (λ p. (a b : ℕ) → a % p ≡ 0 → b % p ≡ 0 → (a + b) % p ≡ 0)
    (λ a b x y. omega arith) (λ a b x y. omega arith) (λ a b x y. omega arith) (λ a b x y. omega arith) page is

-- a page is itself whole
whole_page : (page : ℕ) → IsPage page → page % page ≡ 0
whole_page page is = each_page (λ p. p % p ≡ 0) refl refl refl refl page is

record Wholes (g : Geometry) : Type 0 where
  sum : (a b : ℕ) → a % g.page ≡ 0 → b % g.page ≡ 0 → (a + b) % g.page ≡ 0
  page : g.page % g.page ≡ 0
  slot : slot_size g % g.page ≡ 0
  side : side_size % g.page ≡ 0
  slots : (2 * slot_size g) % g.page ≡ 0
  sides : (2 * side_size) % g.page ≡ 0

wholes : (g : Geometry) → Regular g → Wholes g
wholes g r =
    let sum = whole_sum g.page r.is_page in
    record {
      sum = sum;
      page = whole_page g.page r.is_page;
      slot = r.slot_whole;
      side = r.page_divides;
      slots = (let e : 2 * slot_size g ≡ slot_size g + slot_size g = omega arith in subst (λ (n : ℕ). n % g.page ≡ 0) (sym e) (sum (slot_size g) (slot_size g) r.slot_whole r.slot_whole));
      sides = sum side_size side_size r.page_divides r.page_divides;
    }

first_whole : (g : Geometry) → Regular g → first_size g % g.page ≡ 0
first_whole g r =
    let w = wholes g r in
    w.sum (2 * slot_size g + 16384) g.page (w.sum (2 * slot_size g) 16384 w.slots (w.sum 8192 8192 w.sides w.sides)) w.page

begins : (g : Geometry) (image : ℕ) → Regular g → image < g.images → Begins g (start_of g image)
begins g zero r there = record { side = inl (omega arith); inside = omega (arith, r.size_least); whole = each_page (λ p. 0 % p ≡ 0) refl refl refl refl g.page r.is_page }
begins g (suc n) r there = record {
  side = inr (omega arith);
  inside = elim (which (suc n) g.images there r.images_some) [ inl none ↦ absurd (cc none) | inr one ↦ omega (arith, r.size_two one.1) ];
  whole = first_whole g r;
}

-- what lies within an image's regions lies apart from the settings bank
from_settings : (g : Geometry) (start p n : ℕ) → Begins g start → start ≤ p → p + n ≤ start + second_size g
    → Clear ((settings_at g, side_size) ∷ (settings_at g + side_size, side_size) ∷ []) p n
from_settings g start p n b low high = elim b.side [
  | inl before ↦ (inl (omega (arith, before)), (inl (omega (arith, before)), tt))
  | inr after ↦ (inr (omega (arith, after)), (inr (omega (arith, after)), tt))
]

pub arranged_in : (layout : Layout) → Regular (geometry_of layout) → image_of layout < (geometry_of layout).images → Arranged layout
arranged_in layout r there =
    let g = geometry_of layout in
    let start : ℕ = start_of g (image_of layout) in
    let b = begins g (image_of layout) r there in
    let w = wholes g r in
    let slot1 : (start + 1 * slot_size g) % g.page ≡ 0 = (let e : 1 * slot_size g ≡ slot_size g = omega arith in subst (λ (n : ℕ). (start + n) % g.page ≡ 0) (sym e) (w.sum start (slot_size g) b.whole w.slot)) in
    let slot0 : (start + 0 * slot_size g) % g.page ≡ 0 = (let e : start + 0 * slot_size g ≡ start = omega arith in subst (λ (n : ℕ). n % g.page ≡ 0) (sym e) b.whole) in
    let progress : (start + 2 * slot_size g) % g.page ≡ 0 = w.sum start (2 * slot_size g) b.whole w.slots in
    let scratch : (start + 2 * slot_size g + 2 * side_size) % g.page ≡ 0 = w.sum (start + 2 * slot_size g) (2 * side_size) progress w.sides in
    let settings : settings_at g % g.page ≡ 0 = w.sum (2 * slot_size g + 2 * side_size) g.page (w.sum (2 * slot_size g) (2 * side_size) w.slots w.sides) w.page in
    let room = b.inside in
    let least = r.size_least in
    let size : ℕ = size_of g in
    let last : WholePages g.page size ((settings_at g, side_size) ∷ (settings_at g + side_size, side_size) ∷ []) =
    (settings, w.side, omega arith, (w.sum (settings_at g) side_size settings w.side, w.side, omega arith, tt)) in
    let behind : WholePages g.page size ((start + 2 * slot_size g + side_size, side_size) ∷ (start + 2 * slot_size g + 2 * side_size, g.page)
    ∷ (settings_at g, side_size) ∷ (settings_at g + side_size, side_size) ∷ []) =
    (w.sum (start + 2 * slot_size g) side_size progress w.side, w.side, omega arith, (scratch, w.page, omega arith, last)) in
    record {
      apart = (
        (inl (omega arith), (inl (omega arith), (inl (omega arith), (inl (omega arith), from_settings g start (start + 0 * slot_size g) (slot_size g) b (omega arith) (omega arith))))),
        (
          (inl (omega arith), (inl (omega arith), (inl (omega arith), from_settings g start (start + 1 * slot_size g) (slot_size g) b (omega arith) (omega arith)))),
          (
            (inl (omega arith), (inl (omega arith), from_settings g start (start + 2 * slot_size g) side_size b (omega arith) (omega arith))),
            (
              (inl (omega arith), from_settings g start (start + 2 * slot_size g + side_size) side_size b (omega arith) (omega arith)),
              (
                from_settings g start (start + 2 * slot_size g + 2 * side_size) g.page b (omega arith) (omega arith),
                ((inl (omega arith), tt), (tt, tt)),
              ),
            ),
          ),
        ),
      );
      inside = (
        slot0,
        w.slot,
        omega arith,
        (slot1, w.slot, omega arith, (progress, w.side, omega arith, behind)),
      );
      image = there;
    }

pub arranged : (layout : Layout) → Arranged layout
arranged layout = arranged_in layout (regular layout.geometry layout.lawful) layout.there

-- the same lists by sizes and image
abbrev image_spots_at : Geometry → ℕ → List (ℕ × ℕ)
image_spots_at g image = (slot_at g image 0, slot_size g) ∷ (slot_at g image 1, slot_size g) ∷ (progress_at g image, side_size)
    ∷ (progress_at g image + side_size, side_size) ∷ (scratch_at g image, g.page) ∷ []

abbrev region_spots_at : Geometry → ℕ → List (ℕ × ℕ)
region_spots_at g image = (slot_at g image 0, slot_size g) ∷ (slot_at g image 1, slot_size g) ∷ (progress_at g image, side_size)
    ∷ (progress_at g image + side_size, side_size) ∷ (scratch_at g image, g.page)
    ∷ (settings_at g, side_size) ∷ (settings_at g + side_size, side_size) ∷ []

-- what lies in image 0 lies apart from image 1 and the settings bank
apart_first : (g : Geometry) (p n : ℕ) → p + n ≤ second_size g
    → Clear ((first_size g + 0 * slot_size g, slot_size g) ∷ (first_size g + 1 * slot_size g, slot_size g)
    ∷ (first_size g + 2 * slot_size g, side_size) ∷ (first_size g + 2 * slot_size g + side_size, side_size)
    ∷ (first_size g + 2 * slot_size g + 2 * side_size, g.page)
    ∷ (settings_at g, side_size) ∷ (settings_at g + side_size, side_size) ∷ []) p n
apart_first g p n le = (inl (omega arith), (inl (omega arith), (inl (omega arith), (inl (omega arith), (inl (omega arith), (inl (omega arith), (inl (omega arith), tt)))))))

-- the regions of image 0 of these sizes, one by one, and of the other image
together_at : (g : Geometry) (behind : List (ℕ × ℕ)) → Parted behind
    → ((p n : ℕ) → p + n ≤ second_size g → Clear behind p n)
    → Parted ((0 + 0 * slot_size g, slot_size g) ∷ (0 + 1 * slot_size g, slot_size g) ∷ (0 + 2 * slot_size g, side_size)
    ∷ (0 + 2 * slot_size g + side_size, side_size) ∷ (0 + 2 * slot_size g + 2 * side_size, g.page) ∷ behind)
together_at g behind parted clear = (
  (inl (omega arith), (inl (omega arith), (inl (omega arith), (inl (omega arith), clear (0 + 0 * slot_size g) (slot_size g) (omega arith))))),
  (
    (inl (omega arith), (inl (omega arith), (inl (omega arith), clear (0 + 1 * slot_size g) (slot_size g) (omega arith)))),
    (
      (inl (omega arith), (inl (omega arith), clear (0 + 2 * slot_size g) side_size (omega arith))),
      (
        (inl (omega arith), clear (0 + 2 * slot_size g + side_size) side_size (omega arith)),
        (clear (0 + 2 * slot_size g + 2 * side_size) g.page (omega arith), parted),
      ),
    ),
  ),
)

pub arranged_together : (first second : Layout) → geometry_of second ≡ geometry_of first → image_of first ≡ 0 → image_of second ≡ 1
    → ArrangedTogether first second
arranged_together first second same nought one =
    let g = geometry_of first in
    let behind : List (ℕ × ℕ) = (first_size g + 0 * slot_size g, slot_size g) ∷ (first_size g + 1 * slot_size g, slot_size g)
    ∷ (first_size g + 2 * slot_size g, side_size) ∷ (first_size g + 2 * slot_size g + side_size, side_size)
    ∷ (first_size g + 2 * slot_size g + 2 * side_size, g.page)
    ∷ (settings_at g, side_size) ∷ (settings_at g + side_size, side_size) ∷ [] in
    let is : region_spots second ≡ behind = (λ i. region_spots_at (same i) (one i)) in
    let parted : Parted behind = subst Parted is (arranged second).apart in
    let was : image_spots first ≡ image_spots_at g 0 = ap (image_spots_at g) nought in
    let whole : Parted (image_spots_at g 0 ++ behind) = together_at g behind parted (apart_first g) in
    let P : List (ℕ × ℕ) → List (ℕ × ℕ) → Type 0 = λ xs ys. Parted (xs ++ ys) in
    record { apart = subst (λ (xs : List (ℕ × ℕ)). P xs (region_spots second)) (sym was) (subst (P (image_spots_at g 0)) (sym is) whole) }

-- a place in a part, before one, and behind one
pub in_part : (at size place : ℕ) → at ≤ place → place < at + size → within at size place ≡ true
in_part at size place low high =
    let a : nat_le at place ≡ true = grind (arith, nat_tests) in
    let b : nat_lt place (at + size) ≡ true = grind (arith, nat_tests) in
    both_true a b

pub before_part : (at size place : ℕ) → place < at → within at size place ≡ false
before_part at size place low =
    let a : nat_le at place ≡ false = grind (arith, nat_tests) in
    ap (λ (b : Bool). b && nat_lt place (at + size)) a

pub after_part : (at size place : ℕ) → at + size ≤ place → within at size place ≡ false
after_part at size place high =
    let b : nat_lt place (at + size) ≡ false = grind (arith, nat_tests) in
    elim (nat_le at place) as (λ (a : Bool). (a && nat_lt place (at + size)) ≡ false) [ true ↦ b | false ↦ refl ]

-- an aim at a region is spared by spots that lie apart from it
spared_place : (g : Geometry) (region : Region) (spot n : ℕ) → is_any region ≡ false
    → ((region_at g region + region_size g region ≤ spot) ⊎ (spot + n ≤ region_at g region))
    → (at : ℕ) → spot ≤ at → at < spot + n → begins_in g region at ≡ false
spared_place g region spot n some apart at low high =
    let none : within (region_at g region) (region_size g region) at ≡ false = elim apart [
      | inl before ↦ after_part (region_at g region) (region_size g region) at (omega (arith, before))
      | inr after ↦ before_part (region_at g region) (region_size g region) at (omega (arith, after))
    ] in
    (λ i. some i || none i)

pub spares_clear : (g : Geometry) (region : Region) (spots : List (ℕ × ℕ)) → is_any region ≡ false
    → Clear spots (region_at g region) (region_size g region) → Spares g (Some region) spots
spares_clear g region [] some clear = tt
spares_clear g region (spot ∷ spots) some clear = (spared_place g region spot.0 spot.1 some clear.0, spares_clear g region spots some clear.1)

-- an image above 0 is there on a flash of two alone
second_there : (g : Geometry) (i : ℕ) → suc i < g.images → Regular g → g.images ≡ 2
second_there g i there r = elim r.images_some [ inl one ↦ absurd (omega (arith, one, there)) | inr two ↦ two ]

-- where the regions of an image lie, by the image
slot_place : (g : Geometry) (image n : ℕ) → image < g.images → Regular g → n ≤ 1
    → (region_at g (slot_region image n) ≡ slot_at g image n) × (region_size g (slot_region image n) ≡ slot_size g) × (is_gate (slot_region image n) ≡ false)
slot_place g zero zero there r le = (refl, refl, refl)
slot_place g zero (suc zero) there r le = (refl, refl, refl)
slot_place g zero (suc (suc n)) there r le = absurd (omega (arith, le))
slot_place g (suc zero) zero there r le = (refl, of_two g (slot_size g) (second_there g zero there r), refl)
slot_place g (suc zero) (suc zero) there r le = (refl, of_two g (slot_size g) (second_there g zero there r), refl)
slot_place g (suc zero) (suc (suc n)) there r le = absurd (omega (arith, le))
slot_place g (suc (suc i)) n there r le = absurd (elim (which (suc (suc i)) g.images there r.images_some) [ inl none ↦ omega (arith, none) | inr one ↦ omega (arith, one.0) ])

-- a place in a region counts there, but for reads and erases at a region of gates
pub counts_at : (g : Geometry) (region : Region) (at : ℕ) (bytes : List ℕ) → region_at g region ≤ at → at < region_at g region + region_size g region → is_gate region ≡ false
    → (counts g (Some region) at ≡ true) × (counts_write g (Some region) at bytes ≡ true)
counts_at g region at bytes low high plain =
    let inside : within (region_at g region) (region_size g region) at ≡ true = in_part (region_at g region) (region_size g region) at low high in
    let any : (is_any region || within (region_at g region) (region_size g region) at) ≡ true =
    elim (is_any region) as (λ (a : Bool). (a || within (region_at g region) (region_size g region) at) ≡ true) [ true ↦ refl | false ↦ inside ] in
    ((λ i. any i && not (plain i)), (λ i. any i && (not (plain i) || bytes_eq bytes gate)))

pub counts_gate : (g : Geometry) (region : Region) (at : ℕ) → region_at g region ≤ at → at < region_at g region + region_size g region
    → counts_write g (Some region) at gate ≡ true
counts_gate g region at low high =
    let inside : within (region_at g region) (region_size g region) at ≡ true = in_part (region_at g region) (region_size g region) at low high in
    let any : (is_any region || within (region_at g region) (region_size g region) at) ≡ true =
    elim (is_any region) as (λ (a : Bool). (a || within (region_at g region) (region_size g region) at) ≡ true) [ true ↦ refl | false ↦ inside ] in
    elim (is_gate region) as (λ (b : Bool). (begins_in g region at && (not b || bytes_eq gate gate)) ≡ true) [ true ↦ both_true any refl | false ↦ both_true any refl ]

-- the progress bank of an image
bank_place : (g : Geometry) (image : ℕ) → image < g.images → Regular g
    → (region_at g (progress_region image) ≡ progress_at g image) × (region_size g (progress_region image) ≡ 2 * side_size)
    × (region_at g (progress_gate_region image) ≡ progress_at g image) × (region_size g (progress_gate_region image) ≡ 2 * side_size)
bank_place g zero there r = (refl, refl, refl, refl)
bank_place g (suc zero) there r = (refl, of_two g (2 * side_size) (second_there g zero there r), refl, of_two g (2 * side_size) (second_there g zero there r))
bank_place g (suc (suc i)) there r = absurd (elim (which (suc (suc i)) g.images there r.images_some) [ inl none ↦ omega (arith, none) | inr one ↦ omega (arith, one.0) ])

pub counted_in : (layout : Layout) → CountsInRegions layout
counted_in layout =
    let g = geometry_of layout in
    let image : ℕ = image_of layout in
    let r = regular layout.geometry layout.lawful in
    let b = bank_place g image layout.there r in
    record {
      slot = λ n at bytes le low high.
          (let p = slot_place g image n layout.there r le in
          counts_at g (slot_region image n) at bytes (omega (arith, p.0, low)) (omega (arith, p.0, p.1, high)) p.2);
      progress = (
        (λ at low high. counts_gate g (progress_region image) at (omega (arith, b.0, low)) (omega (arith, b.0, b.1, high))),
        (λ at low high. counts_gate g (progress_region image) at (omega (arith, b.0, low)) (omega (arith, b.0, b.1, high))),
      );
      progress_gate = (
        (λ at low high. counts_gate g (progress_gate_region image) at (omega (arith, b.2, low)) (omega (arith, b.2, b.3, high))),
        (λ at low high. counts_gate g (progress_gate_region image) at (omega (arith, b.2, low)) (omega (arith, b.2, b.3, high))),
      );
      settings = ((λ at low high. counts_gate g Settings at (omega arith) (omega arith)), (λ at low high. counts_gate g Settings at (omega arith) (omega arith)));
      settings_gate = ((λ at low high. counts_gate g SettingsGate at (omega arith) (omega arith)), (λ at low high. counts_gate g SettingsGate at (omega arith) (omega arith)));
    }

-- the secondary slot, the progress bank and the scratch page of an image lie apart from every region that is not theirs
upload_clear : (g : Geometry) (image : ℕ) → image < g.images → Regular g → (region : Region) → in_upload image region ≡ false
    → Clear (spot (slot_at g image 1) (slot_size g + 2 * side_size + g.page)) (region_at g region) (region_size g region)
upload_clear g image there r Any out = absurd (cc out)
upload_clear g zero there r Slot0 out = (inl (omega arith), tt)
upload_clear g zero there r Settings out = (inr (omega arith), tt)
upload_clear g zero there r SettingsGate out = (inr (omega arith), tt)
upload_clear g zero there r Slot1 out = absurd (cc out)
upload_clear g zero there r Progress out = absurd (cc out)
upload_clear g zero there r ProgressGate out = absurd (cc out)
upload_clear g zero there r Scratch out = absurd (cc out)
upload_clear g zero there r Slot2 out = (inr (omega arith), tt)
upload_clear g zero there r Slot3 out = (inr (omega arith), tt)
upload_clear g zero there r Progress2 out = (inr (omega arith), tt)
upload_clear g zero there r Progress2Gate out = (inr (omega arith), tt)
upload_clear g zero there r Scratch2 out = (inr (omega arith), tt)
upload_clear g (suc i) there r Slot0 out = (inl (omega arith), tt)
upload_clear g (suc i) there r Settings out = (inl (omega arith), tt)
upload_clear g (suc i) there r SettingsGate out = (inl (omega arith), tt)
upload_clear g (suc i) there r Slot1 out = (inl (omega arith), tt)
upload_clear g (suc i) there r Progress out = (inl (omega arith), tt)
upload_clear g (suc i) there r ProgressGate out = (inl (omega arith), tt)
upload_clear g (suc i) there r Scratch out = (inl (omega arith), tt)
upload_clear g (suc i) there r Slot2 out = (let e = of_two g (slot_size g) (second_there g i there r) in inl (omega (arith, e)), tt)
upload_clear g (suc i) there r Slot3 out = absurd (cc out)
upload_clear g (suc i) there r Progress2 out = absurd (cc out)
upload_clear g (suc i) there r Progress2Gate out = absurd (cc out)
upload_clear g (suc i) there r Scratch2 out = absurd (cc out)

-- the settings bank, and the primary slot of an image, likewise
settings_clear : (g : Geometry) (region : Region) → in_settings region ≡ false
    → Clear ((settings_at g, side_size) ∷ (settings_at g + side_size, side_size) ∷ []) (region_at g region) (region_size g region)
settings_clear g Any out = absurd (cc out)
settings_clear g Settings out = absurd (cc out)
settings_clear g SettingsGate out = absurd (cc out)
settings_clear g Slot0 out = (inl (omega arith), (inl (omega arith), tt))
settings_clear g Slot1 out = (inl (omega arith), (inl (omega arith), tt))
settings_clear g Progress out = (inl (omega arith), (inl (omega arith), tt))
settings_clear g ProgressGate out = (inl (omega arith), (inl (omega arith), tt))
settings_clear g Scratch out = (inl (omega arith), (inl (omega arith), tt))
settings_clear g Slot2 out = (inr (omega arith), (inr (omega arith), tt))
settings_clear g Slot3 out = (inr (omega arith), (inr (omega arith), tt))
settings_clear g Progress2 out = (inr (omega arith), (inr (omega arith), tt))
settings_clear g Progress2Gate out = (inr (omega arith), (inr (omega arith), tt))
settings_clear g Scratch2 out = (inr (omega arith), (inr (omega arith), tt))

primary_clear : (g : Geometry) (image : ℕ) (region : Region) → in_primary image region ≡ false
    → Clear ((slot_at g image 0, slot_size g) ∷ []) (region_at g region) (region_size g region)
primary_clear g image Any out = absurd (cc out)
primary_clear g zero Slot0 out = absurd (cc out)
primary_clear g zero Slot1 out = (inr (omega arith), tt)
primary_clear g zero Progress out = (inr (omega arith), tt)
primary_clear g zero ProgressGate out = (inr (omega arith), tt)
primary_clear g zero Scratch out = (inr (omega arith), tt)
primary_clear g zero Settings out = (inr (omega arith), tt)
primary_clear g zero SettingsGate out = (inr (omega arith), tt)
primary_clear g zero Slot2 out = (inr (omega arith), tt)
primary_clear g zero Slot3 out = (inr (omega arith), tt)
primary_clear g zero Progress2 out = (inr (omega arith), tt)
primary_clear g zero Progress2Gate out = (inr (omega arith), tt)
primary_clear g zero Scratch2 out = (inr (omega arith), tt)
primary_clear g (suc i) Slot0 out = (inl (omega arith), tt)
primary_clear g (suc i) Slot1 out = (inl (omega arith), tt)
primary_clear g (suc i) Progress out = (inl (omega arith), tt)
primary_clear g (suc i) ProgressGate out = (inl (omega arith), tt)
primary_clear g (suc i) Scratch out = (inl (omega arith), tt)
primary_clear g (suc i) Settings out = (inl (omega arith), tt)
primary_clear g (suc i) SettingsGate out = (inl (omega arith), tt)
primary_clear g (suc i) Slot2 out = absurd (cc out)
primary_clear g (suc i) Slot3 out = (inr (omega arith), tt)
primary_clear g (suc i) Progress2 out = (inr (omega arith), tt)
primary_clear g (suc i) Progress2Gate out = (inr (omega arith), tt)
primary_clear g (suc i) Scratch2 out = (inr (omega arith), tt)

-- a test that `Any` meets, and the region does not
not_any : (f : Region → Bool) (region : Region) → f Any ≡ true → f region ≡ false → is_any region ≡ false
not_any f Any holds out = absurd (cc (sym holds ∙ out))
not_any f Slot0 holds out = refl
not_any f Slot1 holds out = refl
not_any f Progress holds out = refl
not_any f ProgressGate holds out = refl
not_any f Scratch holds out = refl
not_any f Settings holds out = refl
not_any f SettingsGate holds out = refl
not_any f Slot2 holds out = refl
not_any f Slot3 holds out = refl
not_any f Progress2 holds out = refl
not_any f Progress2Gate holds out = refl
not_any f Scratch2 holds out = refl

pub spares_others : (layout : Layout) → SparesOthers layout
spares_others layout =
    let g = geometry_of layout in
    let image : ℕ = image_of layout in
    let r = regular layout.geometry layout.lawful in
    record {
      by_upload = λ region out. spares_clear g region (upload_spots layout) (not_any (in_upload image) region refl out) (upload_clear g image layout.there r region out);
      by_settings = λ region out. spares_clear g region (bank_spots (settings_of layout)) (not_any in_settings region refl out) (settings_clear g region out);
      by_primary = λ region out. spares_clear g region (area_spot (slot_of layout 0) ∷ []) (not_any (in_primary image) region refl out) (primary_clear g image region out);
    }
