-- Which sizes stand in a head.
use Rattle.std.proofs.Common.{◌≡◌, ◌⊎◌, ◌≢◌, ℕ, ◌+◌, ◌^◌, ◌<◌, ◌≤◌, Bool, true, false, List, [], ◌∷◌, get_or, length, inl, inr, refl, sym, ap, ◌∙◌, subst, arith, lit<}
use Rattle.std.specs.Prelude.{◌&&◌}
use Rattle.std.specs.Int.{w32, from_be_bytes, to_be_bytes}
use Rattle.std.proofs.lemmas.Nat.{from_be_bytes-to_be_bytes_4}
use Rattle.std.proofs.lemmas.Bool.Decides.{nat_tests}
use Rattle.smp_flash.specs.Geometry.{is_page, is_unit, are_slot_pages, are_images, is_lawful, size_of, IsUnit}
use Rattle.smp_flash.specs.declared.geometry.Geometry.{Geometry}
use Rattle.smp_flash.specs.Head.{IsFile, IsNoHead, IsNoFile, ReadsSizes, flash_head, images_number, images_read}
use Rattle.smp_flash.proofs.Sizes.{regular, each_unit}

-- the number in four bytes of the head
abbrev number_in : List ℕ → ℕ → ℕ
number_in head i = from_be_bytes w32 (get_or head i 0 ∷ get_or head (i + 1) 0 ∷ get_or head (i + 2) 0 ∷ get_or head (i + 3) 0 ∷ [])

both_right : (a b : Bool) → (a && b) ≡ true → b ≡ true
both_right true b e = e
both_right false b e = absurd (cc e)

both_left : (a b : Bool) → (a && b) ≡ true → a ≡ true
both_left true b e = refl
both_left false b e = absurd (cc e)

slots_small : (g : Geometry) → is_lawful g ≡ true → g.slot_pages < 2 ^ 32
slots_small g good =
    let rest = both_right (is_unit g.unit) (are_slot_pages g.slot_pages && are_images g.images)
    (both_right (is_page g.page) (is_unit g.unit && (are_slot_pages g.slot_pages && are_images g.images)) good) in
    small g.slot_pages (both_left (are_slot_pages g.slot_pages) (are_images g.images) rest)
  where
    small : (n : ℕ) → are_slot_pages n ≡ true → n < 2 ^ 32
    small n is = grind (arith, nat_tests)

unit_small : (n : ℕ) → IsUnit n → n < 2 ^ 32
unit_small n is = each_unit (λ (k : ℕ). k < 2 ^ 32) (lit< tt) (lit< tt) (lit< tt) (lit< tt) n is

images_small : (n : ℕ) → (n ≡ 1) ⊎ (n ≡ 2) → images_number n < 2 ^ 32
images_small n (inl e) = subst (λ (k : ℕ). images_number k < 2 ^ 32) (sym e) (lit< tt)
images_small n (inr e) = subst (λ (k : ℕ). images_number k < 2 ^ 32) (sym e) (lit< tt)

images_again : (n : ℕ) → (n ≡ 1) ⊎ (n ≡ 2) → images_read (images_number n) ≡ n
images_again n (inl e) = subst (λ (k : ℕ). images_read (images_number k) ≡ k) (sym e) refl
images_again n (inr e) = subst (λ (k : ℕ). images_read (images_number k) ≡ k) (sym e) refl

-- the numbers of a head are its sizes
pub sizes_found : (head : List ℕ) (page unit slots number images : ℕ) → page ≡ number_in head 8 → unit ≡ number_in head 12 → slots ≡ number_in head 16
    → number ≡ number_in head 20 → images ≡ images_read number
    → ReadsSizes head (record { page = page; unit = unit; slot_pages = slots; images = images })
sizes_found head page unit slots number images a b c d e g good is =
    let r = regular g good in
    let some = r.images_some in
    let small = r.page_most in
    let p : page ≡ g.page = a ∙ ap (λ (l : List ℕ). number_in l 8) is ∙ from_be_bytes-to_be_bytes_4 g.page (omega arith) in
    let u : unit ≡ g.unit = b ∙ ap (λ (l : List ℕ). number_in l 12) is ∙ from_be_bytes-to_be_bytes_4 g.unit (unit_small g.unit r.is_unit) in
    let s : slots ≡ g.slot_pages = c ∙ ap (λ (l : List ℕ). number_in l 16) is ∙ from_be_bytes-to_be_bytes_4 g.slot_pages (slots_small g good) in
    let n : number ≡ images_number g.images = d ∙ ap (λ (l : List ℕ). number_in l 20) is ∙ from_be_bytes-to_be_bytes_4 (images_number g.images) (images_small g.images some) in
    let m : images ≡ g.images = e ∙ ap images_read n ∙ images_again g.images some in
    λ i. record { page = p i; unit = u i; slot_pages = s i; images = m i }

-- the sizes that stand in it are not lawful
pub no_head : (head : List ℕ) (found : Geometry) → ReadsSizes head found → is_lawful found ≡ false → IsNoHead head
no_head head found reads bad g good is =
    let same : found ≡ g = reads g good is in
    absurd (cc (sym bad ∙ ap is_lawful same ∙ good))

-- it is not the head of the sizes that stand in it
pub other_head : (head other : List ℕ) (found : Geometry) → ReadsSizes head found → other ≡ flash_head found → other ≢ head → IsNoHead head
other_head head other found reads written differs g good is =
    let same : found ≡ g = reads g good is in
    differs (written ∙ ap flash_head same ∙ sym is)

-- a file of another length
pub no_file : (head : List ℕ) (length : ℕ) (found : Geometry) → ReadsSizes head found → length ≢ 32 + size_of found → IsNoFile head length
no_file head length found reads other g good is =
    let same : found ≡ g = reads g good is.0 in
    other (is.1 ∙ ap (λ (h : Geometry). 32 + size_of h) (sym same))

-- a head that none has is the head of no file
pub no_file_of_head : (head : List ℕ) (length : ℕ) → IsNoHead head → IsNoFile head length
no_file_of_head head length none g good is = none g good is.0

pub head_short : (head : List ℕ) (g : Geometry) → head ≡ flash_head g → length head ≤ 32
head_short head g e = let n : length head ≡ 32 = ap length e in omega arith
