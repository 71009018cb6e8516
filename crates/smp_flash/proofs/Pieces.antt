-- A page is read piece by piece.
use Rattle.std.proofs.Common.{◌≡◌, inl, inr, ℕ, ◌+◌, ◌*◌, ◌/◌, ◌<◌, ◌≤◌, Bool, true, false, Option, Some, None, List, sym, ◌∙◌, ap, subst, arith}
use Rattle.std.specs.Prelude.{IfSome, IsTrue, ◌↔◌, if◌then◌else◌}
use Rattle.std.specs.Str.{bytes_eq}
use Rattle.std.proofs.lemmas.Bool.{cases_Bool}
use Rattle.std.proofs.lemmas.Slice.Eq.{bytes_eq-Decides}
use Rattle.smp_flash.specs.Area.{area, blank, dirty}
use Rattle.smp_flash.specs.State.{Changes}
use Rattle.smp_flash.specs.Calls.{ChangesAtMost}
use Rattle.smp_flash.specs.Geometry.{IsPage}
use Rattle.smp_flash.proofs.Areas.{blank_within, blank-add}
use Rattle.smp_flash.proofs.Passing.{changes_add, changes_more}
use Rattle.smp_flash.proofs.Sizes.{each_page}

pub piece_fits : (page i : ℕ) → IsPage page → i < page / 512 → i * 512 + 512 ≤ page
piece_fits page i is low = each_page (λ p. (i : ℕ) → i < p / 512 → i * 512 + 512 ≤ p) (λ i l. omega arith) (λ i l. omega arith) (λ i l. omega arith) (λ i l. omega arith) page is i low

pub pieces_end : (page i : ℕ) → IsPage page → i ≡ page / 512 → i * 512 ≡ page
pieces_end page i is e = each_page (λ p. (i : ℕ) → i ≡ p / 512 → i * 512 ≡ p) (λ i l. omega arith) (λ i l. omega arith) (λ i l. omega arith) (λ i l. omega arith) page is i e

-- a piece with a byte that is not FF
pub not_erased : (at p n size : ℕ) (x y : Option (List ℕ)) (b : Bool) → y ≡ x → p + n ≤ size → b ≡ false → IfSome y (λ held. IsTrue b ↔ (area (at + p) n held ≡ blank n))
    → IfSome x (λ held. IsTrue false ↔ (area at size held ≡ blank size))
not_erased at p n size None y b same le is found = tt
not_erased at p n size (Some x) None b same le is found = absurd (cc same)
not_erased at p n size (Some x) (Some y) b same le is found =
    let e : y ≡ x = cc same in
    ((λ t. absurd (cc t)), (λ all. let t : IsTrue b = found.1 (ap (area (at + p) n) e ∙ blank_within at size p n x le all) in absurd (cc (sym t ∙ is))))

-- a further piece that is erased
pub more_erased : (at i : ℕ) (x y : Option (List ℕ)) (b : Bool) → y ≡ x → b ≡ true → IfSome x (λ held. area at (i * 512) held ≡ blank (i * 512))
    → IfSome y (λ held. IsTrue b ↔ (area (at + i * 512) 512 held ≡ blank 512)) → IfSome x (λ held. area at ((i + 1) * 512) held ≡ blank ((i + 1) * 512))
more_erased at i None y b same is front found = tt
more_erased at i (Some x) None b same is front found = absurd (cc same)
more_erased at i (Some x) (Some y) b same is front found =
    let e : y ≡ x = cc same in
    let n : (i + 1) * 512 ≡ i * 512 + 512 = omega arith in
    rw n (blank-add at (i * 512) 512 x front (sym (ap (area (at + i * 512) 512) e) ∙ found.0 is))

-- all pieces are erased
pub all_erased : (at n size : ℕ) (x : Option (List ℕ)) → n ≡ size → IfSome x (λ held. area at n held ≡ blank n) → IfSome x (λ held. IsTrue true ↔ (area at size held ≡ blank size))
all_erased at n size None e front = tt
all_erased at n size (Some x) e front = let all : area at size x ≡ blank size = subst (λ (k : ℕ). area at k x ≡ blank k) e front in ((λ t. all), (λ a. sym (cc a)))

-- a page that is not all FF is dirty
dirty_one : (page : ℕ) (bytes : List ℕ) (b : Bool) → b ≡ false → (IsTrue b ↔ (bytes ≡ blank page)) → dirty page bytes ≡ 1
dirty_one page bytes b is found =
    elim (cases_Bool (bytes_eq bytes (blank page))) [
      | inl whole ↦ absurd (let t : IsTrue b = found.1 ((bytes_eq-Decides bytes (blank page)).0 whole) in cc (sym t ∙ is))
      | inr other ↦ ap (λ (t : Bool). if t then 0 else 1) other
    ]

-- no erase, and one of a page that is not all FF
pub no_erase : (f : List ℕ → ℕ) (x : Option (List ℕ)) (p q : Option Changes) → ChangesAtMost 0 0 p q → IfSome x (λ held. ChangesAtMost 0 (f held) p q)
no_erase f None p q none = tt
no_erase f (Some x) p q none = changes_more 0 0 0 (f x) p q (omega arith) (omega arith) none

pub one_erase : (at page : ℕ) (x : Option (List ℕ)) (b : Bool) (p q r : Option Changes) → b ≡ false → IfSome x (λ held. IsTrue b ↔ (area at page held ≡ blank page))
    → ChangesAtMost 0 0 p q → ChangesAtMost 0 1 q r → IfSome x (λ held. ChangesAtMost 0 (dirty page (area at page held)) p r)
one_erase at page None b p q r is found none one = tt
one_erase at page (Some x) b p q r is found none one =
    subst (λ (n : ℕ). ChangesAtMost 0 n p r) (sym (dirty_one page (area at page x) b is found)) (changes_add 0 0 0 1 p q r none one)
