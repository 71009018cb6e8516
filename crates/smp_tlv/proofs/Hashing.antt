-- A sum over the front of bytes that may not be told, and what it says of an image.
use Rattle.std.proofs.Common.{◌≡◌, ◌≢◌, ℕ, ◌+◌, true, false, List, ◌++◌, take, Option, Some, None, Ok, refl, sym, ap, ◌∙◌, subst, arith}
use Rattle.std.specs.Prelude.{IfSome}
use Rattle.std.specs.Str.{bytes_eq}
use Rattle.std.proofs.Math.Seq.{take-add}
use Rattle.std.proofs.lemmas.Grind.{common_steps}
use Rattle.std.proofs.lemmas.Slice.Eq.{bytes_eq-Decides}
use Rattle.sha2.specs.declared.Sha256.{Sha256}
use Rattle.sha2.specs.Hashers.{Holds256}
use Rattle.sha2.specs.Sha256.{sha256}
use Rattle.smp_flash.specs.Area.{area}
use Rattle.smp_model.specs.declared.image.ImageInfo.{ImageInfo}
use Rattle.smp_model.specs.Image.{image_of, good_image, if_hashed}

-- a block more
pub sum_more : (x : Option (List ℕ)) (at size : ℕ) (block : List ℕ) (s t : Sha256) → IfSome x (λ held. block ≡ area at size held)
    → ((m : List ℕ) → Holds256 s m → Holds256 t (m ++ block))
    → IfSome x (λ held. Holds256 s (take at held) → Holds256 t (take (at + size) held))
sum_more None at size block s t is adds = tt
sum_more (Some held) at size block s t is adds = λ holds.
    let e : take at held ++ block ≡ take (at + size) held = ap (λ (b : List ℕ). take at held ++ b) is ∙ sym (take-add at size held) in
    subst (λ (m : List ℕ). Holds256 t m) e (adds (take at held) holds)

same_bytes : (a b : List ℕ) → a ≡ b → bytes_eq a b ≡ true
same_bytes a b e = grind (arith, common_steps, bytes_eq-Decides)

other_bytes : (a b : List ℕ) → a ≢ b → bytes_eq a b ≡ false
other_bytes a b e = grind (arith, common_steps, bytes_eq-Decides)

pub image_is_good : (x : Option (List ℕ)) (i : ImageInfo) (digest : List ℕ) → digest ≡ i.hash → IfSome x (λ held. image_of held ≡ Ok i)
    → IfSome x (λ held. digest ≡ sha256 (take i.covered held)) → IfSome x (λ held. good_image held ≡ Some i)
unfolding good_image
image_is_good None i digest same is right = tt
image_is_good (Some held) i digest same is right =
    let e : bytes_eq i.hash (sha256 (take i.covered held)) ≡ true = same_bytes i.hash (sha256 (take i.covered held)) (sym same ∙ right) in
    ap (if_hashed held) is ∙ rw e refl

pub image_is_bad : (x : Option (List ℕ)) (i : ImageInfo) (digest : List ℕ) → digest ≢ i.hash → IfSome x (λ held. image_of held ≡ Ok i)
    → IfSome x (λ held. digest ≡ sha256 (take i.covered held)) → IfSome x (λ held. good_image held ≡ None)
unfolding good_image
image_is_bad None i digest other is right = tt
image_is_bad (Some held) i digest other is right =
    let e : bytes_eq i.hash (sha256 (take i.covered held)) ≡ false = other_bytes i.hash (sha256 (take i.covered held)) (λ same. other (right ∙ sym same)) in
    ap (if_hashed held) is ∙ rw e refl
