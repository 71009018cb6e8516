-- An image by its tests, one after the other.
use Rattle.std.proofs.Common.{◌≡◌, ℕ, ◌+◌, ◌<◌, ◌≤◌, Bool, true, false, List, length, take, drop, Option, Some, None, Result, Ok, Err, refl, sym, ap, ◌∙◌, arith}
use Rattle.std.specs.Prelude.{nat_le, IfSome, IfOk, IfErr, ◌-◌}
use Rattle.std.proofs.lemmas.Bool.Decides.{nat_tests}
use Rattle.smp_model.specs.declared.image.ImageHeader.{ImageHeader}
use Rattle.smp_model.specs.declared.image.ImageInfo.{ImageInfo}
use Rattle.smp_model.specs.declared.image.ImageFault.{ImageFault}
use Rattle.smp_model.specs.declared.image.ImageFault.TheVariants.{Short, Protected, Tlvs, NoHash}
use Rattle.smp_model.specs.Image.{image_of, header_of, with_header, with_areas, with_tlvs, covered_of, has_protected}
use Rattle.smp_flash.specs.declared.flash.FlashFault.{FlashFault}
use Rattle.smp_flash.specs.Calls.{ReadsAtMost}
use Rattle.smp_flash.proofs.Passing.{reads_add, reads_more}
use Rattle.smp_tlv.specs.Faults.{unless, IsOfTlvs}
use Rattle.smp_tlv.specs.State.{image_cost}

pub image-short : (b : List ℕ) → length b < 32 → image_of b ≡ Err Short
unfolding image_of
image-short b few = let e : nat_le 32 (length b) ≡ false = grind (arith, nat_tests) in rw e refl

pub image-long : (b : List ℕ) → 32 ≤ length b → image_of b ≡ with_header (header_of (take 32 b)) b
unfolding image_of
image-long b some = let e : nat_le 32 (length b) ≡ true = grind (arith, nat_tests) in rw e refl

-- by the header that was read, and what its tests found
pub image-tested : {T : Type 0} (h : ImageHeader) (passed : Result T ImageFault) (b : List ℕ) → 32 ≤ length b → h ≡ header_of (take 32 b)
    → with_header h b ≡ unless passed (with_areas h b) → image_of b ≡ unless passed (with_areas h b)
image-tested h passed b some is tests = image-long b some ∙ (ap (λ (k : ImageHeader). with_header k b) (sym is) ∙ tests)

pub areas-wrong : (h : ImageHeader) (b : List ℕ) → has_protected h.protected_size (drop (h.header_size + h.image_size) b) ≡ false → with_areas h b ≡ Err Protected
areas-wrong h b e = rw e refl

pub areas-right : (h : ImageHeader) (b : List ℕ) → has_protected h.protected_size (drop (h.header_size + h.image_size) b) ≡ true → with_areas h b ≡ with_tlvs h (drop (covered_of h) b)
areas-right h b e = rw e refl

-- the answers of a reader of an image, over bytes that may not be told
abbrev pub Answers : Result ImageInfo ImageFault → List ℕ → Type 0
Answers answer held = answer ≡ image_of held

pub answers_short : (x : Option (List ℕ)) (size : ℕ) → IfSome x (λ held. length held ≡ size) → size < 32 → IfSome x (Answers (Err Short))
answers_short None size sized few = tt
answers_short (Some held) size sized few = sym (image-short held (omega arith))

-- what was read of the header and what its tests found
pub tested : {T : Type 0} (x : Option (List ℕ)) (size : ℕ) (h : ImageHeader) (passed : Result T ImageFault) → IfSome x (λ held. length held ≡ size) → 32 ≤ size
    → IfSome x (λ held. h ≡ header_of (take 32 held)) → ((b : List ℕ) → length b ≡ size → with_header h b ≡ unless passed (with_areas h b))
    → IfSome x (λ held. image_of held ≡ unless passed (with_areas h held))
tested None size h passed sized some is tests = tt
tested (Some held) size h passed sized some is tests = image-tested h passed held (omega arith) is (tests held sized)

pub answers_fault : {T : Type 0} (x : Option (List ℕ)) (h : ImageHeader) (passed : Result T ImageFault) (f : ImageFault) → passed ≡ Err f
    → IfSome x (λ held. image_of held ≡ unless passed (with_areas h held)) → IfSome x (Answers (Err f))
answers_fault None h passed f is same = tt
answers_fault (Some held) h passed f is same = sym (same ∙ ap (λ p. unless p (with_areas h held)) is)

pub answers_areas : {T : Type 0} (x : Option (List ℕ)) (h : ImageHeader) (passed : Result T ImageFault) (t : T) → passed ≡ Ok t
    → IfSome x (λ held. image_of held ≡ unless passed (with_areas h held)) → IfSome x (λ held. image_of held ≡ with_areas h held)
answers_areas None h passed t is same = tt
answers_areas (Some held) h passed t is same = same ∙ ap (λ p. unless p (with_areas h held)) is

pub answers_protected : (x : Option (List ℕ)) (h : ImageHeader) (there : Bool) → there ≡ false
    → IfSome x (λ held. image_of held ≡ with_areas h held) → IfSome x (λ held. there ≡ has_protected h.protected_size (drop (h.header_size + h.image_size) held))
    → IfSome x (Answers (Err Protected))
answers_protected None h there wrong same is = tt
answers_protected (Some held) h there wrong same is = sym (same ∙ areas-wrong h held (sym is ∙ wrong))

pub answers_tlvs : (x : Option (List ℕ)) (h : ImageHeader) (covered : ℕ) (there : Bool) (answer : Result ImageInfo ImageFault) → covered ≡ covered_of h → there ≡ true
    → IfSome x (λ held. image_of held ≡ with_areas h held) → IfSome x (λ held. there ≡ has_protected h.protected_size (drop (h.header_size + h.image_size) held))
    → IfSome x (λ held. answer ≡ with_tlvs h (drop covered held)) → IfSome x (Answers answer)
answers_tlvs None h covered there answer end right same is tlvs = tt
answers_tlvs (Some held) h covered there answer end right same is tlvs =
    tlvs ∙ (ap (λ k. with_tlvs h (drop k held)) end ∙ sym (same ∙ areas-right h held (sym is ∙ right)))

pub IfOk-map : {A E : Type 0} (r : Result A E) (P Q : A → Type 0) → ((a : A) → P a → Q a) → IfOk r P → IfOk r Q
IfOk-map (Ok a) P Q step p = step a p
IfOk-map (Err e) P Q step p = tt

-- how many bytes are read of an image: its header, its protected TLVs, and the others
pub cost_of : (r : Result (Result ImageInfo ImageFault) FlashFault) (protected covered : ℕ) (a b c d : Option ℕ) → protected ≤ 65535 → 32 + protected ≤ covered
    → ReadsAtMost 32 a b → ReadsAtMost protected b c → ReadsAtMost 65535 c d → IfOk r (λ answer. IfErr answer IsOfTlvs)
    → IfOk r (λ answer. IfOk answer (λ info. covered + 4 ≤ info.end)) → IfOk r (λ answer. IfOk answer (λ info. ReadsAtMost (info.end - covered) c d))
    → IfOk r (λ answer. ReadsAtMost (image_cost answer) a d)
cost_of (Err f) protected covered a b c d most least x y z kind after cost = tt
cost_of (Ok (Ok info)) protected covered a b c d most least x y z kind after cost =
    reads_more (32 + protected + (info.end - covered)) info.end a d (omega arith) (reads_add (32 + protected) (info.end - covered) a c d (reads_add 32 protected a b c x y) cost)
cost_of (Ok (Err Tlvs)) protected covered a b c d most least x y z kind after cost =
    reads_more (32 + protected + 65535) 131102 a d (omega arith) (reads_add (32 + protected) 65535 a c d (reads_add 32 protected a b c x y) z)
cost_of (Ok (Err NoHash)) protected covered a b c d most least x y z kind after cost =
    reads_more (32 + protected + 65535) 131102 a d (omega arith) (reads_add (32 + protected) 65535 a c d (reads_add 32 protected a b c x y) z)
cost_of (Ok (Err _)) protected covered a b c d most least x y z kind after cost = absurd kind
