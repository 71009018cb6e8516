-- Bytes that are added piece by piece, and what was kept of them.
use Rattle.std.proofs.Common.{◌≡◌, ◌≢◌, ℕ, ◌+◌, ◌-◌, ◌≤◌, ◌==◌, Bool, true, false, List, ◌++◌, length, length-append, take, drop, Option, Some, None, Result, Ok, Err, refl, sym, ap, ◌∙◌, subst, arith}
use Rattle.std.specs.Prelude.{nat_le, filter, bit_and, IfSome}
use Rattle.std.proofs.lemmas.List.{take_all, take-append-le, append_assoc}
use Rattle.std.proofs.Math.Seq.{take-add}
use Rattle.sha2.specs.Sha256.{sha256}
use Rattle.smp_model.specs.declared.image.ImageHeader.{ImageHeader}
use Rattle.smp_model.specs.declared.image.ImageInfo.{ImageInfo}
use Rattle.smp_model.specs.declared.image.ImageFault.{ImageFault}
use Rattle.smp_model.specs.declared.image.ImageFault.TheVariants.{Short, Magic, HeaderSize, Encrypted, Bounds, Protected}
use Rattle.smp_model.specs.Image.{Tlv, image_of, good_image, if_hashed, header_of, with_header, hashed, info_of, only_hash, is_hash, area_of, tlv_magic, has_protected, covered_of, image_magic, encrypted_flags, test}
use Rattle.smp_tlv.specs.Covered.{header_covers, covered_in}
use Rattle.smp_tlv.specs.Carried.{StandsAt}
use Rattle.smp_tlv.specs.declared.covered.Covered.{Covered}
use Rattle.smp_tlv.specs.declared.covered.Kept.{Kept}
use Rattle.smp_tlv.specs.declared.covered.Awaited.{Awaited}
use Rattle.smp_tlv.specs.declared.covered.Covered.TheVariants as covered
use Rattle.std.proofs.lemmas.Bool.Decides.{nat_tests}
use Rattle.smp_tlv.proofs.Hashing.{image_is_good, image_is_bad}

-- the header is the same with more bytes
pub covered_more : (added piece : List ℕ) (r : Result ℕ ImageFault) → 32 ≤ length added → covered_in added ≡ r → covered_in (added ++ piece) ≡ r
covered_more added piece r some states = ap (λ b. header_covers (header_of b)) (take-append-le 32 added piece some) ∙ states

-- what a header of 32 bytes states
pub header_states : (bytes : List ℕ) (h : ImageHeader) (r : Result ℕ ImageFault) (n : ℕ) → length bytes ≡ 32 → h ≡ header_of bytes → r ≡ header_covers h → r ≡ Ok n → covered_in bytes ≡ Ok n
header_states bytes h r n whole is states ok = ap (λ b. header_covers (header_of b)) (take_all 32 bytes (omega (arith, whole))) ∙ (ap header_covers (sym is) ∙ (sym states ∙ ok))

-- the bytes up to a place, and a piece from there on
pub piece_more : (added bytes : List ℕ) (at n : ℕ) → (added ++ take at bytes) ++ take (at + n - at) (drop at bytes) ≡ added ++ take (at + n) bytes
piece_more added bytes at n =
    let size : at + n - at ≡ n = omega arith in
    ap (λ k. (added ++ take at bytes) ++ take k (drop at bytes)) size
    ∙ (append_assoc added (take at bytes) (take n (drop at bytes))
    ∙ ap (λ m. added ++ m) (sym (take-add at n bytes)))

-- where covered bytes are missing, a piece more is that much fewer
pub awaited_more : (c : Covered) (awaited : Awaited) (added piece : List ℕ) → c ≡ covered.Awaited awaited → StandsAt c added
    → (32 ≤ length (added ++ piece)) × (covered_in (added ++ piece) ≡ Ok awaited.covered) × (length added + awaited.left ≡ awaited.covered)
awaited_more c awaited added piece is stands =
    let s : StandsAt (covered.Awaited awaited) added = subst (λ k. StandsAt k added) is stands in
    (omega (arith, length-append added piece, s.0), covered_more added piece (Ok awaited.covered) s.0 s.1, s.2)

-- where all covered bytes are there, or none are kept, more bytes change nothing
pub kept_more : (c : Covered) (kept : Kept) (added piece : List ℕ) → c ≡ covered.Kept kept → StandsAt c added → StandsAt (covered.Kept kept) (added ++ piece)
kept_more c kept added piece is stands =
    let s : StandsAt (covered.Kept kept) added = subst (λ k. StandsAt k added) is stands in (
      omega (arith, length-append added piece, s.0),
      covered_more added piece (Ok kept.covered) s.0 s.1,
      omega (arith, length-append added piece, s.2),
      s.3 ∙ ap sha256 (sym (take-append-le kept.covered added piece s.2)),
    )

pub nothing_more : (c : Covered) (added piece : List ℕ) → c ≡ covered.Nothing → StandsAt c added → StandsAt covered.Nothing (added ++ piece)
nothing_more c added piece is stands =
    let s : StandsAt covered.Nothing added = subst (λ k. StandsAt k added) is stands in
    (omega (arith, length-append added piece, s.0), λ n states. s.1 n (sym (covered_more added piece (covered_in added) s.0 refl) ∙ states))

-- a test before one that went through went through
test_ok : {A : Type 0} (v : Bool) (f : ImageFault) (r : Result A ImageFault) (a : A) → test v f r ≡ Ok a → (v ≡ true) × (r ≡ Ok a)
test_ok true f r a e = (refl, e)
test_ok false f r a e = absurd (let bad : Err f ≡ Ok a = e in cc)

test_true : {A : Type 0} (v : Bool) (f : ImageFault) (r : Result A ImageFault) → v ≡ true → test v f r ≡ r
test_true v f r e = rw e refl

nat_le_true : (a b : ℕ) → nat_le a b ≡ true → a ≤ b
nat_le_true a b e = grind (arith, nat_tests)

info-covered : (h : ImageHeader) (size : ℕ) (o : Option (List ℕ)) (i : ImageInfo) → info_of h size o ≡ Ok i → covered_of h ≡ i.covered
info-covered h size None i e = absurd cc
info-covered h size (Some hash) i e = cc

hashed-covered : (h : ImageHeader) (size : ℕ) (o : Option (List Tlv)) (i : ImageInfo) → hashed h size o ≡ Ok i → covered_of h ≡ i.covered
hashed-covered h size None i e = absurd cc
hashed-covered h size (Some ts) i e = info-covered h size (only_hash (filter is_hash ts)) i e

header_ok : (h : ImageHeader) (b : List ℕ) (i : ImageInfo) → with_header h b ≡ Ok i → (header_covers h ≡ Ok i.covered) × (i.covered + 4 ≤ length b)
header_ok h b i e =
    let magic = test_ok (h.magic == image_magic) Magic _ i e in
    let least = test_ok (nat_le 32 h.header_size) HeaderSize _ i magic.1 in
    let plain = test_ok (bit_and h.flags encrypted_flags == 0) Encrypted _ i least.1 in
    let bounds = test_ok (nat_le (covered_of h + 4) (length b)) Bounds _ i plain.1 in
    let there = test_ok (has_protected h.protected_size (drop (h.header_size + h.image_size) b)) Protected _ i bounds.1 in
    let same : covered_of h ≡ i.covered = hashed-covered h _ (area_of tlv_magic (drop (covered_of h) b)) i there.1 in
    let covers : header_covers h ≡ Ok (covered_of h) =
    test_true (h.magic == image_magic) Magic _ magic.0
    ∙ (test_true (nat_le 32 h.header_size) HeaderSize _ least.0
    ∙ test_true (bit_and h.flags encrypted_flags == 0) Encrypted _ plain.0) in
    (covers ∙ ap (λ (n : ℕ). Ok n) same, subst (λ n. n + 4 ≤ length b) same (nat_le_true (covered_of h + 4) (length b) bounds.0))

-- an image's header states how many bytes its hash is of, and these are there
pub image_covers : (b : List ℕ) (i : ImageInfo) → image_of b ≡ Ok i → (32 ≤ length b) × (covered_in b ≡ Ok i.covered) × (i.covered + 4 ≤ length b)
unfolding image_of
image_covers b i e =
    let long = test_ok (nat_le 32 (length b)) Short (with_header (header_of (take 32 b)) b) i e in
    let header = header_ok (header_of (take 32 b)) b i long.1 in
    (nat_le_true 32 (length b) long.0, header.0, header.1)

number_or : Result ℕ ImageFault → ℕ
number_or (Ok n) = n
number_or (Err f) = 0

same_number : (b : List ℕ) (m n : ℕ) → covered_in b ≡ Ok m → covered_in b ≡ Ok n → m ≡ n
unfolding number_or
same_number b m n e f = ap number_or (sym e ∙ f)

-- of an image whose bytes were all added, the digest of its covered bytes was kept
must_be_kept : (c : Covered) (added : List ℕ) (i : ImageInfo) → StandsAt c added → image_of added ≡ Ok i → (kept : Kept) × (c ≡ covered.Kept kept)
must_be_kept (covered.Header front) added i stands is = absurd (omega (arith, stands.0, front.few, (image_covers added i is).0))
must_be_kept (covered.Awaited awaited) added i stands is =
    let covers = image_covers added i is in
    absurd (omega (arith, stands.2, awaited.some, covers.2, same_number added awaited.covered i.covered stands.1 covers.1))
must_be_kept (covered.Kept kept) added i stands is = (kept, refl)
must_be_kept covered.Nothing added i stands is = absurd (stands.1 i.covered (image_covers added i is).1)

-- no image is good whose bytes are none
pub fault_is_bad : (added : List ℕ) (f : ImageFault) → image_of added ≡ Err f → None ≡ good_image added
unfolding good_image
fault_is_bad added f is = sym (ap (if_hashed added) is)

unkept : (c : Covered) (added : List ℕ) (r : Result ImageInfo ImageFault) → ((kept : Kept) → c ≡ covered.Kept kept → ⊥) → StandsAt c added → image_of added ≡ r → None ≡ good_image added
unkept c added (Err f) none stands is = fault_is_bad added f is
unkept c added (Ok i) none stands is = let k = must_be_kept c added i stands is in absurd (none k.0 k.1)

pub unkept_is_bad : (c : Covered) (added : List ℕ) → ((kept : Kept) → c ≡ covered.Kept kept → ⊥) → StandsAt c added → None ≡ good_image added
unkept_is_bad c added none stands = unkept c added (image_of added) none stands refl

decides : (answer : Option ImageInfo) (i : ImageInfo) (digest : List ℕ) (added : List ℕ) → IfSome answer (λ image. image ≡ i) → IfSome answer (λ image. digest ≡ i.hash)
    → (answer ≡ None → digest ≢ i.hash) → digest ≡ sha256 (take i.covered added) → image_of added ≡ Ok i → answer ≡ good_image added
decides None i digest added some same none right image = sym (image_is_bad (Some added) i digest (none refl) image right)
decides (Some j) i digest added some same none right image = ap (λ (k : ImageInfo). Some k) some ∙ sym (image_is_good (Some added) i digest same image right)

-- the digest that was kept decides
pub kept_decides : (c : Covered) (kept : Kept) (i : ImageInfo) (answer : Option ImageInfo) (added : List ℕ) → c ≡ covered.Kept kept
    → IfSome answer (λ image. image ≡ i) → IfSome answer (λ image. kept.covered ≡ i.covered) → IfSome answer (λ image. kept.digest ≡ i.hash)
    → (answer ≡ None → kept.covered ≡ i.covered → kept.digest ≢ i.hash) → StandsAt c added → image_of added ≡ Ok i → answer ≡ good_image added
kept_decides c kept i answer added is some covers digest none stands image =
    let s : StandsAt (covered.Kept kept) added = subst (λ k. StandsAt k added) is stands in
    let same : kept.covered ≡ i.covered = same_number added kept.covered i.covered s.1 (image_covers added i image).1 in
    let right : kept.digest ≡ sha256 (take i.covered added) = s.3 ∙ ap (λ n. sha256 (take n added)) same in
    decides answer i kept.digest added some digest (λ e. none e same) right image
