-- How many bytes are read of an image.
use Rattle.std.proofs.Common.{◌≡◌, ℕ, zero, suc, ◌+◌, ◌-◌, ◌<◌, ◌≤◌, Bool, true, false, List, length, take, drop, Option, Some, None, Result, Ok, Err, refl, sym, ap, ◌∙◌, subst, arith}
use Rattle.std.specs.Prelude.{not, ◌==◌, ◌&&◌, nat_lt, nat_le, if◌then◌else◌, IfSome, is_ok}
use Rattle.std.proofs.lemmas.Bool.Decides.{nat_tests}
use Rattle.smp_flash.specs.Calls.{ReadsAtMost}
use Rattle.smp_flash.proofs.Passing.{reads_add, reads_more, reads_none}
use Rattle.smp_model.specs.Image.{number_16, header_of, covered_of, has_protected}
use Rattle.smp_model.specs.declared.image.ImageHeader.{ImageHeader}
use Rattle.smp_model.specs.declared.image.ImageFault.{ImageFault}
use Rattle.smp_tlv.specs.Reads.{value_reads, tlv_reads, walk_reads, left_reads, protected_reads, other_reads, areas_reads, passes, image_reads, ReadsLeft}
use Rattle.smp_tlv.specs.Walking.{GoesOn}
use Rattle.smp_tlv.specs.declared.tlv.Walk.{Walk}

pub reads_few : (most : ℕ) (missing : Bool) (at last : ℕ) (held : List ℕ) → last - at < 4 → tlv_reads most missing at last held ≡ 0
reads_few zero missing at last held few = refl
reads_few (suc most) missing at last held few = let e : nat_lt (last - at) 4 ≡ true = grind (arith, nat_tests) in rw e refl

-- any number of TLVs that is not too small serves
pub reads_enough : (m n : ℕ) (missing : Bool) (at last : ℕ) (held : List ℕ) → last - at ≤ m → last - at ≤ n → tlv_reads m missing at last held ≡ tlv_reads n missing at last held
reads_enough zero n missing at last held p q = sym (reads_few n missing at last held (omega arith))
reads_enough (suc m) zero missing at last held p q = reads_few (suc m) missing at last held (omega arith)
reads_enough (suc m) (suc n) missing at last held p q =
    let kind : ℕ = number_16 (drop at held) 0 in
    let size : ℕ = number_16 (drop at held) 2 in
    ap (λ (r : ℕ). if nat_lt (last - at) 4 then 0 else (if nat_lt (last - (at + 4)) size then 4 else (4 + value_reads missing kind size + r)))
    (reads_enough m n (missing && not (kind == 16)) (at + 4 + size) last held (omega arith) (omega arith))

least_4 : (b : Bool) (v r : ℕ) → 4 ≤ (if b then 4 else (4 + v + r))
least_4 true v r = omega arith
least_4 false v r = omega arith

four_from : (k : ℕ) (missing : Bool) (at last : ℕ) (held : List ℕ) → 4 ≤ last - at → 4 ≤ tlv_reads (suc k) missing at last held
four_from k missing at last held some =
    let e : nat_lt (last - at) 4 ≡ false = grind (arith, nat_tests) in
    let size : ℕ = number_16 (drop at held) 2 in
    rw e (least_4 (nat_lt (last - (at + 4)) size) (value_reads missing (number_16 (drop at held) 0) size) (tlv_reads k (missing && not (number_16 (drop at held) 0 == 16)) (at + 4 + size) last held))

-- where a head has room it is read
pub reads_head : (missing : Bool) (at last : ℕ) (held : List ℕ) → 4 ≤ last - at → 4 ≤ tlv_reads (last - at) missing at last held
reads_head missing at last held some =
    let e : suc (last - at - 1) ≡ last - at = omega arith in
    subst (λ k. 4 ≤ tlv_reads k missing at last held) e (four_from (last - at - 1) missing at last held some)

next_from : (k : ℕ) (missing : Bool) (at last : ℕ) (held : List ℕ) → 4 ≤ last - at → number_16 (drop at held) 2 ≤ last - (at + 4)
    → tlv_reads (suc k) missing at last held ≡ 4 + value_reads missing (number_16 (drop at held) 0) (number_16 (drop at held) 2)
    + tlv_reads k (missing && not (number_16 (drop at held) 0 == 16)) (at + 4 + number_16 (drop at held) 2) last held
next_from k missing at last held some fits =
    let e : nat_lt (last - at) 4 ≡ false = grind (arith, nat_tests) in
    let f : nat_lt (last - (at + 4)) (number_16 (drop at held) 2) ≡ false = grind (arith, nat_tests) in
    rw (e, f) refl

-- what is read of a TLV that does not pass the end, and of those behind it
pub reads_next : (missing : Bool) (at last kind size : ℕ) (held : List ℕ) → 4 ≤ last - at → size ≤ last - (at + 4) → kind ≡ number_16 (drop at held) 0 → size ≡ number_16 (drop at held) 2
    → tlv_reads (last - at) missing at last held ≡ 4 + value_reads missing kind size + tlv_reads (last - (at + 4 + size)) (missing && not (kind == 16)) (at + 4 + size) last held
reads_next missing at last kind size held some fits is_kind is_size =
    let e : last - at ≡ suc (last - at - 1) = omega arith in
    let n : ℕ = number_16 (drop at held) 2 in
    let all : tlv_reads (last - at) missing at last held ≡ 4 + value_reads missing (number_16 (drop at held) 0) n + tlv_reads (last - (at + 4 + n)) (missing && not (number_16 (drop at held) 0 == 16)) (at + 4 + n) last held =
    ap (λ k. tlv_reads k missing at last held) e
    ∙ (next_from (last - at - 1) missing at last held some (omega arith)
    ∙ ap (λ r. 4 + value_reads missing (number_16 (drop at held) 0) n + r) (reads_enough (last - at - 1) (last - (at + 4 + n)) (missing && not (number_16 (drop at held) 0 == 16)) (at + 4 + n) last held (omega arith) (omega arith))) in
    rw (is_kind, is_size) all

-- how much is read at most, over bytes that may not be told
abbrev pub AtMost : Option (List ℕ) → (List ℕ → ℕ) → Option ℕ → Option ℕ → Type 0
AtMost x all p q = IfSome x (λ held. ReadsAtMost (all held) p q)

abbrev pub Leaves : Option (List ℕ) → (rest all : List ℕ → ℕ) → Option ℕ → Option ℕ → Type 0
Leaves x rest all p q = IfSome x (λ held. ReadsLeft (rest held) (all held) p q)

abbrev pub HasHead : Option (List ℕ) → (at kind size : ℕ) → Type 0
HasHead x at kind size = IfSome x (λ held. (kind ≡ number_16 (drop at held) 0) × (size ≡ number_16 (drop at held) 2))

pub at_most_none : (x : Option (List ℕ)) (all : List ℕ → ℕ) (p : Option ℕ) → AtMost x all p p
at_most_none None all p = tt
at_most_none (Some held) all p = reads_more 0 (all held) p p (omega arith) (reads_none p)

pub leaves_none : (x : Option (List ℕ)) (all : List ℕ → ℕ) (p : Option ℕ) → Leaves x (λ held. 0) all p p
leaves_none None all p = tt
leaves_none (Some held) all p = record { most = 0; fits = omega arith; reads = reads_none p }

pub leaves_all : (x : Option (List ℕ)) (all : List ℕ → ℕ) (p : Option ℕ) → Leaves x all all p p
leaves_all None all p = tt
leaves_all (Some held) all p = record { most = 0; fits = omega arith; reads = reads_none p }

-- one call more
pub leaves_then : (x : Option (List ℕ)) (rest mid all : List ℕ → ℕ) (p q r : Option ℕ) → Leaves x mid all p q → Leaves x rest mid q r → Leaves x rest all p r
leaves_then None rest mid all p q r f g = tt
leaves_then (Some held) rest mid all p q r f g =
    let fits : f.most + g.most + rest held ≤ all held = (omega (arith, f.fits, g.fits)) in
    record { most = f.most + g.most; fits = fits; reads = reads_add f.most g.most p q r f.reads g.reads }

pub at_most_then : (x : Option (List ℕ)) (mid all : List ℕ → ℕ) (p q r : Option ℕ) → Leaves x mid all p q → AtMost x mid q r → AtMost x all p r
at_most_then None mid all p q r f g = tt
at_most_then (Some held) mid all p q r f g =
    let fits : f.most + mid held ≤ all held = f.fits in
    reads_more (f.most + mid held) (all held) p r fits (reads_add f.most (mid held) p q r f.reads g)

pub at_most_all : (x : Option (List ℕ)) (rest all : List ℕ → ℕ) (p q : Option ℕ) → Leaves x rest all p q → AtMost x all p q
at_most_all None rest all p q f = tt
at_most_all (Some held) rest all p q f =
    let fits : f.most ≤ all held = (omega (arith, f.fits)) in
    reads_more f.most (all held) p q fits f.reads

-- a head was read
pub head_at_most : (x : Option (List ℕ)) (missing : Bool) (at last : ℕ) (p q : Option ℕ) → 4 ≤ last - at → ReadsAtMost 4 p q → AtMost x (λ held. tlv_reads (last - at) missing at last held) p q
head_at_most None missing at last p q some f = tt
head_at_most (Some held) missing at last p q some f = reads_more 4 (tlv_reads (last - at) missing at last held) p q (reads_head missing at last held some) f

pub head_leaves : (x : Option (List ℕ)) (missing : Bool) (at last : ℕ) (p q : Option ℕ) → 4 ≤ last - at → ReadsAtMost 4 p q → Leaves x (λ held. 0) (λ held. tlv_reads (last - at) missing at last held) p q
head_leaves None missing at last p q some f = tt
head_leaves (Some held) missing at last p q some f =
    let fits : 4 + 0 ≤ tlv_reads (last - at) missing at last held = reads_head missing at last held some in
    record { most = 4; fits = fits; reads = f }

-- a head and what is read of the value
pub next_leaves : (x : Option (List ℕ)) (missing after : Bool) (at last kind size next : ℕ) (p q r : Option ℕ) → 4 ≤ last - at → size ≤ last - (at + 4)
    → HasHead x at kind size → after ≡ (missing && not (kind == 16)) → next ≡ at + 4 + size
    → ReadsAtMost 4 p q → ReadsAtMost (value_reads missing kind size) q r
    → Leaves x (λ held. tlv_reads (last - next) after next last held) (λ held. tlv_reads (last - at) missing at last held) p r
next_leaves None missing after at last kind size next p q r some fits head is place f g = tt
next_leaves (Some held) missing after at last kind size next p q r some fits head is place f g =
    let v : ℕ = value_reads missing kind size in
    let e : tlv_reads (last - at) missing at last held ≡ 4 + v + tlv_reads (last - (at + 4 + size)) (missing && not (kind == 16)) (at + 4 + size) last held = reads_next missing at last kind size held some fits head.0 head.1 in
    let all : 4 + v + tlv_reads (last - (at + 4 + size)) (missing && not (kind == 16)) (at + 4 + size) last held ≤ tlv_reads (last - at) missing at last held = (omega (arith, e)) in
    rw (is, place) record { most = 4 + v; fits = all; reads = reads_add 4 v p q r f g }

pub value_at_most : (x : Option (List ℕ)) (missing : Bool) (at last kind size : ℕ) (p q r : Option ℕ) → 4 ≤ last - at → size ≤ last - (at + 4) → HasHead x at kind size
    → ReadsAtMost 4 p q → ReadsAtMost (value_reads missing kind size) q r → AtMost x (λ held. tlv_reads (last - at) missing at last held) p r
value_at_most x missing at last kind size p q r some fits head f g =
    at_most_all x _ _ p r (next_leaves x missing (missing && not (kind == 16)) at last kind size (at + 4 + size) p q r some fits head refl refl f g)

pub walk_leaves : (x : Option (List ℕ)) (o : Option Walk) (walk next : Walk) (last : ℕ) (all : List ℕ → ℕ) (p q r : Option ℕ) → o ≡ Some next → Leaves x (walk_reads walk last) all p q
    → Leaves x (left_reads last o) (walk_reads walk last) q r → Leaves x (walk_reads next last) all p r
walk_leaves x o walk next last all p q r is f g =
    leaves_then x (walk_reads next last) (walk_reads walk last) all p q r f (subst (λ (k : Option Walk). Leaves x (left_reads last k) (walk_reads walk last) q r) is g)

pub walk_goes_on : (o : Option Walk) (next : Walk) (at last : ℕ) → o ≡ Some next → GoesOn at last o → (at < next.at) × (next.at ≤ last)
walk_goes_on o next at last is goes = subst (GoesOn at last) is goes

image_least : (held : List ℕ) → 32 ≤ length held → 32 ≤ image_reads held
image_least held some =
    let e : nat_lt (length held) 32 ≡ false = grind (arith, nat_tests) in
    let least : (n : ℕ) → 32 ≤ 32 + n = (λ n. omega arith) in
    rw e (least (if passes (header_of (take 32 held)) (length held) then areas_reads (header_of (take 32 held)) held else 0))

-- what is read of an image whose header passes its tests
image_passed : (h : ImageHeader) (size : ℕ) (held : List ℕ) → length held ≡ size → 32 ≤ size → h ≡ header_of (take 32 held) → passes h size ≡ true → image_reads held ≡ 32 + areas_reads h held
image_passed h size held sized some is pass =
    let e : nat_lt (length held) 32 ≡ false = grind (arith, nat_tests) in
    let f : passes (header_of (take 32 held)) (length held) ≡ true = subst (λ (k : ImageHeader). passes k (length held) ≡ true) is (subst (λ n. passes h n ≡ true) (sym sized) pass) in
    let g : areas_reads (header_of (take 32 held)) held ≡ areas_reads h held = ap (λ (k : ImageHeader). areas_reads k held) (sym is) in
    rw (e, f) (ap (λ n. 32 + n) g)

-- a test passed that answered Ok
passed : {T : Type 0} (h : ImageHeader) (size : ℕ) (r : Result T ImageFault) (t : T) → is_ok r ≡ passes h size → r ≡ Ok t → passes h size ≡ true
passed h size r t is ok = sym is ∙ ap is_ok ok

-- where the header was read
pub header_at_most : (x : Option (List ℕ)) (size : ℕ) (p q : Option ℕ) → IfSome x (λ held. length held ≡ size) → 32 ≤ size → ReadsAtMost 32 p q → AtMost x image_reads p q
header_at_most None size p q sized some f = tt
header_at_most (Some held) size p q sized some f =
    let least : 32 ≤ image_reads held = image_least held (omega (arith, sized, some)) in
    reads_more 32 (image_reads held) p q least f

-- where the protected TLVs were read too
pub protected_at_most : {T : Type 0} (x : Option (List ℕ)) (size : ℕ) (h : ImageHeader) (res : Result T ImageFault) (t : T) (p q r : Option ℕ) → IfSome x (λ held. length held ≡ size) → 32 ≤ size
    → IfSome x (λ held. h ≡ header_of (take 32 held)) → is_ok res ≡ passes h size → res ≡ Ok t
    → ReadsAtMost 32 p q → AtMost x (protected_reads h) q r → AtMost x image_reads p r
protected_at_most None size h res t p q r sized some is tests ok f g = tt
protected_at_most (Some held) size h res t p q r sized some is tests ok f g =
    let e : image_reads held ≡ 32 + areas_reads h held = image_passed h size held sized some is (passed h size res t tests ok) in
    let least : 32 + protected_reads h held ≤ image_reads held = (omega (arith, e)) in
    reads_more (32 + protected_reads h held) (image_reads held) p r least (reads_add 32 (protected_reads h held) p q r f g)

-- where both areas were read
pub areas_at_most : {T : Type 0} (x : Option (List ℕ)) (size : ℕ) (h : ImageHeader) (covered : ℕ) (there : Bool) (res : Result T ImageFault) (t : T) (p q r s : Option ℕ)
    → IfSome x (λ held. length held ≡ size) → 32 ≤ size
    → IfSome x (λ held. h ≡ header_of (take 32 held)) → is_ok res ≡ passes h size → res ≡ Ok t
    → covered ≡ covered_of h → there ≡ true → IfSome x (λ held. there ≡ has_protected h.protected_size (drop (h.header_size + h.image_size) held))
    → ReadsAtMost 32 p q → AtMost x (protected_reads h) q r → AtMost x (other_reads covered) r s → AtMost x image_reads p s
areas_at_most None size h covered there res t p q r s sized some is tests ok cover right same f g k = tt
areas_at_most (Some held) size h covered there res t p q r s sized some is tests ok cover right same f g k =
    let e : image_reads held ≡ 32 + areas_reads h held = image_passed h size held sized some is (passed h size res t tests ok) in
    let b : has_protected h.protected_size (drop (h.header_size + h.image_size) held) ≡ true = sym same ∙ right in
    let o : (if has_protected h.protected_size (drop (h.header_size + h.image_size) held) then other_reads (covered_of h) held else 0) ≡ other_reads (covered_of h) held = rw b refl in
    let n : other_reads covered held ≡ other_reads (covered_of h) held = ap (λ c. other_reads c held) cover in
    let fits : 32 + protected_reads h held + other_reads covered held ≤ image_reads held = (omega (arith, e, o, n)) in
    reads_more (32 + protected_reads h held + other_reads covered held) (image_reads held) p s fits
    (reads_add (32 + protected_reads h held) (other_reads covered held) p r s (reads_add 32 (protected_reads h held) p q r f g) k)
