-- Which images are mounted after a request about one of them.
use Rattle.std.proofs.Common.{◌≡◌, ℕ, zero, suc, ◌-◌, Bool, true, false, ◌&&◌, ◌||◌, not, nat_lt, ◌==◌, Option, Some, None, List, length, Ok, Err, refl, sym, ◌∙◌, ap, subst, arith, if◌then◌else◌, [], ◌∷◌, Result}
use Rattle.std.proofs.lemmas.Bool.Decides.{nat_tests}
use Rattle.std.specs.Prelude.{IfErr, IfSome, IsSome, is_some, option_map}
use Rattle.smp_flash.specs.State.{FlashState}
use Rattle.smp_flash.specs.declared.layout.Layout.{Layout}
use Rattle.smp_model.specs.declared.device.AbstractDevice.{AbstractDevice}
use Rattle.smp_model.specs.declared.device.Sizes.{Sizes}
use Rattle.smp_model.specs.declared.reply.Reply.{Reply}
use Rattle.smp_model.specs.Due.{image_for}
use Rattle.smp_model.specs.FlashUse.{has_image, is_erase_taken, is_hash_taken, is_part_taken, is_start_taken, uses_images}
use Rattle.smp_model.specs.ImageGroup.{begins_with_magic, has_wrong_size, lists_after, side_of}
use Rattle.smp_model.specs.Response.{Response}
use Rattle.smp_model.specs.Meant as meant
use Rattle.smp_upload.specs.declared.states.UploadFault.{UploadFault}
use Rattle.smp_side.specs.Held.{held_layout, is_mounted, is_ok}
use Rattle.smp_side.specs.declared.held.Held.{Held}
use Rattle.smp_device.specs.Answers.{ImagesAnswer, LostOne}
use Rattle.smp_device.specs.Mounts.{HasImages, held_at, Untouched, FellIn, MountsOne, MountsFor, Untouches, MountsItsOwn, MountsAll, MountsResult, MountsSettled, KeepsOthers, IsMountedAt, IsUnmountedAt}
use Rattle.smp_device.specs.Settling.{Unsettled}
use Rattle.smp_device.specs.Places.{Places, place_at, places_of}
use Rattle.smp_device.specs.Requests.{MountsOf, SecondMounted}
use Rattle.smp_device.specs.Uploads.{Announces}
use Rattle.smp_flash.specs.declared.geometry.Geometry.{Geometry}
use Rattle.smp_flash.specs.Geometry.{slot_size}
use Rattle.smp_device.specs.Uploads.{sizes_of}
use Rattle.smp_model.specs.declared.upload.Announcement.{Announcement}
use Rattle.smp_device.specs.declared.images.Images.{Images}
use Rattle.smp_device.specs.declared.images.Replied.{Replied}

-- A request that changed nothing.

pub answered_untouched : (images : Images) (reply : Reply) (r : Replied) (a : FlashState) → r ≡ record { images = images; result = Ok reply } → Untouched images r a a
answered_untouched images reply r a e = record { answered = ap (λ (x : Replied). is_ok x.result) e; images_same = ap (λ (x : Replied). x.images) e; flash_same = refl }

pub one_untouched : (images : Images) (reply : Reply) (r : Replied) (a : FlashState) → images.one ≡ None → r ≡ record { images = record { zero = images.zero; one = None; target = images.target }; result = Ok reply } → Untouched images r a a
one_untouched images reply r a none e = answered_untouched images reply r a (e ∙ (λ i. record { images = record { zero = images.zero; one = sym none i; target = images.target }; result = Ok reply }))

no_place_zero : (p : Places) (i : ℕ) → i ≡ 0 → place_at i p ≡ None → ⊥
no_place_zero p i e none = absurd (cc (ap (λ (n : ℕ). place_at n p) (sym e) ∙ none))

pub untouched_zero : (p : Places) (images : Images) (i : ℕ) (r : Replied) (a b : FlashState) → i ≡ 0 → place_at i p ≡ None → Untouched images r a b
untouched_zero p images i r a b e none = absurd (no_place_zero p i e none)

pub untouched_one : (p : Places) (images : Images) (i : ℕ) (r : Replied) (a b : FlashState) → i ≡ 1 → (place_at 1 p ≡ None → Untouched images r a b) → place_at i p ≡ None → Untouched images r a b
untouched_one p images i r a b e f none = f (ap (λ (n : ℕ). place_at n p) (sym e) ∙ none)

some_held : (o : Option Held) (h : Held) → o ≡ Some h → option_map held_layout o ≡ None → ⊥
some_held o h e none = absurd (cc (ap (option_map held_layout) (sym e) ∙ none))

pub held_untouched : (images : Images) (h : Held) (r : Replied) (a b : FlashState) → images.one ≡ Some h → place_at 1 (places_of images) ≡ None → Untouched images r a b
held_untouched images h r a b e none = absurd (some_held images.one h e none)

-- One image was asked.

second_mounted : (o : Option Held) (place : Option Layout) (b : Bool) → option_map held_layout o ≡ place → IsSome place → SecondMounted o b → option_map is_mounted o ≡ Some b
second_mounted None place b e there m = absurd (cc (ap is_some e ∙ there))
second_mounted (Some h) place b e there m = ap Some m

others_zero : (before : Images) (r : Replied) → MountsOf 0 before r → (other : ℕ) → (0 ≡ other → ⊥) → held_at other r.images ≡ held_at other before
others_zero before r m zero ne = absurd (ne refl)
others_zero before r m (suc zero) ne = m.1
others_zero before r m (suc (suc n)) ne = refl

others_one : (before : Images) (r : Replied) → MountsOf 1 before r → (other : ℕ) → (1 ≡ other → ⊥) → held_at other r.images ≡ held_at other before
others_one before r m zero ne = ap Some m.0
others_one before r m (suc zero) ne = absurd (ne refl)
others_one before r m (suc (suc n)) ne = refl

pub mounts_one : (before : Images) (r : Replied) (a b : FlashState) (i : ℕ) → IsSome (place_at i (places_of before)) → places_of r.images ≡ places_of before → MountsOf i before r → IfErr r.result (λ fault. FellIn (places_of before) 5 i fault a b)
    → MountsOne (places_of before) i before r a b
mounts_one before r a b zero there places m f = record { mounted = ap Some m.0; others = others_zero before r m; fell = f }
mounts_one before r a b (suc zero) there places m f = record {
  mounted = second_mounted r.images.one (places_of before).second (is_ok r.result) (ap (λ (p : Places). p.second) places) there m.1;
  others = others_one before r m;
  fell = f;
}
mounts_one before r a b (suc (suc n)) there places m f = absurd (cc there)

-- Whether the fields of a part let it come to the flash.

taken_where : (a b c e : Bool) (v w x y : ℕ) → (if a then Some v else if b then Some w else if c then Some x else if not e then Some y else None) ≡ None → (not a && (not b && (not c && e))) ≡ true
taken_where true b c e v w x y f = absurd (cc f)
taken_where false true c e v w x y f = absurd (cc f)
taken_where false false true e v w x y f = absurd (cc f)
taken_where false false false true v w x y f = refl
taken_where false false false false v w x y f = absurd (cc f)

refused_where : (a b c e : Bool) (n v w x y : ℕ) → (if a then Some v else if b then Some w else if c then Some x else if not e then Some y else None) ≡ Some n → (not a && (not b && (not c && e))) ≡ false
refused_where true b c e n v w x y f = refl
refused_where false true c e n v w x y f = refl
refused_where false false true e n v w x y f = refl
refused_where false false false true n v w x y f = absurd (cc f)
refused_where false false false false n v w x y f = refl

start_taken : (g : Geometry) (len : Option ℕ) (sha : Option (List ℕ)) (part : List ℕ) (a : Announcement) → Announces (slot_size g - g.page) len sha part (Ok a) → is_start_taken (sizes_of g) len sha part ≡ true
start_taken g None sha part a f = absurd (cc f.0)
start_taken g (Some len) sha part a f =
    taken_where (has_wrong_size sha) (nat_lt (slot_size g - g.page) len) (nat_lt (length part) 32) (begins_with_magic part) 24 30 22 23 f.0

start_refused : (g : Geometry) (len : Option ℕ) (sha : Option (List ℕ)) (part : List ℕ) (number : ℕ) → Announces (slot_size g - g.page) len sha part (Err number) → is_start_taken (sizes_of g) len sha part ≡ false
start_refused g None sha part number f = refl
start_refused g (Some len) sha part number f =
    refused_where (has_wrong_size sha) (nat_lt (slot_size g - g.page) len) (nat_lt (length part) 32) (begins_with_magic part) number 24 30 22 23 f

true_false : (b : Bool) → b ≡ true → b ≡ false → ⊥
true_false b e f = absurd (cc (sym e ∙ f))

-- what was refused was not taken
pub clash : (X : Type 0) (b : Bool) → b ≡ false → b ≡ true → X
clash X b e f = absurd (true_false b f e)

-- a start that announces well, and one that does not
pub taken_untouched : (g : Geometry) (len : Option ℕ) (sha : Option (List ℕ)) (part : List ℕ) (a : Announcement) (images : Images) (r : Replied) (x y : FlashState) → Announces (slot_size g - g.page) len sha part (Ok a)
    → is_start_taken (sizes_of g) len sha part ≡ false → Untouched images r x y
taken_untouched g len sha part a images r x y f e = absurd (true_false (is_start_taken (sizes_of g) len sha part) (start_taken g len sha part a f) e)

pub refused_mounts : (g : Geometry) (len : Option ℕ) (sha : Option (List ℕ)) (part : List ℕ) (number : ℕ) (p : Places) (i : ℕ) (images : Images) (r : Replied) (x y : FlashState) → Announces (slot_size g - g.page) len sha part (Err number)
    → is_start_taken (sizes_of g) len sha part ≡ true → MountsOne p i images r x y
refused_mounts g len sha part number p i images r x y f e = absurd (true_false (is_start_taken (sizes_of g) len sha part) e (start_refused g len sha part number f))

-- A part of an upload, for the image that it is for.

uses_is : (g : Geometry) (p : Places) (t i : ℕ) (d : AbstractDevice) (image len : Option ℕ) (off : ℕ) (sha : Option (List ℕ)) (part : List ℕ) → HasImages p t d → i ≡ side_of t image off sha
    → uses_images (sizes_of g) d (meant.upload image len off sha part) ≡ (is_some (place_at i p) && is_part_taken (sizes_of g) (off == 0) len sha part)
uses_is g p t i d image len off sha part has e =
    let taken = is_part_taken (sizes_of g) (off == 0) len sha part in
    ap (λ (n : ℕ). has_image n d && taken) (ap (λ (n : ℕ). side_of n image off sha) has.target_is ∙ sym e) ∙ ap (λ (b : Bool). b && taken) (has.images i)

there_uses : (g : Geometry) (p : Places) (t i : ℕ) (d : AbstractDevice) (image len : Option ℕ) (off : ℕ) (sha : Option (List ℕ)) (part : List ℕ) (b : Bool) → HasImages p t d → i ≡ side_of t image off sha → IsSome (place_at i p) → (off == 0) ≡ b
    → uses_images (sizes_of g) d (meant.upload image len off sha part) ≡ is_part_taken (sizes_of g) b len sha part
there_uses g p t i d image len off sha part b has e there z =
    uses_is g p t i d image len off sha part has e ∙ ap (λ (c : Bool). c && is_part_taken (sizes_of g) (off == 0) len sha part) there ∙ ap (λ (c : Bool). is_part_taken (sizes_of g) c len sha part) z

nowhere_uses : (g : Geometry) (p : Places) (t i : ℕ) (d : AbstractDevice) (image len : Option ℕ) (off : ℕ) (sha : Option (List ℕ)) (part : List ℕ) → HasImages p t d → i ≡ side_of t image off sha → place_at i p ≡ None
    → uses_images (sizes_of g) d (meant.upload image len off sha part) ≡ false
nowhere_uses g p t i d image len off sha part has e none =
    uses_is g p t i d image len off sha part has e ∙ ap (λ (o : Option Layout). is_some o && is_part_taken (sizes_of g) (off == 0) len sha part) none

-- of an image that is not there
pub nowhere_mounts : (g : Geometry) (i : ℕ) (image len : Option ℕ) (off : ℕ) (sha : Option (List ℕ)) (part : List ℕ) (images : Images) (r : Replied) (a b : FlashState) → i ≡ side_of images.target image off sha → place_at i (places_of images) ≡ None
    → MountsItsOwn (sizes_of g) (meant.upload image len off sha part) images r a b
nowhere_mounts g i image len off sha part images r a b e none = λ d has uses.
    absurd (true_false (uses_images (sizes_of g) d (meant.upload image len off sha part)) uses (nowhere_uses g (places_of images) images.target i d image len off sha part has e none))

its_own : (p : Places) (i : ℕ) (image : Option ℕ) (off : ℕ) (sha : Option (List ℕ)) (images : Images) (r : Replied) (a b : FlashState) → i ≡ side_of images.target image off sha → MountsOne p i images r a b → MountsOne p (side_of images.target image off sha) images r a b
its_own p i image off sha images r a b e m = subst (λ (n : ℕ). MountsOne p n images r a b) e m

-- a start
pub start_untouches : (g : Geometry) (i : ℕ) (image len : Option ℕ) (off : ℕ) (sha : Option (List ℕ)) (part : List ℕ) (images : Images) (r : Replied) (a b : FlashState) → i ≡ side_of images.target image off sha → IsSome (place_at i (places_of images)) → off ≡ 0
    → (is_start_taken (sizes_of g) len sha part ≡ false → Untouched images r a b) → Untouches (sizes_of g) (meant.upload image len off sha part) images r a b
start_untouches g i image len off sha part images r a b e there z f = λ d has uses.
    f (sym (there_uses g (places_of images) images.target i d image len off sha part true has e there (grind (arith, nat_tests, z))) ∙ uses)

pub start_mounts : (g : Geometry) (i : ℕ) (image len : Option ℕ) (off : ℕ) (sha : Option (List ℕ)) (part : List ℕ) (images : Images) (r : Replied) (a b : FlashState) → i ≡ side_of images.target image off sha → IsSome (place_at i (places_of images)) → off ≡ 0
    → (is_start_taken (sizes_of g) len sha part ≡ true → MountsOne (places_of images) i images r a b) → MountsItsOwn (sizes_of g) (meant.upload image len off sha part) images r a b
start_mounts g i image len off sha part images r a b e there z f = λ d has uses.
    its_own (places_of images) i image off sha images r a b e
    (f (sym (there_uses g (places_of images) images.target i d image len off sha part true has e there (grind (arith, nat_tests, z))) ∙ uses))

not_false : (b : Bool) → not b ≡ false → b ≡ true
not_false true e = refl
not_false false e = absurd (cc e)

not_true : (b : Bool) → not b ≡ true → b ≡ false
not_true true e = absurd (cc e)
not_true false e = refl

-- a further part
pub part_untouches : (g : Geometry) (i : ℕ) (image len : Option ℕ) (off : ℕ) (sha : Option (List ℕ)) (part : List ℕ) (images : Images) (r : Replied) (a b : FlashState) → i ≡ side_of images.target image off sha → IsSome (place_at i (places_of images)) → (off ≡ 0 → ⊥)
    → (has_wrong_size sha ≡ true → Untouched images r a b) → Untouches (sizes_of g) (meant.upload image len off sha part) images r a b
part_untouches g i image len off sha part images r a b e there ne f = λ d has uses.
    f (not_false (has_wrong_size sha) (sym (there_uses g (places_of images) images.target i d image len off sha part false has e there (grind (arith, nat_tests, ne))) ∙ uses))

pub part_mounts : (g : Geometry) (i : ℕ) (image len : Option ℕ) (off : ℕ) (sha : Option (List ℕ)) (part : List ℕ) (images : Images) (r : Replied) (a b : FlashState) → i ≡ side_of images.target image off sha → IsSome (place_at i (places_of images)) → (off ≡ 0 → ⊥)
    → (has_wrong_size sha ≡ false → MountsOne (places_of images) i images r a b) → MountsItsOwn (sizes_of g) (meant.upload image len off sha part) images r a b
part_mounts g i image len off sha part images r a b e there ne f = λ d has uses.
    its_own (places_of images) i image off sha images r a b e
    (f (not_true (has_wrong_size sha) (sym (there_uses g (places_of images) images.target i d image len off sha part false has e there (grind (arith, nat_tests, ne))) ∙ uses)))

-- An erase.

erase_uses : (slot : ℕ) (d : AbstractDevice) (b c : Bool) → (slot == 1) ≡ b → (slot == 3) ≡ c → is_erase_taken d slot ≡ (b || (c && has_image 1 d))
erase_uses slot d b c e f = ap (λ (x : Bool). x || ((slot == 3) && has_image 1 d)) e ∙ ap (λ (x : Bool). b || (x && has_image 1 d)) f

abbrev pub image_by : Bool → Bool → Option ℕ
image_by one three = if one then Some 0 else if three then Some 1 else None

pub erase_image : (t slot : ℕ) (b c : Bool) → (slot == 1) ≡ b → (slot == 3) ≡ c → image_for t (meant.erase slot) ≡ image_by b c
erase_image t slot b c e f = λ i. image_by (e i) (f i)

pub erase_zero_untouches : (sizes : Sizes) (slot : ℕ) (images : Images) (r : Replied) (a b : FlashState) → slot ≡ 1 → Untouches sizes (meant.erase slot) images r a b
erase_zero_untouches sizes slot images r a b e = λ d has uses.
    absurd (true_false (is_erase_taken d slot) (erase_uses slot d true (slot == 3) (grind (arith, nat_tests, e)) refl) uses)

pub erase_zero_mounts : (sizes : Sizes) (slot : ℕ) (images : Images) (r : Replied) (a b : FlashState) → slot ≡ 1 → MountsOne (places_of images) 0 images r a b → MountsItsOwn sizes (meant.erase slot) images r a b
erase_zero_mounts sizes slot images r a b e m = λ d has uses.
    subst (λ (o : Option ℕ). MountsFor (places_of images) o images r a b) (sym (erase_image images.target slot true (slot == 3) (grind (arith, nat_tests, e)) refl)) m

none_or_some : (o : Option Layout) (b : Bool) → b ≡ is_some o → b ≡ false → o ≡ None
none_or_some None b e f = refl
none_or_some (Some l) b e f = absurd (cc (sym e ∙ f))

pub erase_one_untouches : (sizes : Sizes) (slot : ℕ) (images : Images) (r : Replied) (a b : FlashState) → slot ≡ 3 → (place_at 1 (places_of images) ≡ None → Untouched images r a b) → Untouches sizes (meant.erase slot) images r a b
erase_one_untouches sizes slot images r a b e f = λ d has uses.
    f (none_or_some (place_at 1 (places_of images)) (has_image 1 d) (has.images 1) (sym (erase_uses slot d false true (grind (arith, nat_tests, e)) (grind (arith, nat_tests, e))) ∙ uses))

pub erase_one_mounts : (sizes : Sizes) (slot : ℕ) (images : Images) (r : Replied) (a b : FlashState) → slot ≡ 3 → (IsSome (place_at 1 (places_of images)) → MountsOne (places_of images) 1 images r a b) → MountsItsOwn sizes (meant.erase slot) images r a b
erase_one_mounts sizes slot images r a b e f = λ d has uses.
    let there : IsSome (place_at 1 (places_of images)) = sym (has.images 1) ∙ (sym (erase_uses slot d false true (grind (arith, nat_tests, e)) (grind (arith, nat_tests, e))) ∙ uses) in
    subst (λ (o : Option ℕ). MountsFor (places_of images) o images r a b) (sym (erase_image images.target slot false true (grind (arith, nat_tests, e)) (grind (arith, nat_tests, e)))) (f there)

pub erase_other_mounts : (sizes : Sizes) (slot : ℕ) (images : Images) (r : Replied) (a b : FlashState) → (slot ≡ 1 → ⊥) → (slot ≡ 3 → ⊥) → MountsItsOwn sizes (meant.erase slot) images r a b
erase_other_mounts sizes slot images r a b one three = λ d has uses.
    absurd (true_false (is_erase_taken d slot) uses (erase_uses slot d false false (grind (arith, nat_tests, one)) (grind (arith, nat_tests, three))))

-- All images.

all_by : (h : Held) (o : Option Held) → MountsSettled h o true → (is_mounted h ≡ true) × IfSome o (λ k. is_mounted k ≡ true)
all_by h None m = (m, tt)
all_by h (Some one) m = (m.0, m.1)

some_bool : (b c : Bool) → Some b ≡ Some c → b ≡ c
some_bool b c e = cc e

zero_lost : (h : Held) (o q : Option Held) → option_map held_layout o ≡ option_map held_layout q → MountsSettled h o false → is_mounted h ≡ false → option_map is_mounted q ≡ Some true → option_map is_mounted o ≡ Some true
zero_lost h None None e m un is = absurd (cc is)
zero_lost h None (Some k) e m un is = absurd (cc e)
zero_lost h (Some one) q e m un is = ap Some (m ∙ ap not un)

one_lost : (h : Held) (o : Option Held) → MountsSettled h o false → option_map is_mounted o ≡ Some false → is_mounted h ≡ true
one_lost h None m un = absurd (cc un)
one_lost h (Some one) m un = not_false (is_mounted h) (sym m ∙ some_bool (is_mounted one) false un)

others_mounted : (before after : Images) → places_of after ≡ places_of before → MountsSettled after.zero after.one false → (i : ℕ) → IsUnmountedAt i after → (other : ℕ) → (i ≡ other → ⊥) → IsMountedAt other before → IsMountedAt other after
others_mounted before after places m zero un zero ne is = absurd (ne refl)
others_mounted before after places m zero un (suc zero) ne is = zero_lost after.zero after.one before.one (ap (λ (p : Places). p.second) places) m (some_bool (is_mounted after.zero) false un) is
others_mounted before after places m zero un (suc (suc n)) ne is = absurd (cc is)
others_mounted before after places m (suc zero) un zero ne is = ap Some (one_lost after.zero after.one m un)
others_mounted before after places m (suc zero) un (suc zero) ne is = absurd (ne refl)
others_mounted before after places m (suc zero) un (suc (suc n)) ne is = absurd (cc is)
others_mounted before after places m (suc (suc i)) un other ne is = absurd (cc un)

-- behind the mounting of all
pub settled_mounts : (before after : Images) (r : Result Reply UploadFault) (a b : FlashState) → places_of after ≡ places_of before → MountsSettled after.zero after.one (is_ok r) → IfErr r (λ fault. LostOne (places_of before) 5 after fault a b)
    → MountsResult (places_of before) before after r a b
settled_mounts before after (Ok reply) a b places m f = all_by after.zero after.one m
settled_mounts before after (Err fault) a b places m f = record { image = f.image; unmounted = f.unmounted; others = others_mounted before after places m f.image f.unmounted; fell = f.fell }

others_kept : (before after : Images) → KeepsOthers before after → (i : ℕ) → IsUnmountedAt i after → (other : ℕ) → (i ≡ other → ⊥) → IsMountedAt other before → IsMountedAt other after
others_kept before after k zero un zero ne is = absurd (ne refl)
others_kept before after k zero un (suc zero) ne is = ap (option_map is_mounted) (k.1 (some_bool (is_mounted after.zero) false un)) ∙ is
others_kept before after k zero un (suc (suc n)) ne is = absurd (cc is)
others_kept before after k (suc zero) un zero ne is = ap Some (k.0 (some_bool (is_mounted before.zero) true is))
others_kept before after k (suc zero) un (suc zero) ne is = absurd (ne refl)
others_kept before after k (suc zero) un (suc (suc n)) ne is = absurd (cc is)
others_kept before after k (suc (suc i)) un other ne is = absurd (cc un)

-- a mount that was broken off
pub kept_mounts : (before after : Images) (r : Result Reply UploadFault) (a b : FlashState) → is_ok r ≡ false → KeepsOthers before after → IfErr r (λ fault. LostOne (places_of before) 5 after fault a b) → MountsResult (places_of before) before after r a b
kept_mounts before after (Ok reply) a b e k f = absurd (cc e)
kept_mounts before after (Err fault) a b e k f = record { image = f.image; unmounted = f.unmounted; others = others_kept before after k f.image f.unmounted; fell = f.fell }

-- where the mounting of all, and what came behind it, was the whole request
pub mounts_answer : (t : ℕ) (respond : AbstractDevice → Response) (images : Images) (r : Replied) (a b : FlashState) → MountsSettled r.images.zero r.images.one (is_ok r.result) → ImagesAnswer (places_of images) 5 t respond r.images r.result a b
    → MountsResult (places_of images) images r.images r.result a b
mounts_answer t respond images r a b m f = settled_mounts images r.images r.result a b f.places_kept m f.lost

pub mounts_broken : (t : ℕ) (images : Images) (r : Replied) (a b : FlashState) → is_ok r.result ≡ false → KeepsOthers images r.images → Unsettled (places_of images) t r a b → MountsResult (places_of images) images r.images r.result a b
mounts_broken t images r a b e k f = kept_mounts images r.images r.result a b e k (f (lists_after [])).lost

-- A hash that is asked for.

hash_empty_taken : (hash : List ℕ) (confirm : Bool) → length hash ≡ 0 → is_hash_taken (Some hash) confirm ≡ confirm
hash_empty_taken [] confirm e = refl
hash_empty_taken (x ∷ xs) confirm e = absurd (omega arith)

hash_some_taken : (hash : List ℕ) (confirm : Bool) → (length hash ≡ 0 → ⊥) → is_hash_taken (Some hash) confirm ≡ (length hash == 32)
hash_some_taken [] confirm ne = absurd (ne refl)
hash_some_taken (x ∷ xs) confirm ne = refl

pub hash_empty_untouched : (hash : List ℕ) (confirm : Bool) (images : Images) (r : Replied) (a b : FlashState) → length hash ≡ 0 → (confirm ≡ false → Untouched images r a b) → is_hash_taken (Some hash) confirm ≡ false → Untouched images r a b
hash_empty_untouched hash confirm images r a b e f taken = f (sym (hash_empty_taken hash confirm e) ∙ taken)

pub hash_empty_mounts : (hash : List ℕ) (confirm : Bool) (images : Images) (r : Replied) (a b : FlashState) → length hash ≡ 0 → (confirm ≡ true → MountsResult (places_of images) images r.images r.result a b) → is_hash_taken (Some hash) confirm ≡ true
    → MountsResult (places_of images) images r.images r.result a b
hash_empty_mounts hash confirm images r a b e f taken = f (sym (hash_empty_taken hash confirm e) ∙ taken)

pub hash_wrong_mounts : (hash : List ℕ) (confirm : Bool) (images : Images) (r : Replied) (a b : FlashState) → (length hash ≡ 0 → ⊥) → (length hash ≡ 32 → ⊥) → is_hash_taken (Some hash) confirm ≡ true → MountsResult (places_of images) images r.images r.result a b
hash_wrong_mounts hash confirm images r a b ne wrong taken = absurd (true_false (is_hash_taken (Some hash) confirm) taken (hash_some_taken hash confirm ne ∙ grind (arith, nat_tests, wrong)))

pub hash_right_untouched : (hash : List ℕ) (confirm : Bool) (images : Images) (r : Replied) (a b : FlashState) → (length hash ≡ 0 → ⊥) → length hash ≡ 32 → is_hash_taken (Some hash) confirm ≡ false → Untouched images r a b
hash_right_untouched hash confirm images r a b ne right taken = absurd (true_false (is_hash_taken (Some hash) confirm) (hash_some_taken hash confirm ne ∙ grind (arith, nat_tests, right)) taken)

-- The request, by the hash that it has.

pub set_untouches : (sizes : Sizes) (hash known : Option (List ℕ)) (confirm : Bool) (images : Images) (r : Replied) (a b : FlashState) → hash ≡ known → (is_hash_taken known confirm ≡ false → Untouched images r a b) → Untouches sizes (meant.image_set hash confirm) images r a b
set_untouches sizes hash known confirm images r a b e f = λ d has uses. f (ap (λ (h : Option (List ℕ)). is_hash_taken h confirm) (sym e) ∙ uses)

pub set_mounts : (sizes : Sizes) (hash known : Option (List ℕ)) (confirm : Bool) (images : Images) (r : Replied) (a b : FlashState) → hash ≡ known → (is_hash_taken known confirm ≡ true → MountsResult (places_of images) images r.images r.result a b)
    → MountsAll sizes (meant.image_set hash confirm) images r a b
set_mounts sizes hash known confirm images r a b e f = λ d has uses. f (ap (λ (h : Option (List ℕ)). is_hash_taken h confirm) (sym e) ∙ uses)
