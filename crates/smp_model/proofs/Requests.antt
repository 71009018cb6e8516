-- The requests for uploads by their cases, and the side that they leave.
use Rattle.std.proofs.Common.{◌≡◌, ◌-◌, ◌==◌, not, ℕ, zero, suc, List, [], ◌∷◌, ◌++◌, length, Bool, true, false, Option, Some, None, refl, sym, ap, subst, ◌∙◌, arith, if◌then◌else◌, nat_lt}
use Rattle.std.specs.Prelude.{◌&&◌, option_map, IsSome}
use Rattle.std.proofs.lemmas.Slice.Eq.{bytes_eq-Decides}
use Rattle.smp_model.specs.Uploads.{is_spoiled, is_resumed_by, same_digest}
use Rattle.std.proofs.lemmas.Bool.Decides.{nat_tests}
use Rattle.smp_model.specs.declared.device.AbstractDevice.{AbstractDevice}
use Rattle.smp_model.specs.declared.device.Side.{Side}
use Rattle.smp_model.specs.declared.device.Sizes.{Sizes}
use Rattle.smp_model.specs.declared.upload.Announcement.{Announcement}
use Rattle.smp_model.specs.ImageGroup.{part_at, start_at, side_of, is_offset, aims, has_wrong_size, begins_with_magic, begins_on, start_of, part_of, uploads_to, uploads, refuses_image}
use Rattle.smp_model.specs.Response.{Response, SideResponse, settling_side}
use Rattle.smp_model.specs.Said.{Said, if_some}
use Rattle.smp_model.specs.Sides.{SideStep, Drop, side_apply, side_applied, side_settle_steps, side_settle}
use Rattle.smp_model.specs.Steps.{Step, Run, aim_at, side_at, applied, on_side, settle, settle_steps_of}
use Rattle.smp_model.proofs.Cases.{by_if, either_way}
use Rattle.smp_model.proofs.OnSides.{applied_more, found_after, found_other, side_changed}
use Rattle.smp_model.specs.declared.error.TheConstants.{INVALID_DIGEST, IMAGE_TOO_LARGE, INVALID_HEADER, WRONG_MAGIC, NO_LENGTH, INVALID_SLOT}

-- what a start announces
abbrev pub announced : ℕ → Option (List ℕ) → Announcement
announced n sha = record { length = n; digest = sha }

abbrev pub starting : Sizes → Side → ℕ → Option (List ℕ) → List ℕ → SideResponse
starting sizes s n sha bytes = start_at sizes.unit (announced n sha) bytes s.pending (side_settle s).upload

-- an upload is refused, starts, or goes on
pub upload_cases : (P : Response → Type 0) (sizes : Sizes) (d : AbstractDevice) (image len : Option ℕ) (off : ℕ) (sha : Option (List ℕ)) (bytes : List ℕ)
    → ((number : ℕ) → P (refuses_image number))
    → ((s : Side) (n : ℕ) → side_at (side_of d.target image off sha) d ≡ Some s → len ≡ Some n → off ≡ 0 → nat_lt (length bytes) 32 ≡ false → P (begins_on (side_of d.target image off sha) s (starting sizes s n sha bytes)))
    → ((s : Side) → side_at (side_of d.target image off sha) d ≡ Some s → (off ≡ 0 → ⊥) → P (settling_side (side_of d.target image off sha) s [] (part_at sizes.unit off sha bytes (side_settle s).upload)))
    → P (uploads sizes d image len off sha bytes)
upload_cases P sizes d image len off sha bytes refused starts goes = go (side_at i d) refl
  where
    i : ℕ
    i = side_of d.target image off sha

    start : (s : Side) → side_at i d ≡ Some s → off ≡ 0 → (l : Option ℕ) → len ≡ l → P (start_of sizes i s l sha bytes)
    start s e z None k = refused NO_LENGTH
    start s e z (Some n) k =
        either_way P (has_wrong_size sha) (refuses_image INVALID_DIGEST) _ (refused INVALID_DIGEST)
        (either_way P (nat_lt (sizes.slot - sizes.page) n) (refuses_image IMAGE_TOO_LARGE) _ (refused IMAGE_TOO_LARGE)
        (by_if P (nat_lt (length bytes) 32) (refuses_image INVALID_HEADER) _ (λ _. refused INVALID_HEADER)
        (λ long. either_way P (not (begins_with_magic bytes)) (refuses_image WRONG_MAGIC) _ (refused WRONG_MAGIC) (starts s n e k z long))))

    go : (o : Option Side) → side_at i d ≡ o → P (uploads_to sizes i o len off sha bytes)
    go None e = refused INVALID_SLOT
    go (Some s) e =
        by_if P (off == 0) (start_of sizes i s len sha bytes) (part_of sizes i s off sha bytes)
        (λ h. start s e (grind (arith, nat_tests, h)) len refl)
        (λ h. either_way P (has_wrong_size sha) (refuses_image INVALID_DIGEST) _ (refused INVALID_DIGEST) (goes s e (λ z. grind (arith, nat_tests, h, z))))

-- the side that such a request leaves
pub left_by : (i : ℕ) (d : AbstractDevice) (s : Side) (between : List Step) (r : SideResponse) → side_at i d ≡ Some s
    → ((e : AbstractDevice) → side_at i (applied between e) ≡ side_at i e)
    → side_at i (applied (settling_side i s between r).steps d) ≡ Some (side_applied r.steps (side_settle s))
left_by i d s between r found same =
    let settled = applied (on_side i (side_settle_steps s)) d in
    ap (side_at i) (applied_more (on_side i (side_settle_steps s)) (between ++ on_side i r.steps) d ∙ applied_more between (on_side i r.steps) settled)
    ∙ found_after i r.steps (applied between settled) (side_settle s) (same settled ∙ found_after i (side_settle_steps s) d s found)

pub aims_leave : (i j : ℕ) (reply : Said) (e : AbstractDevice) → side_at j (applied (aims i reply) e) ≡ side_at j e
aims_leave i j reply e =
    either_way (λ (steps : List Step). side_at j (applied steps e) ≡ side_at j e) (is_offset reply) (Run (aim_at i) ∷ []) [] (side_changed j (aim_at i) e) refl

-- the sides of a settled device
one_zero : suc zero ≡ zero → ⊥
one_zero e = cc

zero_one : zero ≡ suc zero → ⊥
zero_one e = cc

settled_at : (i : ℕ) (d e : AbstractDevice) (o : Option Side) → side_at i e ≡ o → side_at i (applied (if_some o (λ s. on_side i (side_settle_steps s))) e) ≡ option_map side_settle o
settled_at i d e None h = h
settled_at i d e (Some s) h = found_after i (side_settle_steps s) e s h

other_at : (i j : ℕ) (e : AbstractDevice) (o : Option Side) → (i ≡ j → ⊥) → side_at j (applied (if_some o (λ s. on_side i (side_settle_steps s))) e) ≡ side_at j e
other_at i j e None h = refl
other_at i j e (Some s) h = found_other i j (side_settle_steps s) e h

pub settled_side : (i : ℕ) (d : AbstractDevice) → side_at i (settle d) ≡ option_map side_settle (side_at i d)
settled_side zero d =
    ap (side_at zero) (applied_more (settle_steps_of 0 d) (settle_steps_of 1 d) d)
    ∙ (other_at (suc zero) zero (applied (settle_steps_of 0 d) d) (side_at 1 d) one_zero ∙ settled_at zero d d (side_at zero d) refl)
settled_side (suc zero) d =
    ap (side_at (suc zero)) (applied_more (settle_steps_of 0 d) (settle_steps_of 1 d) d)
    ∙ settled_at (suc zero) d (applied (settle_steps_of 0 d) d) (side_at 1 d) (other_at zero (suc zero) d (side_at 0 d) zero_one)
settled_side (suc (suc n)) d = refl

pub settled_side_of : (i : ℕ) (d : AbstractDevice) → side_at i (applied (settle_steps_of i d) d) ≡ option_map side_settle (side_at i d)
settled_side_of i d = settled_at i d d (side_at i d) refl

-- settling as a whole: each side settles
first_applied : (steps : List SideStep) (d : AbstractDevice) → applied (on_side 0 steps) d ≡ record d { first = side_applied steps d.first }
first_applied [] d = refl
first_applied (t ∷ steps) d = first_applied steps (record d { first = side_apply t d.first })

second_applied : (steps : List SideStep) (d : AbstractDevice) (s : Side) → applied (on_side 1 steps) (record d { second = Some s }) ≡ record d { second = Some (side_applied steps s) }
second_applied [] d s = refl
second_applied (t ∷ steps) d s = second_applied steps d (side_apply t s)

second_settled : (d : AbstractDevice) (o : Option Side)
    → applied (if_some o (λ s. on_side 1 (side_settle_steps s))) (record d { second = o }) ≡ record d { second = option_map side_settle o }
second_settled d None = refl
second_settled d (Some s) = second_applied (side_settle_steps s) d s

pub settle_whole : (d : AbstractDevice) → settle d ≡ record d { first = side_settle d.first; second = option_map side_settle d.second }
settle_whole d =
    applied_more (settle_steps_of 0 d) (settle_steps_of 1 d) d
    ∙ (ap (applied (settle_steps_of 1 d)) (first_applied (side_settle_steps d.first) d) ∙ second_settled (record d { first = side_settle d.first }) d.second)

pub settle_drops : (s : Side) → (side_settle s).upload ≡ (if is_spoiled s.upload then None else s.upload)
settle_drops s = go (is_spoiled s.upload)
  where
    go : (b : Bool) → (side_applied (if b then Drop ∷ [] else []) s).upload ≡ (if b then None else s.upload)
    go true = refl
    go false = refl

pub settle_keeps : (s : Side) → side_settle s ≡ record s { upload = (side_settle s).upload }
settle_keeps s = go (is_spoiled s.upload)
  where
    go : (b : Bool) → side_applied (if b then Drop ∷ [] else []) s ≡ record s { upload = (side_applied (if b then Drop ∷ [] else []) s).upload }
    go true = refl
    go false = refl

-- what resumes an upload announced the same
pub resumed_same : (a b : Announcement) → is_resumed_by a b ≡ true → (a ≡ b) × IsSome b.digest
resumed_same a b h = digests a.digest b.digest (right (a.length == b.length) (same_digest a.digest b.digest) h) refl refl
  where
    left : (x y : Bool) → (x && y) ≡ true → x ≡ true
    left true y e = refl
    left false y e = cc

    right : (x y : Bool) → (x && y) ≡ true → y ≡ true
    right true y e = e
    right false y e = cc

    same : a.length ≡ b.length
    same = let t = left (a.length == b.length) (same_digest a.digest b.digest) h in grind (arith, nat_tests, t)

    digests : (x y : Option (List ℕ)) → same_digest x y ≡ true → a.digest ≡ x → b.digest ≡ y → (a ≡ b) × IsSome b.digest
    digests None y e p q = cc
    digests (Some d) None e p q = cc
    digests (Some d) (Some f) e p q =
        let equal : a.digest ≡ b.digest = p ∙ (ap Some ((bytes_eq-Decides d f).0 e) ∙ sym q) in
        (made a.length b.length a.digest b.digest same equal, subst IsSome (sym q) refl)
      where
        made : (m n : ℕ) (u v : Option (List ℕ)) → m ≡ n → u ≡ v → announced m u ≡ announced n v
        made m n u v j k = cc
