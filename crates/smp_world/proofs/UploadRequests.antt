-- The requests for uploads by their cases, and the side that they leave.
use Rattle.std.proofs.Common.{◌≡◌, ◌-◌, ◌==◌, not, ℕ, List, [], ◌∷◌, ◌++◌, length, false, Option, Some, None, refl, ap, ◌∙◌, arith, nat_lt}
use Rattle.std.proofs.lemmas.Bool.Decides.{nat_tests}
use Rattle.smp_model.specs.declared.device.AbstractDevice.{AbstractDevice}
use Rattle.smp_model.specs.declared.device.Side.{Side}
use Rattle.smp_model.specs.declared.device.Sizes.{Sizes}
use Rattle.smp_model.specs.declared.error.TheConstants.{INVALID_DIGEST, IMAGE_TOO_LARGE, INVALID_HEADER, WRONG_MAGIC, NO_LENGTH, INVALID_SLOT}
use Rattle.smp_model.specs.declared.upload.Announcement.{Announcement}
use Rattle.smp_model.specs.ImageGroup.{part_at, start_at, side_of, is_offset, aims, has_wrong_size, begins_with_magic, begins_on, start_of, part_of, uploads_to, uploads, refuses_image}
use Rattle.smp_model.specs.Response.{Response, SideResponse, settling_side}
use Rattle.smp_model.specs.Said.{Said}
use Rattle.smp_model.specs.Sides.{side_applied, side_settle_steps, side_settle}
use Rattle.smp_model.specs.Steps.{Step, Run, aim_at, side_at, applied, on_side}
use Rattle.smp_world.proofs.Cases.{by_if, either_way}
use Rattle.smp_world.proofs.Sides.{applied_more, found_after, side_changed}

-- what a start announces
abbrev pub announced : ℕ → Option (List ℕ) → Announcement
announced n sha = record { length = n; digest = sha }

-- what a settled side does at a start
abbrev pub starting : Sizes → Side → ℕ → Option (List ℕ) → List ℕ → SideResponse
starting sizes s n sha bytes = start_at sizes.unit (announced n sha) bytes s.pending (side_settle s).upload

-- a start with a length, behind the tests of its fields
abbrev StartCase : (Response → Type 0) → Sizes → AbstractDevice → (image len : Option ℕ) (off : ℕ) → Option (List ℕ) → List ℕ → Type 0
StartCase P sizes d image len off sha bytes =
    (s : Side) (n : ℕ) → side_at (side_of d.target image off sha) d ≡ Some s → len ≡ Some n → off ≡ 0 → nat_lt (length bytes) 32 ≡ false
    → P (begins_on (side_of d.target image off sha) s (starting sizes s n sha bytes))

-- a part behind the start
abbrev PartCase : (Response → Type 0) → Sizes → AbstractDevice → (image : Option ℕ) (off : ℕ) → Option (List ℕ) → List ℕ → Type 0
PartCase P sizes d image off sha bytes =
    (s : Side) → side_at (side_of d.target image off sha) d ≡ Some s → (off ≡ 0 → ⊥)
    → P (settling_side (side_of d.target image off sha) s [] (part_at sizes.unit off sha bytes (side_settle s).upload))

start_cases : (P : Response → Type 0) (sizes : Sizes) (i : ℕ) (s : Side) (len : Option ℕ) (sha : Option (List ℕ)) (bytes : List ℕ) → ((number : ℕ) → P (refuses_image number))
    → ((n : ℕ) → len ≡ Some n → nat_lt (length bytes) 32 ≡ false → P (begins_on i s (starting sizes s n sha bytes))) → P (start_of sizes i s len sha bytes)
start_cases P sizes i s None sha bytes refused starts = refused NO_LENGTH
start_cases P sizes i s (Some n) sha bytes refused starts =
    either_way P (has_wrong_size sha) (refuses_image INVALID_DIGEST) _ (refused INVALID_DIGEST)
    (either_way P (nat_lt (sizes.slot - sizes.page) n) (refuses_image IMAGE_TOO_LARGE) _ (refused IMAGE_TOO_LARGE)
    (by_if P (nat_lt (length bytes) 32) (refuses_image INVALID_HEADER) _ (λ _. refused INVALID_HEADER)
    (λ long. either_way P (not (begins_with_magic bytes)) (refuses_image WRONG_MAGIC) _ (refused WRONG_MAGIC) (starts n refl long))))

-- an upload is refused, starts, or goes on
pub upload_cases : (P : Response → Type 0) (sizes : Sizes) (d : AbstractDevice) (image len : Option ℕ) (off : ℕ) (sha : Option (List ℕ)) (bytes : List ℕ)
    → ((number : ℕ) → P (refuses_image number)) → StartCase P sizes d image len off sha bytes → PartCase P sizes d image off sha bytes → P (uploads sizes d image len off sha bytes)
upload_cases P sizes d image len off sha bytes refused starts goes = by_side (side_at i d) refl
  where
    i : ℕ
    i = side_of d.target image off sha

    by_side : (o : Option Side) → side_at i d ≡ o → P (uploads_to sizes i o len off sha bytes)
    by_side None e = refused INVALID_SLOT
    by_side (Some s) e =
        by_if P (off == 0) (start_of sizes i s len sha bytes) (part_of sizes i s off sha bytes)
        (λ h. start_cases P sizes i s len sha bytes refused (λ n k long. starts s n e k (grind (arith, nat_tests, h)) long))
        (λ h. either_way P (has_wrong_size sha) (refuses_image INVALID_DIGEST) _ (refused INVALID_DIGEST) (goes s e (λ z. grind (arith, nat_tests, h, z))))

-- the side that such a request leaves
pub left_by : (i : ℕ) (d : AbstractDevice) (s : Side) (between : List Step) (r : SideResponse) → side_at i d ≡ Some s
    → ((e : AbstractDevice) → side_at i (applied between e) ≡ side_at i e)
    → side_at i (applied (settling_side i s between r).steps d) ≡ Some (side_applied r.steps (side_settle s))
left_by i d s between r found same =
    let settled = applied (on_side i (side_settle_steps s)) d in
    ap (side_at i) (applied_more (on_side i (side_settle_steps s)) (between ++ on_side i r.steps) d ∙ applied_more between (on_side i r.steps) settled)
    ∙ found_after i r.steps (applied between settled) (side_settle s) (same settled ∙ found_after i (side_settle_steps s) d s found)

pub aims_leave : (i j : ℕ) (reply : Said) (e : AbstractDevice) → side_at j (applied (aims i reply) e) ≡ side_at j e
aims_leave i j reply e =
    either_way (λ (steps : List Step). side_at j (applied steps e) ≡ side_at j e) (is_offset reply) (Run (aim_at i) ∷ []) [] (side_changed j (aim_at i) e) refl
