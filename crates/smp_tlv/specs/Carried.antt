-- What is known of a file whose bytes are added piece by piece, by the bytes that were added.
use Rattle.std.specs.Prelude.{◌≡◌, ℕ, ◌+◌, ◌≤◌, List, length, take, Ok}
use Rattle.sha2.specs.Hashers.{Holds256}
use Rattle.sha2.specs.Sha256.{sha256}
use Rattle.smp_tlv.specs.Covered.{covered_in}
use Rattle.smp_tlv.specs.declared.carried.Carried.{Carried}
use Rattle.smp_tlv.specs.declared.covered.Covered.{Covered}
use Rattle.smp_tlv.specs.declared.covered.Covered.TheVariants.{Header, Awaited, Kept, Nothing}

-- Where the added bytes stand: before the header's end, before the end of the covered bytes, or behind it, with the digest of
-- just these. Of a file whose header is not an image's nothing is kept.
abbrev pub StandsAt : Covered → List ℕ → Type 0
StandsAt (Header front) added = (front.count ≡ length added) × (take front.count front.bytes ≡ added)
StandsAt (Awaited awaited) added = (32 ≤ length added) × (covered_in added ≡ Ok awaited.covered) × (length added + awaited.left ≡ awaited.covered)
StandsAt (Kept kept) added = (32 ≤ length added) × (covered_in added ≡ Ok kept.covered) × (kept.covered ≤ length added) × (kept.digest ≡ sha256 (take kept.covered added))
StandsAt Nothing added = (32 ≤ length added) × ((covered : ℕ) → covered_in added ≡ Ok covered → ⊥)

-- these bytes were added, in whatever pieces
pub record Carries (carried : Carried) (added : List ℕ) : Type 0 where
  pub sum : Holds256 carried.sum added
  pub covered : StandsAt carried.covered added

-- so many bytes more do not pass the end of the header, or that of the covered bytes
abbrev pub FitsIn : Covered → ℕ → Type 0
FitsIn (Header front) n = front.count + n ≤ 32
FitsIn (Awaited awaited) n = n ≤ awaited.left
FitsIn (Kept kept) n = Unit {0}
FitsIn Nothing n = Unit {0}
