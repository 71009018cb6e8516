-- The record of an upload: its bytes, and which records may stand on a flash.
use Rattle.std.specs.Prelude.{◌≡◌, ◌⊎◌, ◌+◌, ◌<◌, ◌≤◌, ◌%◌, ◌==◌, ℕ, Bool, true, false, List, [], ◌∷◌, ◌++◌, length, drop, get_or, replicate, Option, Some, None, if◌then◌else◌}
use Rattle.std.specs.Option.{ForSome}
use Rattle.std.specs.Int.{w32, to_be_bytes, from_be_bytes}
use Rattle.smp_flash.specs.Geometry.{slot_size}
use Rattle.smp_flash.specs.declared.geometry.Geometry.{Geometry}
use Rattle.smp_model.specs.declared.upload.Announcement.{Announcement}
use Rattle.smp_progress.specs.declared.record.Record.{Record}
use Rattle.smp_progress.specs.declared.record.Record.TheVariants as records

-- the byte of a record's kind, and the one that says whether a digest was announced
abbrev pub kind_of : Bool → ℕ
kind_of false = 1
kind_of true = 2

abbrev pub flag_of : Option (List ℕ) → ℕ
flag_of None = 0
flag_of (Some digest) = 1

abbrev pub digest_of : Option (List ℕ) → List ℕ
digest_of None = replicate 32 0
digest_of (Some digest) = digest

-- the 48 bytes of a record of this version, in the bank of this image
abbrev pub record_bytes : ℕ → ℕ → Record → List ℕ
record_bytes version image records.None = version ∷ 0 ∷ 0 ∷ image ∷ replicate 44 0
record_bytes version image (records.Upload a offset rescue) =
    (version ∷ kind_of rescue ∷ flag_of a.digest ∷ image ∷ []) ++ (to_be_bytes w32 a.length ++ (to_be_bytes w32 offset ++ (replicate 4 0 ++ digest_of a.digest)))

-- What a record may say of an upload, on a flash of these sizes.
pub record IsUpload (g : Geometry) (a : Announcement) (offset : ℕ) (rescue : Bool) : Type 0 where
  pub least : 32 ≤ a.length
  pub most : a.length + g.page ≤ slot_size g
  pub within : offset ≤ a.length
  pub whole : offset < a.length → offset % g.unit ≡ 0
  pub moved : rescue ≡ true → (offset < a.length) × (0 < offset % g.page)
  pub digest : ForSome a.digest (λ digest. length digest ≡ 32)

abbrev pub IsRecord : Geometry → Record → Type 0
IsRecord g records.None = Unit {0}
IsRecord g (records.Upload a offset rescue) = IsUpload g a offset rescue

-- a record of this version may stand in the bank of this image: version 2 in each, version 1 in that of image 0
abbrev pub IsVersion : ℕ → ℕ → Type 0
IsVersion version image = (version ≡ 2) ⊎ ((version ≡ 1) × (image ≡ 0))

-- The body of a bank of this image is this record.
pub record IsBody (image : ℕ) (entry : Record) (body : List ℕ) : Type 0 where
  pub version : ℕ
  pub known : IsVersion version image
  pub bytes : body ≡ record_bytes version image entry

-- what the fields of a record's bytes say
abbrev pub number_in : ℕ → List ℕ → ℕ
number_in at xs = from_be_bytes w32 (get_or xs at 0 ∷ get_or xs (at + 1) 0 ∷ get_or xs (at + 2) 0 ∷ get_or xs (at + 3) 0 ∷ [])

abbrev pub digest_in : List ℕ → Option (List ℕ)
digest_in xs = if get_or xs 2 0 == 0 then None else Some (drop 16 xs)

abbrev pub record_in : List ℕ → Record
record_in xs = if get_or xs 1 0 == 0 then records.None else records.Upload (record { length = number_in 4 xs; digest = digest_in xs }) (number_in 8 xs) (get_or xs 1 0 == 2)
