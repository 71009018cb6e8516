-- What the steps inside a call leave.
use Rattle.std.specs.Prelude.{◌≡◌, ℕ, Bool, not, if◌then◌else◌, List, Option, Some, None, option_map, false}
use Rattle.std.specs.Str.{bytes_eq}
use Rattle.smp_flash.specs.declared.layout.Layout.{Layout}
use Rattle.smp_flash.specs.Layout.{progress_of}
use Rattle.smp_gate.specs.Newest.{AgesAtMost}
use Rattle.smp_model.specs.declared.device.Side.{Side}
use Rattle.smp_model.specs.declared.device.Upload.{Upload}
use Rattle.smp_model.specs.declared.upload.Announcement.{Announcement}
use Rattle.smp_model.specs.Said as said
use Rattle.smp_model.specs.Sides.{appended}
use Rattle.smp_model.specs.Uploads.{is_spoiled, is_complete}
use Rattle.smp_progress.specs.State.{ProgressState, ProgressSays}
use Rattle.smp_tlv.specs.declared.carried.Carried.{Carried}
use Rattle.smp_upload.specs.declared.states.Chunked.{Chunked}
use Rattle.smp_upload.specs.Bytes.{SideStandsAs, SideStands, Clean}
use Rattle.smp_upload.specs.States.{Known, Sums, announced, chunk_said}

-- what is known of an upload of which so many bytes are accepted
abbrev pub known_at : Layout → ProgressState → Announcement → ℕ → Carried → Known
known_at layout entry a offset sums = record { layout = layout; entry = entry; upload = Some (record { announcement = a; offset = offset }); pending = None; image = None; sums = Some sums }

-- The bytes stand for the side without a rescue, and the next part can be written.
pub record StandsClean (layout : Layout) (side : Side) (bytes : List ℕ) : Type 0 where
  pub stands : SideStandsAs layout false side bytes
  pub clean : Clean layout side.upload bytes

-- the side with so many bytes more
abbrev pub longer : Side → List ℕ → Side
longer side bytes = record side { upload = appended side.upload bytes }

-- Whatever side the bytes stood for, they stand for it with these bytes more.
pub record Lays (layout : Layout) (bytes old new : List ℕ) : Type 0 where
  pub lays : (side : Side) → SideStands layout side old → StandsClean layout (longer side bytes) new

-- An upload is under way or complete, its digest is not looked at yet, and these are the sums of its bytes.
pub record Filled (layout : Layout) (entry : ProgressState) (a : Announcement) (offset : ℕ) (sums : Carried) (bytes : List ℕ) : Type 0 where
  pub side : Side
  pub stands : StandsClean layout side bytes
  pub upload : Some (record { announcement = a; offset = offset }) ≡ option_map announced side.upload
  pub free : side.pending ≡ None
  pub record_says : ProgressSays entry bytes
  pub carried : Sums sums side.upload

-- whether the upload that the bytes stand for is complete without its announced digest
abbrev pub Spoils : Layout → Bool → List ℕ → Type 0
Spoils layout spoiled bytes = (side : Side) → SideStands layout side bytes → is_spoiled side.upload ≡ spoiled

-- the announced digest is there, and whether it is right
abbrev pub matched_of : Option Upload → Option Bool
matched_of None = None
matched_of (Some u) = option_map (λ digest. not (is_spoiled (Some u))) u.announcement.digest

-- the announced digest is another than this one
abbrev pub misses : Option (List ℕ) → List ℕ → Bool
misses None digest = false
misses (Some announced) digest = not (bytes_eq digest announced)

-- the records of settling
abbrev pub settle_records : Option Upload → ℕ
settle_records up = if is_spoiled up then 1 else 0

abbrev pub Settled : Layout → List ℕ → List ℕ → Type 0
Settled layout old new = (side : Side) → SideStands layout side old → AgesAtMost (settle_records side.upload) (progress_of layout) old new

-- what a settled chunk says
abbrev pub SaysMatched : Layout → ℕ → Chunked → List ℕ → Type 0
SaysMatched layout n chunked old = (side : Side) → SideStands layout side old → chunk_said n chunked ≡ said.offset n (matched_of side.upload)

-- what is said of the digest: nothing before the upload is complete
abbrev pub matched_at : Option Upload → Option Bool
matched_at None = None
matched_at (Some u) = if is_complete u then matched_of (Some u) else None

-- what a chunk says, where so many bytes are announced and the upload has come to this offset
abbrev pub SaysAt : Layout → (n offset : ℕ) → Chunked → List ℕ → Type 0
SaysAt layout n offset chunked old = (side : Side) → SideStands layout side old → chunk_said n chunked ≡ said.offset offset (matched_at side.upload)
