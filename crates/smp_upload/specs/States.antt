-- What the typed states say of a flash's bytes.
use Rattle.std.specs.Prelude.{◌≡◌, ℕ, false, List, length, Option, Some, None, option_map}
use Rattle.smp_flash.specs.declared.layout.Layout.{Layout}
use Rattle.smp_model.specs.declared.device.Side.{Side}
use Rattle.smp_model.specs.declared.device.Upload.{Upload}
use Rattle.smp_model.specs.declared.image.ImageInfo.{ImageInfo}
use Rattle.smp_model.specs.declared.upload.Announcement.{Announcement}
use Rattle.smp_model.specs.declared.upload.Mark.{Mark}
use Rattle.smp_model.specs.Said as said
use Rattle.smp_model.specs.Said.{Said}
use Rattle.smp_model.specs.ImageGroup.{wants, takes_part}
use Rattle.smp_model.specs.Response.{SideResponse}
use Rattle.smp_model.specs.Sides.{SideStep}
use Rattle.smp_model.specs.Uploads.{uploaded_image}
use Rattle.smp_progress.specs.State.{ProgressState, ProgressSays}
use Rattle.smp_tlv.specs.Carried.{Carries}
use Rattle.smp_tlv.specs.declared.carried.Carried.{Carried}
use Rattle.smp_upload.specs.Bytes.{SideShows}
use Rattle.smp_upload.specs.declared.states.Idle.{Idle}
use Rattle.smp_upload.specs.declared.states.Receiving.{Receiving}
use Rattle.smp_upload.specs.declared.states.Whole.{Whole}
use Rattle.smp_upload.specs.declared.states.Pending.{Pending}
use Rattle.smp_upload.specs.declared.states.Mounted.{Mounted}
use Rattle.smp_upload.specs.declared.states.Mounted.TheVariants as mounts
use Rattle.smp_upload.specs.declared.states.Chunked.{Chunked}
use Rattle.smp_upload.specs.declared.states.Chunked.TheVariants as chunks

-- what is known of an upload
pub record Announced : Type 0 where
  pub announcement : Announcement
  pub offset : ℕ

-- What a state knows of its side: where it lies, the record, the upload, the mark, the good image of an upload that is
-- complete, and the sums of the bytes that an upload under way accepted.
pub record Known : Type 0 where
  pub layout : Layout
  pub entry : ProgressState
  pub upload : Option Announced
  pub pending : Option Mark
  pub image : Option ImageInfo
  pub sums : Option Carried

abbrev pub announced : Upload → Announced
announced u = record { announcement = u.announcement; offset = length u.accepted }

-- the sums are those of the accepted bytes
abbrev pub Sums : Carried → Option Upload → Type 0
Sums sums None = ⊥
Sums sums (Some u) = Carries sums u.accepted

abbrev pub SumsOf : Option Carried → Option Upload → Type 0
SumsOf None upload = Unit {0}
SumsOf (Some sums) upload = Sums sums upload

-- It is known so.
pub record Knows (known : Known) (side : Side) : Type 0 where
  pub upload : known.upload ≡ option_map announced side.upload
  pub pending : known.pending ≡ side.pending
  pub image : known.image ≡ uploaded_image side.upload
  pub sums : SumsOf known.sums side.upload

-- The bytes are as a state says: they show a side, which it knows, and the record is the one that stands there.
pub record Says (known : Known) (bytes : List ℕ) : Type 0 where
  pub side : Side
  pub shows : SideShows known.layout side bytes
  pub knows : Knows known side
  pub record_says : ProgressSays known.entry bytes
  pub place : known.entry.layout ≡ known.layout

abbrev pub known_idle : Idle → Known
known_idle s = record { layout = s.layout; entry = s.progress; upload = None; pending = None; image = None; sums = None }

abbrev pub known_receiving : Receiving → Known
known_receiving s = record { layout = s.layout; entry = s.progress; upload = Some (record { announcement = s.announcement; offset = s.offset }); pending = None; image = None; sums = Some s.sums }

abbrev pub known_whole : Whole → Known
known_whole s = record { layout = s.layout; entry = s.progress; upload = Some (record { announcement = s.announcement; offset = s.announcement.length }); pending = None; image = s.image; sums = None }

abbrev pub known_pending : Pending → Known
known_pending s = record { layout = s.layout; entry = s.progress; upload = Some (record { announcement = s.announcement; offset = s.announcement.length }); pending = Some s.mark; image = Some s.image; sums = None }

abbrev pub known_mounted : Mounted → Known
known_mounted (mounts.Idle s) = known_idle s
known_mounted (mounts.Receiving s) = known_receiving s
known_mounted (mounts.Whole s) = known_whole s
known_mounted (mounts.Pending s) = known_pending s

abbrev pub known_chunked : Chunked → Known
known_chunked (chunks.Receiving s) = known_receiving s
known_chunked (chunks.Whole s matched) = known_whole s
known_chunked (chunks.Dropped s) = known_idle s

-- the response to a part at the wanted offset
abbrev pub part_of : (unit : ℕ) → List ℕ → Option Upload → SideResponse
part_of unit bytes None = wants 0
part_of unit bytes (Some u) = takes_part unit u.announcement u.accepted bytes

-- the steps of a part at the wanted offset
abbrev pub part_steps : (unit : ℕ) → List ℕ → Side → List SideStep
part_steps unit bytes side = (part_of unit bytes side.upload).steps

-- the reply that a chunk's answer stands for, where so many bytes were announced
abbrev pub chunk_said : ℕ → Chunked → Said
chunk_said n (chunks.Receiving s) = said.offset s.offset None
chunk_said n (chunks.Whole s matched) = said.offset s.announcement.length matched
chunk_said n (chunks.Dropped s) = said.offset n (Some false)
