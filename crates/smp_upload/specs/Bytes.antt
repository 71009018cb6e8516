-- What a flash's bytes stand for, as far as one image goes: its two slots, its progress bank and its scratch page.
use Rattle.std.specs.Prelude.{◌≡◌, ◌+◌, ◌-◌, ◌<◌, ◌%◌, ℕ, Bool, true, false, List, ◌++◌, length, Option, Some, None, IsSome}
use Rattle.smp_flash.specs.Area.{area, blank, Clear}
use Rattle.smp_flash.specs.Geometry.{slot_size, tail}
use Rattle.smp_flash.specs.Layout.{geometry_of, slot_of, scratch_of, progress_of}
use Rattle.smp_flash.specs.declared.layout.Layout.{Layout}
use Rattle.smp_model.specs.declared.device.Side.{Side}
use Rattle.smp_model.specs.declared.device.Upload.{Upload}
use Rattle.smp_model.specs.declared.upload.Mark.{Mark}
use Rattle.smp_model.specs.Image.{good_image}
use Rattle.smp_model.specs.Laws.{GoodWhere}
use Rattle.smp_model.specs.Uploads.{is_spoiled}
use Rattle.smp_progress.specs.declared.record.Record.{Record}
use Rattle.smp_progress.specs.declared.record.Record.TheVariants as records
use Rattle.smp_progress.specs.Cells.{HasRecord}
use Rattle.smp_slot.specs.Marks.{is_flagged, mark_in}

-- what stands at the secondary slot's end
abbrev pub pending_in : Layout → List ℕ → Option Mark
pending_in layout bytes = mark_in (slot_of layout 1) bytes

-- what stands at the primary slot's end
abbrev pub confirmed_in : Layout → List ℕ → Bool
confirmed_in layout bytes = is_flagged (slot_of layout 0) bytes

-- the primary slot without its last page
abbrev pub active_in : Layout → List ℕ → List ℕ
active_in layout bytes = area (slot_of layout 0).at (slot_size (geometry_of layout) - (geometry_of layout).page) bytes

-- the first n bytes of the secondary slot; in a rescue those of the last page that they enter lie in the scratch page
abbrev pub accepted_in : Layout → (rescue : Bool) → ℕ → List ℕ → List ℕ
accepted_in layout false n bytes = area (slot_of layout 1).at n bytes
accepted_in layout true n bytes =
    area (slot_of layout 1).at (n - n % (geometry_of layout).page) bytes ++ area (scratch_of layout).at (n % (geometry_of layout).page) bytes

-- the record of an upload
abbrev pub record_of : (rescue : Bool) → Option Upload → Record
record_of rescue None = records.None
record_of rescue (Some u) = records.Upload u.announcement (length u.accepted) rescue

abbrev pub Accepts : Layout → (rescue : Bool) → Option Upload → List ℕ → Type 0
Accepts layout rescue None bytes = Unit {0}
Accepts layout rescue (Some u) bytes = u.accepted ≡ accepted_in layout rescue (length u.accepted) bytes

-- The bytes stand for this side, with a record of a rescue or of none.
pub record SideStandsAs (layout : Layout) (rescue : Bool) (side : Side) (bytes : List ℕ) : Type 0 where
  pub active : side.active ≡ active_in layout bytes
  pub runs : IsSome (good_image side.active)
  pub confirmed : side.confirmed ≡ confirmed_in layout bytes
  pub entry : HasRecord layout (record_of rescue side.upload) bytes
  pub accepts : Accepts layout rescue side.upload bytes
  pub pending : side.pending ≡ pending_in layout bytes
  pub good : GoodWhere side.pending side.upload

pub record SideStands (layout : Layout) (side : Side) (bytes : List ℕ) : Type 0 where
  pub rescue : Bool
  pub stands : SideStandsAs layout rescue side bytes

-- The bytes stand for some side.
pub record SideReadable (layout : Layout) (bytes : List ℕ) : Type 0 where
  pub side : Side
  pub stands : SideStands layout side bytes

-- what follows the accepted bytes in their page is erased
abbrev pub CleanFrom : Layout → (offset size : ℕ) → List ℕ → Type 0
CleanFrom layout offset size bytes = offset < size
    → area ((slot_of layout 1).at + offset) (tail (geometry_of layout).page offset) bytes ≡ blank (tail (geometry_of layout).page offset)

abbrev pub Clean : Layout → Option Upload → List ℕ → Type 0
Clean layout None bytes = Unit {0}
Clean layout (Some u) bytes = CleanFrom layout (length u.accepted) u.announcement.length bytes

-- The bytes show the side: no rescue is under way, nothing is to be settled, and the next part can be written.
pub record SideShows (layout : Layout) (side : Side) (bytes : List ℕ) : Type 0 where
  pub stands : SideStandsAs layout false side bytes
  pub settled : is_spoiled side.upload ≡ false
  pub clean : Clean layout side.upload bytes

-- The side's regions lie clear of these spots.
pub record Apart (layout : Layout) (spots : List (ℕ × ℕ)) : Type 0 where
  pub slot_0 : Clear spots (slot_of layout 0).at (slot_of layout 0).length
  pub slot_1 : Clear spots (slot_of layout 1).at (slot_of layout 1).length
  pub first : Clear spots (progress_of layout).first.at 4096
  pub second : Clear spots (progress_of layout).second.at 4096
  pub scratch : Clear spots (scratch_of layout).at (scratch_of layout).length
