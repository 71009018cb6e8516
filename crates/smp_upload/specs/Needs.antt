-- The records that a call needs, by which it may be worn.
use Rattle.std.specs.Prelude.{◌≡◌, ◌+◌, ◌==◌, ◌&&◌, not, nat_lt, ℕ, Bool, true, false, List, length, Option, Some, None, is_some, if◌then◌else◌}
use Rattle.std.specs.Str.{bytes_eq}
use Rattle.smp_flash.specs.Area.{area, blank}
use Rattle.smp_flash.specs.Geometry.{tail}
use Rattle.smp_flash.specs.Layout.{geometry_of, slot_of}
use Rattle.smp_flash.specs.declared.layout.Layout.{Layout}
use Rattle.smp_model.specs.declared.device.Side.{Side}
use Rattle.smp_model.specs.declared.device.Upload.{Upload}
use Rattle.smp_model.specs.Uploads.{is_spoiled, kept}
use Rattle.smp_upload.specs.Bytes.{SideStandsAs}
use Rattle.smp_upload.specs.States.{Announced}

-- something is written behind the accepted bytes in their page
abbrev pub is_unclean : Layout → Upload → List ℕ → Bool
is_unclean layout u bytes = nat_lt (length u.accepted) u.announcement.length
    && not (bytes_eq (area ((slot_of layout 1).at + length u.accepted) (tail (geometry_of layout).page (length u.accepted)) bytes) (blank (tail (geometry_of layout).page (length u.accepted))))

-- the records of a mount
abbrev pub upload_records : Layout → (rescue : Bool) → Upload → List ℕ → ℕ
upload_records layout true u bytes = 1
upload_records layout false u bytes = if is_spoiled (Some u) then 1 else if is_unclean layout u bytes then 2 else 0

abbrev pub mount_records : Layout → (rescue : Bool) → Option Upload → List ℕ → ℕ
mount_records layout rescue None bytes = 0
mount_records layout rescue (Some u) bytes = upload_records layout rescue u bytes

-- A mount of these bytes needs n records.
pub record MountNeeds (layout : Layout) (n : ℕ) (bytes : List ℕ) : Type 0 where
  pub rescue : Bool
  pub side : Side
  pub stands : SideStandsAs layout rescue side bytes
  pub needed : n ≡ mount_records layout rescue side.upload bytes

-- those of a chunk
abbrev pub chunk_records : (unit : ℕ) → Announced → List ℕ → ℕ
chunk_records unit u bytes =
    if length (kept unit u.announcement.length u.offset bytes) == 0 then 0
    else if (u.offset + length bytes == u.announcement.length) && is_some u.announcement.digest then 2
    else 1

-- those of an erase
abbrev pub erase_records : Option Announced → ℕ
erase_records None = 0
erase_records (Some u) = 1
