-- A device that can come to be: its settings and files are within the limits and in order, its upload fits the slot, and
-- what is pending is good. Requests keep it so.
use Rattle.std.specs.Prelude.{◌≡◌, ◌⊎◌, ◌≤◌, ◌+◌, ◌*◌, ◌&&◌, ℕ, List, Bool, Option, Some, None, IsTrue, IfSome, IsSome, length, nat_le}
use Rattle.std.specs.List.{list_all}
use Rattle.std.specs.Str.{is_utf8}
use Rattle.smp_model.specs.declared.device.AbstractDevice.{AbstractDevice}
use Rattle.smp_model.specs.declared.device.Side.{Side}
use Rattle.smp_model.specs.declared.device.Sizes.{Sizes}
use Rattle.smp_model.specs.declared.device.StoredFile.{StoredFile}
use Rattle.smp_model.specs.declared.device.Upload.{Upload}
use Rattle.smp_model.specs.declared.upload.Announcement.{Announcement}
use Rattle.smp_model.specs.Files.{is_file_name, most_files, longest_file}
use Rattle.smp_model.specs.Image.{good_image}
use Rattle.smp_model.specs.Laws.{EachSide, PendingIsGood}
use Rattle.smp_model.specs.Meant as meant
use Rattle.smp_model.specs.Meant.{Meant}
use Rattle.smp_model.specs.Named.{is_ascending}
use Rattle.smp_model.specs.Settings.{is_within_limits}
use Rattle.smp_model.specs.Steps.{side_at}

-- one file within the limits: it holds at most what was announced
abbrev pub is_file : StoredFile → Bool
is_file f = is_file_name f.name && (nat_le (length f.held) f.announced && nat_le f.announced longest_file)

-- files within the limits
abbrev pub are_files : List StoredFile → Bool
are_files files = (list_all is_file files && is_ascending (λ f. f.name) files) && nat_le (length files) most_files

-- an announcement of an image that a slot has room for: 32 bytes at least, and with a whole digest
pub record FitsSlot (sizes : Sizes) (a : Announcement) : Type 0 where
  pub digest : IfSome a.digest (λ d. length d ≡ 32)
  pub header : 32 ≤ a.length
  pub room : a.length + sizes.page ≤ sizes.slot

-- accepted bytes: at most those announced, and whole write units or all
pub record FitsUpload (sizes : Sizes) (u : Upload) : Type 0 where
  pub slot : FitsSlot sizes u.announcement
  pub within : length u.accepted ≤ u.announcement.length
  pub units : (length u.accepted ≡ u.announcement.length) ⊎ ((n : ℕ) × (length u.accepted ≡ sizes.unit * n))

abbrev pub UploadFits : Sizes → Option Upload → Type 0
UploadFits sizes None = Unit {0}
UploadFits sizes (Some u) = FitsUpload sizes u

-- A side whose slot 0 is, before its last page, the bytes that begin with a good image, whose upload fits, and where what is
-- pending is good.
pub record IsConsistentSide (sizes : Sizes) (s : Side) : Type 0 where
  pub active : length s.active + sizes.page ≡ sizes.slot
  pub image : IsSome (good_image s.active)
  pub upload : UploadFits sizes s.upload
  pub pending : PendingIsGood s

-- Every device can be found so: parts go to an image that it has.
pub record IsConsistent (sizes : Sizes) (d : AbstractDevice) : Type 0 where
  pub sides : EachSide (IsConsistentSide sizes) d
  pub saved : IsTrue (is_within_limits d.saved)
  pub running : IsTrue (is_within_limits d.running)
  pub files : IsTrue (are_files d.files)
  pub target : IsSome (side_at d.target d)

-- The texts of a request are UTF-8, as they are in every packet.
abbrev pub HasTexts : Meant → Type 0
HasTexts (meant.echo text) = IsTrue (is_utf8 text)
HasTexts (meant.stat_group name) = IsTrue (is_utf8 name)
HasTexts (meant.setting_read name size) = IsTrue (is_utf8 name)
HasTexts (meant.setting_write name val) = IsTrue (is_utf8 name)
HasTexts (meant.setting_delete name) = IsTrue (is_utf8 name)
HasTexts (meant.file_read off name) = IsTrue (is_utf8 name)
HasTexts (meant.file_write off part len name) = IsTrue (is_utf8 name)
HasTexts (meant.file_status name) = IsTrue (is_utf8 name)
HasTexts (meant.file_hash name kind off len) = IsTrue (is_utf8 name) × IfSome kind (λ k. IsTrue (is_utf8 k))
HasTexts m = Unit {0}
