-- What a device holds that is up, and what the flash's bytes and that stand for together.
use Rattle.std.specs.Prelude.{◌≡◌, ℕ, List, Option, Some, None, IfSome}
use Rattle.smp_flash.specs.Layout.{geometry_of}
use Rattle.smp_flash.specs.declared.geometry.Geometry.{Geometry}
use Rattle.smp_model.specs.declared.device.AbstractDevice.{AbstractDevice}
use Rattle.smp_model.specs.declared.device.Counters.{Counters}
use Rattle.smp_model.specs.declared.device.Side.{Side}
use Rattle.smp_model.specs.declared.device.StoredFile.{StoredFile}
use Rattle.smp_model.specs.Steps.{side_at}
use Rattle.smp_flash.specs.declared.layout.Layout.{Layout}
use Rattle.smp_settings.specs.Saved.{SavedStand, SavedReadable, SettingsSay, SettingsState}
use Rattle.smp_upload.specs.Bytes.{SideReadable, SideShows}
use Rattle.smp_device.specs.Places.{Places, ArePlaces, AtEach, ImagesStand, ImagesSay, place_at, places_of}
use Rattle.smp_device.specs.declared.images.Images.{Images}

pub record Up : Type 0 where
  pub images : Images
  pub settings : SettingsState
  pub files : List StoredFile
  pub counters : Counters

-- The bytes stand for the durable part of the device, and this is its target.
pub record Stands (p : Places) (target : ℕ) (d : AbstractDevice) (bytes : List ℕ) : Type 0 where
  pub images : ImagesStand p target d bytes
  pub saved : SavedStand p.first d.saved bytes

-- The bytes are as what is held says. A side that is mounted is shown by them, so the next part can be written there.
pub record UpSays (images : Images) (settings : SettingsState) (bytes : List ℕ) : Type 0 where
  pub images_say : ImagesSay images bytes
  pub settings_say : SettingsSay settings bytes

-- all of it is of a flash of these sizes
pub record IsFor (g : Geometry) (images : Images) (settings : SettingsState) : Type 0 where
  pub places : ArePlaces g (places_of images)
  pub layout : settings.layout ≡ (places_of images).first

-- what is held, together
abbrev pub up_of : Images → SettingsState → List StoredFile → Counters → Up
up_of images settings files counters = record { images = images; settings = settings; files = files; counters = counters }

-- memory holds what the device has that is not durable
pub record Carries (up : Up) (d : AbstractDevice) : Type 0 where
  pub running : d.running ≡ up.settings.running
  pub files : d.files ≡ up.files
  pub counters : d.counters ≡ up.counters

-- the side is shown at its place
abbrev pub ShowsAt : Option Layout → Option Side → List ℕ → Type 0
ShowsAt None None bytes = Unit {0}
ShowsAt None (Some s) bytes = ⊥
ShowsAt (Some l) None bytes = ⊥
ShowsAt (Some l) (Some s) bytes = SideShows l s bytes

-- The bytes show the durable part of the device: they stand for it, no rescue is under way, nothing is to be settled, and
-- the next part of each upload can be written.
pub record Shows (p : Places) (target : ℕ) (d : AbstractDevice) (bytes : List ℕ) : Type 0 where
  pub sides : (image : ℕ) → ShowsAt (place_at image p) (side_at image d) bytes
  pub target_is : d.target ≡ target
  pub saved : SavedStand p.first d.saved bytes

-- the bytes stand for some device
pub record Readable (p : Places) (bytes : List ℕ) : Type 0 where
  pub sides : AtEach (λ l. SideReadable l bytes) p
  pub saved : SavedReadable p.first bytes

-- these are all the places of a flash of these sizes
pub record AllPlaces (g : Geometry) (p : Places) : Type 0 where
  pub are : ArePlaces g p
  pub alone : p.second ≡ None → g.images ≡ 1

-- What is held is of these places: all that a flash of their sizes has, and where the device is up, those of its images.
pub record IsWhole (p : Places) (up : Option Images) (settings : SettingsState) : Type 0 where
  pub all : AllPlaces (geometry_of p.first) p
  pub images : IfSome up (λ images. places_of images ≡ p)
  pub layout : settings.layout ≡ p.first
