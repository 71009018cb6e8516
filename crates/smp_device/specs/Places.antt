-- What a flash's bytes stand for of a device's images, by the places of their regions.
use Rattle.std.specs.Prelude.{◌≡◌, ℕ, zero, suc, List, [], ◌++◌, Option, Some, None, IfSome, option_map}
use Rattle.smp_flash.specs.Layout.{geometry_of, image_of}
use Rattle.smp_flash.specs.declared.geometry.Geometry.{Geometry}
use Rattle.smp_flash.specs.declared.layout.Layout.{Layout}
use Rattle.smp_model.specs.declared.device.AbstractDevice.{AbstractDevice}
use Rattle.smp_model.specs.declared.device.Side.{Side}
use Rattle.smp_model.specs.Steps.{side_at}
use Rattle.smp_upload.specs.Bytes.{SideStands}
use Rattle.smp_upload.specs.Moves.{mount_spots}
use Rattle.smp_side.specs.Held.{held_layout, HeldSays}
use Rattle.smp_device.specs.declared.images.Images.{Images}

-- where the regions of image 0 lie, and those of image 1 where the device has one
pub record Places : Type 0 where
  pub first : Layout
  pub second : Option Layout

abbrev pub place_at : ℕ → Places → Option Layout
place_at zero p = Some p.first
place_at (suc zero) p = p.second
place_at (suc (suc n)) p = None

-- they are the places of a flash of these sizes
pub record ArePlaces (g : Geometry) (p : Places) : Type 0 where
  pub first : (geometry_of p.first ≡ g) × (image_of p.first ≡ 0)
  pub second : IfSome p.second (λ l. (geometry_of l ≡ g) × (image_of l ≡ 1))

-- where operations about images begin
abbrev pub second_spots : Option Layout → List (ℕ × ℕ)
second_spots None = []
second_spots (Some l) = mount_spots l

abbrev pub spots_of : Places → List (ℕ × ℕ)
spots_of p = mount_spots p.first ++ second_spots p.second

-- the side stands at its place, and there is none where there is no place
abbrev pub StandsAt : Option Layout → Option Side → List ℕ → Type 0
StandsAt None None bytes = Unit {0}
StandsAt None (Some s) bytes = ⊥
StandsAt (Some l) None bytes = ⊥
StandsAt (Some l) (Some s) bytes = SideStands l s bytes

-- The bytes stand for the images of the device, and this is its target.
pub record ImagesStand (p : Places) (target : ℕ) (d : AbstractDevice) (bytes : List ℕ) : Type 0 where
  pub sides : (image : ℕ) → StandsAt (place_at image p) (side_at image d) bytes
  pub target_is : d.target ≡ target

-- a fact of each place
abbrev pub AtEach : (Layout → Type 0) → Places → Type 0
AtEach P p = (image : ℕ) (layout : Layout) → place_at image p ≡ Some layout → P layout

-- the places of what is held
abbrev pub places_of : Images → Places
places_of images = record { first = held_layout images.zero; second = option_map held_layout images.one }

-- the bytes are as what is held says
pub record ImagesSay (images : Images) (bytes : List ℕ) : Type 0 where
  pub first : HeldSays images.zero bytes
  pub second : IfSome images.one (λ h. HeldSays h bytes)
