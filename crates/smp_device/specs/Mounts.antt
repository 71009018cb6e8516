-- Which images are mounted after a request about them, and where the fault fell that broke it off.
use Rattle.std.specs.Prelude.{◌≡◌, ℕ, zero, suc, Bool, true, false, not, Option, Some, None, Result, Ok, Err, IfErr, IfSome, is_some, option_map}
use Rattle.smp_flash.specs.Region.{Spares}
use Rattle.smp_flash.specs.State.{FlashState}
use Rattle.smp_flash.specs.declared.layout.Layout.{Layout}
use Rattle.smp_model.specs.declared.device.AbstractDevice.{AbstractDevice}
use Rattle.smp_model.specs.declared.device.Sizes.{Sizes}
use Rattle.smp_model.specs.declared.reply.Reply.{Reply}
use Rattle.smp_model.specs.Due.{image_for}
use Rattle.smp_model.specs.FlashUse.{uses_images}
use Rattle.smp_model.specs.Meant.{Meant}
use Rattle.smp_model.specs.Steps.{side_at}
use Rattle.smp_upload.specs.Moves.{mount_spots}
use Rattle.smp_upload.specs.declared.states.UploadFault.{UploadFault}
use Rattle.smp_side.specs.Held.{Caused, is_mounted, is_ok}
use Rattle.smp_side.specs.declared.held.Held.{Held}
use Rattle.smp_device.specs.Places.{Places, place_at, places_of}
use Rattle.smp_device.specs.declared.images.Images.{Images}
use Rattle.smp_device.specs.declared.images.Replied.{Replied}

-- The device has the images that have places, and this is its target.
pub record HasImages (p : Places) (target : ℕ) (d : AbstractDevice) : Type 0 where
  pub target_is : d.target ≡ target
  pub images : (image : ℕ) → is_some (side_at image d) ≡ is_some (place_at image p)

-- what is held of an image
abbrev pub held_at : ℕ → Images → Option Held
held_at zero images = Some images.zero
held_at (suc zero) images = images.one
held_at (suc (suc n)) images = None

-- it is there and mounted, or there and not mounted
abbrev pub IsMountedAt : ℕ → Images → Type 0
IsMountedAt image images = option_map is_mounted (held_at image images) ≡ Some true

abbrev pub IsUnmountedAt : ℕ → Images → Type 0
IsUnmountedAt image images = option_map is_mounted (held_at image images) ≡ Some false

-- the request was answered, and nothing changed
pub record Untouched (images : Images) (r : Replied) (a b : FlashState) : Type 0 where
  pub answered : is_ok r.result ≡ true
  pub images_same : r.images ≡ images
  pub flash_same : b ≡ a

-- The fault fell in the regions of this image: where none of the operations that begin there counts in the aim, no trouble fell; and
-- a record that can't take n more is the one of this image.
pub record FellIn (p : Places) (n image : ℕ) (fault : UploadFault) (a b : FlashState) : Type 0 where
  pub layout : Layout
  pub place : place_at image p ≡ Some layout
  pub spared : Spares a.geometry a.aim (mount_spots layout) → b.troubles ≡ a.troubles
  pub caused : Caused layout n fault a.bytes

-- A request about this image left it mounted exactly where it was answered, and the other one as it was. The fault that broke it
-- off fell in this image's regions.
pub record MountsOne (p : Places) (image : ℕ) (before : Images) (r : Replied) (a b : FlashState) : Type 0 where
  pub mounted : option_map is_mounted (held_at image r.images) ≡ Some (is_ok r.result)
  pub others : (other : ℕ) → (image ≡ other → ⊥) → held_at other r.images ≡ held_at other before
  pub fell : IfErr r.result (λ fault. FellIn p 5 image fault a b)

abbrev pub MountsFor : Places → Option ℕ → Images → Replied → FlashState → FlashState → Type 0
MountsFor p None before r a b = ⊥
MountsFor p (Some image) before r a b = MountsOne p image before r a b

-- whatever device has the images that are held: where its rules refuse the request before they come to the flash, nothing changed
abbrev pub Untouches : Sizes → Meant → Images → Replied → FlashState → FlashState → Type 0
Untouches sizes m images r a b = (d : AbstractDevice) → HasImages (places_of images) images.target d → uses_images sizes d m ≡ false → Untouched images r a b

-- where they do not, the image that it is for was mounted
abbrev pub MountsItsOwn : Sizes → Meant → Images → Replied → FlashState → FlashState → Type 0
MountsItsOwn sizes m images r a b = (d : AbstractDevice) → HasImages (places_of images) images.target d → uses_images sizes d m ≡ true
    → MountsFor (places_of images) (image_for images.target m) images r a b

-- each image is mounted
abbrev pub AllMounted : Images → Type 0
AllMounted images = (is_mounted images.zero ≡ true) × IfSome images.one (λ h. is_mounted h ≡ true)

-- A request about all images was broken off. One is not mounted, in whose regions the fault fell; the other one still is where it was.
pub record LosesOne (p : Places) (before after : Images) (fault : UploadFault) (a b : FlashState) : Type 0 where
  pub image : ℕ
  pub unmounted : IsUnmountedAt image after
  pub others : (other : ℕ) → (image ≡ other → ⊥) → IsMountedAt other before → IsMountedAt other after
  pub fell : FellIn p 5 image fault a b

abbrev pub MountsResult : Places → (before after : Images) → Result Reply UploadFault → FlashState → FlashState → Type 0
MountsResult p before after (Ok reply) a b = AllMounted after
MountsResult p before after (Err fault) a b = LosesOne p before after fault a b

-- where the rules before do not refuse it, all images were mounted
abbrev pub MountsAll : Sizes → Meant → Images → Replied → FlashState → FlashState → Type 0
MountsAll sizes m images r a b = (d : AbstractDevice) → HasImages (places_of images) images.target d → uses_images sizes d m ≡ true
    → MountsResult (places_of images) images r.images r.result a b

-- of images that were all mounted, all are where the request was answered, and all but one where it was broken off
abbrev pub MountsSettled : Held → Option Held → (answered : Bool) → Type 0
MountsSettled first None answered = is_mounted first ≡ answered
MountsSettled first (Some second) true = (is_mounted first ≡ true) × (is_mounted second ≡ true)
MountsSettled first (Some second) false = is_mounted second ≡ not (is_mounted first)

-- a mount that was broken off left the other image as it was, or mounted
abbrev pub KeepsOthers : (before after : Images) → Type 0
KeepsOthers before after = (is_mounted before.zero ≡ true → is_mounted after.zero ≡ true) × (is_mounted after.zero ≡ false → after.one ≡ before.one)
