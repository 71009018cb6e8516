-- Which requests come to the flash. A request about images does where no rule refuses it that looks at its fields alone;
-- of the others, those about the saved settings do.
use Rattle.std.specs.Prelude.{ℕ, ◌-◌, List, [], ◌∷◌, length, Bool, true, false, not, ◌==◌, ◌&&◌, ◌||◌, nat_lt, Option, Some, None, is_some}
use Rattle.smp_model.specs.declared.device.AbstractDevice.{AbstractDevice}
use Rattle.smp_model.specs.declared.device.Sizes.{Sizes}
use Rattle.smp_model.specs.ImageGroup.{has_wrong_size, begins_with_magic, side_of}
use Rattle.smp_model.specs.Meant as meant
use Rattle.smp_model.specs.Meant.{Meant}
use Rattle.smp_model.specs.Steps.{side_at}

-- the device has this image
abbrev pub has_image : (image : ℕ) → AbstractDevice → Bool
has_image image d = is_some (side_at image d)

-- a start that states a length within the slot and brings an image's header
abbrev pub is_start_taken : Sizes → (len : Option ℕ) (sha : Option (List ℕ)) (part : List ℕ) → Bool
is_start_taken sizes None sha part = false
is_start_taken sizes (Some len) sha part =
    not (has_wrong_size sha)
    && (not (nat_lt (sizes.slot - sizes.page) len) && (not (nat_lt (length part) 32) && begins_with_magic part))

abbrev pub is_part_taken : Sizes → (is_start : Bool) (len : Option ℕ) (sha : Option (List ℕ)) (part : List ℕ) → Bool
is_part_taken sizes true len sha part = is_start_taken sizes len sha part
is_part_taken sizes false len sha part = not (has_wrong_size sha)

-- an empty hash is no hash
abbrev pub is_hash_taken : (hash : Option (List ℕ)) (confirm : Bool) → Bool
is_hash_taken None confirm = confirm
is_hash_taken (Some []) confirm = confirm
is_hash_taken (Some (x ∷ xs)) confirm = length (x ∷ xs) == 32

abbrev pub is_erase_taken : AbstractDevice → (slot : ℕ) → Bool
is_erase_taken d slot = (slot == 1) || ((slot == 3) && has_image 1 d)

-- the request comes to the slots and the record of an upload
abbrev pub uses_images : Sizes → AbstractDevice → Meant → Bool
uses_images sizes d meant.image_list = true
uses_images sizes d (meant.image_set hash confirm) = is_hash_taken hash confirm
uses_images sizes d (meant.upload image len off sha part) =
    has_image (side_of d.target image off sha) d && is_part_taken sizes (off == 0) len sha part
uses_images sizes d (meant.erase slot) = is_erase_taken d slot
uses_images sizes d m = false

-- the request comes to the saved settings
abbrev pub uses_saved : Meant → Bool
uses_saved meant.load = true
uses_saved meant.save = true
uses_saved m = false
