-- Where the regions of an image lie, and how those of one image and of both lie to each other.
use Rattle.std.specs.Prelude.{◌≡◌, ◌+◌, ◌*◌, ◌≤◌, ◌<◌, ◌%◌, ℕ, zero, suc, Bool, true, false, List, [], ◌∷◌, ◌++◌, Option, Some}
use Rattle.smp_flash.specs.Area.{spot, Clear}
use Rattle.smp_flash.specs.Geometry.{slot_size, side_size, size_of}
use Rattle.smp_flash.specs.Region.{gate, counts, counts_write, Spares, slot_at, progress_at, scratch_at, settings_at, slot_region, progress_region, progress_gate_region}
use Rattle.smp_flash.specs.declared.geometry.Geometry.{Geometry}
use Rattle.smp_flash.specs.declared.layout.Area.{Area}
use Rattle.smp_flash.specs.declared.layout.BankPlace.{BankPlace}
use Rattle.smp_flash.specs.declared.layout.Layout.{Layout}
use Rattle.smp_flash.specs.declared.region.Region.{Region}
use Rattle.smp_flash.specs.declared.region.Region.TheVariants.{Any, Slot0, Slot1, Progress, Scratch, Settings, ProgressGate, SettingsGate, Slot2, Slot3, Progress2, Progress2Gate, Scratch2}

-- the sizes of the flash that it is a layout of, and its image, 0 or 1
abbrev pub geometry_of : Layout → Geometry
geometry_of layout = layout.geometry

abbrev pub image_of : Layout → ℕ
image_of layout = layout.image

-- the primary slot, 0, and the secondary one, 1
abbrev pub slot_of : Layout → ℕ → Area
slot_of layout n = record { at = slot_at (geometry_of layout) (image_of layout) n; length = slot_size (geometry_of layout) }

-- two sides, one behind the other
abbrev pub bank_at : ℕ → BankPlace
bank_at at = record { first = record { at = at; length = side_size }; second = record { at = at + side_size; length = side_size } }

-- the bank of the upload's record
abbrev pub progress_of : Layout → BankPlace
progress_of layout = bank_at (progress_at (geometry_of layout) (image_of layout))

-- the page that holds what a rescue moves
abbrev pub scratch_of : Layout → Area
scratch_of layout = record { at = scratch_at (geometry_of layout) (image_of layout); length = (geometry_of layout).page }

-- the bank of the saved settings, which both images share
abbrev pub settings_of : Layout → BankPlace
settings_of layout = bank_at (settings_at (geometry_of layout))

-- an area as a spot, and a bank's sides as two
abbrev pub area_spot : Area → ℕ × ℕ
area_spot a = (a.at, a.length)

abbrev pub bank_spots : BankPlace → List (ℕ × ℕ)
bank_spots place = area_spot place.first ∷ area_spot place.second ∷ []

-- the secondary slot, the progress bank and the scratch page, which lie one behind the other
abbrev pub upload_spots : Layout → List (ℕ × ℕ)
upload_spots layout = spot (slot_at (geometry_of layout) (image_of layout) 1) (slot_size (geometry_of layout) + 2 * side_size + (geometry_of layout).page)

-- the regions of the image alone, in ascending order of place
abbrev pub image_spots : Layout → List (ℕ × ℕ)
image_spots layout = area_spot (slot_of layout 0) ∷ area_spot (slot_of layout 1) ∷ area_spot (progress_of layout).first ∷ area_spot (progress_of layout).second
    ∷ area_spot (scratch_of layout) ∷ []

-- the regions of the image, and the settings bank
abbrev pub region_spots : Layout → List (ℕ × ℕ)
region_spots layout = area_spot (slot_of layout 0) ∷ area_spot (slot_of layout 1) ∷ area_spot (progress_of layout).first ∷ area_spot (progress_of layout).second
    ∷ area_spot (scratch_of layout) ∷ area_spot (settings_of layout).first ∷ area_spot (settings_of layout).second ∷ []

-- each spot lies apart from each later one
abbrev pub Parted : List (ℕ × ℕ) → Type 0
Parted [] = Unit {0}
Parted (spot ∷ spots) = Clear spots spot.0 spot.1 × Parted spots

-- each spot begins at a page's start, has whole pages, and ends within the flash
abbrev pub WholePages : ℕ → ℕ → List (ℕ × ℕ) → Type 0
WholePages page size [] = Unit {0}
WholePages page size (spot ∷ spots) = (spot.0 % page ≡ 0) × (spot.1 % page ≡ 0) × (spot.0 + spot.1 ≤ size) × WholePages page size spots

-- The regions lie apart and inside the flash.
pub record Arranged (layout : Layout) : Type 0 where
  pub apart : Parted (region_spots layout)
  pub inside : WholePages (geometry_of layout).page (size_of (geometry_of layout)) (region_spots layout)
  pub image : image_of layout < (geometry_of layout).images

-- The regions of both images of a flash, and the settings bank, lie apart.
pub record ArrangedTogether (first second : Layout) : Type 0 where
  pub apart : Parted (image_spots first ++ region_spots second)

-- a write of a gate that begins on a side counts in the aim
abbrev pub CountsOnSide : Geometry → Option Region → ℕ → Type 0
CountsOnSide g aim side = (at : ℕ) → side ≤ at → at < side + side_size → counts_write g aim at gate ≡ true

-- a write of a gate that begins on either side of the bank counts in the aim: of the side's own gate, and of a cell's
abbrev pub CountsInBank : Geometry → Option Region → BankPlace → Type 0
CountsInBank g aim place = CountsOnSide g aim place.first.at × CountsOnSide g aim place.second.at

-- What begins in a region of the image counts there.
pub record CountsInRegions (layout : Layout) : Type 0 where
  pub slot : (n at : ℕ) (bytes : List ℕ) → n ≤ 1 → (slot_of layout n).at ≤ at → at < (slot_of layout n).at + (slot_of layout n).length
      → (counts (geometry_of layout) (Some (slot_region (image_of layout) n)) at ≡ true) × (counts_write (geometry_of layout) (Some (slot_region (image_of layout) n)) at bytes ≡ true)
  pub progress : CountsInBank (geometry_of layout) (Some (progress_region (image_of layout))) (progress_of layout)
  pub progress_gate : CountsInBank (geometry_of layout) (Some (progress_gate_region (image_of layout))) (progress_of layout)
  pub settings : CountsInBank (geometry_of layout) (Some Settings) (settings_of layout)
  pub settings_gate : CountsInBank (geometry_of layout) (Some SettingsGate) (settings_of layout)

-- the regions in which something counts that begins in the secondary slot, the progress bank or the scratch page of an image
abbrev pub in_upload : ℕ → Region → Bool
in_upload image Any = true
in_upload image Slot0 = false
in_upload image Settings = false
in_upload image SettingsGate = false
in_upload image Slot2 = false
in_upload zero Slot1 = true
in_upload zero Progress = true
in_upload zero ProgressGate = true
in_upload zero Scratch = true
in_upload zero Slot3 = false
in_upload zero Progress2 = false
in_upload zero Progress2Gate = false
in_upload zero Scratch2 = false
in_upload (suc i) Slot1 = false
in_upload (suc i) Progress = false
in_upload (suc i) ProgressGate = false
in_upload (suc i) Scratch = false
in_upload (suc i) Slot3 = true
in_upload (suc i) Progress2 = true
in_upload (suc i) Progress2Gate = true
in_upload (suc i) Scratch2 = true

-- the regions in which something counts that begins in the settings bank
abbrev pub in_settings : Region → Bool
in_settings Any = true
in_settings Settings = true
in_settings SettingsGate = true
in_settings Slot0 = false
in_settings Slot1 = false
in_settings Progress = false
in_settings ProgressGate = false
in_settings Scratch = false
in_settings Slot2 = false
in_settings Slot3 = false
in_settings Progress2 = false
in_settings Progress2Gate = false
in_settings Scratch2 = false

-- the regions in which something counts that begins in the primary slot of an image
abbrev pub in_primary : ℕ → Region → Bool
in_primary image Any = true
in_primary image Slot1 = false
in_primary image Progress = false
in_primary image ProgressGate = false
in_primary image Scratch = false
in_primary image Settings = false
in_primary image SettingsGate = false
in_primary image Slot3 = false
in_primary image Progress2 = false
in_primary image Progress2Gate = false
in_primary image Scratch2 = false
in_primary zero Slot0 = true
in_primary zero Slot2 = false
in_primary (suc i) Slot0 = false
in_primary (suc i) Slot2 = true

-- What is done in some regions of an image spares an aim in any other region, of this image or the other one.
pub record SparesOthers (layout : Layout) : Type 0 where
  pub by_upload : (region : Region) → in_upload (image_of layout) region ≡ false → Spares (geometry_of layout) (Some region) (upload_spots layout)
  pub by_settings : (region : Region) → in_settings region ≡ false → Spares (geometry_of layout) (Some region) (bank_spots (settings_of layout))
  pub by_primary : (region : Region) → in_primary (image_of layout) region ≡ false → Spares (geometry_of layout) (Some region) (area_spot (slot_of layout 0) ∷ [])
