-- What a flash holds after it is formatted, and why it could not be.
use Rattle.std.specs.Prelude.{◌≡◌, ◌⊎◌, ℕ, ◌-◌, ◌≤◌, ◌<◌, List, [], ◌∷◌, ◌++◌, length, take, replicate, false, Option, Some, None, option_map, IfSome, IsSome, OnOk, Result, Ok, Err}
use Rattle.smp_flash.specs.Area.{area, blank}
use Rattle.smp_flash.specs.Calls.{Calls}
use Rattle.smp_flash.specs.Geometry.{slot_size}
use Rattle.smp_flash.specs.Layout.{bank_at, bank_spots, progress_of, settings_of, slot_of}
use Rattle.smp_flash.specs.Region.{slot_at, progress_at, settings_at}
use Rattle.smp_flash.specs.State.{FlashState, End}
use Rattle.smp_flash.specs.State.End.{Went, WentOff, Failed}
use Rattle.smp_flash.specs.declared.geometry.Geometry.{Geometry}
use Rattle.smp_flash.specs.declared.layout.BankPlace.{BankPlace}
use Rattle.smp_flash.specs.declared.layout.Layout.{Layout}
use Rattle.smp_gate.specs.Newest.{Fresh, newest_generation}
use Rattle.smp_model.specs.declared.device.AbstractDevice.{AbstractDevice}
use Rattle.smp_model.specs.declared.device.Side.{Side}
use Rattle.smp_model.specs.declared.device.Sizes.{Sizes}
use Rattle.smp_model.specs.declared.image.ImageFault.{ImageFault}
use Rattle.smp_model.specs.declared.image.ImageFault.TheVariants as bad
use Rattle.smp_model.specs.Counters.{no_counters}
use Rattle.smp_model.specs.Image.{image_of, good_image}
use Rattle.smp_device.specs.Places.{AtEach, Places}
use Rattle.smp_device.specs.Up.{AllPlaces, Stands}
use Rattle.smp_device.specs.Uploads.{sizes_of}
use Rattle.smp_device.specs.declared.formatting.FormatFault.{FormatFault}
use Rattle.smp_device.specs.declared.formatting.FormatFault.TheVariants as faults

-- The device that is formatted.

-- an image runs in its primary slot, whose rest is FF, and is not confirmed; nothing is uploaded
abbrev pub formatted_side : Sizes → List ℕ → Side
formatted_side sizes image = record {
  active = take (sizes.slot - sizes.page) (image ++ replicate (sizes.slot - sizes.page) 255);
  confirmed = false;
  upload = None;
  pending = None;
}

-- one image or two, and no settings
abbrev pub formatted : Sizes → List ℕ → Option (List ℕ) → AbstractDevice
formatted sizes image second = record {
  first = formatted_side sizes image;
  second = option_map (formatted_side sizes) second;
  saved = [];
  running = [];
  files = [];
  counters = no_counters;
  target = 0;
}

-- Images that can be formatted with.

-- how many bytes of an image have room in a slot
abbrev pub room_of : Geometry → ℕ
room_of g = slot_size g - g.page

-- the image is good, and has room
pub record Fits (room : ℕ) (image : List ℕ) : Type 0 where
  pub good : IsSome (good_image image)
  pub short : length image ≤ room

-- Why it isn't so, first: a fault of its bytes, a hash that is not theirs, or, of a good image, its length.
abbrev pub Misfits : ℕ → List ℕ → ImageFault → Type 0
Misfits room image bad.WrongHash = (good_image image ≡ None) × ((fault : ImageFault) → image_of image ≡ Err fault → ⊥)
Misfits room image bad.TooLarge = IsSome (good_image image) × (room < length image)
Misfits room image why = image_of image ≡ Err why

-- the first of the images that doesn't fit doesn't by this fault
abbrev pub SecondMisfits : ℕ → List ℕ → Option (List ℕ) → ImageFault → Type 0
SecondMisfits room image None why = ⊥
SecondMisfits room image (Some second) why = Fits room image × Misfits room second why

-- What `format` does.

-- the primary slot, the secondary one and the progress bank of an image are FF
pub record IsErased (layout : Layout) (bytes : List ℕ) : Type 0 where
  pub slot_0 : area (slot_of layout 0).at (slot_of layout 0).length bytes ≡ blank (slot_of layout 0).length
  pub slot_1 : area (slot_of layout 1).at (slot_of layout 1).length bytes ≡ blank (slot_of layout 1).length
  pub progress : Fresh (progress_of layout) bytes

-- where the operations of formatting an image begin: in its primary slot and in its progress bank
abbrev pub primary_spots : Geometry → ℕ → List (ℕ × ℕ)
primary_spots g image = (slot_at g image 0, slot_size g) ∷ bank_spots (bank_at (progress_at g image))

-- those of image 1, where there is one
abbrev pub second_spots : Geometry → Option (List ℕ) → List (ℕ × ℕ)
second_spots g None = []
second_spots g (Some second) = primary_spots g 1

-- all of them, with those in the settings bank
abbrev pub format_spots : Geometry → Option (List ℕ) → List (ℕ × ℕ)
format_spots g second = primary_spots g 0 ++ (second_spots g second ++ bank_spots (bank_at (settings_at g)))

-- how it ended, as far as the flash goes
abbrev pub format_end : Result (Unit {0}) FormatFault → End
format_end (Ok x) = Went
format_end (Err (faults.BadImage why)) = Went
format_end (Err (faults.Fault operation)) = Failed operation
format_end (Err faults.Off) = WentOff

-- a fault of the flash
abbrev pub IsOfFlash : FormatFault → Type 0
IsOfFlash (faults.BadImage why) = ⊥
IsOfFlash (faults.Fault operation) = Unit {0}
IsOfFlash faults.Off = Unit {0}

-- All images fit, but where it answers that one doesn't: then nothing changed.
abbrev pub FormatCaused : ℕ → List ℕ → Option (List ℕ) → Result (Unit {0}) FormatFault → FlashState → FlashState → Type 0
FormatCaused room image second (Err (faults.BadImage why)) a b = (Misfits room image why ⊎ SecondMisfits room image second why) × (b ≡ a)
FormatCaused room image second result a b = Fits room image × IfSome second (Fits room)

-- The bytes stand for the device that is formatted with these images.
abbrev pub StandsFormatted : Geometry → List ℕ → Option (List ℕ) → List ℕ → Type 0
StandsFormatted g image second bytes = (p : Places) → AllPlaces g p → Stands p 0 (formatted (sizes_of g) image second) bytes

-- Each bank is of generation 1, as it was made.
abbrev pub IsOfFirstGeneration : BankPlace → List ℕ → Type 0
IsOfFirstGeneration place bytes = newest_generation place bytes ≡ 1

pub record AreOfFirstGeneration (p : Places) (bytes : List ℕ) : Type 0 where
  pub progress : AtEach (λ l. IsOfFirstGeneration (progress_of l) bytes) p
  pub settings : IsOfFirstGeneration (settings_of p.first) bytes

abbrev pub BanksFormatted : Geometry → List ℕ → Type 0
BanksFormatted g bytes = (p : Places) → AllPlaces g p → AreOfFirstGeneration p bytes

-- The clause of a call that formats a flash of FF with these images.
pub record Formats (image : List ℕ) (second : Option (List ℕ)) (result : Result (Unit {0}) FormatFault) (a b : FlashState) : Type 0 where
  pub calls : Calls (format_spots a.geometry second) (format_end result) a b
  pub caused : FormatCaused (room_of a.geometry) image second result a b
  pub stands : OnOk result (IfSome b.bytes (StandsFormatted a.geometry image second))
  pub generations : OnOk result (IfSome b.bytes (BanksFormatted a.geometry))
