-- The regions of a flash, where each lies, and which operations count in a region.
use Rattle.std.specs.Prelude.{◌≡◌, ◌+◌, ◌*◌, ◌<◌, ◌≤◌, ℕ, zero, suc, Bool, true, false, ◌&&◌, ◌||◌, not, nat_le, nat_lt, List, [], ◌∷◌, Option, Some, None}
use Rattle.std.specs.Str.{bytes_eq}
use Rattle.smp_flash.specs.Geometry.{slot_size, side_size, first_size, of_second}
use Rattle.smp_flash.specs.declared.geometry.Geometry.{Geometry}
use Rattle.smp_flash.specs.declared.region.Region.{Region}
use Rattle.smp_flash.specs.declared.region.Region.TheVariants.{Any, Slot0, Slot1, Progress, Scratch, Settings, ProgressGate, SettingsGate, Slot2, Slot3, Progress2, Progress2Gate, Scratch2}

-- the eight bytes of a gate: GATEGATE
abbrev pub gate : List ℕ
gate = 0x47 ∷ 0x41 ∷ 0x54 ∷ 0x45 ∷ 0x47 ∷ 0x41 ∷ 0x54 ∷ 0x45 ∷ []

-- where the regions of an image begin: of image 0 at 0, and of image 1 behind all that a flash of one image has
abbrev pub start_of : Geometry → ℕ → ℕ
start_of g zero = 0
start_of g (suc n) = first_size g

-- where a slot of an image begins: 0 the primary one, 1 the secondary one
abbrev pub slot_at : Geometry → ℕ → ℕ → ℕ
slot_at g image n = start_of g image + n * slot_size g

-- where the two sides of an image's progress bank begin
abbrev pub progress_at : Geometry → ℕ → ℕ
progress_at g image = start_of g image + 2 * slot_size g

-- where an image's scratch page begins
abbrev pub scratch_at : Geometry → ℕ → ℕ
scratch_at g image = start_of g image + 2 * slot_size g + 2 * side_size

-- where the two sides of the settings bank begin, which both images share
abbrev pub settings_at : Geometry → ℕ
settings_at g = 2 * slot_size g + 2 * side_size + g.page

-- where a region begins; `Any` is no part of the flash
abbrev pub region_at : Geometry → Region → ℕ
region_at g Any = 0
region_at g Slot0 = slot_at g 0 0
region_at g Slot1 = slot_at g 0 1
region_at g Progress = progress_at g 0
region_at g ProgressGate = progress_at g 0
region_at g Scratch = scratch_at g 0
region_at g Settings = settings_at g
region_at g SettingsGate = settings_at g
region_at g Slot2 = slot_at g 1 0
region_at g Slot3 = slot_at g 1 1
region_at g Progress2 = progress_at g 1
region_at g Progress2Gate = progress_at g 1
region_at g Scratch2 = scratch_at g 1

-- how many bytes it has; the regions of image 1 have none on a flash of one image
abbrev pub region_size : Geometry → Region → ℕ
region_size g Any = 0
region_size g Slot0 = slot_size g
region_size g Slot1 = slot_size g
region_size g Progress = 2 * side_size
region_size g ProgressGate = 2 * side_size
region_size g Scratch = g.page
region_size g Settings = 2 * side_size
region_size g SettingsGate = 2 * side_size
region_size g Slot2 = of_second g (slot_size g)
region_size g Slot3 = of_second g (slot_size g)
region_size g Progress2 = of_second g (2 * side_size)
region_size g Progress2Gate = of_second g (2 * side_size)
region_size g Scratch2 = of_second g g.page

abbrev pub is_any : Region → Bool
is_any Any = true
is_any Slot0 = false
is_any Slot1 = false
is_any Progress = false
is_any ProgressGate = false
is_any Scratch = false
is_any Settings = false
is_any SettingsGate = false
is_any Slot2 = false
is_any Slot3 = false
is_any Progress2 = false
is_any Progress2Gate = false
is_any Scratch2 = false

-- the region counts writes of the gate alone
abbrev pub is_gate : Region → Bool
is_gate ProgressGate = true
is_gate SettingsGate = true
is_gate Progress2Gate = true
is_gate Any = false
is_gate Slot0 = false
is_gate Slot1 = false
is_gate Progress = false
is_gate Scratch = false
is_gate Settings = false
is_gate Slot2 = false
is_gate Slot3 = false
is_gate Progress2 = false
is_gate Scratch2 = false

-- the place lies in a part
abbrev pub within : ℕ → ℕ → ℕ → Bool
within at size place = nat_le at place && nat_lt place (at + size)

-- the place lies in the region
abbrev pub begins_in : Geometry → Region → ℕ → Bool
begins_in g region at = is_any region || within (region_at g region) (region_size g region) at

-- a read or an erase that begins there counts in the aim
abbrev pub counts : Geometry → Option Region → ℕ → Bool
counts g None at = false
counts g (Some region) at = begins_in g region at && not (is_gate region)

-- a write of these bytes that begins there counts in the aim
abbrev pub counts_write : Geometry → Option Region → ℕ → List ℕ → Bool
counts_write g None at bytes = false
counts_write g (Some region) at bytes = begins_in g region at && (not (is_gate region) || bytes_eq bytes gate)

-- nothing that begins in the spots counts in the aim
abbrev pub Spares : Geometry → Option Region → List (ℕ × ℕ) → Type 0
Spares g None spots = Unit {0}
Spares g (Some region) [] = Unit {0}
Spares g (Some region) (spot ∷ spots) = ((at : ℕ) → spot.0 ≤ at → at < spot.0 + spot.1 → begins_in g region at ≡ false) × Spares g (Some region) spots

-- the region of an image's slot, of its progress bank, of that bank's gates, and of its scratch page
abbrev pub slot_region : ℕ → ℕ → Region
slot_region zero zero = Slot0
slot_region zero (suc n) = Slot1
slot_region (suc i) zero = Slot2
slot_region (suc i) (suc n) = Slot3

abbrev pub progress_region : ℕ → Region
progress_region zero = Progress
progress_region (suc i) = Progress2

abbrev pub progress_gate_region : ℕ → Region
progress_gate_region zero = ProgressGate
progress_gate_region (suc i) = Progress2Gate

abbrev pub scratch_region : ℕ → Region
scratch_region zero = Scratch
scratch_region (suc i) = Scratch2
