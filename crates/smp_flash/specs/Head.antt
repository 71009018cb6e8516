-- The head of a flash file, and what lies behind it.
use Rattle.std.specs.Prelude.{◌≡◌, true, ℕ, ◌+◌, ◌==◌, if◌then◌else◌, List, [], ◌∷◌, ◌++◌, length, take, drop, replicate, Option}
use Rattle.std.specs.Option.{option_map}
use Rattle.std.specs.Int.{w32, to_be_bytes}
use Rattle.smp_flash.specs.Geometry.{is_lawful, size_of}
use Rattle.smp_flash.specs.declared.geometry.Geometry.{Geometry}

-- the bytes of the head
abbrev pub head_size : ℕ
head_size = 32

-- the text SMPFLASH
abbrev pub magic : List ℕ
magic = 0x53 ∷ 0x4d ∷ 0x50 ∷ 0x46 ∷ 0x4c ∷ 0x41 ∷ 0x53 ∷ 0x48 ∷ []

-- how the number of images is written: 0 for one, else as it is
abbrev pub images_number : ℕ → ℕ
images_number images = if images == 1 then 0 else images

-- the number of images that a written number stands for
abbrev pub images_read : ℕ → ℕ
images_read number = if number == 0 then 1 else number

-- the head of a flash of these sizes
abbrev pub flash_head : Geometry → List ℕ
flash_head g =
    magic ++ to_be_bytes w32 g.page ++ to_be_bytes w32 g.unit ++ to_be_bytes w32 g.slot_pages
    ++ to_be_bytes w32 (images_number g.images) ++ replicate 8 0

-- no lawful sizes have this head
abbrev pub IsNoHead : List ℕ → Type 0
IsNoHead head = (g : Geometry) → is_lawful g ≡ true → head ≡ flash_head g → ⊥

-- the sizes are those that stand in the head, where some stand there
abbrev pub ReadsSizes : List ℕ → Geometry → Type 0
ReadsSizes head found = (g : Geometry) → is_lawful g ≡ true → head ≡ flash_head g → found ≡ g

-- the file of a flash of these sizes, by its head and its length
abbrev pub IsFile : Geometry → List ℕ → ℕ → Type 0
IsFile g head length = (head ≡ flash_head g) × (length ≡ head_size + size_of g)

-- no lawful sizes have this head in a file of this length
abbrev pub IsNoFile : List ℕ → ℕ → Type 0
IsNoFile head length = (g : Geometry) → is_lawful g ≡ true → IsFile g head length → ⊥

-- what lies behind the head, where it is told
abbrev pub behind : Option (List ℕ) → Option (List ℕ)
behind held = option_map (drop head_size) held
