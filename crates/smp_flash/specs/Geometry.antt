-- The sizes of a flash: which are lawful, what they come to, and what lies between a place and its page's end.
use Rattle.std.specs.Prelude.{◌≡◌, ◌<◌, ◌≤◌, ◌-◌, ◌%◌, ◌+◌, ◌*◌, ◌^◌, ℕ, Bool, ◌==◌, ◌&&◌, ◌||◌, if◌then◌else◌, nat_le, ◌⊎◌}
use Rattle.smp_flash.specs.declared.geometry.Geometry.{Geometry}

-- the sizes that a page, a write unit and a slot may have, and how many images there may be
abbrev pub is_page : ℕ → Bool
is_page page = page == 512 || page == 1024 || page == 2048 || page == 4096

abbrev pub is_unit : ℕ → Bool
is_unit unit = unit == 1 || unit == 2 || unit == 4 || unit == 8

abbrev pub are_slot_pages : ℕ → Bool
are_slot_pages n = nat_le 4 n && nat_le n 1024

abbrev pub are_images : ℕ → Bool
are_images n = n == 1 || n == 2

-- the sizes that a flash may have
abbrev pub is_lawful : Geometry → Bool
is_lawful g = is_page g.page && (is_unit g.unit && (are_slot_pages g.slot_pages && are_images g.images))

-- the bytes of a slot
abbrev pub slot_size : Geometry → ℕ
slot_size g = g.page * g.slot_pages

-- the bytes of a bank's side
abbrev pub side_size : ℕ
side_size = 4096

-- the bytes of a flash of one image: two slots, the sides of two banks, and the scratch page
abbrev pub first_size : Geometry → ℕ
first_size g = 2 * slot_size g + 16384 + g.page

-- the bytes that a second image adds: two slots, the sides of its bank, and its scratch page
abbrev pub second_size : Geometry → ℕ
second_size g = 2 * slot_size g + 8192 + g.page

-- a number of bytes on a flash of two images, and none on a flash of one
abbrev pub of_second : Geometry → ℕ → ℕ
of_second g n = if g.images == 2 then n else 0

-- the bytes of the whole flash
abbrev pub size_of : Geometry → ℕ
size_of g = first_size g + of_second g (second_size g)

-- the same as facts
abbrev pub IsPage : ℕ → Type 0
IsPage page = (page ≡ 512) ⊎ ((page ≡ 1024) ⊎ ((page ≡ 2048) ⊎ (page ≡ 4096)))

abbrev pub IsUnit : ℕ → Type 0
IsUnit unit = (unit ≡ 1) ⊎ ((unit ≡ 2) ⊎ ((unit ≡ 4) ⊎ (unit ≡ 8)))

-- What lawful sizes have in common, for arithmetic on places.
pub record Regular (g : Geometry) : Type 0 where
  pub is_page : IsPage g.page
  pub is_unit : IsUnit g.unit
  pub page_some : 0 < g.page
  pub page_most : g.page ≤ 4096
  pub page_divides : 4096 % g.page ≡ 0
  pub page_eights : g.page % 8 ≡ 0
  pub page_units : g.page % g.unit ≡ 0
  pub unit_some : 0 < g.unit
  pub unit_divides : 8 % g.unit ≡ 0
  pub slot_whole : slot_size g % g.page ≡ 0
  pub slot_least : 4 * g.page ≤ slot_size g
  pub slot_most : slot_size g ≤ 2 ^ 22
  pub images_some : (g.images ≡ 1) ⊎ (g.images ≡ 2)
  pub size_least : first_size g ≤ size_of g
  pub size_two : g.images ≡ 2 → size_of g ≡ first_size g + second_size g
  pub size_most : size_of g ≤ 2 ^ 25

-- the bytes from a place to the end of its page: a whole page at a page's start
abbrev pub room : ℕ → ℕ → ℕ
room page at = page - at % page

-- the bytes from a place to the end of the page that it lies in: none at a page's start
abbrev pub tail : ℕ → ℕ → ℕ
tail page at = (page - at % page) % page
