-- A slot on a flash.
use Rattle.std.specs.Prelude.{◌≡◌, ◌⊎◌, ◌+◌, ◌-◌, ◌≤◌, ◌%◌, ℕ, List, [], ◌∷◌}
use Rattle.smp_flash.specs.Geometry.{slot_size, size_of}
use Rattle.smp_flash.specs.Layout.{geometry_of, slot_of, scratch_of, area_spot}
use Rattle.smp_flash.specs.declared.geometry.Geometry.{Geometry}
use Rattle.smp_flash.specs.declared.layout.Area.{Area}
use Rattle.smp_flash.specs.declared.layout.Layout.{Layout}

-- The area is right for a slot of a flash of these sizes: it begins at a page's start, has a slot's bytes, and lies in the flash.
pub record IsSlot (slot : Area) (g : Geometry) : Type 0 where
  pub begins : slot.at % g.page ≡ 0
  pub long : slot.length ≡ slot_size g
  pub inside : slot.at + slot.length ≤ size_of g

-- where a slot's last page begins
abbrev pub last_page : Area → Geometry → ℕ
last_page slot g = slot.at + slot.length - g.page

-- it is one of the two slots of the layout's image
abbrev pub IsSlotOf : Layout → Area → Type 0
IsSlotOf layout slot = (slot ≡ slot_of layout 0) ⊎ (slot ≡ slot_of layout 1)

-- where the page of the slot begins in which the place lies
abbrev pub page_begin : Layout → Area → ℕ → ℕ
page_begin layout slot at = slot.at + at - at % (geometry_of layout).page

-- that page and the scratch page
abbrev pub moved_spots : Layout → Area → ℕ → List (ℕ × ℕ)
moved_spots layout slot at = (page_begin layout slot at, (geometry_of layout).page) ∷ (area_spot (scratch_of layout)) ∷ []
