-- The marks at a slot's end: MCUboot's trailer.
use Rattle.std.specs.Prelude.{◌≡◌, ◌⊎◌, ◌+◌, ◌-◌, ℕ, Bool, true, false, List, [], ◌∷◌, ◌++◌, Option, Some, None}
use Rattle.std.specs.Str.{bytes_eq}
use Rattle.smp_flash.specs.Area.{area, blank}
use Rattle.smp_flash.specs.declared.layout.Area.{Area}
use Rattle.smp_model.specs.declared.upload.Mark.{Mark}
use Rattle.smp_model.specs.declared.upload.Mark.TheVariants.{Test, Permanent}

-- the magic, the last 16 bytes of a slot that is pending
abbrev pub trailer_magic : List ℕ
trailer_magic = 0x77 ∷ 0xc2 ∷ 0x95 ∷ 0xf3 ∷ 0x60 ∷ 0xd2 ∷ 0xef ∷ 0x7f ∷ 0x35 ∷ 0x52 ∷ 0x50 ∷ 0x0f ∷ 0x2c ∷ 0xb6 ∷ 0x79 ∷ 0x80 ∷ []

-- a flag, 01 and seven FF, as it is written 24 bytes before the end
abbrev pub flag_bytes : List ℕ
flag_bytes = 1 ∷ 255 ∷ 255 ∷ 255 ∷ 255 ∷ 255 ∷ 255 ∷ 255 ∷ []

-- the slot ends in the magic
abbrev pub is_marked : Area → List ℕ → Bool
is_marked slot bytes = bytes_eq (area (slot.at + slot.length - 16) 16 bytes) trailer_magic

-- the byte 24 before the slot's end is 01
abbrev pub is_flagged : Area → List ℕ → Bool
is_flagged slot bytes = bytes_eq (area (slot.at + slot.length - 24) 1 bytes) (1 ∷ [])

abbrev pub mark_by : (marked flagged : Bool) → Option Mark
mark_by false flagged = None
mark_by true false = Some Test
mark_by true true = Some Permanent

-- the mark at a slot's end: none where it does not end in the magic
abbrev pub mark_in : Area → List ℕ → Option Mark
mark_in slot bytes = mark_by (is_marked slot bytes) (is_flagged slot bytes)

-- the slot has this mark or none
abbrev pub MarkOrNone : Area → Mark → List ℕ → Type 0
MarkOrNone slot mark bytes = (mark_in slot bytes ≡ None) ⊎ (mark_in slot bytes ≡ Some mark)

-- the writes of a mark
abbrev pub writes_of : Mark → ℕ
writes_of Test = 1
writes_of Permanent = 2

-- how many of a slot's last bytes are written for a mark, and what they are, with the bytes of a flag
abbrev pub mark_size : Mark → ℕ
mark_size Test = 16
mark_size Permanent = 24

abbrev pub mark_end : Mark → List ℕ
mark_end Test = blank 8 ++ trailer_magic
mark_end Permanent = flag_bytes ++ trailer_magic

-- the last page of a slot that was marked, and of one that was confirmed: these bytes, and all others are FF
abbrev pub marked_page : ℕ → Mark → List ℕ
marked_page page mark = blank (page - 24) ++ mark_end mark

abbrev pub confirmed_page : ℕ → List ℕ
confirmed_page page = blank (page - 24) ++ (flag_bytes ++ blank 16)
