-- How many bytes are read of an image, by its bytes. Nothing is read behind what shows the first fault, and of the TLVs in an
-- area each head, and the value of the first hash alone.
use Rattle.std.specs.Prelude.{ℕ, zero, suc, ◌+◌, ◌-◌, ◌≤◌, List, length, take, drop, Bool, true, false, not, ◌==◌, ◌&&◌, nat_lt, nat_le, if◌then◌else◌, Option, Some, None, is_ok}
use Rattle.smp_flash.specs.Calls.{ReadsAtMost}
use Rattle.smp_model.specs.Image.{number_16, header_of, covered_of, has_protected}
use Rattle.smp_model.specs.declared.image.ImageHeader.{ImageHeader}
use Rattle.smp_tlv.specs.Covered.{header_covers}
use Rattle.smp_tlv.specs.declared.tlv.Hashes.{Hashes}
use Rattle.smp_tlv.specs.declared.tlv.Hashes.TheVariants.{Missing, One, Unfit}
use Rattle.smp_tlv.specs.declared.tlv.Walk.{Walk}

abbrev pub is_missing : Hashes → Bool
is_missing Missing = true
is_missing (One hash) = false
is_missing Unfit = false

-- of the value of a TLV
abbrev pub value_reads : (missing : Bool) (kind size : ℕ) → ℕ
value_reads missing kind size = if missing && ((kind == 16) && (size == 32)) then 32 else 0

-- Of so many TLVs at most, from a place up to an end, where no hash was found before or one was. One that would pass the end
-- is the last.
abbrev pub tlv_reads : (most : ℕ) (missing : Bool) (at «end» : ℕ) → List ℕ → ℕ
tlv_reads zero missing at «end» held = 0
tlv_reads (suc most) missing at «end» held =
    if nat_lt («end» - at) 4 then 0 else
    (if nat_lt («end» - (at + 4)) (number_16 (drop at held) 2) then 4 else
    (4 + value_reads missing (number_16 (drop at held) 0) (number_16 (drop at held) 2)
    + tlv_reads most (missing && not (number_16 (drop at held) 0 == 16)) (at + 4 + number_16 (drop at held) 2) «end» held))

-- of what is left of an area
abbrev pub walk_reads : Walk → (end : ℕ) → List ℕ → ℕ
walk_reads walk «end» held = tlv_reads («end» - walk.at) (is_missing walk.found) walk.at «end» held

-- of an area of TLVs behind its head
abbrev pub area_reads : (at «end» : ℕ) → List ℕ → ℕ
area_reads at «end» held = tlv_reads («end» - at) true at «end» held

-- what is left to read after one TLV, where there was one
abbrev pub left_reads : (end : ℕ) → Option Walk → List ℕ → ℕ
left_reads «end» (Some walk) held = walk_reads walk «end» held
left_reads «end» None held = 0

-- so much was read that with the rest it is no more than all
pub record ReadsLeft (rest all : ℕ) (before after : Option ℕ) : Type 0 where
  pub most : ℕ
  pub fits : most + rest ≤ all
  pub reads : ReadsAtMost most before after

-- of the protected TLVs: nothing where they have not room for a head, and behind the head nothing where it is wrong
abbrev pub protected_reads : ImageHeader → List ℕ → ℕ
protected_reads h held =
    if nat_lt h.protected_size 4 then 0 else
    (4 + (if (number_16 (drop (covered_of h - h.protected_size) held) 0 == 26888) && (number_16 (drop (covered_of h - h.protected_size) held) 2 == h.protected_size)
    then area_reads (covered_of h - h.protected_size + 4) (covered_of h) held else 0))

-- of the TLVs behind the covered bytes
abbrev pub other_reads : (covered : ℕ) → List ℕ → ℕ
other_reads covered held =
    4 + (if (number_16 (drop covered held) 0 == 26887) && (not (nat_lt (number_16 (drop covered held) 2) 4) && not (nat_lt (length held - covered) (number_16 (drop covered held) 2)))
    then area_reads (covered + 4) (covered + number_16 (drop covered held) 2) held else 0)

-- of both areas: of the second where the first is right
abbrev pub areas_reads : ImageHeader → List ℕ → ℕ
areas_reads h held =
    protected_reads h held + (if has_protected h.protected_size (drop (h.header_size + h.image_size) held) then other_reads (covered_of h) held else 0)

-- no test of a header fails, where there are so many bytes
abbrev pub passes : ImageHeader → (size : ℕ) → Bool
passes h size = is_ok (header_covers h) && nat_le (covered_of h + 4) size

-- of an image
abbrev pub image_reads : List ℕ → ℕ
image_reads held =
    if nat_lt (length held) 32 then 0 else
    (32 + (if passes (header_of (take 32 held)) (length held) then areas_reads (header_of (take 32 held)) held else 0))
