-- A part of a flash, as bytes that an image is read from.
use Rattle.std.specs.Prelude.{ℕ, [], ◌∷◌}
use Rattle.std.specs.Option.{option_map, unwrap_or}
use Rattle.smp_flash.specs.Area.{area}
use Rattle.smp_flash.specs.State.{FlashState}
use Rattle.smp_tlv.specs.State.{BytesState}

-- So many bytes from a place on of a flash that is held under this ghost name. Beside them stand the name, so that a caller who
-- lent the flash knows that it is still the same one, the sizes of the flash, and all its bytes.
abbrev pub part_state : (at size name : ℕ) → FlashState → BytesState
part_state at size name flash = record {
  bytes = option_map (area at size) flash.bytes;
  size = size;
  holder = flash;
  start = at;
  beside = name ∷ flash.geometry.page ∷ flash.geometry.unit ∷ flash.geometry.slot_pages ∷ unwrap_or flash.bytes [];
}
