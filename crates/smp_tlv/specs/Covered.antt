-- How many bytes the hash of an image is of, by its header alone.
use Rattle.std.specs.Prelude.{ℕ, ◌+◌, ◌==◌, nat_le, List, length, take, Result, Ok, bit_and}
use Rattle.smp_model.specs.Image.{header_of, covered_of, image_magic, encrypted_flags, test, with_areas}
use Rattle.smp_model.specs.declared.image.ImageHeader.{ImageHeader}
use Rattle.smp_model.specs.declared.image.ImageInfo.{ImageInfo}
use Rattle.smp_model.specs.declared.image.ImageFault.{ImageFault}
use Rattle.smp_model.specs.declared.image.ImageFault.TheVariants.{Magic, HeaderSize, Encrypted, Bounds}

-- how many bytes the hash of an image with this header is of, or the first test of the header alone that fails
abbrev pub header_covers : ImageHeader → Result ℕ ImageFault
header_covers h =
    test (h.magic == image_magic) Magic
    (test (nat_le 32 h.header_size) HeaderSize
    (test (bit_and h.flags encrypted_flags == 0) Encrypted
    (Ok (covered_of h))))

-- what is known by a header that passed these tests, and all bytes
abbrev pub with_bounds : ImageHeader → List ℕ → Result ImageInfo ImageFault
with_bounds h b = test (nat_le (covered_of h + 4) (length b)) Bounds (with_areas h b)

-- the same by the bytes, of which there are 32 at least
abbrev pub covered_in : List ℕ → Result ℕ ImageFault
covered_in b = header_covers (header_of (take 32 b))
