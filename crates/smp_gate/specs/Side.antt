-- What a side of a bank holds: when it is valid, its generation and its body, and the bytes of both.
use Rattle.std.specs.Prelude.{◌+◌, ◌-◌, ◌*◌, ◌/◌, ◌%◌, ◌^◌, ◌≤◌, ℕ, Bool, true, false, ◌&&◌, ◌==◌, nat_le, nat_lt, List, [], ◌∷◌, ◌++◌, length, take, drop, get_or, replicate, Option, Some, None}
use Rattle.std.specs.List.{list_all}
use Rattle.std.specs.Str.{bytes_eq}
use Rattle.smp_flash.specs.Area.{blank}
use Rattle.smp_flash.specs.Region.{gate}

-- what a valid side holds
pub record ValidSide : Type 0 where
  pub generation : ℕ
  pub body : List ℕ

-- the generation and the body's length, of seven bits a byte, in the first sixteen bytes of a side
abbrev pub generation_in : List ℕ → ℕ
generation_in head = (((get_or head 8 0 * 128 + get_or head 9 0) * 128 + get_or head 10 0) * 128 + get_or head 11 0) * 128 + get_or head 12 0

abbrev pub length_in : List ℕ → ℕ
length_in head = get_or head 13 0 * 128 + get_or head 14 0

-- all bytes are below 128
abbrev pub seven_bits : List ℕ → Bool
seven_bits bytes = list_all (λ b. nat_lt b 128) bytes

-- the gate, and a head of bytes below 128 whose last is 01, with a generation of 1 to 4294967295 and a length of at most 4080
abbrev pub is_valid : List ℕ → Bool
is_valid head = bytes_eq (take 8 head) gate && (seven_bits (drop 8 head) && ((get_or head 15 0 == 1)
    && (nat_le 1 (generation_in head) && (nat_lt (generation_in head) (2 ^ 32) && nat_le (length_in head) 4080))))

abbrev pub side_by : Bool → List ℕ → List ℕ → Option ValidSide
side_by true head side = Some (record { generation = generation_in head; body = take (length_in head) (drop 16 side) })
side_by false head side = None

-- what the side holds, where it is valid
abbrev pub valid_side : List ℕ → Option ValidSide
valid_side side = side_by (is_valid (take 16 side)) (take 16 side) side

-- the head: the generation as five bytes of seven bits, the length as two, the most significant first, and 01
abbrev pub head_bytes : ℕ → ℕ → List ℕ
head_bytes g n = (g / 128 / 128 / 128 / 128) ∷ (g / 128 / 128 / 128 % 128) ∷ (g / 128 / 128 % 128) ∷ (g / 128 % 128) ∷ (g % 128) ∷ (n / 128) ∷ (n % 128) ∷ 1 ∷ []

-- the zeros behind n bytes, to a multiple of 8
abbrev pub padding : ℕ → ℕ
padding n = (8 - n % 8) % 8

-- head and body as they are written, in one write behind the gate's place
abbrev pub side_bytes : ℕ → List ℕ → List ℕ
side_bytes g body = head_bytes g (length body) ++ (body ++ replicate (padding (length body)) 0)

-- all bytes of a side that was filled: the gate, head and body, and what follows erased
abbrev pub whole_side : ℕ → List ℕ → List ℕ
whole_side g body = gate ++ (side_bytes g body ++ blank (4088 - length (side_bytes g body)))

-- the side holds no generation above n
abbrev pub AtMost : ℕ → Option ValidSide → Type 0
AtMost n None = Unit {0}
AtMost n (Some side) = side.generation ≤ n
