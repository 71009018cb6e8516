-- Heads (RFC 8949, section 3): what the first byte of an item and the bytes after it say, or why they are refused.
-- Reading a part gives a value and the bytes after it.
use Rattle.std.specs.Prelude.{◌≡◌, ℕ, ◌/◌, ◌%◌, List, [], ◌∷◌, length, take, drop, true, false, ◌&&◌, Some, None, Result, Ok, Err, nat_lt, ◌==◌, if◌then◌else◌}
use Rattle.std.specs.Int.{Width, w16, w32, w64, byte_len, from_be_bytes}
use Rattle.smp_cbor.specs.declared.fault.CborKind.{CborKind}
use Rattle.smp_cbor.specs.declared.fault.CborKind.TheVariants as kinds
use Rattle.smp_cbor.specs.declared.heads.Head.{Head}
use Rattle.smp_cbor.specs.declared.heads.Head.TheVariants as heads

-- a number of a width, most significant byte first
abbrev pub number_at : Width → List ℕ → Result (ℕ × List ℕ) CborKind
number_at w bytes = if nat_lt (length bytes) (byte_len w) then Err kinds.Short else Ok (from_be_bytes w (take (byte_len w) bytes), drop (byte_len w) bytes)

-- a number of one byte
abbrev pub byte_at : List ℕ → Result (ℕ × List ℕ) CborKind
byte_at [] = Err kinds.Short
byte_at (b ∷ rest) = Ok (b, rest)

-- the argument: what the low five bits of a first byte, with the bytes after it, give
unfoldable pub argument_at : ℕ → List ℕ → Result (ℕ × List ℕ) CborKind
argument_at low bytes = if nat_lt low 24 then Ok (low, bytes)
    else if low == 24 then byte_at bytes
    else if low == 25 then number_at w16 bytes
    else if low == 26 then number_at w32 bytes
    else if low == 27 then number_at w64 bytes
    else Err kinds.Head

-- the head of a major type below 7
abbrev pub named : ℕ → ℕ → Head
named major number = if major == 0 then heads.Unsigned number
    else if major == 1 then heads.Negative number
    else if major == 2 then heads.Octets number
    else if major == 3 then heads.Text number
    else if major == 4 then heads.List (Some number)
    else if major == 5 then heads.Map (Some number)
    else heads.Tag

-- read one part, and then what depends on it
infixl 10 ◌>>=◌
abbrev pub ◌>>=◌ : {A B E : Type 0} → Result A E → (A → Result B E) → Result B E
(Ok x) >>= f = f x
(Err e) >>= f = Err e

-- what a function returned, seen by view, is what reading gives
abbrev pub Gives : {X Y E : Type 0} → (X → Y) → Result X E → Result Y E → Type 0
Gives view (Ok x) read = read ≡ Ok (view x)
Gives view (Err e) read = read ≡ Err e

-- a head of major type 7: truth values, null, and all that is other; a simple value below 32 has no two bytes
unfoldable pub simple_at : ℕ → List ℕ → Result (Head × List ℕ) CborKind
simple_at low bytes = if low == 20 then Ok (heads.Bool false, bytes)
    else if low == 21 then Ok (heads.Bool true, bytes)
    else if low == 22 then Ok (heads.Null, bytes)
    else argument_at low bytes >>= λ n. if (low == 24) && nat_lt n.0 32 then Err kinds.Head else Ok (heads.Other, n.1)

-- the head at the front
unfoldable pub head_at : List ℕ → Result (Head × List ℕ) CborKind
head_at [] = Err kinds.Short
head_at (b ∷ rest) = if (b / 32) == 7 then simple_at (b % 32) rest
    else if ((b % 32) == 31) && ((b / 32) == 4) then Ok (heads.List None, rest)
    else if ((b % 32) == 31) && ((b / 32) == 5) then Ok (heads.Map None, rest)
    else argument_at (b % 32) rest >>= λ n. Ok (named (b / 32) n.0, n.1)
