-- What an operation that is struck leaves, by the numbers that a seed gives.
use Rattle.std.specs.Prelude.{ℕ, zero, suc, ◌+◌, ◌*◌, ◌/◌, ◌%◌, ◌^◌, List, [], ◌∷◌, if◌then◌else◌, nat_le}

-- the next number
abbrev pub next : ℕ → ℕ
next x = (x * 1664525 + 1013904223) % 2 ^ 32

-- n bytes, each the top eight bits of the next number
abbrev pub noise : ℕ → ℕ → List ℕ
noise x zero = []
noise x (suc n) = (next x / 2 ^ 24) ∷ noise (next x) n

-- the bytes, each erased where the top bit of the next number is 1
abbrev pub faded_by : ℕ → List ℕ → List ℕ
faded_by x [] = []
faded_by x (b ∷ bs) = (if nat_le (2 ^ 31) (next x) then 255 else b) ∷ faded_by (next x) bs
