-- Parts of a list of bytes, and what a change leaves of them.
use Rattle.std.specs.Prelude.{◌≡◌, ◌⊎◌, ◌+◌, ◌<◌, ◌≤◌, ℕ, zero, suc, if◌then◌else◌, List, [], ◌∷◌, length, take, drop, get_or, replicate, Option, Some, None}
use Rattle.std.specs.Str.{bytes_eq}

-- the bytes of a part
abbrev pub area : ℕ → ℕ → List ℕ → List ℕ
area at size bytes = take size (drop at bytes)

-- the n bytes from p on lie apart from each of these spots, which are places with their sizes
abbrev pub Clear : List (ℕ × ℕ) → ℕ → ℕ → Type 0
Clear [] p n = Unit {0}
Clear (spot ∷ spots) p n = ((p + n ≤ spot.0) ⊎ (spot.0 + spot.1 ≤ p)) × Clear spots p n

-- only bytes in the spots changed: each part that lies apart from them is as before
pub record Keeps (spots : List (ℕ × ℕ)) (old new : List ℕ) : Type 0 where
  pub length_same : length new ≡ length old
  pub apart : (p n : ℕ) → Clear spots p n → area p n new ≡ area p n old

-- one spot
abbrev pub spot : ℕ → ℕ → List (ℕ × ℕ)
spot at size = (at, size) ∷ []

-- what a write that went through leaves: the part holds these bytes, and all else is as before
pub record Holds (at : ℕ) (bytes old new : List ℕ) : Type 0 where
  pub keeps : Keeps (spot at (length bytes)) old new
  pub holds : area at (length bytes) new ≡ bytes

-- each byte is as before or erased
abbrev pub Faded : List ℕ → List ℕ → Type 0
Faded [] [] = Unit {0}
Faded [] (y ∷ ys) = ⊥
Faded (x ∷ xs) [] = ⊥
Faded (x ∷ xs) (y ∷ ys) = ((y ≡ x) ⊎ (y ≡ 255)) × Faded xs ys

-- n erased bytes
abbrev pub blank : ℕ → List ℕ
blank n = replicate n 255

-- what an erase leaves, also one that is cut or fails
pub record Fades (at size : ℕ) (old new : List ℕ) : Type 0 where
  pub keeps : Keeps (spot at size) old new
  pub faded : Faded old new

-- what an erase that went through leaves
pub record Erased (at size : ℕ) (old new : List ℕ) : Type 0 where
  pub fades : Fades at size old new
  pub erased : area at size new ≡ blank size

-- each number is a byte
abbrev pub AreBytes : List ℕ → Type 0
AreBytes xs = (i : ℕ) → get_or xs i 0 < 256

-- one where a byte of the page is not FF, else none
abbrev pub dirty : ℕ → List ℕ → ℕ
dirty page bytes = if bytes_eq bytes (blank page) then 0 else 1

-- how many of the n pages from a place on have a byte that is not FF
abbrev pub dirty_pages : ℕ → ℕ → ℕ → List ℕ → ℕ
dirty_pages page at zero bytes = 0
dirty_pages page at (suc n) bytes = dirty page (area at page bytes) + dirty_pages page (at + page) n bytes

-- a fact about the bytes before and after, where they are told; whether they are told is the same
abbrev pub Told : (List ℕ → List ℕ → Type 0) → Option (List ℕ) → Option (List ℕ) → Type 0
Told P None None = Unit {0}
Told P None (Some y) = ⊥
Told P (Some x) None = ⊥
Told P (Some x) (Some y) = P x y
