-- The lines of a text and the fields of a line.
use Rattle.std.specs.Prelude.{Bool, true, ◌==◌, if◌then◌else◌, ℕ, List, [], ◌∷◌, Option, Some, None}

-- a byte in front of the first part
abbrev pub onto_first : ℕ → List (List ℕ) → List (List ℕ)
onto_first b [] = (b ∷ []) ∷ []
onto_first b (part ∷ parts) = (b ∷ part) ∷ parts

-- the lines of a text, each ended by a newline, which the last may lack
abbrev pub lines_of : List ℕ → List (List ℕ)
lines_of [] = []
lines_of (b ∷ bs) = if b == 10 then [] ∷ lines_of bs else onto_first b (lines_of bs)

-- an empty line, and one that begins with `#`
abbrev pub is_skipped : List ℕ → Bool
is_skipped [] = true
is_skipped (b ∷ bs) = b == 35

-- the fields of a line, with one space between two
abbrev pub fields_of : List ℕ → List (List ℕ)
fields_of [] = [] ∷ []
fields_of (b ∷ bs) = if b == 32 then [] ∷ fields_of bs else onto_first b (fields_of bs)

-- what is left of a line: nothing behind its last field
abbrev pub fields_left : Option (List ℕ) → List (List ℕ)
fields_left None = []
fields_left (Some text) = fields_of text

-- the one field of a list that has no other
abbrev pub only : List (List ℕ) → Option (List ℕ)
only (field ∷ []) = Some field
only fields = None
