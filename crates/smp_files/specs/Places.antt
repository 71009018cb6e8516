-- Where a file stands among files, and what taking its memory leaves.
use Rattle.std.specs.Prelude.{◌≡◌, ◌+◌, ℕ, List, [], ◌∷◌, ◌++◌, length, Option, Some, None}
use Rattle.smp_model.specs.declared.device.StoredFile.{StoredFile}
use Rattle.smp_model.specs.Files.{file_of}
use Rattle.smp_model.specs.Named.{without}

abbrev pub file : List ℕ → ℕ → List ℕ → StoredFile
file name announced held = record { name = name; announced = announced; held = held }

-- the file of this name is the one at this place, and the first of its name
pub record FileAt (at : ℕ) (name : List ℕ) (files : List StoredFile) : Type 0 where
  pub front : List StoredFile
  pub found : StoredFile
  pub rest : List StoredFile
  pub split : files ≡ front ++ found ∷ rest
  pub index : at ≡ length front
  pub named : found.name ≡ name
  pub first : file_of name files ≡ Some found

-- so many files come before a name, and the others behind it
pub record PartedAt (at : ℕ) (before behind files : List StoredFile) : Type 0 where
  pub split : files ≡ before ++ behind
  pub index : at ≡ length before

-- memory of one file was taken: the file of this name is gone, or else there is one spare less
pub record TakenFrom (buffer name : List ℕ) (old new : List StoredFile) (before now : ℕ) : Type 0 where
  pub empty : buffer ≡ []
  pub files : new ≡ without (λ f. f.name) name old
  pub count : length new + now + 1 ≡ length old + before

-- there is none: the name is new and nothing is spare
pub record NoneTaken (name : List ℕ) (old new : List StoredFile) (before now : ℕ) : Type 0 where
  pub new_name : file_of name old ≡ None
  pub files : new ≡ old
  pub none : before ≡ 0
  pub same : now ≡ before

abbrev pub TakesBuffer : Option (List ℕ) → List ℕ → List StoredFile → List StoredFile → ℕ → ℕ → Type 0
TakesBuffer None name old new before now = NoneTaken name old new before now
TakesBuffer (Some buffer) name old new before now = TakenFrom buffer name old new before now
