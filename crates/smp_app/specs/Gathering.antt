-- Bytes that are gathered before they are put out.
use Rattle.std.specs.Prelude.{◌≡◌, ℕ, List, ◌++◌, Option}
use Rattle.std.specs.Io.KnownBytes.{append_known}

-- Of these bytes a front was put out, and what is held is the rest.
pub record PutOn (old new : Option (List ℕ)) (bytes held : List ℕ) : Type 0 where
  pub front : List ℕ
  pub split : bytes ≡ front ++ held
  pub appended : new ≡ append_known old front
