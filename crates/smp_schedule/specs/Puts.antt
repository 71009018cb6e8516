-- What putting some bytes into a sink answers and leaves.
use Rattle.std.specs.Prelude.{◌≡◌, ℕ, List, ◌++◌, Option, Result, OnOk}
use Rattle.std.specs.Io.KnownBytes.{append_known}
use Rattle.smp_edge.specs.Faults.{HasCause}
use Rattle.smp_edge.specs.Sink.{AppendsFront}
use Rattle.smp_edge.specs.declared.sink.Failed.{Failed}

-- All of them were put, or the sink failed and some front of them was.
pub record Puts (old new : Option (List ℕ)) (before now : ℕ) (result : Result (Unit {0}) Failed) (bytes : List ℕ) : Type 0 where
  pub all : OnOk result (new ≡ append_known old bytes)
  pub front : AppendsFront old new bytes
  pub cause : HasCause before now result

-- Some of the bytes were put, and these are the rest.
pub record PutSome (old new : Option (List ℕ)) (before now : ℕ) (bytes rest : List ℕ) : Type 0 where
  pub front : List ℕ
  pub split : bytes ≡ front ++ rest
  pub appended : new ≡ append_known old front
  pub same : now ≡ before
