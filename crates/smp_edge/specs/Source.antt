-- What a source in memory holds.
use Rattle.std.specs.Prelude.{ℕ, List}
use Rattle.smp_edge.specs.Faults.{next_call, raised}

-- A source that fails at chosen calls: what is left, the numbers of those calls, the calls so far and the faults.
pub record KeptInput : Type 0 where
  pub left : List ℕ
  pub fails : List ℕ
  pub calls : ℕ
  pub faults : ℕ

-- The same after a take that left these bytes, and after one that failed.
abbrev pub after_take : KeptInput → List ℕ → KeptInput
after_take source left = record source { left = left; calls = next_call source.calls }

abbrev pub after_failed_take : KeptInput → KeptInput
after_failed_take source = record source { calls = next_call source.calls; faults = raised source.faults }
