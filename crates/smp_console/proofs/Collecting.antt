-- A line that adds nothing.
use Rattle.std.proofs.Common.{◌≡◌, ℕ, Bool, true, false, List, [], ◌++◌, refl, ap, ◌∙◌, append-nil}
use Rattle.smp_console.specs.Frames.{outcome_of, outcome_of_next, outcome_by_collection}
use Rattle.smp_console.specs.Receiving.{Leaves, Waits, some_if}

-- what waits for more goes on waiting
pub nothing_added : (b : Bool) (collected bytes packet : List ℕ) → b ≡ true → Waits b collected → bytes ≡ []
    → Leaves (outcome_of_next (some_if b collected) bytes) b collected packet packet false
nothing_added false collected bytes packet e waits none = absurd (cc e)
nothing_added true collected bytes packet e waits none = record {
  outcome =
      ap (λ (r : List ℕ). outcome_of (collected ++ r)) none
      ∙ ap outcome_of (append-nil collected)
      ∙ ap (outcome_by_collection collected) (waits refl).1;
  waits = waits;
  kept = λ f. refl;
  fits = λ h. h;
}
