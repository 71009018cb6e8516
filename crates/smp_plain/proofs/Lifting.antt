-- Steps of a side as steps of the device, by what they stand for.
use Rattle.std.proofs.Common.{◌≡◌, ℕ, List, [], ◌∷◌, ◌++◌, refl, ap, ◌∙◌, append_assoc}
use Rattle.std.specs.Prelude.{map as each}
use Rattle.smp_plain.specs.declared.response.PlainSideStep.{PlainSideStep}
use Rattle.smp_plain.specs.declared.response.PlainStep.{PlainStep}
use Rattle.smp_plain.specs.Plain.{side_step_of, step_of, lifted}
use Rattle.smp_model.specs.Steps.{Step, OnSide, on_side}

pub each_lifted : (image : ℕ) (steps : List PlainSideStep) → each step_of (lifted image steps) ≡ on_side image (each side_step_of steps)
each_lifted image [] = refl
each_lifted image (step ∷ steps) = ap (λ rest. OnSide image (side_step_of step) ∷ rest) (each_lifted image steps)

pub each_more : (a b : List PlainStep) → each step_of (a ++ b) ≡ each step_of a ++ each step_of b
each_more [] b = refl
each_more (step ∷ a) b = ap (λ rest. step_of step ∷ rest) (each_more a b)

-- a side's response behind the steps of its settling and others
pub joined : (image : ℕ) (settle between : List Step) (empty settled behind all : List PlainStep) (own steps : List PlainSideStep)
    → empty ≡ [] → each step_of settled ≡ each step_of empty ++ settle → each step_of behind ≡ each step_of settled ++ between → all ≡ behind ++ lifted image own → own ≡ steps
    → each step_of all ≡ settle ++ (between ++ on_side image (each side_step_of steps))
joined image settle between empty settled behind all own steps none first second last same =
    rw (last, each_more behind (lifted image own), each_lifted image own, second, first, none, same) (append_assoc settle between (on_side image (each side_step_of steps)))
