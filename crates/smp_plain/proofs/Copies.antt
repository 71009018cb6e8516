-- Copies of lists.
use Rattle.std.proofs.Common.{◌≡◌, true, List, [], ◌∷◌, refl, ap}
use Rattle.std.specs.List.{filter}

-- all that stands in a list
pub filter_all : {X : Type 0} (xs : List X) → filter (λ x. true) xs ≡ xs
filter_all [] = refl
filter_all (x ∷ xs) = ap (λ ys. x ∷ ys) (filter_all xs)
