-- A list of cells, cut at a cell.
use Rattle.std.proofs.Common.{◌≡◌, ℕ, zero, suc, ◌+◌, ◌≤◌, Option, Some, None, List, [], ◌∷◌, ◌++◌, length, take, drop, refl, sym, ◌∙◌, ap, arith}
use Rattle.smp_gate.specs.Cells.{cell_of}

-- the cell of a number, and those before it
pub take_cell : (n : ℕ) (cells : List (List ℕ)) (x : List ℕ) → cell_of n cells ≡ Some x → take (suc n) cells ≡ take n cells ++ (x ∷ [])
take_cell zero [] x e = absurd (cc e)
take_cell zero (y ∷ cells) x e = let same : y ≡ x = cc e in ap (λ (z : List ℕ). z ∷ []) same
take_cell (suc n) [] x e = absurd (cc e)
take_cell (suc n) (y ∷ cells) x e = ap (λ (xs : List (List ℕ)). y ∷ xs) (take_cell n cells x e)

-- and the whole list
pub split_cell : (n : ℕ) (cells : List (List ℕ)) (x : List ℕ) → cell_of n cells ≡ Some x → cells ≡ take n cells ++ (x ∷ drop (suc n) cells)
split_cell zero [] x e = absurd (cc e)
split_cell zero (y ∷ cells) x e = let same : y ≡ x = cc e in ap (λ (z : List ℕ). z ∷ cells) same
split_cell (suc n) [] x e = absurd (cc e)
split_cell (suc n) (y ∷ cells) x e = ap (λ (xs : List (List ℕ)). y ∷ xs) (split_cell n cells x e)

pub some_cell : (n : ℕ) (cells : List (List ℕ)) → n + 1 ≤ length cells → (x : List ℕ) × (cell_of n cells ≡ Some x)
some_cell n [] low = absurd (omega (arith, low))
some_cell zero (y ∷ cells) low = (y, refl)
some_cell (suc n) (y ∷ cells) low = some_cell n cells (omega (arith, low))
