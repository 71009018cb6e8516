-- The hex text of bytes in two pieces.
use Rattle.std.proofs.Common.{◌≡◌, ◌/◌, ◌%◌, ℕ, List, [], ◌∷◌, ◌++◌, take, drop, refl, sym, ap, ◌∙◌, append_assoc, append-nil, length}
use Rattle.std.specs.Prelude.{slice_index}
use Rattle.std.proofs.lemmas.List.{take-append-drop}
use Rattle.hex.specs.Hex.{encode_lower, encode_with, lower_digits}

pub encode_append : (digits xs ys : List ℕ) → encode_with digits (xs ++ ys) ≡ encode_with digits xs ++ encode_with digits ys
unfolding encode_with
encode_append digits [] ys = refl
encode_append digits (x ∷ xs) ys = ap (λ rest. slice_index digits (x / 16) ∷ slice_index digits (x % 16) ∷ rest) (encode_append digits xs ys)

-- a text goes on by a piece
pub goes_on : (text bytes : List ℕ) (size : ℕ) → (text ++ encode_lower (take size bytes)) ++ encode_lower (drop size bytes) ≡ text ++ encode_lower bytes
goes_on text bytes size =
    append_assoc text (encode_lower (take size bytes)) (encode_lower (drop size bytes))
    ∙ ap (λ rest. text ++ rest) (sym (encode_append lower_digits (take size bytes) (drop size bytes)) ∙ ap encode_lower (take-append-drop size bytes))

-- and is whole at the end
pub is_whole : (text rest whole : List ℕ) → length rest ≡ 0 → text ++ encode_lower rest ≡ whole → text ≡ whole
unfolding encode_with
is_whole text [] whole none goes = sym (append-nil text) ∙ goes
is_whole text (x ∷ rest) whole none goes = absurd (cc none)
