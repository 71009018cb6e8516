-- The first line of a text, by the place of its first newline.
use Rattle.std.proofs.Common.{◌≡◌, ℕ, zero, suc, ◌+◌, ◌<◌, false, eqb, List, [], ◌∷◌, length, take, drop, get_or, refl, ap, ◌∙◌, add-one, arith}
use Rattle.smp_schedule.specs.Fields.{lines_of, fields_of, onto_first}

-- another byte goes onto the first line
pub other_byte : (x : ℕ) (xs : List ℕ) → (x ≡ 10 → ⊥) → lines_of (x ∷ xs) ≡ onto_first x (lines_of xs)
other_byte x xs other = let e : eqb x 10 ≡ false = grind arith in rw e refl

pub line_at : (b : List ℕ) (i : ℕ) → i < length b → get_or b i 0 ≡ 10 → ((k : ℕ) → k < i → get_or b k 0 ≡ 10 → ⊥)
    → lines_of b ≡ take i b ∷ lines_of (drop (suc i) b)
line_at [] i h e first = absurd (omega arith)
line_at (x ∷ xs) zero h e first = let t : x ≡ 10 = e in rw t refl
line_at (x ∷ xs) (suc i) h e first =
    other_byte x xs (first 0 (omega arith))
    ∙ ap (onto_first x) (line_at xs i (omega arith) e (λ k l. first (suc k) (omega arith)))

pub last_line_of : (b : List ℕ) → 0 < length b → ((k : ℕ) → k < length b → get_or b k 0 ≡ 10 → ⊥) → lines_of b ≡ b ∷ []
last_line_of [] h first = absurd (omega arith)
last_line_of (x ∷ []) h first = other_byte x [] (first 0 (omega arith))
last_line_of (x ∷ y ∷ ys) h first =
    other_byte x (y ∷ ys) (first 0 (omega arith))
    ∙ ap (onto_first x) (last_line_of (y ∷ ys) (omega arith) (λ k l. first (suc k) (omega arith)))

pub line_found : (b after : List ℕ) (i : ℕ) → i < length b → get_or b i 0 ≡ 10 → ((k : ℕ) → k < i → get_or b k 0 ≡ 10 → ⊥)
    → after ≡ drop (i + 1) b → lines_of b ≡ take i b ∷ lines_of after
line_found b after i h e first is =
    let next : drop (suc i) b ≡ after = rw is (rw add-one refl) in
    line_at b i h e first ∙ ap (λ (rest : List ℕ). take i b ∷ lines_of rest) next

-- The same of fields, which end at a space.
pub other_field : (x : ℕ) (xs : List ℕ) → (x ≡ 32 → ⊥) → fields_of (x ∷ xs) ≡ onto_first x (fields_of xs)
other_field x xs other = let e : eqb x 32 ≡ false = grind arith in rw e refl

field_at : (b : List ℕ) (i : ℕ) → i < length b → get_or b i 0 ≡ 32 → ((k : ℕ) → k < i → get_or b k 0 ≡ 32 → ⊥)
    → fields_of b ≡ take i b ∷ fields_of (drop (suc i) b)
field_at [] i h e first = absurd (omega arith)
field_at (x ∷ xs) zero h e first = let t : x ≡ 32 = e in rw t refl
field_at (x ∷ xs) (suc i) h e first =
    other_field x xs (first 0 (omega arith))
    ∙ ap (onto_first x) (field_at xs i (omega arith) e (λ k l. first (suc k) (omega arith)))

pub one_field : (b : List ℕ) → ((k : ℕ) → k < length b → get_or b k 0 ≡ 32 → ⊥) → fields_of b ≡ b ∷ []
one_field [] first = refl
one_field (x ∷ xs) first =
    other_field x xs (first 0 (omega arith))
    ∙ ap (onto_first x) (one_field xs (λ k l. first (suc k) (omega arith)))

pub field_found : (b after : List ℕ) (i : ℕ) → i < length b → get_or b i 0 ≡ 32 → ((k : ℕ) → k < i → get_or b k 0 ≡ 32 → ⊥)
    → after ≡ drop (i + 1) b → fields_of b ≡ take i b ∷ fields_of after
field_found b after i h e first is =
    let next : drop (suc i) b ≡ after = rw is (rw add-one refl) in
    field_at b i h e first ∙ ap (λ (rest : List ℕ). take i b ∷ fields_of rest) next
