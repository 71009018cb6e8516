-- Laws of what an operation that is struck leaves.
use Rattle.std.proofs.Common.{◌≡◌, ◌⊎◌, inl, inr, ℕ, zero, suc, ◌+◌, ◌-◌, ◌<◌, ◌/◌, ◌∙◌, sym, List, [], ◌∷◌, ◌++◌, length, take, drop, set, get_or, append_assoc, refl, ap, arith, ◌^◌}
use Rattle.std.specs.Prelude.{if◌then◌else◌, nat_le, Bool, true, false}
use Rattle.std.proofs.lemmas.List.{take_more_set, drop_more, drop-set-lt, length-set}
use Rattle.smp_flash.specs.Area.{Faded}
use Rattle.smp_flash.specs.Remains.{next, noise, faded_by}

pub length-noise : (x n : ℕ) → length (noise x n) ≡ n
length-noise x zero = refl
length-noise x (suc n) = ap suc (length-noise (next x) n)

pub length-faded_by : (x : ℕ) (bs : List ℕ) → length (faded_by x bs) ≡ length bs
length-faded_by x [] = refl
length-faded_by x (b ∷ bs) = ap suc (length-faded_by (next x) bs)

choice : (t : Bool) (b : ℕ) → ((if t then 255 else b) ≡ b) ⊎ ((if t then 255 else b) ≡ 255)
choice t b = elim t as (λ v. ((if v then 255 else b) ≡ b) ⊎ ((if v then 255 else b) ≡ 255)) [ true ↦ inr refl | false ↦ inl refl ]

pub Faded-faded_by : (x : ℕ) (bs : List ℕ) → Faded bs (faded_by x bs)
Faded-faded_by x [] = tt
Faded-faded_by x (b ∷ bs) = (choice (nat_le (2 ^ 31) (next x)) b, Faded-faded_by (next x) bs)

-- one turn of the loop that writes them
pub noise-turn : (part : List ℕ) (i x y : ℕ) (all : List ℕ) → i < length part → y ≡ next x → take i part ++ noise x (length part - i) ≡ all
    → take (i + 1) (set part i (y / 2 ^ 24)) ++ noise y (length (set part i (y / 2 ^ 24)) - (i + 1)) ≡ all
noise-turn part i x y all lt is so_far =
    let left : length part - i ≡ suc (length part - (i + 1)) = omega arith in
    let same_length : length (set part i (y / 2 ^ 24)) - (i + 1) ≡ length part - (i + 1) = ap (λ (n : ℕ). n - (i + 1)) (length-set part i (y / 2 ^ 24)) in
    let step : noise x (length part - i) ≡ (y / 2 ^ 24) ∷ noise y (length part - (i + 1)) =
    ap (noise x) left ∙ ap (λ (n : ℕ). (n / 2 ^ 24) ∷ noise n (length part - (i + 1))) (sym is) in
    ap (λ (n : ℕ). take (i + 1) (set part i (y / 2 ^ 24)) ++ noise y n) same_length
    ∙ ap (λ (xs : List ℕ). xs ++ noise y (length part - (i + 1))) (take_more_set part i (y / 2 ^ 24) lt)
    ∙ append_assoc (take i part) ((y / 2 ^ 24) ∷ []) (noise y (length part - (i + 1)))
    ∙ ap (λ (xs : List ℕ). take i part ++ xs) (sym step) ∙ so_far

-- one turn of the loop that fades them
pub fade-turn : (part : List ℕ) (i x y v : ℕ) (all : List ℕ) → i < length part → y ≡ next x → v ≡ (if nat_le (2 ^ 31) y then 255 else get_or part i 0)
    → take i part ++ faded_by x (drop i part) ≡ all
    → take (i + 1) (set part i v) ++ faded_by y (drop (i + 1) (set part i v)) ≡ all
fade-turn part i x y v all lt is was so_far =
    let step : faded_by x (drop i part) ≡ v ∷ faded_by y (drop (i + 1) part) =
    ap (faded_by x) (drop_more part i 0 lt) ∙ ap (λ (n : ℕ). (if nat_le (2 ^ 31) n then 255 else get_or part i 0) ∷ faded_by n (drop (i + 1) part)) (sym is)
    ∙ ap (λ (n : ℕ). n ∷ faded_by y (drop (i + 1) part)) (sym was) in
    ap (λ (xs : List ℕ). take (i + 1) (set part i v) ++ faded_by y xs) (drop-set-lt (i + 1) part i v (omega arith))
    ∙ ap (λ (xs : List ℕ). xs ++ faded_by y (drop (i + 1) part)) (take_more_set part i v lt)
    ∙ append_assoc (take i part) (v ∷ []) (faded_by y (drop (i + 1) part))
    ∙ ap (λ (xs : List ℕ). take i part ++ xs) (sym step) ∙ so_far
